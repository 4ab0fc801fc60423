use Rattle.std.proofs.Common.{◌∙◌, ap, List, length, sym, subst}
use Rattle.std.specs.Prelude.{Result, Err}
use Rattle.vp_model.specs.Types.{LogRecord}
use Rattle.vp_stable.specs.Halves.{Standing}
use Rattle.vp_stable.specs.declared.fault.LogFault.{LogFault}
use Rattle.vp_cluster.specs.Hosts.{AreLog, log_on}
use Rattle.vp_cluster.proofs.Appending.{counted_so}
use Rattle.vp_cluster.proofs.Holding.{found_bad, log_never_fails, never_bad}
use Rattle.vp_cluster.proofs.stopping.batches_on.Goals as goal

pub returns-in-Ok : goal.returns-in-Ok
returns-in-Ok c =
    counted_so c.halves_are_one_log.ensures.batches c.args.disk.now c.in_ok-copy.copy c.in-Ok.batches _ c.in_ok-copy.ensures c.in-Ok.ensures.answer (ap length c.as_slice.ensures)

pub unreachable-requires : goal.unreachable-requires
unreachable-requires c = log_never_fails _ c.recover.ensures.cause c.in-Err-DiskFault.is c.in-Err-DiskFault.field-0-is

pub unreachable-requires-in-Err-BadLog : goal.unreachable-requires-in-Err-BadLog
unreachable-requires-in-Err-BadLog c =
    let bad = c.in-Err-BadLog in
    let failed : LogFault → Result (Standing × List (List LogRecord)) LogFault = λ e. Err e in
    never_bad (log_on c.in_ok-copy.copy) bad.field-0-0 bad.field-0-1 c.halves_are_one_log.ensures.bad (subst AreLog (sym c.in_ok-copy.ensures) c.requires) (found_bad _ _ bad.field-0-0 bad.field-0-1 c.recover.ensures.answer (bad.is ∙ ap failed bad.field-0-is))
