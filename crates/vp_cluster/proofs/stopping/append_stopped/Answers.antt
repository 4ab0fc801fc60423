use Rattle.std.proofs.Common.{sym, subst}
use Rattle.std.specs.Prelude.{Bool}
use Rattle.vp_stable.specs.Stops.{GainsWhere}
use Rattle.vp_cluster.specs.Hosts.{log_on}
use Rattle.vp_cluster.specs.Stops.{is_kept}
use Rattle.vp_cluster.proofs.Appending.{kept_by_counts, stands_as_log}
use Rattle.vp_cluster.proofs.Holding.{left_holds}
use Rattle.vp_cluster.proofs.stopping.append_stopped.Goals as goal

pub batches_on-requires : goal.batches_on-requires
batches_on-requires c = stands_as_log c.args.log (log_on c.args.disk.now) c.requires.stands

pub batches_on-requires-2 : goal.batches_on-requires-2
batches_on-requires-2 c = left_holds c.args.batch.now c.args.log (is_kept c.args.stop.now) c.args.disk.now c.in_ok-left.left c.requires.stands c.in_ok-left.ensures

pub returns-clause-kept : goal.returns-clause-kept
returns-clause-kept c =
    kept_by_counts c.args.batch.now c.args.log (is_kept c.args.stop.now) (log_on c.args.disk.now) (log_on c.in_ok-left.left) c.requires.stands c.in_ok-left.ensures c.in_ok-before.before c.in_ok-now.now c.in_ok-before.ensures c.in_ok-now.ensures

pub returns-clause-left : goal.returns-clause-left
returns-clause-left c =
    subst (λ (kept : Bool). GainsWhere c.args.batch.now c.args.log kept (log_on c.args.disk.now) (log_on c.in_ok-left.left)) (sym (returns-clause-kept c)) c.in_ok-left.ensures
