use Rattle.std.proofs.Common.{Err, ap, arith}
use Rattle.std.proofs.lemmas.Result.{err_from_is_err_and}
use Rattle.vp_stable.specs.declared.fault.LogFault.{LogFault}
use Rattle.vp_top.proofs.AuditedLogs.{goes_on, keeps_none, keeps_then, stops}
use Rattle.vp_top.proofs.auditing.read_parts.Goals as goal

pub loop-log-init : goal.loop-log-init
loop-log-init g c = (rw c.new-parts.ensures tt, keeps_none _, omega arith)

pub loop-log-preserved : goal.loop-log-preserved
loop-log-preserved g c =
    let before = c.loop-log.invariant in (
      rw c.in_ok-push.ensures.ok
          (goes_on c.args.catalog.now c.args.logs.now c.loop-log.log-index c.log-item.result c.loop-log-test.true c.log-item.is (g.D.Disk.state c.args.disk.now) (g.D.Disk.state c.loop-log.disk) (g.D.Disk.state c.peek.new.disk) c.loop-log.parts
          before.0 before.1 before.2 c.in_ok-batches.batches _ c.in_ok-batches.ensures.read (ap (λ d. (c.log-item.result.0, d)) c.in_ok-fold_batches.ensures)),
      keeps_then _ _ _ before.1 c.in_ok-batches.ensures.kept,
      let first = before.2 in let second = c.in_ok-batches.ensures.later in omega (arith, first, second),
    )

pub returns-in_err-batches-clause-stops : goal.returns-in_err-batches-clause-stops
returns-in_err-batches-clause-stops g c =
    let before = c.loop-log.invariant in
    let p = err_from_is_err_and c.from_residual.result c.from_residual.ensures.1 in
    rw p.1
    (stops c.args.catalog.now c.args.logs.now c.loop-log.log-index c.log-item.result c.loop-log-test.true c.log-item.is (g.D.Disk.state c.args.disk.now) (g.D.Disk.state c.loop-log.disk) (g.D.Disk.state c.peek.new.disk) c.loop-log.parts
    before.0 before.1 before.2 c.in_err-batches.field-0.0 p.0 p.2 c.in_err-batches.ensures.read (λ failed. c.in_err-batches.ensures.fault (ap (λ (f : LogFault). Err f) failed)))

pub returns-in_err-batches-clause-kept : goal.returns-in_err-batches-clause-kept
returns-in_err-batches-clause-kept g c = keeps_then _ _ _ c.loop-log.invariant.1 c.in_err-batches.ensures.kept

pub returns-in_err-fold_batches-clause-kept : goal.returns-in_err-fold_batches-clause-kept
returns-in_err-fold_batches-clause-kept g c = keeps_then _ _ _ c.loop-log.invariant.1 c.in_ok-batches.ensures.kept

pub returns-in_err-push-clause-kept : goal.returns-in_err-push-clause-kept
returns-in_err-push-clause-kept g c = keeps_then _ _ _ c.loop-log.invariant.1 c.in_ok-batches.ensures.kept
