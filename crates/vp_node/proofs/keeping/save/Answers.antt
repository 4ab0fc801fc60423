use Rattle.std.proofs.Common.{sym, subst}
use Rattle.vp_model.specs.Step.{durable_of}
use Rattle.vp_records.specs.Records.{CanBeSaved}
use Rattle.vp_outside.specs.Disk.{log_of}
use Rattle.vp_stable.specs.Halves.{MaySaveAt, FoldsAlike}
use Rattle.vp_stable.proofs.Writes.{becomes-same, on_err}
use Rattle.vp_node.proofs.Kept.{leaves_settled, leaves_as, may_save_none}
use Rattle.vp_node.proofs.keeping.save.Goals as goal

pub returns-in_err-durable-clause-fault : goal.returns-in_err-durable-clause-fault
returns-in_err-durable-clause-fault g c = on_err c.from_residual.result (becomes-same (MaySaveAt (durable_of c.args.site.now) c.args.log.now) (log_of (g.D.Disk.state c.args.disk.now)) (may_save_none _ _))

pub returns-in_err-durable-clause-any_moment : goal.returns-in_err-durable-clause-any_moment
returns-in_err-durable-clause-any_moment g c honest =
    leaves_settled (MaySaveAt (durable_of c.args.site.now) c.args.log.now) (may_save_none _ _) c.args.log.now (g.D.Disk.state c.args.disk.now) (g.met.D.Disk.is_disk c.args.disk.now) (log_of (g.D.Disk.state c.args.disk.now)) (c.requires.kept honest)

pub checkpoint-requires-clause-form : goal.checkpoint-requires-clause-form
checkpoint-requires-clause-form g c = subst CanBeSaved (sym c.in_ok-durable.ensures) c.requires.form

pub returns-clause-any_moment : goal.returns-clause-any_moment
returns-clause-any_moment g c honest =
    leaves_as (λ log image. MaySaveAt c.in_ok-durable.durable c.args.log.now log image × FoldsAlike c.in_ok-durable.durable c.args.log.now log image)
    (MaySaveAt (durable_of c.args.site.now) c.args.log.now)
    (λ log image left. subst (λ d. MaySaveAt d c.args.log.now log image) c.in_ok-durable.ensures left.0)
    (g.D.Disk.state c.args.disk.now) (g.D.Disk.state c.checkpoint.new.disk) (log_of (g.D.Disk.state c.args.disk.now)) (c.checkpoint.ensures.any_moment honest)
