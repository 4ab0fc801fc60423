use Rattle.std.proofs.Common.{◌≡◌, true, rules}
use Rattle.vp_model.specs.Step.{durable_of}
use Rattle.vp_outside.specs.Disk.{log_of}
use Rattle.vp_stable.specs.Halves.{MaySaveAt, is_due}
use Rattle.vp_node.specs.Keeping.{MaySaveDueAt}
use Rattle.vp_stable.proofs.Writes.{becomes-as, on_err_as}
use Rattle.vp_node.proofs.Kept.{leaves_settled, leaves_as, may_save_due_none, may_save_due}
use Rattle.vp_node.proofs.keeping.save_if_due.Goals as goal

pub returns-then-not-due-clause-any_moment : goal.returns-then-not-due-clause-any_moment
returns-then-not-due-clause-any_moment g c honest =
    leaves_settled (MaySaveDueAt (durable_of c.args.site.now) c.args.log.now) (may_save_due_none _ _) c.args.log.now (g.D.Disk.state c.args.disk.now) (g.met.D.Disk.is_disk c.args.disk.now) (log_of (g.D.Disk.state c.args.disk.now)) (c.requires.kept honest)

pub returns-clause-fault : goal.returns-clause-fault
returns-clause-fault g c =
    let due : is_due c.args.log.now ≡ true = search rules in
    let d = durable_of c.args.site.now in
    on_err_as c.save.result (becomes-as {S = MaySaveAt d c.args.log.now} {T = MaySaveDueAt d c.args.log.now} _ _ (may_save_due d c.args.log.now due c.a_checkpoint_is_due_of_batches.ensures.batches)) c.save.ensures.fault

pub returns-clause-any_moment : goal.returns-clause-any_moment
returns-clause-any_moment g c honest =
    let due : is_due c.args.log.now ≡ true = search rules in
    let d = durable_of c.args.site.now in
    leaves_as (MaySaveAt d c.args.log.now) (MaySaveDueAt d c.args.log.now) (may_save_due d c.args.log.now due c.a_checkpoint_is_due_of_batches.ensures.batches)
    (g.D.Disk.state c.args.disk.now) (g.D.Disk.state c.save.new.disk) (log_of (g.D.Disk.state c.args.disk.now)) (c.save.ensures.any_moment honest)
