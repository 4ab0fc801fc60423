use Rattle.std.proofs.Common.{◌<◌, length, subst, rules}
use Rattle.std.specs.Prelude.{IfSome}
use Rattle.vp_model.specs.Step.{durable_of}
use Rattle.vp_outside.specs.Disk.{log_of}
use Rattle.vp_stable.specs.Halves.{GainsAt, MayGainAt}
use Rattle.vp_stable.specs.Moments.{LeavesOnly}
use Rattle.vp_stable.proofs.Times.{others_join}
use Rattle.vp_node.specs.Keeping.{SavesDueAt, MaySaveDueAt, KeepsAt, MayKeepAt}
use Rattle.vp_stable.proofs.Writes.{becomes-as, becomes-then, on_err, on_err_as, on_ok_as}
use Rattle.vp_node.proofs.Kept.{leaves_settled, leaves_as, may_keep_none, keeps_short, may_gain_keeps, may_save_keeps, keeps_then, leaves_then}
use Rattle.vp_node.proofs.keeping.keep.Goals as goal

pub returns-then-is_empty-clause-any_moment : goal.returns-then-is_empty-clause-any_moment
returns-then-is_empty-clause-any_moment g c honest =
    leaves_settled (MayKeepAt (durable_of c.args.site.now) c.args.records.now c.args.log.now) (may_keep_none _ _ _) c.args.log.now (g.D.Disk.state c.args.disk.now) (g.met.D.Disk.is_disk c.args.disk.now) (log_of (g.D.Disk.state c.args.disk.now)) (c.requires.kept honest)

pub returns-in_err-append-clause-fault : goal.returns-in_err-append-clause-fault
returns-in_err-append-clause-fault g c =
    let some : 0 < length c.args.records.now = search rules in
    on_err c.from_residual.result (becomes-as {S = MayGainAt c.args.records.now c.args.log.now} {T = MayKeepAt (durable_of c.args.site.now) c.args.records.now c.args.log.now} _ _
    (may_gain_keeps (durable_of c.args.site.now) c.args.records.now some c.args.log.now c.args.log.now c.args.log.now) c.in_err-append.ensures.fault)

pub returns-in_err-append-clause-any_moment : goal.returns-in_err-append-clause-any_moment
returns-in_err-append-clause-any_moment g c honest =
    let some : 0 < length c.args.records.now = search rules in
    leaves_as (MayGainAt c.args.records.now c.args.log.now) (MayKeepAt (durable_of c.args.site.now) c.args.records.now c.args.log.now) (may_gain_keeps (durable_of c.args.site.now) c.args.records.now some c.args.log.now c.args.log.now c.args.log.now)
    (g.D.Disk.state c.args.disk.now) (g.D.Disk.state c.append.new.disk) (log_of (g.D.Disk.state c.args.disk.now)) (c.append.ensures.any_moment honest)

pub returns-clause-kept_at : goal.returns-clause-kept_at
returns-clause-kept_at g c =
    let some : 0 < length c.args.records.now = search rules in
    let d = durable_of c.args.site.now in
    let saved = rw c.append.ensures.others.stays.same_name at c.save_if_due.ensures.saved in
    on_ok_as c.save_if_due.result
    (becomes-then {S = GainsAt c.args.records.now c.args.log.now c.append.new.self} {T = SavesDueAt d c.append.new.self c.save_if_due.new.log} {U = KeepsAt d c.args.records.now c.args.log.now c.save_if_due.new.log} _ _ _ (keeps_then d c.args.records.now some c.args.log.now c.append.new.self c.save_if_due.new.log) c.in_ok-append.ensures.appended) saved

pub returns-clause-short : goal.returns-clause-short
returns-clause-short g c =
    let some : 0 < length c.args.records.now = search rules in
    on_ok_as c.save_if_due.result (keeps_short c.args.records.now some c.args.log.now c.save_if_due.new.log) c.save_if_due.ensures.short

pub returns-clause-fault : goal.returns-clause-fault
returns-clause-fault g c =
    let some : 0 < length c.args.records.now = search rules in
    let d = durable_of c.args.site.now in
    let fault = rw c.append.ensures.others.stays.same_name at c.save_if_due.ensures.fault in
    on_err_as c.save_if_due.result
    (becomes-then {S = GainsAt c.args.records.now c.args.log.now c.append.new.self} {T = MaySaveDueAt d c.append.new.self} {U = MayKeepAt d c.args.records.now c.args.log.now} _ _ _ (may_save_keeps d c.args.records.now some c.args.log.now c.append.new.self c.append.new.self) c.in_ok-append.ensures.appended) fault

pub returns-clause-any_moment : goal.returns-clause-any_moment
returns-clause-any_moment g c honest =
    let some : 0 < length c.args.records.now = search rules in
    let second = subst (λ name. IfSome ((g.D.Disk.state c.append.new.disk).logs name) (λ log. LeavesOnly (g.D.Disk.state c.append.new.disk) (g.D.Disk.state c.save_if_due.new.disk) (MaySaveDueAt (durable_of c.args.site.now) c.append.new.self log)))
    c.append.ensures.others.stays.same_name (c.save_if_due.ensures.any_moment (c.append.ensures.others.honest.0 honest)) in
    leaves_then (durable_of c.args.site.now) c.args.records.now some c.args.log.now c.append.new.self c.append.new.self
    (g.D.Disk.state c.args.disk.now) (g.D.Disk.state c.append.new.disk) (g.D.Disk.state c.save_if_due.new.disk) c.append.ensures.others.stays.same_name
    _ _ c.in_ok-append.ensures.appended (c.append.ensures.any_moment honest) second

pub returns-clause-others : goal.returns-clause-others
returns-clause-others g c = others_join c.append.ensures.others c.save_if_due.ensures.others
