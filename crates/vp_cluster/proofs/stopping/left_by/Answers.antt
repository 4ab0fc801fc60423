use Rattle.std.proofs.Common.{◌≡◌, ◌∙◌, ap, refl, rules, sym, subst}
use Rattle.std.specs.Prelude.{IfSome, IsErrOf}
use Rattle.vp_disks.specs.Changes.{asked_of, changes_of, content_of, state_before}
use Rattle.vp_outside.specs.Disk.{Halves, half_of}
use Rattle.vp_disks.specs.Images.{image_of}
use Rattle.vp_disks.specs.MemDisks.{attached_of}
use Rattle.vp_outside.specs.Plans.{stop_of}
use Rattle.vp_stable.specs.Stops.{AppendsToStop, GainsWhere}
use Rattle.vp_stable.specs.declared.fault.AppendFault.TheVariants.{NoMemory}
use Rattle.vp_cluster.specs.Hosts.{log_on}
use Rattle.vp_cluster.specs.Stops.{is_kept}
use Rattle.vp_cluster.proofs.Appending.{halves_same, left_by_stop}
use Rattle.vp_cluster.proofs.Changing.{answered_so}
use Rattle.vp_cluster.proofs.stopping.left_by.Goals as goal

pub returns : goal.returns
returns c =
    let old = c.in_ok-stopping.stopping in
    let new = c.append.new.disk in
    let left = c.leave.new.self in
    let before = state_before (stop_of old.plan) old.disk old.attached old.plan.faults in
    let after = state_before (stop_of new.plan) new.disk new.attached new.plan.faults in
    let changes = changes_of (asked_of old.disk) new.disk in
    let enough : IsErrOf c.append.result NoMemory → ⊥ = (search rules) in
    let stopped = subst (λ o. IfSome o (λ calls. AppendsToStop (GainsWhere c.args.batch.now c.args.log) calls before after)) c.in_ok-stopping.ensures.stop (c.append.ensures.stop enough) in
    let gains = left_by_stop c.args.batch.now c.args.log c.args.stop.now.calls c.args.stop.now.late (log_on c.args.disk.now) before changes after
    c.in_ok-stopping.ensures.log c.in_ok-stopping.ensures.as_synced stopped refl refl in
    let image : attached_of left ≡ image_of c.args.stop.now.late changes =
    ap (λ name. content_of (changes_of name left.disk)) (c.leave.ensures.images.asked ∙ c.append.ensures.others.stays.same_name) ∙ c.leave.ensures.images.images (asked_of old.disk) in
    let first : c.in_ok-to_vec.field-0.items ≡ half_of 0 (attached_of left) = c.in_ok-to_vec.ensures.items_if_clones_equal (λ x y h. h) ∙ c.half.ensures in
    let second : c.in_ok-to_vec-2.field-0.items ≡ half_of 1 (attached_of left) = c.in_ok-to_vec-2.ensures.items_if_clones_equal (λ x y h. h) ∙ c.half-2.ensures in
    answered_so c.holding.result _ _
    (λ holds is. subst (λ changes. GainsWhere c.args.batch.now c.args.log (is_kept c.args.stop.now) (log_on c.args.disk.now) (log_on changes)) (sym is)
    (subst (λ (log : Halves). GainsWhere c.args.batch.now c.args.log (is_kept c.args.stop.now) (log_on c.args.disk.now) log)
    (sym (halves_same c.in_ok-to_vec.field-0.items c.in_ok-to_vec-2.field-0.items (attached_of left) first second ∙ image)) gains))
    c.holding.ensures
