use Rattle.std.proofs.Common.{◌≡◌, ◌∷◌, ℕ, Option, None, true, reverse, subst}
use Rattle.vp_disks.specs.Images.{LeavesImages}
use Rattle.vp_disks.specs.NamedLogs.{Keeps, laid_over}
use Rattle.vp_disks.specs.declared.changes.Change.TheVariants.{Attached}
use Rattle.vp_disks.proofs.LaidLogs.{laid_first, left_unnamed, left_named}
use Rattle.vp_disks.proofs.sure_disk.SureDisk.laid.Goals as goal

pub returns-in_default : goal.returns-in_default
returns-in_default c =
    let disk = c.self.inside in
    let none : disk.place ≡ None = cc c.in_default.is in
    let keeps = subst (λ (place : Option ℕ). Keeps disk.unnamed disk.named.items place (reverse disk.changes)) none c.self.invariant in
    let laid : laid_first disk.unnamed ≡ c.lay_copy.new.self = cc (c.in_ok-lay_copy.ensures.ok, c.new-disk.ensures) in
    subst (LeavesImages true c.args.self.now) laid
    (subst (λ old. LeavesImages true old (laid_first disk.unnamed)) c.self.view_is (left_unnamed disk.unnamed disk.named.items _ keeps))

pub returns : goal.returns
returns c =
    let disk = c.self.inside in
    let at = c.index.result.now in
    let keeps = subst (λ (place : Option ℕ). Keeps disk.unnamed disk.named.items place (reverse disk.changes)) c.in-Some.is c.self.invariant in
    let new = Attached at.name ∷ laid_over disk.named.items (laid_first disk.unnamed) in
    let laid : new ≡ c.attach_log.new.self = cc (c.in_ok-attach_log.ensures.ok, c.in_ok-lay_named.ensures, c.in_ok-lay_copy.ensures.ok, c.new-disk.ensures, c.deref.ensures.value) in
    subst (LeavesImages true c.args.self.now) laid
    (subst (λ old. LeavesImages true old new) c.self.view_is (left_named disk.unnamed disk.named.items _ c.in-Some.place at keeps c.index.ensures))
