use Rattle.std.proofs.Common.{ap, refl, take, false, true}
use Rattle.vp_outside.specs.Disk.{in_half}
use Rattle.vp_disks.specs.Changes.{asked_of}
use Rattle.vp_disks.specs.declared.changes.Change.TheVariants.{Cut}
use Rattle.vp_disks.proofs.LeftImages.{left_changed, left_unchanged}
use Rattle.vp_disks.proofs.imaged_disk.Images.cut_half.Goals as goal

pub returns : goal.returns
returns c = λ changes are.
    let old = c.args.self.now in
    let change = Cut c.args.half c.args.length in
    let same = ap (in_half c.args.half (take c.args.length)) (are.0.images (asked_of changes)) in (
      left_changed true change change changes old.late are.0 refl refl same c.in_ok-self.field-0 (rw c.in_ok-cut_half.ensures.ok at c.in_ok-self.ensures),
      left_unchanged false change (λ earlier. refl) changes old.synced refl are.1,
    )
