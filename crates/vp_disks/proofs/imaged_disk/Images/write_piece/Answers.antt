use Rattle.std.proofs.Common.{ap, refl, false, true}
use Rattle.vp_outside.specs.Disk.{in_half, write_bytes_at}
use Rattle.vp_disks.specs.Changes.{asked_of}
use Rattle.vp_disks.specs.declared.changes.Change.TheVariants.{Wrote}
use Rattle.vp_disks.proofs.LeftImages.{left_changed, left_unchanged}
use Rattle.vp_disks.proofs.imaged_disk.Images.write_piece.Goals as goal

pub returns : goal.returns
returns c = λ changes are.
    let old = c.args.self.now in
    let change = Wrote c.args.half c.args.at c.args.piece.now in
    let same = ap (in_half c.args.half (write_bytes_at c.args.at c.args.piece.now)) (are.0.images (asked_of changes)) in (
      left_changed true change change changes old.late are.0 refl refl same c.in_ok-self.field-0 (rw c.in_ok-write_piece.ensures.ok at c.in_ok-self.ensures),
      left_unchanged false change (λ earlier. refl) changes old.synced refl are.1,
    )
