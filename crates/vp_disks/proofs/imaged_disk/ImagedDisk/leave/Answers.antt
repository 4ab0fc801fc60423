use Rattle.std.proofs.Common.{◌≡◌, subst, Option, None}
use Rattle.vp_disks.specs.Images.{LeavesImages}
use Rattle.vp_disks.specs.ImagedDisks.{KeepsImages}
use Rattle.vp_disks.specs.declared.imaged_disk.Images.{Images}
use Rattle.vp_disks.proofs.LeftImages.{left_itself}
use Rattle.vp_disks.proofs.imaged_disk.ImagedDisk.leave.Goals as goal

pub returns-in_default : goal.returns-in_default
returns-in_default c =
    let disk = c.self.inside.disk in
    let none : c.self.inside.images ≡ None = cc (c.take.ensures.value, c.in_default.is) in
    let lays = subst (λ (images : Option Images). KeepsImages disk images) none c.self.invariant in
    subst (λ old. LeavesImages c.args.late old disk) c.self.view_is (left_itself c.args.late disk lays)
