use Rattle.std.proofs.Common.{subst, sym}
use Rattle.vp_disks.specs.ImagedDisks.{AreImages}
use Rattle.vp_disks.proofs.imaged_disk.ImagedDisk.lay.Goals as goal

pub invariant_of-self-2 : goal.invariant_of-self-2
invariant_of-self-2 c =
    let disk = c.self.inside.disk in
    let are = subst (λ old. AreImages old c.in_ok-images.images) (sym c.self.view_is) c.in_ok-images.ensures in
    rw c.in_ok-lay_copy.ensures.ok (c.in_ok-lay.ensures disk are)
