use Rattle.std.proofs.Common.{List, Option, true, false, subst}
use Rattle.std.specs.Prelude.{IfOk, Result, Ok, Err}
use Rattle.vp_disks.specs.Images.{OnlyLays, LeavesImages}
use Rattle.vp_disks.specs.ImagedDisks.{AreImages, KeepsImages}
use Rattle.vp_disks.specs.declared.changes.Change.{Change}
use Rattle.vp_disks.specs.declared.imaged_disk.Images.{Images}
use Rattle.vp_disks.proofs.LeftImages.{left_itself, left_again}
use Rattle.vp_disks.proofs.imaged_disk.ImagedDisk.images.Goals as goal

its_own : {E : Type 0} (changes : List Change) → OnlyLays changes → (result : Result Images E)
    → IfOk result (λ images. LeavesImages true changes images.late × LeavesImages true changes images.synced) → IfOk result (AreImages changes)
its_own changes lays (Ok images) laid = (laid.0, left_again false changes changes images.synced (left_itself false changes lays) laid.1)
its_own changes lays (Err e) laid = tt

pub returns-in-None : goal.returns-in-None
returns-in-None c =
    let disk = c.self.inside.disk in
    let lays = subst (λ (images : Option Images). KeepsImages disk images) c.in-None.is c.self.invariant in
    subst (λ old. IfOk c.laid.result (AreImages old)) c.self.view_is (its_own disk lays c.laid.result c.laid.ensures)
