-- The disks that are kept beside a disk in memory, of which a stop takes one instead.
use Rattle.std.specs.Prelude.{true, false, List, ◌∷◌, Option, Some, None}
use Rattle.vp_disks.specs.Images.{OnlyLays, LeavesImages}
use Rattle.vp_disks.specs.declared.changes.Change.{Change}
use Rattle.vp_disks.specs.declared.imaged_disk.Images.{Images}

abbrev pub AreImages : List Change → Images → Type 0
AreImages changes images = LeavesImages true changes images.late × LeavesImages false changes images.synced

-- where none are kept, the disk is its own image
abbrev pub KeepsImages : List Change → Option Images → Type 0
KeepsImages changes None = OnlyLays changes
KeepsImages changes (Some images) = AreImages changes images

-- if these were the images of a disk, those are the images of that disk after this change
abbrev pub Mirror : Change → Images → Images → Type 0
Mirror change old new = (changes : List Change) → AreImages changes old → AreImages (change ∷ changes) new
