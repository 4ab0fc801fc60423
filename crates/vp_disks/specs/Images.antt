-- What a stop may leave of a disk in memory: all that was done, or of each log what it was at its last sync.
use Rattle.std.specs.Prelude.{◌≡◌, ℕ, Bool, if◌then◌else◌, List, [], ◌∷◌, Option, Some}
use Rattle.vp_outside.specs.Disk.{Halves, DiskState, Only}
use Rattle.vp_disks.specs.Changes.{asked_of, changes_of, content_of, synced_of}
use Rattle.vp_disks.specs.declared.changes.Change.{Change}
use Rattle.vp_disks.specs.declared.changes.Change.TheVariants.{Attached, Wrote, Cut, Synced, Laid}

-- the image of a log with all that was done since its last sync, or with none of that
abbrev pub image_of : Bool → List Change → Halves
image_of late changes = if late then content_of changes else synced_of changes

-- logs were laid and attached, and nothing else was done
abbrev pub OnlyLays : List Change → Type 0
OnlyLays [] = Unit {0}
OnlyLays (Attached name ∷ earlier) = OnlyLays earlier
OnlyLays (Wrote half at piece ∷ earlier) = ⊥
OnlyLays (Cut half n ∷ earlier) = ⊥
OnlyLays (Synced ∷ earlier) = ⊥
OnlyLays (Laid first second ∷ earlier) = OnlyLays earlier

-- Only this is left of the old record: each log is laid with its image, and the same log is attached.
pub record LeavesImages (late : Bool) (old new : List Change) : Type 0 where
  pub asked : asked_of new ≡ asked_of old
  pub images : (log : Option (List ℕ)) → content_of (changes_of log new) ≡ image_of late (changes_of log old)
  pub only_laid : OnlyLays new

-- A crash at the old moment may have left each log as it is on the new disk, and a crash at the new moment leaves just that.
pub record IsLeftByCrash (old new : DiskState) : Type 0 where
  pub possible : (log : Option (List ℕ)) (content : Halves) → new.logs log ≡ Some content → old.may_leave log content
  pub certain : (log : Option (List ℕ)) (content : Halves) → new.logs log ≡ Some content → Only content (new.may_leave log)
