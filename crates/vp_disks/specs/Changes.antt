-- What the record of a disk in memory says of its logs. The record is the list of the calls that changed it, the newest first.
use Rattle.std.specs.Prelude.{◌≡◌, ◌⊎◌, ℕ, ◌≤◌, if◌then◌else◌, List, [], ◌∷◌, length, take, Option, Some, None, Bool}
use Rattle.std.specs.Option.{option_eq}
use Rattle.std.specs.Str.{bytes_eq}
use Rattle.vp_outside.specs.Disk.{Halves, InHalf, in_half, write_bytes_at, Torn, MaybeCut, DiskState}
use Rattle.vp_disks.specs.declared.changes.Change.{Change}
use Rattle.vp_disks.specs.declared.changes.Change.TheVariants.{Attached, Wrote, Cut, Synced, Laid}

-- ---- the log that a call concerns

-- the name last given to `attach`
abbrev pub asked_of : List Change → Option (List ℕ)
asked_of [] = None
asked_of (Attached name ∷ earlier) = Some name
asked_of (change ∷ earlier) = asked_of earlier

abbrev pub is_same_log : Option (List ℕ) → Option (List ℕ) → Bool
is_same_log = option_eq bytes_eq

-- the changes of one log: each call concerns the one that was attached when it came
abbrev pub changes_of : Option (List ℕ) → List Change → List Change
changes_of log [] = []
changes_of log (change ∷ earlier) = if is_same_log log (asked_of earlier) then change ∷ changes_of log earlier else changes_of log earlier

-- ---- one log

-- what a read gives after these changes of a log, which is empty before the first
abbrev pub content_of : List Change → Halves
content_of [] = ([], [])
content_of (Attached name ∷ earlier) = content_of earlier
content_of (Wrote half at piece ∷ earlier) = in_half half (write_bytes_at at piece) (content_of earlier)
content_of (Cut half n ∷ earlier) = in_half half (take n) (content_of earlier)
content_of (Synced ∷ earlier) = content_of earlier
content_of (Laid first second ∷ earlier) = (first, second)

-- what a read gave of a log when it was last synced or laid
abbrev pub synced_of : List Change → Halves
synced_of [] = ([], [])
synced_of (Attached name ∷ earlier) = synced_of earlier
synced_of (Wrote half at piece ∷ earlier) = synced_of earlier
synced_of (Cut half n ∷ earlier) = synced_of earlier
synced_of (Synced ∷ earlier) = content_of earlier
synced_of (Laid first second ∷ earlier) = (first, second)

-- what a crash may leave after these changes of a log
abbrev pub MayLeave : List Change → Halves → Type 0
MayLeave [] image = image ≡ ([], [])
MayLeave (Attached name ∷ earlier) image = MayLeave earlier image
MayLeave (Wrote half at piece ∷ earlier) image = (old : Halves) × MayLeave earlier old × InHalf half (Torn at (length piece)) old image
MayLeave (Cut half n ∷ earlier) image = (old : Halves) × MayLeave earlier old × InHalf half (MaybeCut n) old image
MayLeave (Synced ∷ earlier) image = image ≡ content_of earlier
MayLeave (Laid first second ∷ earlier) image = image ≡ (first, second)

-- ---- moments

-- What a crash might have left of a log when the record had some length from `since` on.
abbrev pub MightHaveLeft : Option (List ℕ) → ℕ → List Change → Halves → Type 0
MightHaveLeft log since [] image = (since ≤ 0) × MayLeave [] image
MightHaveLeft log since (change ∷ earlier) image = ((since ≤ length (change ∷ earlier)) × MayLeave (changes_of log (change ∷ earlier)) image) ⊎ MightHaveLeft log since earlier image

-- ---- the disk

-- the state of a disk in memory after these changes, where that many calls are left before a stop
abbrev pub state_before : Option ℕ → List Change → Bool → ℕ → DiskState
state_before until_stop changes attached faults = record {
  logs = λ log. Some (content_of (changes_of log changes));
  asked = asked_of changes;
  attached = attached;
  honest = Unit {0};
  may_leave = λ log. MayLeave (changes_of log changes);
  moment = length changes;
  left_since = λ log since. MightHaveLeft log since changes;
  faults = faults;
  synced = λ log. Some (synced_of (changes_of log changes));
  until_stop = until_stop;
}

-- the same, where it isn't to stop
abbrev pub state_after : List Change → Bool → ℕ → DiskState
state_after = state_before None
