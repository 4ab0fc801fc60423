-- What the calls of a disk do to its logs, and what a crash between two syncs may leave of them.
use Rattle.std.specs.Prelude.{◌≡◌, ◌⊎◌, ℕ, zero, suc, ◌+◌, ◌-◌, ◌≤◌, max, min, Bool, List, ◌++◌, length, take, drop, replicate, Option, Some, None, Result, IfOk}

-- The two halves of a log.
abbrev pub Halves : Type 0
Halves = List ℕ × List ℕ

abbrev pub half_of : ℕ → Halves → List ℕ
half_of zero log = log.0
half_of (suc n) log = log.1

-- This half is changed, and the other one stays.
abbrev pub in_half : ℕ → (List ℕ → List ℕ) → Halves → Halves
in_half zero change log = (change log.0, log.1)
in_half (suc n) change log = (log.0, change log.1)

-- The half is changed as the step says, and the other one stays.
abbrev pub InHalf : ℕ → (List ℕ → List ℕ → Type 0) → Halves → Halves → Type 0
InHalf zero step old new = step old.0 new.0 × (new.1 ≡ old.1)
InHalf (suc n) step old new = step old.1 new.1 × (new.0 ≡ old.0)

-- ---- what a call that is done leaves

-- a half with these bytes at this place; what is between the old end and that place is 0
abbrev pub write_bytes_at : ℕ → List ℕ → List ℕ → List ℕ
write_bytes_at at bytes old = take at (old ++ replicate (at - length old) 0) ++ bytes ++ drop (at + length bytes) old

abbrev pub Written : ℕ → List ℕ → List ℕ → List ℕ → Type 0
Written at bytes old new = new ≡ write_bytes_at at bytes old

abbrev pub CutTo : ℕ → List ℕ → List ℕ → Type 0
CutTo n old new = new ≡ take n old

-- ---- what a call leaves that is cut short or isn't synced

-- Any bytes in the written range and past the old end, with a length between the old one and the new one; the other bytes stay.
pub record Torn (at n : ℕ) (old new : List ℕ) : Type 0 where
  pub before : take (min at (length old)) new ≡ take at old
  pub after : drop (at + n) new ≡ drop (at + n) old
  pub no_shorter : length old ≤ length new
  pub no_longer : length new ≤ max (length old) (at + n)

-- The cut happened, or it didn't.
abbrev pub MaybeCut : ℕ → List ℕ → List ℕ → Type 0
MaybeCut n old new = (new ≡ old) ⊎ CutTo n old new

-- ---- what is known of a log

-- A log whose content is known is changed as the step says, and is known after it; one that isn't known isn't known after it.
abbrev pub Becomes : (Halves → Halves → Type 0) → Option Halves → Option Halves → Type 0
Becomes step (Some old) (Some new) = step old new
Becomes step (Some old) None = ⊥
Becomes step None (Some new) = ⊥
Becomes step None None = Unit {0}

-- A read gives the bytes from this place on, as many as the buffer has room for.
abbrev pub Gives : {E : Type 0} → List ℕ → ℕ → List ℕ → List ℕ → Result ℕ E → Type 0
Gives half at old new result = IfOk result (λ n. (n ≡ min (length old) (length half - at)) × (new ≡ take n (drop at half) ++ drop n old))

-- The state of a disk, as contracts see it. `None` is what is not known.
pub record DiskState : Type 1 where
  -- What a read gives of the log of each name, where that is known. A log that doesn't exist counts as empty. The log without a
  -- name is the one that was attached when the disk was made.
  pub logs : Option (List ℕ) → Option Halves
  -- the name last given to `attach`
  pub asked : Option (List ℕ)
  -- whether a log is attached
  pub attached : Bool
  -- whether a sync is kept
  pub honest : Type 0
  -- what a crash at this moment may leave of a log
  pub may_leave : Option (List ℕ) → Halves → Type 0
  -- the moment, as a number that doesn't fall
  pub moment : ℕ
  -- what a crash at some moment since that one might have left of a log, during a call or between two
  pub left_since : Option (List ℕ) → ℕ → Halves → Type 0
  -- how often a call failed; the count stops at 2^64 - 1
  pub faults : ℕ
  -- what a read gave of a log when it was last synced, where that is known
  pub synced : Option (List ℕ) → Option Halves
  -- how many calls it still does before it stops, if it is to stop and no other call is to fail
  pub until_stop : Option ℕ

-- the log to which the calls apply
abbrev pub log_of : DiskState → Option Halves
log_of disk = disk.logs disk.asked

-- What holds of every disk.
pub record IsDisk (disk : DiskState) : Type 0 where
  -- a crash may leave what a read gives
  pub as_read : (log : Option (List ℕ)) (content : Halves) → disk.logs log ≡ Some content → disk.may_leave log content
  -- this moment is one of those since an earlier one
  pub counts_now : (log : Option (List ℕ)) (since : ℕ) (image : Halves) → since ≤ disk.moment → disk.may_leave log image → disk.left_since log since image
  -- since this very moment there is no other moment
  pub only_now : (log : Option (List ℕ)) (image : Halves) → disk.left_since log disk.moment image → disk.may_leave log image

-- ---- what a call leaves

-- The log to which the calls apply stays the same.
pub record StaysAttached (old new : DiskState) : Type 0 where
  pub same_name : new.asked ≡ old.asked
  pub same_attached : new.attached ≡ old.attached

-- The log is known as before, and a crash leaves nothing of it that it might not have left before.
pub record Untouched (log : Option (List ℕ)) (old new : DiskState) : Type 0 where
  pub same : new.logs log ≡ old.logs log
  pub no_other : (image : Halves) → new.may_leave log image → old.may_leave log image

-- The attached log is changed as the step says, where it is known.
abbrev pub Steps : (Halves → Halves → Type 0) → DiskState → DiskState → Type 0
Steps step old new = Becomes step (old.logs old.asked) (new.logs old.asked)

-- after the call, each image of that log is one from before the call, changed as the step says
abbrev pub Follows : (Halves → Halves → Type 0) → Option (List ℕ) → DiskState → DiskState → Type 0
Follows step log old new = (image : Halves) → new.may_leave log image → (before : Halves) × old.may_leave log before × step before image

-- a crash leaves this and nothing else
abbrev pub Only : Halves → (Halves → Type 0) → Type 0
Only log images = (image : Halves) → images image → image ≡ log

-- Time goes on: a crash since a moment might have left of that log what it might have left earlier, or one of these images.
pub record Elapses (log : Option (List ℕ)) (old new : DiskState) (images : Halves → Type 0) : Type 0 where
  pub later : old.moment ≤ new.moment
  pub nothing_else : (moment : ℕ) (image : Halves) → moment ≤ old.moment → new.left_since log moment image → old.left_since log moment image ⊎ images image
  pub keeps : (moment : ℕ) (image : Halves) → moment ≤ old.moment → old.left_since log moment image → new.left_since log moment image
