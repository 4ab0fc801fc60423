-- What a crash during the calls of a log may leave of a disk.
use Rattle.std.specs.Prelude.{◌≡◌, ◌↔◌, ℕ, List, Option}
use Rattle.vp_outside.specs.Disk.{Halves, InHalf, Torn, DiskState, StaysAttached, Untouched, Elapses}

-- A crash at any moment since a call began leaves of the attached log only images with P. A crash since an earlier moment leaves
-- such an image, or one that it might have left before the call.
pub record LeavesOnly (old new : DiskState) (P : Halves → Type 0) : Type 0 where
  pub each : (image : Halves) → new.left_since old.asked old.moment image → P image
  pub time : Elapses old.asked old new P

-- what a step may make of one of these images
abbrev pub After : (Halves → Halves → Type 0) → (Halves → Type 0) → Halves → Type 0
After step images image = (old : Halves) × images old × step old image

-- what a write of n bytes in a half may make of one of these images
abbrev pub TornFrom : ℕ → ℕ → ℕ → (Halves → Type 0) → Halves → Type 0
TornFrom half at n = After (InHalf half (Torn at n))

-- Calls that change no log: a crash during them leaves what it might have left before.
pub record Quiet (old new : DiskState) : Type 0 where
  pub stays : StaysAttached old new
  pub as_honest : old.honest ↔ new.honest
  pub untouched : (log : Option (List ℕ)) → Untouched log old new
  pub time : (log : Option (List ℕ)) → Elapses log old new (old.may_leave log)

-- Calls that change only the attached log: of any other log a crash during them leaves what it might have left before.
pub record LeavesOthers (old new : DiskState) : Type 0 where
  pub stays : StaysAttached old new
  pub honest : old.honest ↔ new.honest
  pub elsewhere : (log : Option (List ℕ)) → (log ≡ old.asked → ⊥) → Untouched log old new
  pub any_moment : (log : Option (List ℕ)) → (log ≡ old.asked → ⊥) → Elapses log old new (old.may_leave log)
