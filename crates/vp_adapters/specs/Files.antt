-- What the state of a disk over files says: nothing of their content.
use Rattle.std.specs.Prelude.{ℕ, Bool, List, Option, None}
use Rattle.vp_outside.specs.Disk.{DiskState, IsDisk}

-- It says no bytes, doesn't claim that a sync is kept, and allows a crash to leave anything.
abbrev pub of_files : Option (List ℕ) → Bool → ℕ → DiskState
of_files asked attached faults = record {
  logs = λ _. None;
  asked = asked;
  attached = attached;
  honest = ⊥;
  may_leave = λ _ _. Unit {0};
  moment = 0;
  left_since = λ _ _ _. Unit {0};
  faults = faults;
  synced = λ _. None;
  until_stop = None;
}

pub IsDisk-of_files : (asked : Option (List ℕ)) (attached : Bool) (faults : ℕ) → IsDisk (of_files asked attached faults)
IsDisk-of_files asked attached faults = record {
  as_read = λ _ _ _. tt;
  counts_now = λ _ _ _ _ _. tt;
  only_now = λ _ _ _. tt;
}
