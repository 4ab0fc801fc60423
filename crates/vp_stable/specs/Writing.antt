-- What the writes of a log do to a half, and what a crash during them may leave.
use Rattle.std.specs.Prelude.{◌≡◌, ◌⊎◌, ℕ, ◌+◌, ◌≤◌, List, [], ◌∷◌, ◌++◌, length, Option, IfSome}
use Rattle.vp_base.specs.declared.entry.LogRecord.{LogRecord}
use Rattle.vp_outside.specs.Disk.{Halves, DiskState, Only, Elapses}
use Rattle.vp_stable.specs.Log.{CanStand, sized_batch, IsLog}

-- It stays as it was, or at most 1 byte is left of it.
abbrev pub MayClear : List ℕ → List ℕ → Type 0
MayClear old new = (new ≡ old) ⊎ (length new ≤ 1)

-- It is a log without batches.
abbrev pub Clears : List ℕ → List ℕ → Type 0
Clears old new = IsLog 0 [] new

-- What follows the gate of a batch: the length of the batch, the batch, and a closed gate.
pub record IsPiece (batch : List LogRecord) (piece : List ℕ) : Type 0 where
  pub is : piece ≡ sized_batch batch ++ 0 ∷ []
  pub can : CanStand batch

-- A log whose closed gate is at this place gets the batch of the piece after the others.
abbrev pub Puts : List ℕ → ℕ → List ℕ → List ℕ → Type 0
Puts piece gate old new =
    (batch : List LogRecord) (batches : List (List LogRecord)) → IsPiece batch piece → IsLog gate batches old → IsLog (gate + length piece) (batches ++ batch ∷ []) new

-- It gets the batch, or still has the earlier batches.
abbrev pub MayPut : List ℕ → ℕ → List ℕ → List ℕ → Type 0
MayPut piece gate old new =
    (batch : List LogRecord) (batches : List (List LogRecord)) → IsPiece batch piece → IsLog gate batches old
    → IsLog gate batches new ⊎ IsLog (gate + length piece) (batches ++ batch ∷ []) new

-- A crash leaves of the log of that name what a read gives.
abbrev pub IsSynced : Option (List ℕ) → DiskState → Type 0
IsSynced name disk = IfSome (disk.logs name) (λ log. Only log (disk.may_leave name))

-- A crash during the calls leaves of a synced log what the step makes of it.
abbrev pub Tears : (Halves → Halves → Type 0) → Option (List ℕ) → DiskState → DiskState → Type 0
Tears step name old new = old.honest → IfSome (old.logs name) (λ log. Only log (old.may_leave name) → Elapses name old new (step log))
