-- What playing operations on the one copy gives.
use Rattle.std.specs.Prelude.{◌≡◌, ◌≢◌, ℕ, ◌+◌, ◌<◌, ⊤, List, ◌∷◌, ◌++◌, length, slice_get, Option, Some, Result, Ok, Err}
use Rattle.std.specs.List.{All}
use Rattle.vp_model.specs.Types.{Op, Commit}
use Rattle.vp_model.specs.Types.op
use Rattle.vp_model.specs.OneCopy.{Values, play_one, play}
use Rattle.vp_onecopy.specs.declared.playing.PlayFault.{PlayFault}
use Rattle.vp_onecopy.specs.declared.playing.PlayFault.TheVariants as faults

-- the record of an operation
abbrev pub op_record : Op → ℕ
op_record (op.Read rec value) = rec
op_record (op.Write rec value) = rec

-- each operation is on one of that many records
abbrev pub OpsWithin : ℕ → List Op → Type 0
OpsWithin count ops = All (λ operation. op_record operation < count) ops

abbrev pub CommitsWithin : ℕ → List Commit → Type 0
CommitsWithin count commits = All (λ commit. OpsWithin count commit.ops) commits

-- the operation read another content of the record than the copy has
pub record Misreads (copy : Values) (operation : Op) (rec : ℕ) (kept read : Option (List ℕ)) : Type 0 where
  pub is : operation ≡ op.Read rec read
  pub stands : slice_get copy rec ≡ Some kept
  pub differs : kept ≢ read

-- the operations before it can be played and leave this copy
pub record PlaysUpTo (before : Values) (ops front back : List Op) (after : Values) : Type 0 where
  pub parts : ops ≡ front ++ back
  pub played : play before front ≡ Some after

-- The operation at the place, counted from 1, read another content than the operations before it leave.
pub record IsFirstMisread (before : Values) (ops : List Op) (after : Values) (place rec : ℕ) (kept read : Option (List ℕ)) : Type 0 where
  pub front : List Op
  pub operation : Op
  pub back : List Op
  pub reached : PlaysUpTo before ops front (operation ∷ back) after
  pub place_is : place ≡ length front + 1
  pub misread : Misreads after operation rec kept read

-- The first ones of the operations can be played, and leave this copy.
pub record IsStopped (before : Values) (ops : List Op) (after : Values) : Type 0 where
  pub front : List Op
  pub back : List Op
  pub reached : PlaysUpTo before ops front back after

-- the result, and the copy that is left
abbrev pub Plays : Values → List Op → Values → Result ⊤ PlayFault → Type 0
Plays before ops after (Ok done) = play before ops ≡ Some after
Plays before ops after (Err (faults.Differs place kept read)) = (rec : ℕ) × IsFirstMisread before ops after place rec kept read
Plays before ops after (Err faults.NoMemory) = IsStopped before ops after

-- the same for one operation, which is at this place
abbrev pub PlaysOne : Values → ℕ → Op → Values → Result ⊤ PlayFault → Type 0
PlaysOne before place operation after (Ok done) = play_one before operation ≡ Some after
PlaysOne before place operation after (Err (faults.Differs op kept read)) = (op ≡ place) × (rec : ℕ) × Misreads after operation rec kept read
PlaysOne before place operation after (Err faults.NoMemory) = ⊤
