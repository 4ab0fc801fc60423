-- What is left of a log whose disk is to stop: what is read of it, and what was last synced.
use Rattle.std.specs.Prelude.{◌≡◌, ◌⊎◌, ℕ, suc, nat_lt, Bool, true, false, if◌then◌else◌, List, [], ◌∷◌, ◌++◌, Some, Result, OnOk, IsErrOf}
use Rattle.vp_base.specs.declared.entry.LogRecord.{LogRecord}
use Rattle.vp_outside.specs.Disk.{Halves, Becomes, DiskState, log_of, Steps}
use Rattle.vp_outside.specs.declared.sink.OutFault.{OutFault}
use Rattle.vp_outside.specs.declared.sink.OutFault.TheVariants.{Failed}
use Rattle.vp_stable.specs.Halves.{Standing, StandsAt, HaveBatches}
use Rattle.vp_stable.specs.Log.{IsLog}
use Rattle.vp_stable.specs.Writing.{IsPiece, Puts}

-- Of a write and a sync, a given number of calls before a stop, both are done, or only the write, or neither.
pub record WritesToStop {T : Type 0} (written : Halves → Halves → Type 0) (calls : ℕ) (old new : DiskState) (result : Result T OutFault) : Type 0 where
  pub done : OnOk result ((left : ℕ) × (calls ≡ suc (suc left)) × (new.until_stop ≡ Some left) × (new.synced old.asked ≡ new.logs old.asked))
  pub not_synced : IsErrOf result Failed → new.synced old.asked ≡ old.synced old.asked
  pub stopped : IsErrOf result Failed → ((calls ≡ 0) × (new.logs old.asked ≡ log_of old)) ⊎ ((calls ≡ 1) × Steps written old new)

-- Of an append, a given number of calls before a stop, the third call opens the gate, and the fourth syncs that. `step kept` says
-- what
-- becomes of the log, with the batch or without it.
pub record AppendsToStop (step : Bool → Halves → Halves → Type 0) (calls : ℕ) (old new : DiskState) : Type 0 where
  pub read : Becomes (step (nat_lt 2 calls)) (log_of old) (new.logs old.asked)
  pub synced : old.synced old.asked ≡ log_of old → Becomes (step (nat_lt 3 calls)) (log_of old) (new.synced old.asked)

-- these batches, with another one after them or without it
abbrev pub with_batch : Bool → List LogRecord → List (List LogRecord) → List (List LogRecord)
with_batch kept batch batches = if kept then batches ++ batch ∷ [] else batches

-- A log whose closed gate is at this place keeps its batches.
abbrev pub StaysPut : List ℕ → ℕ → List ℕ → List ℕ → Type 0
StaysPut piece gate old new = (batch : List LogRecord) (batches : List (List LogRecord)) → IsPiece batch piece → IsLog gate batches old → IsLog gate batches new

-- It gets the batch of the piece, or keeps its own batches.
abbrev pub PutsWhere : List ℕ → ℕ → Bool → List ℕ → List ℕ → Type 0
PutsWhere piece gate true old new = Puts piece gate old new
PutsWhere piece gate false old new = StaysPut piece gate old new

-- The log at this position has the batch after the others, or has the earlier batches.
abbrev pub GainsWhere : List LogRecord → Standing → Bool → Halves → Halves → Type 0
GainsWhere batch from kept old new = (batches : List (List LogRecord)) → StandsAt from batches old → HaveBatches (with_batch kept batch batches) new
