-- What a sink gets, and what the faults of an output say.
use Rattle.std.specs.Prelude.{ℕ, ◌≤◌, ◌<◌, ◌≡◌, List, length, take, Result, OnOk, IfOk, IsErrOf}
use Rattle.std.specs.declared.option.Option.{Option}
use Rattle.std.specs.Io.{WritesAtMost}
use Rattle.std.specs.Io.KnownBytes.{Appends, WriteAppends}
use Rattle.vp_outside.specs.Causes.{Rose}
use Rattle.vp_outside.specs.declared.sink.OutFault.{OutFault}
use Rattle.vp_outside.specs.declared.sink.OutFault.TheVariants.{Failed, NoMemory}

-- of a piece that isn't empty, at least one byte is taken
abbrev pub TakesSome : {E : Type 0} → Result ℕ E → List ℕ → Type 0
TakesSome result piece = IfOk result (λ n. 0 < length piece → 0 < n)

-- the bytes that a sink holds, where they are known, grow by a prefix of these
abbrev pub AppendsPrefix : Option (List ℕ) → Option (List ℕ) → List ℕ → Type 0
AppendsPrefix held held' bytes = (n : ℕ) × (n ≤ length bytes) × Appends held held' (take n bytes)

-- The sink's count of failures rose where the error is Failed, and otherwise is as it was.
pub record HasOutCause {T : Type 0} (before now : ℕ) (result : Result T OutFault) : Type 0 where
  pub later : before ≤ now
  pub failed : IsErrOf result Failed → Rose before now
  pub ok : OnOk result (now ≡ before)
  pub no_memory : IsErrOf result NoMemory → now ≡ before

-- ---- the state of a sink, as contracts see it

pub record SinkState : Type 0 where
  -- the bytes that it holds, where that is known
  pub held : Option (List ℕ)
  -- how often a call failed; the count stops at 2^64 - 1
  pub faults : ℕ

-- ---- the call

-- A prefix of the piece is taken. A call that fails or lacks memory takes nothing.
pub record Puts (piece : List ℕ) (old new : SinkState) (result : Result ℕ OutFault) : Type 0 where
  pub bound : WritesAtMost result piece
  pub some : TakesSome result piece
  pub bytes : WriteAppends old.held new.held result piece
  pub cause : HasOutCause old.faults new.faults result
