-- What is taken from a source, and what the faults of an input say.
use Rattle.std.specs.Prelude.{ℕ, ◌≤◌, ◌<◌, ◌≡◌, ◌↔◌, IsTrue, Bool, true, List, length, Result, OnOk, IfOk, MatchResult, IsErrOf}
use Rattle.std.specs.declared.option.Option.{Option}
use Rattle.std.specs.Io.{ReadsAtMost}
use Rattle.std.specs.Io.KnownBytes.{Consumes, ReadConsumes, IsAtEnd}
use Rattle.vp_outside.specs.Causes.{count_after, Rose, HasCause}
use Rattle.vp_outside.specs.declared.source.InputFault.{InputFault}
use Rattle.vp_outside.specs.declared.source.InputFault.TheVariants.{Failed, TooLong, NoMemory}

-- the count of bytes given rises by what a call gave
abbrev pub CountsTaken : {E : Type 0} → ℕ → ℕ → Result ℕ E → Type 0
CountsTaken before now result = MatchResult result (λ n. now ≡ count_after before n) (λ _. now ≡ before)

-- a call that asked for at least one byte found the end of input exactly where it gave none
abbrev pub TellsEnd : {E : Type 0} → Bool → Result ℕ E → List ℕ → Type 0
TellsEnd ended result buf = IfOk result (λ n. 0 < length buf → (IsTrue ended ↔ (n ≡ 0)))

-- a call that asked for no byte or failed keeps what was found before
abbrev pub KeepsEnd : {E : Type 0} → Bool → Bool → Result ℕ E → List ℕ → Type 0
KeepsEnd before ended result buf = MatchResult result (λ _. length buf ≡ 0 → ended ≡ before) (λ _. ended ≡ before)

-- ---- the state of a source, as contracts see it

-- The counts stop at 2^64 - 1.
pub record SourceState : Type 0 where
  -- the bytes that are left, where that is known
  pub left : Option (List ℕ)
  -- how many bytes it has given
  pub taken : ℕ
  -- whether the latest call that asked for a byte and didn't fail found the end of input
  pub ended : Bool
  -- how often it failed
  pub faults : ℕ

-- The source has found its end, and nothing is left.
abbrev pub IsEnded : SourceState → Type 0
IsEnded source = (source.ended ≡ true) × IsAtEnd source.left

-- These bytes were taken from what was left, where that is known, and were counted.
pub record Took (bytes : List ℕ) (old new : SourceState) : Type 0 where
  pub bytes_gone : Consumes old.left new.left bytes
  pub counted : new.taken ≡ count_after old.taken (length bytes)

-- ---- the call

-- The next bytes were copied to the front of the buffer. A call that fails takes nothing.
pub record Takes {E : Type 0} (buf : List ℕ) (old new : SourceState) (result : Result ℕ E) : Type 0 where
  pub bound : ReadsAtMost result buf
  pub bytes : ReadConsumes old.left new.left result buf
  pub count : CountsTaken old.taken new.taken result
  pub end : TellsEnd new.ended result buf
  pub kept_end : KeepsEnd old.ended new.ended result buf
  pub cause : HasCause old.faults new.faults result

-- ---- what the answers of a whole input say

-- The source's count of failures rose where the error is Failed, and otherwise is as it was.
pub record HasInputCause {T : Type 0} (before now : ℕ) (result : Result T InputFault) : Type 0 where
  pub later : before ≤ now
  pub failed : IsErrOf result Failed → Rose before now
  pub ok : OnOk result (now ≡ before)
  pub too_long : IsErrOf result TooLong → now ≡ before
  pub no_memory : IsErrOf result NoMemory → now ≡ before
