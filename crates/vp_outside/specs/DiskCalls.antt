-- What each call of a disk does.
use Rattle.std.specs.Prelude.{◌≡◌, ◌↔◌, ℕ, suc, ◌≤◌, false, List, length, Option, Some, None, Result, IfOk, IfSome, IsTrue, OnOk, OnErr, IsErrOf}
use Rattle.vp_outside.specs.Causes.{HasCause}
use Rattle.vp_outside.specs.Output.{HasOutCause}
use Rattle.vp_outside.specs.Disk.{half_of, InHalf, Gives, DiskState, log_of, StaysAttached, Untouched, Steps, Follows, Only, Elapses}
use Rattle.vp_outside.specs.declared.sink.OutFault.{OutFault}
use Rattle.vp_outside.specs.declared.sink.OutFault.TheVariants.{NoMemory, Failed}

-- Every call keeps whether syncs are kept, and time goes on.
pub record GoesOn (old new : DiskState) : Type 0 where
  pub honest : old.honest ↔ new.honest
  pub time : (log : Option (List ℕ)) → Elapses log old new (new.may_leave log)

-- A call that changes no log.
pub record LeavesLogs (old new : DiskState) : Type 0 where
  pub stays : StaysAttached old new
  pub untouched : (log : Option (List ℕ)) → Untouched log old new
  pub goes_on : GoesOn old new

-- The log of that name becomes the attached one.
pub record Attaches {T : Type 0} (name : List ℕ) (old new : DiskState) (result : Result T OutFault) : Type 0 where
  pub asked : (IsErrOf result NoMemory → ⊥) → new.asked ≡ Some name
  pub attached : OnOk result (IsTrue new.attached)
  pub failed : IsErrOf result Failed → new.attached ≡ false
  pub no_memory : IsErrOf result NoMemory → StaysAttached old new
  pub untouched : (log : Option (List ℕ)) → Untouched log old new
  pub goes_on : GoesOn old new
  pub cause : HasOutCause old.faults new.faults result

-- The result is the length of a half.
pub record Measures {E : Type 0} (half : ℕ) (old new : DiskState) (result : Result ℕ E) : Type 0 where
  pub told : IfOk result (λ n. IfSome (log_of old) (λ log. n ≡ length (half_of half log)))
  pub leaves : LeavesLogs old new
  pub cause : HasCause old.faults new.faults result

-- The bytes of a half from that place on were copied to the front of the buffer.
pub record Reads {E : Type 0} (half at : ℕ) (buf buf' : List ℕ) (old new : DiskState) (result : Result ℕ E) : Type 0 where
  pub within : IfOk result (λ n. n ≤ length buf)
  pub room : length buf' ≡ length buf
  pub told : IfSome (log_of old) (λ log. Gives (half_of half log) at buf buf' result)
  pub leaves : LeavesLogs old new
  pub cause : HasCause old.faults new.faults result

-- One call less is left before the stop.
abbrev pub OneNearer : Option ℕ → Option ℕ → Type 0
OneNearer None now = now ≡ None
OneNearer (Some calls) now = (left : ℕ) × (calls ≡ suc left) × (now ≡ Some left)

-- A disk that is to stop fails at no call before that, and does no call after it. A call that isn't done brings the stop no nearer.
pub record KeepsToStop {T : Type 0} (before now : Option ℕ) (result : Result T OutFault) : Type 0 where
  pub done : OnOk result (OneNearer before now)
  pub not_done : OnErr result (now ≡ before)
  pub at_stop : IsErrOf result Failed → IfSome before (λ calls. calls ≡ 0)

-- A half of the attached log is changed by the first step where the call is done, and by the second where it isn't. Until a sync, a
-- crash leaves what the second allows. A stop leaves the half as it was.
pub record Changes {T : Type 0} (half : ℕ) (whole part : List ℕ → List ℕ → Type 0) (old new : DiskState) (result : Result T OutFault) : Type 0 where
  pub done : OnOk result (Steps (InHalf half whole) old new)
  pub not_done : OnErr result (Steps (InHalf half part) old new)
  pub no_memory : IsErrOf result NoMemory → Untouched old.asked old new
  pub at_stop : IsErrOf result Failed → IfSome old.until_stop (λ calls. Untouched old.asked old new)
  pub crash : Follows (InHalf half part) old.asked old new
  pub elsewhere : (log : Option (List ℕ)) → (log ≡ old.asked → ⊥) → Untouched log old new
  pub not_synced : (log : Option (List ℕ)) → new.synced log ≡ old.synced log
  pub stop : KeepsToStop old.until_stop new.until_stop result
  pub stays : StaysAttached old new
  pub goes_on : GoesOn old new
  pub cause : HasOutCause old.faults new.faults result

-- After it a crash leaves of the attached log what a read gives.
pub record Syncs {T : Type 0} (old new : DiskState) (result : Result T OutFault) : Type 0 where
  pub durable : old.honest → OnOk result (IfSome (log_of old) (λ log. Only log (new.may_leave old.asked)))
  pub synced : OnOk result (new.synced old.asked ≡ log_of old)
  pub not_synced : OnErr result ((log : Option (List ℕ)) → new.synced log ≡ old.synced log)
  pub stop : KeepsToStop old.until_stop new.until_stop result
  pub leaves : LeavesLogs old new
  pub cause : HasOutCause old.faults new.faults result
