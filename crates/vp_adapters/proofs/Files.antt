-- What the state of a disk over files says stays the same when a log is changed.
use Rattle.std.proofs.Common.{refl, inl, arith, ℕ, Bool, List, Option, None, Result, OnOk, OnErr, Ok, Err}
use Rattle.std.proofs.lemmas.List.{take_min}
use Rattle.vp_outside.specs.Disk.{Torn, MaybeCut, Untouched}
use Rattle.vp_outside.specs.DiskCalls.{GoesOn, KeepsToStop, Changes}
use Rattle.vp_outside.specs.Output.{HasOutCause}
use Rattle.vp_outside.specs.declared.sink.OutFault.{OutFault}
use Rattle.vp_outside.proofs.Halves.{InHalf-refl}
use Rattle.vp_adapters.specs.Files.{of_files}

pub Torn-same : (at n : ℕ) (bytes : List ℕ) → Torn at n bytes bytes
Torn-same at n bytes = record { before = take_min at bytes; after = refl; no_shorter = omega arith; no_longer = omega arith }

pub MaybeCut-same : (n : ℕ) (bytes : List ℕ) → MaybeCut n bytes bytes
MaybeCut-same n bytes = inl refl

untouched : (asked : Option (List ℕ)) (attached : Bool) (faults faults' : ℕ) (log : Option (List ℕ)) → Untouched log (of_files asked attached faults) (of_files asked attached faults')
untouched asked attached faults faults' log = record { same = refl; no_other = λ _ _. tt }

goes_on : (asked : Option (List ℕ)) (attached : Bool) (faults faults' : ℕ) → GoesOn (of_files asked attached faults) (of_files asked attached faults')
goes_on asked attached faults faults' = record {
  honest = (λ h. h, λ h. h);
  time = λ log. record { later = omega arith; nothing_else = λ _ _ _ _. inl tt; keeps = λ _ _ _ _. tt };
}

on-ok : (result : Result (Unit {0}) OutFault) → OnOk result (Unit {0})
on-ok (Ok _) = tt
on-ok (Err _) = tt

on-err : (result : Result (Unit {0}) OutFault) → OnErr result (Unit {0})
on-err (Ok _) = tt
on-err (Err _) = tt

-- it is not planned to stop
no_stop : (result : Result (Unit {0}) OutFault) → KeepsToStop None None result
no_stop (Ok _) = record { done = refl; not_done = tt; at_stop = λ _. tt }
no_stop (Err _) = record { done = tt; not_done = refl; at_stop = λ _. tt }

pub Changes-of_files : {half : ℕ} {whole part : List ℕ → List ℕ → Type 0} {asked : Option (List ℕ)} {attached : Bool} {faults faults' : ℕ} {result : Result (Unit {0}) OutFault} → ((bytes : List ℕ) → part bytes bytes) → HasOutCause faults faults' result → Changes half whole part (of_files asked attached faults) (of_files asked attached faults') result
Changes-of_files {half} {whole} {part} {asked} {attached} {faults} {faults'} {result} same cause = record {
  done = on-ok result;
  not_done = on-err result;
  no_memory = λ _. untouched asked attached faults faults' asked;
  crash = λ image _. (image, tt, InHalf-refl half part image same);
  elsewhere = λ log _. untouched asked attached faults faults' log;
  at_stop = λ _. tt;
  not_synced = λ _. refl;
  stop = no_stop result;
  stays = record { same_name = refl; same_attached = refl };
  goes_on = goes_on asked attached faults faults';
  cause = cause;
}
