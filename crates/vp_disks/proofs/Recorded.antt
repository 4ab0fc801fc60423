-- A change of a disk in memory: one that is done and recorded, and one that isn't done.
use Rattle.std.proofs.Common.{◌≡◌, ℕ, List, ◌∷◌, Bool, refl, sym, ap, subst, arith, Option, Some, None}
use Rattle.std.specs.Prelude.{Ok, Err, IfSome}
use Rattle.vp_outside.specs.Disk.{Halves, InHalf}
use Rattle.vp_outside.specs.DiskCalls.{OneNearer, KeepsToStop, Changes}
use Rattle.vp_outside.specs.Output.{HasOutCause}
use Rattle.vp_outside.specs.declared.sink.OutFault.{OutFault}
use Rattle.vp_outside.proofs.Halves.{InHalf-refl}
use Rattle.vp_disks.specs.Changes.{asked_of, changes_of, content_of, synced_of, MayLeave, state_before}
use Rattle.vp_disks.specs.declared.changes.Change.{Change}
use Rattle.vp_disks.proofs.LogRecords.{by_log, changes_of-same, changes_of-other, Elapses-next, Elapses-still}

for_any : (o : Option ℕ) (P : Type 0) → P → IfSome o (λ _. P)
for_any None P h = tt
for_any (Some n) P h = h

-- nothing was changed
pub Changes-not_done : {T : Type 0} (half : ℕ) (whole part : List ℕ → List ℕ → Type 0) → ((old : List ℕ) → part old old)
    → (changes later : List Change) (stop stop' : Option ℕ) (attached : Bool) (faults faults' : ℕ) (fault : OutFault) → later ≡ changes
    → KeepsToStop {T = T} stop stop' (Err fault) → HasOutCause {T = T} faults faults' (Err fault)
    → Changes {T = T} half whole part (state_before stop changes attached faults) (state_before stop' later attached faults') (Err fault)
Changes-not_done {T = T} half whole part stays changes later stop stop' attached faults faults' fault is keeps cause =
    subst (λ (now : List Change). Changes {T = T} half whole part (state_before stop changes attached faults) (state_before stop' now attached faults') (Err fault)) (sym is)
    (record {
      done = tt;
      not_done = InHalf-refl half part (content_of (changes_of (asked_of changes) changes)) stays;
      no_memory = λ _. record { same = refl; no_other = λ image left. left };
      at_stop = λ _. for_any stop _ (record { same = refl; no_other = λ image left. left });
      crash = λ image left. (image, left, InHalf-refl half part image stays);
      elsewhere = λ log _. record { same = refl; no_other = λ image left. left };
      not_synced = λ log. refl;
      stop = keeps;
      stays = record { same_name = refl; same_attached = refl };
      goes_on = record { honest = (λ h. h, λ h. h); time = λ log. Elapses-still log changes stop stop' attached attached faults faults' };
      cause = cause;
    })

-- a change of the attached log is done and recorded
pub Changes-recorded : (half : ℕ) (whole part : List ℕ → List ℕ → Type 0) (change : Change) (earlier later : List Change) (stop stop' : Option ℕ) (attached : Bool) (faults faults' : ℕ)
    → asked_of (change ∷ earlier) ≡ asked_of earlier
    → ((past : List Change) → InHalf half whole (content_of past) (content_of (change ∷ past)))
    → ((past : List Change) (image : Halves) → MayLeave (change ∷ past) image → (before : Halves) × MayLeave past before × InHalf half part before image)
    → ((past : List Change) → synced_of (change ∷ past) ≡ synced_of past)
    → later ≡ change ∷ earlier → faults' ≡ faults → OneNearer stop stop'
    → Changes {T = Unit {0}} half whole part (state_before stop earlier attached faults) (state_before stop' later attached faults') (Ok tt)
Changes-recorded half whole part change earlier later stop stop' attached faults faults' asks done left_of not_synced is same nearer =
    let asked = asked_of earlier in
    let here = changes_of-same asked change earlier refl in
    subst (λ (now : List Change). Changes {T = Unit {0}} half whole part (state_before stop earlier attached faults) (state_before stop' now attached faults') (Ok tt)) (sym is)
    (record {
      done = subst (λ (now : List Change). InHalf half whole (content_of (changes_of asked earlier)) (content_of now)) (sym here) (done (changes_of asked earlier));
      not_done = tt;
      no_memory = λ is_err. absurd cc;
      at_stop = λ is_err. absurd cc;
      crash = λ image left. left_of (changes_of asked earlier) image (subst (λ (now : List Change). MayLeave now image) here left);
      elsewhere = λ log other. let there = changes_of-other log change earlier other in
          record { same = ap (λ now. Some (content_of now)) there; no_other = λ image left. subst (λ (now : List Change). MayLeave now image) there left };
      not_synced = λ log. by_log log change earlier (λ now. Some (synced_of now) ≡ Some (synced_of (changes_of log earlier))) (λ _. ap (λ log. Some log) (not_synced (changes_of log earlier))) refl;
      stop = record { done = nearer; not_done = tt; at_stop = λ is_err. absurd cc };
      stays = record { same_name = asks; same_attached = refl };
      goes_on = record { honest = (λ h. h, λ h. h); time = λ log. Elapses-next log change earlier stop stop' attached attached faults faults' };
      cause = record { later = omega (arith, same); failed = λ is_err. absurd cc; ok = same; no_memory = λ is_err. absurd cc };
    })
