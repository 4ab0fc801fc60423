-- What the record of a disk in memory says of its logs, after one more change.
use Rattle.std.proofs.Common.{◌≡◌, ◌∙◌, ◌⊎◌, inl, inr, ⊎_elim, ℕ, List, ◌∷◌, Bool, true, false, cond, refl, sym, ap, subst, arith, Option, Some, None, Decides}
use Rattle.std.proofs.lemmas.Slice.Eq.{bytes_eq-Decides}
use Rattle.std.specs.Prelude.{Ok}
use Rattle.vp_outside.specs.Disk.{Halves, Untouched, Elapses}
use Rattle.vp_outside.specs.DiskCalls.{OneNearer, Syncs}
use Rattle.vp_disks.specs.Changes.{asked_of, is_same_log, changes_of, content_of, synced_of, MayLeave, state_before}
use Rattle.vp_disks.specs.declared.changes.Change.{Change}
use Rattle.vp_disks.specs.declared.changes.Change.TheVariants.{Synced}
use Rattle.vp_disks.specs.DiskLaws.{MayLeave-content}

-- ---- which log a change concerns

pub is_same_log-Decides : (a b : Option (List ℕ)) → Decides (is_same_log a b) (a ≡ b)
is_same_log-Decides None None = (λ _. refl, λ _. refl)
is_same_log-Decides None (Some y) = (λ e. absurd (cc), λ e. absurd (cc))
is_same_log-Decides (Some x) None = (λ e. absurd (cc), λ e. absurd (cc))
is_same_log-Decides (Some x) (Some y) = let d = bytes_eq-Decides x y in (λ t. ap (λ n. Some n) (d.0 t), λ e. d.1 cc)

pub same_or_other : (a b : Option (List ℕ)) → (a ≡ b) ⊎ (is_same_log a b ≡ false)
same_or_other a b = by (is_same_log a b) (is_same_log-Decides a b)
  where
    by : (r : Bool) → Decides r (a ≡ b) → (a ≡ b) ⊎ (r ≡ false)
    by true d = inl (d.0 refl)
    by false d = inr refl

is_other : (a b : Option (List ℕ)) → (a ≡ b → ⊥) → is_same_log a b ≡ false
is_other a b differ = ⊎_elim (λ same. absurd (differ same)) (λ other. other) (same_or_other a b)

-- a call concerns the log that was attached
pub changes_of-same : (log : Option (List ℕ)) (change : Change) (earlier : List Change) → log ≡ asked_of earlier → changes_of log (change ∷ earlier) ≡ change ∷ changes_of log earlier
changes_of-same log change earlier same = ap (λ b. cond b (change ∷ changes_of log earlier) (changes_of log earlier)) ((is_same_log-Decides log (asked_of earlier)).1 same)

pub changes_of-not_same : (log : Option (List ℕ)) (change : Change) (earlier : List Change) → is_same_log log (asked_of earlier) ≡ false → changes_of log (change ∷ earlier) ≡ changes_of log earlier
changes_of-not_same log change earlier other = ap (λ b. cond b (change ∷ changes_of log earlier) (changes_of log earlier)) other

-- and it concerns no other
pub changes_of-other : (log : Option (List ℕ)) (change : Change) (earlier : List Change) → (log ≡ asked_of earlier → ⊥) → changes_of log (change ∷ earlier) ≡ changes_of log earlier
changes_of-other log change earlier differ = changes_of-not_same log change earlier (is_other log (asked_of earlier) differ)

-- a fact on a log after one more change, shown for both cases
pub by_log : (log : Option (List ℕ)) (change : Change) (earlier : List Change) (P : List Change → Type 0) → (log ≡ asked_of earlier → P (change ∷ changes_of log earlier)) → P (changes_of log earlier) → P (changes_of log (change ∷ earlier))
by_log log change earlier P here elsewhere =
    ⊎_elim (λ same. subst P (sym (changes_of-same log change earlier same)) (here same))
    (λ other. subst P (sym (changes_of-not_same log change earlier other)) elsewhere)
    (same_or_other log (asked_of earlier))

-- ---- moments

pub Elapses-next : (log : Option (List ℕ)) (change : Change) (earlier : List Change) (stop stop' : Option ℕ) (attached attached' : Bool) (faults faults' : ℕ)
    → Elapses log (state_before stop earlier attached faults) (state_before stop' (change ∷ earlier) attached' faults') (MayLeave (changes_of log (change ∷ earlier)))
Elapses-next log change earlier stop stop' attached attached' faults faults' = record {
  later = omega arith;
  nothing_else = λ since image le left. ⊎_elim (λ now. inr now.1) (λ past. inl past) left;
  keeps = λ since image le left. inr left;
}

pub Elapses-still : (log : Option (List ℕ)) (changes : List Change) (stop stop' : Option ℕ) (attached attached' : Bool) (faults faults' : ℕ)
    → Elapses log (state_before stop changes attached faults) (state_before stop' changes attached' faults') (MayLeave (changes_of log changes))
Elapses-still log changes stop stop' attached attached' faults faults' = record { later = omega arith; nothing_else = λ since image le left. inl left; keeps = λ since image le left. left }

-- a sync leaves no image that wasn't there before
synced_alike : (log : Option (List ℕ)) (earlier : List Change) (stop stop' : Option ℕ) (attached attached' : Bool) (faults faults' : ℕ)
    → Untouched log (state_before stop earlier attached faults) (state_before stop' (Synced ∷ earlier) attached' faults')
synced_alike log earlier stop stop' attached attached' faults faults' = record {
  same = ap (λ content. Some content) (by_log log Synced earlier (λ changes. content_of changes ≡ content_of (changes_of log earlier)) (λ _. refl) refl);
  no_other = by_log log Synced earlier (λ changes. (image : Halves) → MayLeave changes image → MayLeave (changes_of log earlier) image)
      (λ _ image (is : image ≡ content_of (changes_of log earlier)). subst (MayLeave (changes_of log earlier)) (sym is) (MayLeave-content (changes_of log earlier)))
      (λ image left. left);
}

-- the attached log is as it was when its sync was recorded
synced_now : (earlier : List Change) → synced_of (changes_of (asked_of earlier) (Synced ∷ earlier)) ≡ content_of (changes_of (asked_of earlier) earlier)
synced_now earlier = ap synced_of (changes_of-same (asked_of earlier) Synced earlier refl)

-- a sync that is done and recorded
pub Syncs-recorded : (earlier later : List Change) (stop stop' : Option ℕ) (attached : Bool) (faults faults' : ℕ) → later ≡ Synced ∷ earlier → faults' ≡ faults → OneNearer stop stop'
    → Syncs {T = Unit {0}} (state_before stop earlier attached faults) (state_before stop' later attached faults') (Ok tt)
Syncs-recorded earlier later stop stop' attached faults faults' is same nearer =
    let asked = asked_of earlier in
    record {
      durable = λ _ image left. subst (λ (changes : List Change). MayLeave changes image) (ap (changes_of asked) is ∙ changes_of-same asked Synced earlier refl) left;
      synced = ap (λ (now : List Change). Some (synced_of (changes_of asked now))) is ∙ ap (λ content. Some content) (synced_now earlier);
      not_synced = tt;
      stop = record { done = nearer; not_done = tt; at_stop = λ is_err. absurd cc };
      leaves = record {
        stays = record { same_name = ap asked_of is; same_attached = refl };
        untouched = λ log. subst (λ (now : List Change). Untouched log (state_before stop earlier attached faults) (state_before stop' now attached faults')) (sym is)
            (synced_alike log earlier stop stop' attached attached faults faults');
        goes_on = record {
          honest = (λ h. h, λ h. h);
          time = λ log. subst (λ (now : List Change). Elapses log (state_before stop earlier attached faults) (state_before stop' now attached faults') (MayLeave (changes_of log now))) (sym is)
              (Elapses-next log Synced earlier stop stop' attached attached faults faults');
        };
      };
      cause = record { later = omega (arith, same); failed = λ is_err. absurd cc; ok = same; no_memory = λ is_err. absurd cc };
    }
