-- How time goes on from call to call of a disk.
use Rattle.std.proofs.Common.{◌≡◌, inl, inr, ⊎_elim, ℕ, List, ◌∙◌, subst, arith}
use Rattle.std.specs.declared.option.Option.{Option}
use Rattle.vp_outside.specs.Disk.{Halves, DiskState, log_of, StaysAttached, Untouched, Elapses}
use Rattle.vp_outside.specs.DiskCalls.{GoesOn, LeavesLogs}
use Rattle.vp_stable.specs.Moments.{LeavesOnly, Quiet, LeavesOthers}

-- no call
pub elapses_none : (log : Option (List ℕ)) (disk : DiskState) (P : Halves → Type 0) → Elapses log disk disk P
elapses_none log disk P = record { later = omega arith; nothing_else = λ t image le left. inl left; keeps = λ t image le left. left }

-- one call
pub elapses_as : (log : Option (List ℕ)) (old new : DiskState) (P Q : Halves → Type 0) → Elapses log old new P → ((image : Halves) → P image → Q image) → Elapses log old new Q
elapses_as log old new P Q time as_q = record {
  later = time.later;
  nothing_else = λ t image le left. ⊎_elim (λ was. inl was) (λ p. inr (as_q image p)) (time.nothing_else t image le left);
  keeps = time.keeps;
}

-- one call and then another
pub elapses_then : (log : Option (List ℕ)) (a b c : DiskState) (P Q R : Halves → Type 0) → Elapses log a b P → Elapses log b c Q
    → ((image : Halves) → P image → R image) → ((image : Halves) → Q image → R image) → Elapses log a c R
elapses_then log a b c P Q R first second p_r q_r = record {
  later = omega (arith, first.later, second.later);
  nothing_else = λ t image le left. ⊎_elim (λ was. ⊎_elim (λ old. inl old) (λ p. inr (p_r image p)) (first.nothing_else t image le was)) (λ q. inr (q_r image q))
      (second.nothing_else t image (omega (arith, le, first.later)) left);
  keeps = λ t image le left. second.keeps t image (omega (arith, le, first.later)) (first.keeps t image le left);
}

pub leaves_only : (old new : DiskState) (P : Halves → Type 0) → Elapses old.asked old new P → ((image : Halves) → old.left_since old.asked old.moment image → P image) → LeavesOnly old new P
leaves_only old new P time here = record { each = λ image left. ⊎_elim (here image) (λ p. p) (time.nothing_else old.moment image (omega arith) left); time = time }

stays_then : (a b c : DiskState) → StaysAttached a b → StaysAttached b c → StaysAttached a c
stays_then a b c first second = record { same_name = second.same_name ∙ first.same_name; same_attached = second.same_attached ∙ first.same_attached }

untouched_then : (log : Option (List ℕ)) (a b c : DiskState) → Untouched log a b → Untouched log b c → Untouched log a c
untouched_then log a b c first second = record { same = second.same ∙ first.same; no_other = λ image left. first.no_other image (second.no_other image left) }

-- ---- calls that change no log

pub quiet_join : {a b c : DiskState} → Quiet a b → Quiet b c → Quiet a c
quiet_join {a = a} {b = b} {c = c} first second = record {
  stays = stays_then a b c first.stays second.stays;
  as_honest = (λ h. second.as_honest.0 (first.as_honest.0 h), λ h. first.as_honest.1 (second.as_honest.1 h));
  untouched = λ log. untouched_then log a b c (first.untouched log) (second.untouched log);
  time = λ log. elapses_then log a b c _ _ _ (first.time log) (second.time log) (λ image left. left) (λ image left. (first.untouched log).no_other image left);
}

-- a call of the disk
pub quiet_one : {old new : DiskState} → LeavesLogs old new → Quiet old new
quiet_one {old = old} {new = new} call = record {
  stays = call.stays;
  as_honest = call.goes_on.honest;
  untouched = call.untouched;
  time = λ log. elapses_as log old new _ _ (call.goes_on.time log) (λ image left. (call.untouched log).no_other image left);
}

pub quiet_then : {a b c : DiskState} → Quiet a b → LeavesLogs b c → Quiet a c
quiet_then first call = quiet_join first (quiet_one call)

-- what is known in between was known at the beginning
pub told_before : {old new : DiskState} (P : Option Halves → Type 0) → Quiet old new → P (log_of new) → P (log_of old)
told_before {old = old} {new = new} P quiet h =
    subst P ((quiet.untouched old.asked).same) (subst (λ (name : Option (List ℕ)). P (new.logs name)) quiet.stays.same_name h)

-- ---- calls that change only the attached log

pub others_quiet : {old new : DiskState} → Quiet old new → LeavesOthers old new
others_quiet quiet = record { stays = quiet.stays; honest = quiet.as_honest; elsewhere = λ log other. quiet.untouched log; any_moment = λ log other. quiet.time log }

-- a call of the disk
pub others_one : {old new : DiskState} → StaysAttached old new → GoesOn old new → ((log : Option (List ℕ)) → (log ≡ old.asked → ⊥) → Untouched log old new) → LeavesOthers old new
others_one {old = old} {new = new} stays goes_on elsewhere = record {
  stays = stays;
  honest = goes_on.honest;
  elsewhere = elsewhere;
  any_moment = λ log other. elapses_as log old new _ _ (goes_on.time log) (λ image left. (elsewhere log other).no_other image left);
}

pub others_join : {a b c : DiskState} → LeavesOthers a b → LeavesOthers b c → LeavesOthers a c
others_join {a = a} {b = b} {c = c} first second =
    let still = λ (log : Option (List ℕ)) (other : log ≡ a.asked → ⊥) (same : log ≡ b.asked). other (same ∙ first.stays.same_name) in
    record {
      stays = stays_then a b c first.stays second.stays;
      honest = (λ h. second.honest.0 (first.honest.0 h), λ h. first.honest.1 (second.honest.1 h));
      elsewhere = λ log other. untouched_then log a b c (first.elsewhere log other) (second.elsewhere log (still log other));
      any_moment = λ log other. elapses_then log a b c _ _ _ (first.any_moment log other) (second.any_moment log (still log other)) (λ image left. left)
          (λ image left. (first.elsewhere log other).no_other image left);
    }
