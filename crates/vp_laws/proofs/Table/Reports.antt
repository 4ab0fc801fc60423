-- Why a reply of a step reports an operation: the site kept it, or the step does that operation.
use Rattle.std.proofs.Common.{◌≡◌, subst, ℕ, false, List, [], ◌∷◌, ◌++◌, refl, ⊎_elim, inl}
use Rattle.std.specs.Prelude.{None}
use Rattle.vp_model.specs.Types.{TxnId, Answer, Reply, Input, Pending, Live}
use Rattle.vp_base.specs.declared.site.Ending.TheVariants.{Committed}
use Rattle.vp_model.specs.Types.answer
use Rattle.vp_model.specs.Catalogue.{Catalogue}
use Rattle.vp_model.specs.Site.{SiteState, Lent}
use Rattle.vp_model.specs.Transactions.{Deed, deed_answer}
use Rattle.vp_model.specs.Step.{step}
use Rattle.vp_model.specs.Told.{is_early_refusal}
use Rattle.vp_laws.proofs.Table.Heard.{heard}
use Rattle.vp_laws.proofs.Lists.Members.{Has, has_none, has_one_is, has_cases}
use Rattle.vp_laws.proofs.Moves.Table.{next_view, Completes}
use Rattle.vp_laws.proofs.Table.Kept.{kept_has}
use Rattle.vp_laws.proofs.Moves.Reasons.{Tells, told_to, last_reply, IsDone, Front}
use Rattle.vp_laws.proofs.Moves.FrontSteps.{step-front}
use Rattle.vp_laws.proofs.Table.Told.{completed_says, completes_no_bar, IsKept, AreLate, IsSilent, plain_unheard, last_silent, why_late, late_more, end_unheard}

pub data Cause (catalogue : Catalogue) (x : SiteState) (given : Input) (rs : List Reply) : Answer → Type 0 where
  nothing : {a : Answer} → ((u : TxnId) → heard u a ≡ None) → Cause catalogue x given rs a
  kept : {a : Answer} → IsKept x a → Cause catalogue x given rs a
  done : (t : Live) (p : Pending) (deed : Deed) (l : Lent) → Has x.live t → IsDone x given t p → Completes catalogue x given t p deed l → AreLate rs → Cause catalogue x given rs (deed_answer t.txn p.number deed)

module _ (catalogue : Catalogue) (x : SiteState) (given : Input) where
  abbrev pub Caused : List Reply → Type 0
  Caused rs = (r : Reply) → Has rs r → Cause catalogue x given rs r.answer

  none : Caused []
  none r h = absurd (has_none r h)

  one : (port : ℕ) (a : Answer) → Cause catalogue x given (told_to port a ∷ []) a → Caused (told_to port a ∷ [])
  one port a c r h = subst (λ (r : Reply). Cause catalogue x given (told_to port a ∷ []) r.answer) (has_one_is (told_to port a) r h) c

  tells : (rs : List Reply) (port : ℕ) (words : Answer) → Tells catalogue x given port words → Cause catalogue x given rs words
  tells rs _ words (Tells.plain w e port called c is) = Cause.nothing (λ u. plain_unheard u w e)
  tells rs _ words (Tells.inaccessible t p name rec exclusive deed weights at op f a e) = Cause.nothing (λ u. refl)
  tells rs _ words (Tells.again t number w h e c) = Cause.kept (IsKept.live t h (kept_has number t.answers w e))
  tells rs _ words (Tells.finished_again f number w h e c) = Cause.kept (IsKept.finished f h (kept_has number f.answers w e))
  tells rs _ words (Tells.ended f number h e c) = Cause.nothing (λ u. end_unheard u f.txn number f.ending)

  alone_late : (port : ℕ) (a : Answer) → is_early_refusal a ≡ false → AreLate (told_to port a ∷ [])
  alone_late port a e r h = subst (λ (r : Reply). is_early_refusal r.answer ≡ false) (has_one_is (told_to port a) r h) e

  more_replies : (rs extra : List Reply) → IsSilent given extra → Caused rs → Caused (rs ++ extra)
  more_replies rs extra s g r h = ⊎_elim (λ old. wider (g r old)) (λ new. Cause.nothing (λ u. s.reports u r new)) (has_cases rs extra r h)
    where
      wider : {a : Answer} → Cause catalogue x given rs a → Cause catalogue x given (rs ++ extra) a
      wider (Cause.nothing e) = Cause.nothing e
      wider (Cause.kept k) = Cause.kept k
      wider (Cause.done t p operation l k d c late) = Cause.done t p operation l k d c (late_more catalogue x given rs extra s (λ bar. completes_no_bar catalogue x given t p operation l c bar) late)

  inviting_silent : (port : ℕ) → IsSilent given (told_to port (answer.Inviting (next_view x)) ∷ [])
  inviting_silent port = record {
    reports = λ u r h. subst (λ (r : Reply). heard u r.answer ≡ None) (has_one_is (told_to port (answer.Inviting (next_view x))) r h) refl;
    late = λ r h. inl (alone_late port (answer.Inviting (next_view x)) refl r h);
  }

  front : (after : SiteState) → Front catalogue x given after (λ c rs cs. Caused rs)
  front after = record {
    begin = λ port view held c. one port _ (Cause.nothing (λ u. refl));
    tells = λ words port t. one port words (tells _ port words t);
    complete = λ t p deed l h d c. one p.port _ (Cause.done t p deed l h d c (alone_late p.port _ (completed_says catalogue x given t p deed l c).late));
    goes = λ t u p at g. none;
    still = λ t p sites a. none;
    decide = λ t c n d w v f s. more_replies [] (last_reply t Committed) (last_silent catalogue x given t Committed (inl refl)) none;
    close = λ t why c rs n w g. more_replies rs (last_reply t why) (last_silent catalogue x given t why (why_late catalogue x given after t why w)) g;
    marks = λ c rs g. g;
    acknowledge = λ txn from. none;
    inviting = λ c rs port is g. more_replies rs _ (inviting_silent port) g;
  }

pub causes-step : (catalogue : Catalogue) (x : SiteState) (given : Input) → Caused catalogue x given (step catalogue x given).effects.replies
causes-step catalogue x given = step-front catalogue x given (λ c rs cs. Caused catalogue x given rs) (front catalogue x given (step catalogue x given).site) (none catalogue x given)
