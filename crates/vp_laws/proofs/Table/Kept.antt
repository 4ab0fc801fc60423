-- The answers that a step keeps: those to operations, and at the end of a transaction its end.
use Rattle.std.proofs.Common.{◌≡◌, ◌⊎◌, ap, sym, subst, ℕ, Bool, true, false, List, [], ◌∷◌, inl, inr, refl, ⊎_elim}
use Rattle.std.specs.Prelude.{Option, Some, None, option_map, option_to_list}
use Rattle.std.proofs.lemmas.Option.{slice_get_within, get_or_from_slice_get}
use Rattle.vp_model.specs.Types.{TxnId, Answer, Reply, Commit, Input, Pending, Live, Ending, Finished}
use Rattle.vp_base.specs.declared.site.Ending.TheVariants.{Committed}
use Rattle.vp_model.specs.Types.answer
use Rattle.vp_model.specs.Types.op
use Rattle.vp_model.specs.Catalogue.{Catalogue}
use Rattle.vp_model.specs.Site.{CoordinatorState, SiteState}
use Rattle.vp_model.specs.Transactions.{Deed, deed_answer, answer_of, answers_after, put_live, with_finished}
use Rattle.vp_model.specs.Calls.{begun, kept_answer}
use Rattle.vp_model.specs.Step.{mark, step}
use Rattle.vp_laws.proofs.Lists.Members.{Has, has_of, has_none, has_cases, has_one_is, map_has}
use Rattle.vp_laws.proofs.Lists.Changes.{without_first_has, change_first_has, at_most_has}
use Rattle.vp_laws.proofs.Lists.Names.{named}
use Rattle.vp_laws.proofs.Moves.Table.{next_name, Handled}
use Rattle.vp_laws.proofs.Moves.Reasons.{Goes, Front}
use Rattle.vp_laws.proofs.Moves.FrontSteps.{step-front}
use Rattle.vp_laws.proofs.Moves.Calls.{done, waiting}

-- the answer reports an operation
abbrev pub is_report : Answer → Bool
is_report (answer.Value txn number value) = true
is_report (answer.Absent txn number) = true
is_report (answer.Written txn number) = true
is_report (answer.Deleted txn number) = true
is_report (answer.Weighed txn number) = true
is_report _ = false

-- a kept answer reports an operation, or is the transaction's end
abbrev pub KeptEnd : Finished → Answer → Type 0
KeptEnd f a = (is_report a ≡ true) ⊎ ((number : ℕ) × (a ≡ answer_of f.txn number f.ending))

pub record AnswersKept (c : CoordinatorState) : Type 0 where
  -- a live transaction has answered operations alone
  pub live : (t : Live) → Has c.live t → (a : Answer) → Has t.answers a → is_report a ≡ true
  -- and a finished one its end beside
  pub finished : (f : Finished) → Has c.finished f → (a : Answer) → Has f.answers a → KeptEnd f a

pub kept_has : (number : ℕ) (answers : List Answer) (a : Answer) → kept_answer number answers ≡ Some a → Has answers a
kept_has number answers a e = has_of answers a (_, slice_get_within answers _ a e, get_or_from_slice_get answers _ a a e)

-- the answer to a call that is done reports it
pub deed_report : (txn : TxnId) (number : ℕ) (deed : Deed) → is_report (deed_answer txn number deed) ≡ true
deed_report txn number (Deed.operates (op.Read rec None)) = refl
deed_report txn number (Deed.operates (op.Read rec (Some value))) = refl
deed_report txn number (Deed.operates (op.Write rec None)) = refl
deed_report txn number (Deed.operates (op.Write rec (Some value))) = refl
deed_report txn number (Deed.weighs rec table) = refl

module _ (catalogue : Catalogue) (x : SiteState) (given : Input) (after : SiteState) (kept : AnswersKept x.coordinator) where
  abbrev G : CoordinatorState → List Reply → List Commit → Type 0
  G c rs cs = AnswersKept c

  -- the transaction goes on as u
  moved : (u : Live) → ((a : Answer) → Has u.answers a → is_report a ≡ true) → AnswersKept (put_live u x.coordinator)
  moved u reports = record {
    live = λ t h. ⊎_elim (λ (new : t ≡ u). rw new reports) (λ old. kept.live t old) (change_first_has (named u.txn) u x.live t h);
    finished = kept.finished;
  }

  -- what a finished transaction keeps
  after_end : (t : Live) (why : Ending) (c : CoordinatorState) → ((a : Answer) → Has t.answers a → is_report a ≡ true) → AnswersKept c → AnswersKept (with_finished t why c)
  after_end t why c reports k = record {
    live = λ u h. k.live u (without_first_has (named t.txn) c.live u h);
    finished = λ f h. ⊎_elim (λ old. k.finished f old)
        (λ new. let e = has_one_is (record { txn = t.txn; answers = answers_after t why; ending = why }) f new in subst (λ (f : Finished). (a : Answer) → Has f.answers a → KeptEnd f a) e own)
        (has_cases c.finished ((record { txn = t.txn; answers = answers_after t why; ending = why }) ∷ []) f (at_most_has 1024 _ f h));
  }
    where
      own : (a : Answer) → Has (answers_after t why) a → KeptEnd (record { txn = t.txn; answers = answers_after t why; ending = why }) a
      own a h = ⊎_elim (λ old. inl (reports a old)) (λ new. inr (last t.pending new)) (has_cases t.answers _ a h)
        where
          last : (p : Option Pending) → Has (option_to_list (option_map (λ p. answer_of t.txn p.number why) p)) a → (number : ℕ) × (a ≡ answer_of t.txn number why)
          last None q = absurd (has_none a q)
          last (Some p) q = (p.number, sym (has_one_is _ a q))

  reports_of : (t : Live) → Handled x t → (a : Answer) → Has t.answers a → is_report a ≡ true
  reports_of t n a h = kept.live n.was n.live a (rw (ap (λ (t : Live). t.answers) n.same) at h)

  goes_on : (t u : Live) (p : Pending) → Has x.live t → Goes t p u → (a : Answer) → Has u.answers a → is_report a ≡ true
  goes_on t u p h (Goes.reads rec q) = kept.live t h
  goes_on t u p h (Goes.writes sites) = kept.live t h
  goes_on t u p h (Goes.prepares sites) = kept.live t h

  front : Front catalogue x given after G
  front = record {
    begin = λ port view held c. let t = begun (next_name x) view.id in record {
      live = λ u h. ⊎_elim (λ old. kept.live u old) (λ new. rw (← has_one_is t u new) (λ a q. absurd (has_none a q))) (has_cases x.live (t ∷ []) u h);
      finished = kept.finished;
    };
    tells = λ words port t. kept;
    complete = λ t p deed l h d z. let words = deed_answer t.txn p.number deed in
        moved (done t p deed) (λ a q. ⊎_elim (λ old. kept.live t h a old) (λ new. rw (← has_one_is words a new) (deed_report t.txn p.number deed)) (has_cases t.answers (words ∷ []) a q));
    goes = λ t u p at g. moved u (goes_on t u p at.live g);
    still = λ t p sites a. moved (waiting t p sites) (kept.live t a.live);
    decide = λ t c n d w v f s. after_end t Committed c (reports_of t n) (record { live = rw v kept.live; finished = rw f kept.finished });
    close = λ t why c rs n w g. after_end t why c (reports_of t n) g;
    marks = λ c rs g. record { live = λ t h a q. let r = map_has mark c.live t h in g.live r.0 r.1 a (rw (← ap (λ (t : Live). t.answers) r.2) at q); finished = g.finished };
    acknowledge = λ txn from. record { live = kept.live; finished = kept.finished };
    inviting = λ c rs port is g. g;
  }

pub kept-step : (catalogue : Catalogue) (x : SiteState) (given : Input) → AnswersKept x.coordinator → AnswersKept (step catalogue x given).site.coordinator
kept-step catalogue x given kept = step-front catalogue x given (λ c rs cs. AnswersKept c) (front catalogue x given (step catalogue x given).site kept) kept
