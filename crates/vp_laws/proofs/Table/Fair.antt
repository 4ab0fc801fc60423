-- What a step refuses, and what it keeps of that: each refusal has its cause, and each closed transaction the cause of its end.
use Rattle.std.proofs.Common.{◌≡◌, ◌∙◌, ap, subst, ℕ, Bool, true, false, List, [], ◌∷◌, ◌++◌, refl, ⊎_elim, length}
use Rattle.std.specs.Prelude.{Option, Some, None, option_map, option_to_list, nat_le}
use Rattle.vp_model.specs.Types.{View, Answer, Reply, Commit, Input, Pending, Live, Ending, Finished}
use Rattle.vp_base.specs.declared.site.Ending.TheVariants.{Committed}
use Rattle.vp_model.specs.Types.answer
use Rattle.vp_model.specs.Catalogue.{Catalogue, find_record, inside, total}
use Rattle.vp_model.specs.Site.{CoordinatorState, SiteState}
use Rattle.vp_model.specs.Transactions.{Deed, answer_of, answers_after, put_live, with_finished}
use Rattle.vp_model.specs.Calls.{begun, with_begun, kept_answer}
use Rattle.vp_model.specs.Answers.{with_acknowledged}
use Rattle.vp_model.specs.Step.{mark, step}
use Rattle.vp_laws.proofs.Lists.Members.{Has, has_none, has_one, has_left, has_right, has_cases, has_one_is, map_has}
use Rattle.vp_laws.proofs.Lists.Changes.{without_first_has, change_first_has, at_most_has}
use Rattle.vp_laws.proofs.Lists.Names.{named}
use Rattle.vp_laws.proofs.Moves.Table.{Tries, next_view, next_name, Handled}
use Rattle.vp_laws.proofs.Table.Kept.{AnswersKept, kept_has, deed_report, is_report}
use Rattle.vp_laws.proofs.Moves.Reasons.{IsCallOf, Operates, Takes, Why, Tells, Unable, is_plain, told_to, last_reply, Goes, Front}
use Rattle.vp_laws.proofs.Moves.FrontSteps.{step-front}
use Rattle.vp_laws.proofs.Moves.Calls.{done, waiting, reading, writing}

-- an answer that needs no cause
abbrev pub is_free : Answer → Bool
is_free (answer.Inaccessible txn number name inside total) = false
is_free (answer.LockHeld txn number name at owner) = false
is_free (answer.ViewChanged txn number at held now) = false
is_free _ = true

abbrev pub finished_as : Live → Ending → Finished
finished_as t why = record { txn = t.txn; answers = answers_after t why; ending = why }

-- a live transaction was live, or begins in this step
pub data LiveFrom (x : SiteState) (rs : List Reply) (t : Live) : Type 0 where
  was : (u : Live) → Has x.live u → u.txn ≡ t.txn → u.view ≡ t.view → LiveFrom x rs t
  begins : (port : ℕ) → Has rs (told_to port (answer.Begun t.txn t.view)) → LiveFrom x rs t

-- a finished one was finished, or ends in this step with its cause, and a pending call of it is told
pub data FinishedFrom (catalogue : Catalogue) (x : SiteState) (given : Input) (after : SiteState) (rs : List Reply) : Finished → Type 0 where
  was : (f : Finished) → Has x.finished f → FinishedFrom catalogue x given after rs f
  committed : (t : Live) → Handled x t → FinishedFrom catalogue x given after rs (finished_as t Committed)
  closed : (t : Live) (why : Ending) → Handled x t → Why catalogue x given after t why → ((p : Pending) → t.pending ≡ Some p → Has rs (told_to p.port (answer_of t.txn p.number why))) → FinishedFrom catalogue x given after rs (finished_as t why)

-- an answer needs no cause, or has one, or is repeated to a call of its transaction
pub data ReplyFrom (catalogue : Catalogue) (x : SiteState) (given : Input) (after : SiteState) : Answer → Type 0 where
  free : (a : Answer) → is_free a ≡ true → ReplyFrom catalogue x given after a
  inaccessible : (t : Live) (p : Pending) (name : List ℕ) (rec : ℕ) (exclusive : Bool) (deed : Deed) (weights : ℕ × ℕ) → Takes x given t p → Operates p.call name exclusive → find_record catalogue name ≡ Some rec → Tries p.call rec deed → Unable catalogue x t rec deed weights → ReplyFrom catalogue x given after (answer.Inaccessible t.txn p.number name weights.0 weights.1)
  repeated : (f : Finished) (number : ℕ) (a : Answer) → Has x.finished f → kept_answer number f.answers ≡ Some a → IsCallOf given f.txn number → ReplyFrom catalogue x given after a
  ended : (f : Finished) (number : ℕ) → Has x.finished f → nat_le number (length f.answers) ≡ false → IsCallOf given f.txn number → ReplyFrom catalogue x given after (answer_of f.txn number f.ending)
  closed : (t : Live) (why : Ending) (p : Pending) → Handled x t → Why catalogue x given after t why → t.pending ≡ Some p → ReplyFrom catalogue x given after (answer_of t.txn p.number why)

pub record Causes (catalogue : Catalogue) (x : SiteState) (given : Input) (after : SiteState) (c : CoordinatorState) (rs : List Reply) (cs : List Commit) : Type 0 where
  pub live : (t : Live) → Has c.live t → LiveFrom x rs t
  pub finished : (f : Finished) → Has c.finished f → FinishedFrom catalogue x given after rs f
  pub says : (r : Reply) → Has rs r → ReplyFrom catalogue x given after r.answer

plain_free : (a : Answer) → is_plain a ≡ true → is_free a ≡ true
plain_free (answer.Inaccessible txn number name inside total) e = cc
plain_free (answer.LockHeld txn number name at owner) e = cc
plain_free (answer.ViewChanged txn number at held now) e = cc
plain_free _ e = refl

report_free : (a : Answer) → is_report a ≡ true → is_free a ≡ true
report_free (answer.Inaccessible txn number name inside total) e = cc
report_free (answer.LockHeld txn number name at owner) e = cc
report_free (answer.ViewChanged txn number at held now) e = cc
report_free _ e = refl

live_more : (x : SiteState) (rs more : List Reply) (t : Live) → LiveFrom x rs t → LiveFrom x (rs ++ more) t
live_more x rs more t (LiveFrom.was u h e f) = LiveFrom.was u h e f
live_more x rs more t (LiveFrom.begins port h) = LiveFrom.begins port (has_left rs more _ h)

live_as : (x : SiteState) (rs : List Reply) (t u : Live) → t.txn ≡ u.txn → t.view ≡ u.view → LiveFrom x rs t → LiveFrom x rs u
live_as x rs t u e f (LiveFrom.was v h g k) = LiveFrom.was v h (g ∙ e) (k ∙ f)
live_as x rs t u e f (LiveFrom.begins port h) = LiveFrom.begins port (rw (← e, ← f) h)

finished_more : (catalogue : Catalogue) (x : SiteState) (given : Input) (after : SiteState) (rs more : List Reply) (f : Finished) → FinishedFrom catalogue x given after rs f → FinishedFrom catalogue x given after (rs ++ more) f
finished_more catalogue x given after rs more f (FinishedFrom.was g h) = FinishedFrom.was g h
finished_more catalogue x given after rs more f (FinishedFrom.committed t n) = FinishedFrom.committed t n
finished_more catalogue x given after rs more f (FinishedFrom.closed t why n w told) = FinishedFrom.closed t why n w (λ p e. has_left rs more _ (told p e))

module _ (catalogue : Catalogue) (x : SiteState) (given : Input) (after : SiteState) (kept : AnswersKept x.coordinator) where
  abbrev G : CoordinatorState → List Reply → List Commit → Type 0
  G = Causes catalogue x given after

  was_live : (rs : List Reply) (t : Live) → Has x.live t → LiveFrom x rs t
  was_live rs t h = LiveFrom.was t h refl refl

  starts : G x.coordinator [] []
  starts = record { live = was_live []; finished = λ f h. FinishedFrom.was f h; says = λ r h. absurd (has_none r h) }

  tells : (port : ℕ) (words : Answer) → Tells catalogue x given port words → ReplyFrom catalogue x given after words
  tells _ words (Tells.plain w e port called c is) = ReplyFrom.free w (plain_free w e)
  tells _ _ (Tells.inaccessible t p name rec exclusive deed weights at op f a e) = ReplyFrom.inaccessible t p name rec exclusive deed weights at op f a e
  tells _ words (Tells.again t number w h e c) = ReplyFrom.free w (report_free w (kept.live t h w (kept_has number t.answers w e)))
  tells _ words (Tells.finished_again f number w h e c) = ReplyFrom.repeated f number w h e c
  tells _ words (Tells.ended f number h e c) = ReplyFrom.ended f number h e c

  -- one reply, and other live transactions of the same names and views
  replies : (c : CoordinatorState) (port : ℕ) (a : Answer) → c.finished ≡ x.finished → ((t : Live) → Has c.live t → LiveFrom x (told_to port a ∷ []) t) → ReplyFrom catalogue x given after a → G c (told_to port a ∷ []) []
  replies c port a f live says = record {
    live = live;
    finished = λ g h. FinishedFrom.was g (rw f at h);
    says = λ r h. subst (λ (r : Reply). ReplyFrom catalogue x given after r.answer) (has_one_is (told_to port a) r h) says;
  }

  silent : (c : CoordinatorState) → c.finished ≡ x.finished → ((t : Live) → Has c.live t → LiveFrom x [] t) → G c [] []
  silent c f live = record { live = live; finished = λ g h. FinishedFrom.was g (rw f at h); says = λ r h. absurd (has_none r h) }

  -- the transaction goes on as u
  moved : (rs : List Reply) (t u : Live) → Has x.live t → t.txn ≡ u.txn → t.view ≡ u.view → (a : Live) → Has (put_live u x.coordinator).live a → LiveFrom x rs a
  moved rs t u h e f a k = ⊎_elim (λ (new : a ≡ u). rw new (LiveFrom.was t h e f)) (λ old. was_live rs a old) (change_first_has (named u.txn) u x.live a k)

  goes_on : (t u : Live) (p : Pending) → Has x.live t → Goes t p u → G (put_live u x.coordinator) [] []
  goes_on t u p h (Goes.reads rec q) = silent (put_live (reading t p rec q) x.coordinator) refl (moved [] t (reading t p rec q) h refl refl)
  goes_on t u p h (Goes.writes sites) = silent (put_live (writing t p sites) x.coordinator) refl (moved [] t (writing t p sites) h refl refl)
  goes_on t u p h (Goes.prepares sites) = silent (put_live (waiting t p sites) x.coordinator) refl (moved [] t (waiting t p sites) h refl refl)

  last_has : (t : Live) (why : Ending) (p : Pending) → t.pending ≡ Some p → Has (last_reply t why) (told_to p.port (answer_of t.txn p.number why))
  last_has t why p e = rw e (has_one _)

  last_from : (t : Live) (why : Ending) (r : Reply) → Has (last_reply t why) r → (p : Pending) × (t.pending ≡ Some p) × (answer_of t.txn p.number why ≡ r.answer)
  last_from t why r h = go t.pending refl h
    where
      go : (q : Option Pending) → t.pending ≡ q → Has (option_to_list (option_map (λ p. told_to p.port (answer_of t.txn p.number why)) q)) r → (p : Pending) × (t.pending ≡ Some p) × (answer_of t.txn p.number why ≡ r.answer)
      go None e q = absurd (has_none r q)
      go (Some p) e q = (p, e, ap (λ (r : Reply). r.answer) (has_one_is _ r q))

  closes : (t : Live) (why : Ending) (c : CoordinatorState) (rs : List Reply) → Handled x t → Why catalogue x given after t why → G c rs [] → G (with_finished t why c) (rs ++ last_reply t why) []
  closes t why c rs n w g = record {
    live = λ u h. live_more x rs (last_reply t why) u (g.live u (without_first_has (named t.txn) c.live u h));
    finished = λ f h. ⊎_elim (λ old. finished_more catalogue x given after rs (last_reply t why) f (g.finished f old))
        (λ new. subst (FinishedFrom catalogue x given after (rs ++ last_reply t why)) (has_one_is (finished_as t why) f new) (FinishedFrom.closed t why n w (λ p e. has_right rs (last_reply t why) _ (last_has t why p e))))
        (has_cases c.finished (finished_as t why ∷ []) f (at_most_has 1024 _ f h));
    says = λ r h. ⊎_elim (λ old. g.says r old) (λ new. let q = last_from t why r new in subst (ReplyFrom catalogue x given after) q.2 (ReplyFrom.closed t why q.0 n w q.1)) (has_cases rs (last_reply t why) r h);
  }

  commits : (t : Live) (c : CoordinatorState) (cs : List Commit) → Handled x t → c.live ≡ x.live → c.finished ≡ x.finished → G (with_finished t Committed c) (last_reply t Committed) cs
  commits t c cs n v f = record {
    live = λ u h. was_live (last_reply t Committed) u (rw v at (without_first_has (named t.txn) c.live u h));
    finished = λ g h. ⊎_elim (λ old. FinishedFrom.was g (rw f at old))
        (λ new. subst (FinishedFrom catalogue x given after (last_reply t Committed)) (has_one_is (finished_as t Committed) g new) (FinishedFrom.committed t n))
        (has_cases c.finished (finished_as t Committed ∷ []) g (at_most_has 1024 _ g h));
    says = λ r h. let q = last_from t Committed r h in subst (ReplyFrom catalogue x given after) q.2 (ReplyFrom.free (answer.Committed t.txn q.0.number) refl);
  }

  begins_now : (port : ℕ) (view : View) → G (with_begun (begun (next_name x) view.id) x.coordinator) (told_to port (answer.Begun (next_name x) view.id) ∷ []) []
  begins_now port view =
      let t = begun (next_name x) view.id in
      replies (with_begun t x.coordinator) port (answer.Begun (next_name x) view.id) refl
      (λ u h. ⊎_elim (λ old. was_live _ u old) (λ new. subst (LiveFrom x (told_to port (answer.Begun (next_name x) view.id) ∷ [])) (has_one_is t u new) (LiveFrom.begins port (has_one _))) (has_cases x.live (t ∷ []) u h))
      (ReplyFrom.free (answer.Begun (next_name x) view.id) refl)

  pub front : Front catalogue x given after G
  front = record {
    begin = λ port view held c. begins_now port view;
    tells = λ words port t. replies x.coordinator port words refl (λ u h. was_live _ u h) (tells port words t);
    complete = λ t p deed l h d z. replies (put_live (done t p deed) x.coordinator) p.port _ refl (moved _ t (done t p deed) h refl refl) (ReplyFrom.free _ (report_free _ (deed_report t.txn p.number deed)));
    goes = λ t u p at g. goes_on t u p at.live g;
    still = λ t p sites a. silent (put_live (waiting t p sites) x.coordinator) refl (moved [] t (waiting t p sites) a.live refl refl);
    decide = λ t c n d w v f s. commits t c _ n v f;
    close = λ t why c rs n w g. closes t why c rs n w g;
    marks = λ c rs g. record {
      live = λ t h. let r = map_has mark c.live t h in live_as x rs r.0 t (ap (λ (t : Live). t.txn) r.2) (ap (λ (t : Live). t.view) r.2) (g.live r.0 r.1);
      finished = g.finished;
      says = g.says;
    };
    acknowledge = λ txn from. silent (with_acknowledged txn from x.coordinator) refl (λ t h. was_live [] t h);
    inviting = λ c rs port is g. record {
      live = λ t h. live_more x rs _ t (g.live t h);
      finished = λ f h. finished_more catalogue x given after rs _ f (g.finished f h);
      says = λ r h. ⊎_elim (λ old. g.says r old) (λ new. subst (λ (r : Reply). ReplyFrom catalogue x given after r.answer) (has_one_is (told_to port (answer.Inviting (next_view x))) r new) (ReplyFrom.free (answer.Inviting (next_view x)) refl)) (has_cases rs _ r h);
    };
  }

pub causes-step : (catalogue : Catalogue) (x : SiteState) (given : Input) → AnswersKept x.coordinator → let o = step catalogue x given in Causes catalogue x given o.site o.site.coordinator o.effects.replies o.effects.commits
causes-step catalogue x given kept = step-front catalogue x given (Causes catalogue x given (step catalogue x given).site) (front catalogue x given (step catalogue x given).site kept) (starts catalogue x given (step catalogue x given).site kept)
