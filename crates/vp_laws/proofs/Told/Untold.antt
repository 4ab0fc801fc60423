-- No operation of a transaction that another view closed was reported with a number at which that is replied, or with a higher one.
use Rattle.std.proofs.Common.{◌≡◌, ◌⊎◌, ◌∙◌, ap, sym, subst, ℕ, ◌+◌, ◌<◌, ◌≤◌, Bool, true, false, List, [], ◌∷◌, ◌++◌, map, refl, arith, inl, inr, ⊎_elim, length, length-append}
use Rattle.std.specs.Prelude.{Option, Some, None, option_map, option_to_list, nat_le, ◌||◌}
use Rattle.std.specs.List.{AllByRecursion, list_any}
use Rattle.std.proofs.lemmas.Bool.Decides.{nat_tests}
use Rattle.vp_model.specs.Types.{TxnId, Obstacle, Call, Answer, Input, Line, Pending, Live, Ending, Finished, Reply}
use Rattle.vp_base.specs.declared.site.Ending.TheVariants.{Committed, Aborted, LockHeld, ViewChanged, TimedOut, Inaccessible}
use Rattle.vp_model.specs.Types.answer
use Rattle.vp_model.specs.Types.call
use Rattle.vp_model.specs.Types.input
use Rattle.vp_model.specs.Types.message
use Rattle.vp_model.specs.Catalogue.{Catalogue, Table as Weights}
use Rattle.vp_model.specs.Site.{SiteState, Lent, Stepped}
use Rattle.vp_model.specs.Transactions.{Deed, answer_of, answers_after}
use Rattle.vp_model.specs.Calls.{change_asked, on_call}
use Rattle.vp_model.specs.Messages.{on_message}
use Rattle.vp_model.specs.Step.{step, on_input}
use Rattle.vp_model.specs.Told.{answers_in, reports, weighed_in}
use Rattle.vp_model.specs.World.{WorldState, Moment}
use Rattle.vp_model.specs.Justified.{told_from}
use Rattle.vp_laws.proofs.Table.ToldLines.{Report, reports-silent}
use Rattle.vp_laws.proofs.Table.Heard.{heard}
use Rattle.vp_laws.proofs.Table.ToldCalls.{TellsCall}
use Rattle.vp_laws.proofs.Lists.Members.{Has, has_none, has_cases, has_one_is, map_has}
use Rattle.vp_laws.proofs.Moves.Table.{Comes, Handled, Completes}
use Rattle.vp_laws.proofs.Moves.Reasons.{Why}
use Rattle.vp_laws.proofs.Table.Led.{Led}
use Rattle.vp_laws.proofs.Table.Endings.{NotLive, Settled}
use Rattle.vp_laws.proofs.Table.Kept.{is_report, kept_has}
use Rattle.vp_laws.proofs.Table.Told.{IsKept, Repeats, ToldNow, told-step}
use Rattle.vp_laws.proofs.Table.Reports.{Cause, causes-step}
use Rattle.vp_laws.proofs.Table.Fair.{is_free, finished_as, FinishedFrom, ReplyFrom, Causes, causes-step as fair-step}
use Rattle.vp_laws.proofs.Worlds.Scenes.{Scene, scene_of, plain_at, acted}
use Rattle.vp_laws.proofs.Worlds.Events.{Arrives}
use Rattle.vp_laws.proofs.Worlds.Sites.{Quiet, quiet_is, finished_still, NowIs, now_is}
use Rattle.vp_laws.proofs.Replies.Fair.{Untold}
use Rattle.vp_laws.proofs.Replies.FairStep.{IsStep}
use Rattle.vp_laws.proofs.Told.At.{ToldAt}
use Rattle.vp_laws.proofs.Told.Moves.{repeats_now}
use Rattle.vp_laws.proofs.Told.Tables.{WeighsAt, same_numbers}
use Rattle.vp_laws.proofs.Table.Weighs.{numbers-silent}
use Rattle.vp_laws.proofs.Keeping.Does.{Does, does}
use Rattle.vp_laws.proofs.Invariant.Known.{Known}

-- the ends that a finished transaction says: that of its pending call, and under each larger number
pub record UntoldEnd (lines : List Line) (f : Finished) : Type 0 where
  pub answers : (n : ℕ) → Has f.answers (answer_of f.txn n f.ending) → Untold lines (answer_of f.txn n f.ending)
  pub later : (n : ℕ) → length f.answers < n → Untold lines (answer_of f.txn n f.ending)

abbrev pub UntoldAt : Scene → List Line → Type 0
UntoldAt w lines = (s : ℕ) (x : SiteState) (f : Finished) → plain_at w s ≡ Some x → Has x.finished f → UntoldEnd lines f

-- nothing new is reported of the transaction
abbrev SameTold : List Line → List Line → TxnId → Type 0
SameTold lines more txn = (reports more txn ≡ reports lines txn) × (weighed_in more txn ≡ weighed_in lines txn)

untold_same : (lines more : List Line) (txn : TxnId) → SameTold lines more txn → (n : ℕ) (why : Ending) → Untold lines (answer_of txn n why) → Untold more (answer_of txn n why)
untold_same lines more txn e n Committed h = tt
untold_same lines more txn e n Aborted h = tt
untold_same lines more txn e n (LockHeld name at holder) h = tt
untold_same lines more txn e n (ViewChanged at held now) h =
    subst (λ (rs : List Report). (list_any (λ (r : Report). nat_le n r.0) rs || list_any (nat_le n) (weighed_in more txn)) ≡ false) (sym e.0)
    (subst (λ (ns : List ℕ). (list_any (λ (r : Report). nat_le n r.0) (reports lines txn) || list_any (nat_le n) ns) ≡ false) (sym e.1) h)
untold_same lines more txn e n (TimedOut at) h = tt
untold_same lines more txn e n (Inaccessible name inside total) h = tt

end_same : (lines more : List Line) (f : Finished) → SameTold lines more f.txn → UntoldEnd lines f → UntoldEnd more f
end_same lines more f e h = record {
  answers = λ n there. untold_same lines more f.txn e n f.ending (h.answers n there);
  later = λ n above. untold_same lines more f.txn e n f.ending (h.later n above);
}

-- a line with no answers
pub silent_untold : (w : Scene) (lines : List Line) (l : Line) → answers_in l ≡ [] → UntoldAt w lines → UntoldAt w (lines ++ l ∷ [])
silent_untold w lines l none h s x f up there = end_same lines (lines ++ l ∷ []) f (reports-silent lines l f.txn none, numbers-silent lines l f.txn none) (h s x f up there)

pub quiet_untold : (catalogue : Catalogue) (w new : Scene) (lines : List Line) (s : ℕ) → Quiet catalogue w new s → UntoldAt w lines → UntoldAt new lines
quiet_untold catalogue w new lines s q h k y f up there = h k y f (finished_still catalogue w s k y f there (quiet_is catalogue w new s q k y up)) there

-- numbers beyond all reports
beyond_all : (n k : ℕ) (rs : List Report) → AllByRecursion (λ (p : Report). p.0 ≤ n) rs → n + 1 ≤ k → list_any (λ (r : Report). nat_le k r.0) rs ≡ false
beyond_all n k [] h above = refl
beyond_all n k (r ∷ rs) h above = rw (not_up_to r.0 n k h.0 above) (beyond_all n k rs h.1 above)
  where
    not_up_to : (a n k : ℕ) → a ≤ n → n + 1 ≤ k → nat_le k a ≡ false
    not_up_to a n k h above = grind (arith, nat_tests, h, above)

above_of : (n m : ℕ) → nat_le n m ≡ false → m < n
above_of n m e = grind (arith, nat_tests, e)

next_of : (a k : ℕ) → a ≡ k → k ≤ a
next_of a k e = omega arith

-- and beyond all weighs
beyond_each : (n k : ℕ) (ns : List ℕ) → AllByRecursion (λ (m : ℕ). m ≤ n) ns → n + 1 ≤ k → list_any (nat_le k) ns ≡ false
beyond_each n k [] h above = refl
beyond_each n k (m ∷ ns) h above = let low = h.0 in let e : nat_le k m ≡ false = grind (arith, nat_tests, low, above) in rw e (beyond_each n k ns h.1 above)

neither_of : (a b : Bool) → a ≡ false → b ≡ false → (a || b) ≡ false
neither_of a b e f = rw (e, f) refl

more_than : (a b c k : ℕ) → c ≡ a + b → c < k → a + 1 ≤ k
more_than a b c k e h = omega arith

-- the number of an end
same_end : (txn : TxnId) (n k : ℕ) (why : Ending) → answer_of txn n why ≡ answer_of txn k why → n ≡ k
same_end txn n k Committed e = cc
same_end txn n k Aborted e = cc
same_end txn n k (LockHeld name at holder) e = cc
same_end txn n k (ViewChanged at held now) e = cc
same_end txn n k (TimedOut at) e = cc
same_end txn n k (Inaccessible name inside total) e = cc

end_unreport : (txn : TxnId) (n : ℕ) (why : Ending) → is_report (answer_of txn n why) ≡ false
end_unreport txn n Committed = refl
end_unreport txn n Aborted = refl
end_unreport txn n (LockHeld name at holder) = refl
end_unreport txn n (ViewChanged at held now) = refl
end_unreport txn n (TimedOut at) = refl
end_unreport txn n (Inaccessible name inside total) = refl

free_untold : (lines : List Line) (a : Answer) → is_free a ≡ true → Untold lines a
free_untold lines (answer.ViewChanged txn number at held now) e = cc
free_untold lines _ e = tt

report_untold : (lines : List Line) (a : Answer) → is_report a ≡ true → Untold lines a
report_untold lines (answer.ViewChanged txn number at held now) e = cc
report_untold lines _ e = tt

-- a step that answers an operation keeps the view
called_holds : (catalogue : Catalogue) (x : SiteState) (port : ℕ) (txn : TxnId) (number : ℕ) (name : List ℕ) → (step catalogue x (input.Call port (call.Read txn number name))).site.held ≡ x.held
unfolding step on_input on_call
called_holds catalogue x port txn number name = refl

written_holds : (catalogue : Catalogue) (x : SiteState) (port : ℕ) (txn : TxnId) (number : ℕ) (name value : List ℕ) → (step catalogue x (input.Call port (call.Write txn number name value))).site.held ≡ x.held
unfolding step on_input on_call
written_holds catalogue x port txn number name value = refl

deleted_holds : (catalogue : Catalogue) (x : SiteState) (port : ℕ) (txn : TxnId) (number : ℕ) (name : List ℕ) → (step catalogue x (input.Call port (call.Delete txn number name))).site.held ≡ x.held
unfolding step on_input on_call
deleted_holds catalogue x port txn number name = refl

weighed_holds : (catalogue : Catalogue) (x : SiteState) (port : ℕ) (txn : TxnId) (number : ℕ) (name : List ℕ) (table : Weights) → (step catalogue x (input.Call port (call.Weigh txn number name table))).site.held ≡ x.held
unfolding step on_input on_call
weighed_holds catalogue x port txn number name table = refl

answered_holds : (catalogue : Catalogue) (x : SiteState) (from : ℕ) (txn : TxnId) (number : ℕ) (value : Option (List ℕ)) → (step catalogue x (input.Message from (message.ReadAnswer txn number value))).site.held ≡ x.held
unfolding step on_input on_message
answered_holds catalogue x from txn number value = refl

done_holds : (catalogue : Catalogue) (x : SiteState) (from : ℕ) (txn : TxnId) (number : ℕ) → (step catalogue x (input.Message from (message.WriteAnswer txn number))).site.held ≡ x.held
unfolding step on_input on_message
done_holds catalogue x from txn number = refl

module _ (catalogue : Catalogue) (x : SiteState) (given : Input) where
  abbrev Holds : Input → Type 0
  Holds g = (step catalogue x g).site.held ≡ x.held

  by_read : (p : Pending) (txn : TxnId) (number : ℕ) (name : List ℕ) → given ≡ input.Call p.port p.call → p.call ≡ call.Read txn number name → Holds given
  by_read p txn number name comes words = subst Holds (sym (comes ∙ ap (input.Call p.port) words)) (called_holds catalogue x p.port txn number name)

  by_change : (p : Pending) (deed : Deed) (words : Call) → given ≡ input.Call p.port p.call → p.call ≡ words → change_asked catalogue words ≡ Some deed → Holds given
  by_change p deed (call.Write txn number name value) comes words a = subst Holds (sym (comes ∙ ap (input.Call p.port) words)) (written_holds catalogue x p.port txn number name value)
  by_change p deed (call.Delete txn number name) comes words a = subst Holds (sym (comes ∙ ap (input.Call p.port) words)) (deleted_holds catalogue x p.port txn number name)
  by_change p deed (call.Weigh txn number name table) comes words a = subst Holds (sym (comes ∙ ap (input.Call p.port) words)) (weighed_holds catalogue x p.port txn number name table)
  by_change p deed (call.Read txn number name) comes words a = cc
  by_change p deed (call.Commit txn number) comes words a = cc
  by_change p deed (call.Abort txn number) comes words a = cc
  by_change p deed call.Begin comes words a = cc
  by_change p deed call.Regroup comes words a = cc

  completes_holds : (t : Live) (p : Pending) (deed : Deed) (l : Lent) → Completes catalogue x given t p deed l → Holds given
  completes_holds t p deed l (Completes.own_write rec value next r a v e g) = by_read p r.txn r.number r.name next.comes r.words
  completes_holds t p deed l (Completes.own_copy rec stored next r a v c free e g) = by_read p r.txn r.number r.name next.comes r.words
  completes_holds t p deed l (Completes.change_again rec before next r a v g) = by_change p deed p.call next.comes refl r.asked
  completes_holds t p deed l (Completes.change_alone rec next r a v none g) = by_change p deed p.call next.comes refl r.asked
  completes_holds t p deed l (Completes.read_answered from rec value c last r e g) = subst Holds (sym c) (answered_holds catalogue x from t.txn p.number value)
  completes_holds t p deed l (Completes.change_answered from rec c last r g) = subst Holds (sym c) (done_holds catalogue x from t.txn p.number)

  -- and takes no refusal
  completes_unrefused : (t : Live) (p : Pending) (deed : Deed) (l : Lent) (from : ℕ) (txn : TxnId) (number : ℕ) (why : Obstacle) → Completes catalogue x given t p deed l → Comes given from (message.Refuse txn number why) → ⊥
  completes_unrefused t p deed l from txn number why (Completes.own_write rec value next r a v e g) c = let z = next.comes in cc
  completes_unrefused t p deed l from txn number why (Completes.own_copy rec stored next r a v k free e g) c = let z = next.comes in cc
  completes_unrefused t p deed l from txn number why (Completes.change_again rec before next r a v g) c = let z = next.comes in cc
  completes_unrefused t p deed l from txn number why (Completes.change_alone rec next r a v none g) c = let z = next.comes in cc
  completes_unrefused t p deed l from txn number why (Completes.read_answered q rec value k last r e g) c = cc
  completes_unrefused t p deed l from txn number why (Completes.change_answered q rec k last r g) c = cc

module _ (catalogue : Catalogue) (world : WorldState) (lines : List Line) (m0 : Moment) (s : ℕ) (x : SiteState) (given : Input) (up : plain_at (scene_of world) s ≡ Some x) (arrives : Arrives (scene_of world) s given) (is : IsStep m0 world s x given (step catalogue x given)) (told : ToldAt catalogue (scene_of world) lines) (weighs : WeighsAt catalogue (scene_of world) lines) (h : UntoldAt (scene_of world) lines) where
  abbrev w : Scene
  w = scene_of world

  abbrev o : Stepped
  o = step catalogue x given

  abbrev new : Scene
  new = acted w s x o

  abbrev more : List Line
  more = lines ++ m0.line ∷ []

  k : Known catalogue w
  k = told.known

  d : Does catalogue w new s x given o
  d = does catalogue w s x given up arrives k

  led : Led x
  led = k.led.site s x up

  settled : Settled x.id x.life x.coordinator
  settled = k.ends.settled s x up

  t_now : ToldNow catalogue x given o.site.coordinator o.effects.replies o.effects.commits
  t_now = told-step catalogue x given (k.votes.site s x up)

  c : Causes catalogue x given o.site o.site.coordinator o.effects.replies o.effects.commits
  c = fair-step catalogue x given (k.repeated.site s x up)

  same_told : (u : TxnId) → Repeats x u o.effects.replies → SameTold lines more u
  same_told u repeats = (repeats_now catalogue world lines m0 s x given up arrives is told u repeats, same_numbers catalogue world lines m0 s x given up arrives is told weighs u repeats)

  -- one that is not live here
  elsewhere_end : (f : Finished) → NotLive x.live f.txn → UntoldEnd lines f → UntoldEnd more f
  elsewhere_end f gone e = end_same lines more f (same_told f.txn (t_now.others f.txn gone)) e

  old_end : (f : Finished) → Has x.finished f → UntoldEnd more f
  old_end f there = elsewhere_end f (λ u g. settled.finished f u there g) (h s x f up there)

  -- where the step leaves the view, or takes a refusal, it answers no operation
  no_operation : ((t : Live) (p : Pending) (deed : Deed) (l : Lent) → Has x.live t → Completes catalogue x given t p deed l → ⊥) → (u : TxnId) → Repeats x u o.effects.replies
  no_operation none u r there = go r.answer (causes-step catalogue x given r there)
    where
      go : (a : Answer) → Cause catalogue x given o.effects.replies a → (heard u a ≡ None) ⊎ IsKept x a
      go a (Cause.nothing e) = inl (e u)
      go a (Cause.kept q) = inr q
      go _ (Cause.done t p deed l live how completes late) = absurd (none t p deed l live completes)

  beyond : (t : Live) (n : ℕ) → Has x.live t → length t.answers + 1 ≤ n → Repeats x t.txn o.effects.replies → told_from more t.txn n ≡ false
  beyond t n live above repeats =
      let tells : TellsCall catalogue lines t.txn (length t.answers) t.pending t.ops = told.live s x t up live in
      untold_same lines more t.txn (same_told t.txn repeats) n (ViewChanged t.txn.site t.view None)
      (neither_of (list_any (λ (r : Report). nat_le n r.0) (reports lines t.txn)) _
      (beyond_all (length t.answers) n (reports lines t.txn) tells.below above)
      (beyond_each (length t.answers) n (weighed_in lines t.txn) (weighs.live s x t up live).below above))

  left_holds : (t : Live) → Has x.live t → o.site.held ≡ None → o.site.held ≡ x.held → ⊥
  left_holds t live gone same = let v = led.live t live in let z = v.1 in cc

  -- one that ends now
  closed_untold : (t : Live) (why : Ending) (n : ℕ) → Why catalogue x given o.site t why → (Has x.live t → length t.answers + 1 ≤ n) → Untold more (answer_of t.txn n why)
  closed_untold t why n (Why.aborted was p at e) above = tt
  closed_untold t why n (Why.held_here was p name rec exclusive holder at e op f g) above = tt
  closed_untold t why n (Why.held_there p from name exclusive holder a q op) above = tt
  closed_untold t why n (Why.other_view p from now a came) above =
      beyond t n a.live (above a.live) (no_operation (λ v q deed l live completes. completes_unrefused catalogue x given v q deed l from t.txn p.number _ completes came) t.txn)
  closed_untold t why n (Why.barred_there p from name exclusive inside total a came op) above = tt
  closed_untold t why n (Why.left live gone) above =
      beyond t n live (above live) (no_operation (λ v q deed l there completes. left_holds t live gone (completes_holds catalogue x given v q deed l completes)) t.txn)
  closed_untold t why n (Why.timed_out missing live) above = tt

  next_number : (t : Live) (p : Pending) → t.pending ≡ Some p → Has x.live t → length t.answers + 1 ≤ p.number
  next_number t p e live = next_of p.number (length t.answers + 1) ((k.ops.live s x t up live).next p e)

  reply_untold : (a : Answer) → ReplyFrom catalogue x given o.site a → Untold more a
  reply_untold a (ReplyFrom.free b e) = free_untold more b e
  reply_untold a (ReplyFrom.inaccessible t p name rec exclusive deed weights at op found tries e) = tt
  reply_untold a (ReplyFrom.repeated f place b there q c) = ⊎_elim
      (λ r. report_untold more b r)
      (λ (r : (number : ℕ) × (b ≡ answer_of f.txn number f.ending)). subst (Untold more) (sym r.1) ((old_end f there).answers r.0 (subst (Has f.answers) r.1 (kept_has place f.answers b q))))
      ((k.repeated.site s x up).finished f there b (kept_has place f.answers b q))
  reply_untold a (ReplyFrom.ended f number there e c) = (old_end f there).later number (above_of number (length f.answers) e)
  reply_untold a (ReplyFrom.closed t why p n y e) = closed_untold t why p.number y (next_number t p e)

  pub replies_untold : (a : Answer) → Has (answers_in m0.line) a → Untold more a
  replies_untold a said =
      let z : Has (map (λ (r : Reply). r.answer) o.effects.replies) a = rw is.shown at said in
      let r = map_has (λ (r : Reply). r.answer) o.effects.replies a z in
      reply_untold a (subst (ReplyFrom catalogue x given o.site) r.2 (c.says r.0 r.1))

  ends_untold : (t : Live) (why : Ending) → Handled x t → Why catalogue x given o.site t why → UntoldEnd more (finished_as t why)
  ends_untold t why n y = record {
    answers = λ j there. closed_untold t why j y (λ live. ⊎_elim
        (λ old. absurd (let z = (k.repeated.site s x up).live t live (answer_of t.txn j why) old in let u = end_unreport t.txn j why in cc))
        (λ last. of_pending t.pending refl j live last)
        (has_cases t.answers _ (answer_of t.txn j why) there));
    later = λ j above. closed_untold t why j y (λ live. more_than (length t.answers) _ (length (answers_after t why)) j (length-append t.answers _) above);
  }
    where
      of_pending : (q : Option Pending) → t.pending ≡ q → (j : ℕ) → Has x.live t → Has (option_to_list (option_map (λ p. answer_of t.txn p.number why) q)) (answer_of t.txn j why) → length t.answers + 1 ≤ j
      of_pending None e j live there = absurd (has_none (answer_of t.txn j why) there)
      of_pending (Some p) e j live there = subst (λ (j : ℕ). length t.answers + 1 ≤ j) (same_end t.txn p.number j why (has_one_is (answer_of t.txn p.number why) (answer_of t.txn j why) there)) (next_number t p e live)

  finished_now : (f : Finished) → FinishedFrom catalogue x given o.site o.effects.replies f → UntoldEnd more f
  finished_now f (FinishedFrom.was g there) = old_end g there
  finished_now f (FinishedFrom.committed t n) = record { answers = λ j there. tt; later = λ j above. tt }
  finished_now f (FinishedFrom.closed t why n y said) = ends_untold t why n y

  pub step_untold : UntoldAt new more
  step_untold j y f at there = finished_at y f there (now_is w new s x o d.st j y at)
    where
      finished_at : {j : ℕ} (y : SiteState) (f : Finished) → Has y.finished f → NowIs w s o.site j y → UntoldEnd more f
      finished_at {j} y f there (NowIs.other away old) =
          let site : f.txn.site ≡ j = ((k.ends.settled j y old).names f there).0 ∙ (k.views.site j y old).id in
          elsewhere_end f (λ v live e. away (sym site ∙ ap (λ (t : TxnId). t.site) (sym e) ∙ (led.names v live).0 ∙ (k.views.site s x up).id)) (h j y f old there)
      finished_at y f there (NowIs.here e same) = finished_now f (c.finished f (subst (λ (y : SiteState). Has y.finished f) (sym same) there))
