-- What a step reports of operations: where each live transaction comes from, with what is reported of it; all other reports repeat
-- kept answers.
use Rattle.std.proofs.Common.{◌≡◌, ◌≢◌, ◌⊎◌, ◌∙◌, ap, sym, subst, ℕ, Bool, true, false, List, [], ◌∷◌, ◌++◌, map, refl, inl, inr, ⊎_elim}
use Rattle.std.specs.Prelude.{Option, Some, None, option_map, option_to_list, filter_map}
use Rattle.std.proofs.lemmas.List.{map-append, append-nil}
use Rattle.std.proofs.lemmas.List.Elements.{filter_map-append}
use Rattle.vp_model.specs.Types.{TxnId, View, Op, Call, Answer, Reply, Commit, Input, Pending, Live, Ending, Finished}
use Rattle.vp_base.specs.declared.site.Ending.TheVariants.{Committed, Aborted, LockHeld, ViewChanged, TimedOut, Inaccessible}
use Rattle.vp_model.specs.Types.answer
use Rattle.vp_model.specs.Types.call
use Rattle.vp_model.specs.Types.input
use Rattle.vp_model.specs.Types.message
use Rattle.vp_model.specs.Types.obstacle
use Rattle.vp_model.specs.Types.op
use Rattle.vp_model.specs.Catalogue.{Catalogue, Table as Weights, find_record}
use Rattle.vp_model.specs.Site.{CoordinatorState, SiteState, Lent}
use Rattle.vp_model.specs.Transactions.{Deed, deed_answer, answer_of, put_live, with_finished}
use Rattle.vp_model.specs.Calls.{begun, change_asked}
use Rattle.vp_model.specs.Answers.{with_acknowledged}
use Rattle.vp_model.specs.Step.{mark, step}
use Rattle.vp_model.specs.Told.{reported, is_reported, is_early_refusal, told_by}
use Rattle.vp_laws.proofs.Table.ToldLines.{Report}
use Rattle.vp_laws.proofs.Table.Heard.{Heard, heard}
use Rattle.vp_laws.proofs.Lists.Members.{Has, has_none, has_first, has_more, has_one_is, has_cases, map_has}
use Rattle.vp_laws.proofs.Lists.Changes.{without_first_has}
use Rattle.vp_model.proofs.SameTxn.{same_txn-self, same_txn-other}
use Rattle.vp_laws.proofs.Lists.Names.{Apart, named, change_cases}
use Rattle.vp_laws.proofs.Moves.Table.{Comes, IsNext, next_view, next_name, Reads, Changes, Completes}
use Rattle.vp_laws.proofs.Table.Kept.{kept_has}
use Rattle.vp_laws.proofs.Table.Endings.{NotLive}
use Rattle.vp_laws.proofs.Moves.Reasons.{Takes, Why, Tells, is_plain, told_to, last_reply, IsDone, Goes, Front}
use Rattle.vp_laws.proofs.Moves.FrontSteps.{step-front}
use Rattle.vp_laws.proofs.Table.ToldCalls.{SameCall}
use Rattle.vp_laws.proofs.Moves.Calls.{done, waiting}

-- what is reported of a call that is done: with the call it says the operation, and a new table is no operation
pub data Reported (catalogue : Catalogue) (txn : TxnId) (p : Pending) : Deed → Type 0 where
  operated : (operation : Op) (report : Option (Option (List ℕ))) → reported txn (deed_answer txn p.number (Deed.operates operation)) ≡ Some (p.number, report) → told_by catalogue report p.call ≡ Some operation → Reported catalogue txn p (Deed.operates operation)
  weighed : (rec : ℕ) (table : Weights) → Reported catalogue txn p (Deed.weighs rec table)

-- what a call that is done is told
pub record SaysDone (catalogue : Catalogue) (txn : TxnId) (p : Pending) (deed : Deed) : Type 0 where
  pub reports : Reported catalogue txn p deed
  pub fits : is_reported catalogue (deed_answer txn p.number deed) p.call ≡ true
  pub others : (u : TxnId) → txn ≢ u → heard u (deed_answer txn p.number deed) ≡ None
  pub late : is_early_refusal (deed_answer txn p.number deed) ≡ false

-- an end reports nothing
pub end_unheard : (u txn : TxnId) (k : ℕ) (why : Ending) → heard u (answer_of txn k why) ≡ None
end_unheard u txn k Committed = refl
end_unheard u txn k Aborted = refl
end_unheard u txn k (LockHeld name at holder) = refl
end_unheard u txn k (ViewChanged at held now) = refl
end_unheard u txn k (TimedOut at) = refl
end_unheard u txn k (Inaccessible name inside total) = refl

-- an end that no call is refused by early
abbrev pub is_late : Ending → Bool
is_late (Inaccessible name inside total) = false
is_late _ = true

-- nor does it refuse early, but for the end of a transaction that used a record without weight enough
pub end_late : (txn : TxnId) (k : ℕ) (why : Ending) → is_late why ≡ true → is_early_refusal (answer_of txn k why) ≡ false
end_late txn k Committed e = refl
end_late txn k Aborted e = refl
end_late txn k (LockHeld name at holder) e = refl
end_late txn k (ViewChanged at held now) e = refl
end_late txn k (TimedOut at) e = refl
end_late txn k (Inaccessible name inside total) e = cc

deed_others : (txn u : TxnId) (number : ℕ) (deed : Deed) → txn ≢ u → heard u (deed_answer txn number deed) ≡ None
deed_others txn u number (Deed.operates (op.Read rec None)) n = let other = same_txn-other txn u n in rw other refl
deed_others txn u number (Deed.operates (op.Read rec (Some value))) n = let other = same_txn-other txn u n in rw other refl
deed_others txn u number (Deed.operates (op.Write rec None)) n = let other = same_txn-other txn u n in rw other refl
deed_others txn u number (Deed.operates (op.Write rec (Some value))) n = let other = same_txn-other txn u n in rw other refl
deed_others txn u number (Deed.weighs rec table) n = let other = same_txn-other txn u n in rw other refl

deed_late : (txn : TxnId) (number : ℕ) (deed : Deed) → is_early_refusal (deed_answer txn number deed) ≡ false
deed_late txn number (Deed.operates (op.Read rec None)) = refl
deed_late txn number (Deed.operates (op.Read rec (Some value))) = refl
deed_late txn number (Deed.operates (op.Write rec None)) = refl
deed_late txn number (Deed.operates (op.Write rec (Some value))) = refl
deed_late txn number (Deed.weighs rec table) = refl

read_reports : (catalogue : Catalogue) (txn : TxnId) (p : Pending) (rec : ℕ) (value : Option (List ℕ)) → Reads catalogue p rec → Reported catalogue txn p (Deed.operates (op.Read rec value))
read_reports catalogue txn p rec None r = let self = same_txn-self txn in Reported.operated (op.Read rec None) (Some None) (rw self refl) (rw (r.words, r.found) refl)
read_reports catalogue txn p rec (Some value) r = let self = same_txn-self txn in Reported.operated (op.Read rec (Some value)) (Some (Some value)) (rw self refl) (rw (r.words, r.found) refl)

change_reports : (catalogue : Catalogue) (txn : TxnId) (p : Pending) (deed : Deed) (words : Call) → p.call ≡ words → change_asked catalogue words ≡ Some deed → Reported catalogue txn p deed
change_reports catalogue txn p deed (call.Write t n name value) e a = go (find_record catalogue name) refl a
  where
    go : (o : Option ℕ) → find_record catalogue name ≡ o → option_map (λ rec. Deed.operates (op.Write rec (Some value))) o ≡ Some deed → Reported catalogue txn p deed
    go None f a = cc
    go (Some rec) f a = let self = same_txn-self txn in let is : Deed.operates (op.Write rec (Some value)) ≡ deed = cc in subst (Reported catalogue txn p) is (Reported.operated (op.Write rec (Some value)) None (rw self refl) (rw (e, f) refl))
change_reports catalogue txn p deed (call.Delete t n name) e a = go (find_record catalogue name) refl a
  where
    go : (o : Option ℕ) → find_record catalogue name ≡ o → option_map (λ rec. Deed.operates (op.Write rec None)) o ≡ Some deed → Reported catalogue txn p deed
    go None f a = cc
    go (Some rec) f a = let self = same_txn-self txn in let is : Deed.operates (op.Write rec None) ≡ deed = cc in subst (Reported catalogue txn p) is (Reported.operated (op.Write rec None) None (rw self refl) (rw (e, f) refl))
change_reports catalogue txn p deed (call.Weigh t n name table) e a = go (find_record catalogue name) a
  where
    go : (o : Option ℕ) → option_map (λ rec. Deed.weighs rec table) o ≡ Some deed → Reported catalogue txn p deed
    go None a = cc
    go (Some rec) a = let is : Deed.weighs rec table ≡ deed = cc in subst (Reported catalogue txn p) is (Reported.weighed rec table)
change_reports catalogue txn p deed (call.Read t n name) e a = cc
change_reports catalogue txn p deed (call.Commit t n) e a = cc
change_reports catalogue txn p deed (call.Abort t n) e a = cc
change_reports catalogue txn p deed call.Begin e a = cc
change_reports catalogue txn p deed call.Regroup e a = cc

-- and it is of the kind of its call
read_fits : (catalogue : Catalogue) (txn : TxnId) (p : Pending) (rec : ℕ) (value : Option (List ℕ)) → Reads catalogue p rec → is_reported catalogue (deed_answer txn p.number (Deed.operates (op.Read rec value))) p.call ≡ true
read_fits catalogue txn p rec None r = rw (r.words, r.found) refl
read_fits catalogue txn p rec (Some value) r = rw (r.words, r.found) refl

change_fits : (catalogue : Catalogue) (txn : TxnId) (number : ℕ) (deed : Deed) (words : Call) → change_asked catalogue words ≡ Some deed → is_reported catalogue (deed_answer txn number deed) words ≡ true
change_fits catalogue txn number deed (call.Write t n name value) a = go (find_record catalogue name) refl a
  where
    go : (o : Option ℕ) → find_record catalogue name ≡ o → option_map (λ rec. Deed.operates (op.Write rec (Some value))) o ≡ Some deed → is_reported catalogue (deed_answer txn number deed) (call.Write t n name value) ≡ true
    go None f a = cc
    go (Some rec) f a = let is : Deed.operates (op.Write rec (Some value)) ≡ deed = cc in rw (← is, f) refl
change_fits catalogue txn number deed (call.Delete t n name) a = go (find_record catalogue name) refl a
  where
    go : (o : Option ℕ) → find_record catalogue name ≡ o → option_map (λ rec. Deed.operates (op.Write rec None)) o ≡ Some deed → is_reported catalogue (deed_answer txn number deed) (call.Delete t n name) ≡ true
    go None f a = cc
    go (Some rec) f a = let is : Deed.operates (op.Write rec None) ≡ deed = cc in rw (← is, f) refl
change_fits catalogue txn number deed (call.Weigh t n name table) a = go (find_record catalogue name) refl a
  where
    go : (o : Option ℕ) → find_record catalogue name ≡ o → option_map (λ rec. Deed.weighs rec table) o ≡ Some deed → is_reported catalogue (deed_answer txn number deed) (call.Weigh t n name table) ≡ true
    go None f a = cc
    go (Some rec) f a = let is : Deed.weighs rec table ≡ deed = cc in rw (← is, f) refl
change_fits catalogue txn number deed (call.Read t n name) a = cc
change_fits catalogue txn number deed (call.Commit t n) a = cc
change_fits catalogue txn number deed (call.Abort t n) a = cc
change_fits catalogue txn number deed call.Begin a = cc
change_fits catalogue txn number deed call.Regroup a = cc

read_says : (catalogue : Catalogue) (txn : TxnId) (p : Pending) (rec : ℕ) (value : Option (List ℕ)) (deed : Deed) → Reads catalogue p rec → deed ≡ Deed.operates (op.Read rec value) → SaysDone catalogue txn p deed
read_says catalogue txn p rec value deed r e = record { reports = subst (Reported catalogue txn p) (sym e) (read_reports catalogue txn p rec value r); fits = rw e (read_fits catalogue txn p rec value r); others = λ u n. deed_others txn u p.number deed n; late = deed_late txn p.number deed }

change_says : (catalogue : Catalogue) (txn : TxnId) (p : Pending) (rec : ℕ) (deed : Deed) → Changes catalogue p rec deed → SaysDone catalogue txn p deed
change_says catalogue txn p rec deed r = record { reports = change_reports catalogue txn p deed p.call refl r.asked; fits = change_fits catalogue txn p.number deed p.call r.asked; others = λ u n. deed_others txn u p.number deed n; late = deed_late txn p.number deed }

pub completed_says : (catalogue : Catalogue) (x : SiteState) (given : Input) (t : Live) (p : Pending) (deed : Deed) (l : Lent) → Completes catalogue x given t p deed l → SaysDone catalogue t.txn p deed
completed_says catalogue x given t p deed l (Completes.own_write rec value next r a v e g) = read_says catalogue t.txn p rec value deed r e
completed_says catalogue x given t p deed l (Completes.own_copy rec stored next r a v c free e g) = read_says catalogue t.txn p rec stored.value deed r e
completed_says catalogue x given t p deed l (Completes.change_again rec before next r a v g) = change_says catalogue t.txn p rec deed r
completed_says catalogue x given t p deed l (Completes.change_alone rec next r a v none g) = change_says catalogue t.txn p rec deed r
completed_says catalogue x given t p deed l (Completes.read_answered from rec value c last r e g) = read_says catalogue t.txn p rec value deed r e
completed_says catalogue x given t p deed l (Completes.change_answered from rec c last r g) = change_says catalogue t.txn p rec deed r

-- a bar of another site is told in this step, and may end a transaction
abbrev pub BarComes : Input → Type 0
BarComes given = (from : ℕ) × (txn : TxnId) × (number : ℕ) × (inside : ℕ) × (total : ℕ) × Comes given from (message.Refuse txn number (obstacle.Barred inside total))

pub takes_no_bar : {C : Type 0} (x : SiteState) (given : Input) (u : Live) (p : Pending) → Takes x given u p → BarComes given → C
takes_no_bar x given u p at b = let z = sym at.next.comes ∙ b.5 in cc

next_no_bar : {C : Type 0} (given : Input) (t : Live) (p : Pending) → IsNext given t p → BarComes given → C
next_no_bar given t p next b = let z = sym next.comes ∙ b.5 in cc

pub completes_no_bar : {C : Type 0} (catalogue : Catalogue) (x : SiteState) (given : Input) (t : Live) (p : Pending) (deed : Deed) (l : Lent) → Completes catalogue x given t p deed l → BarComes given → C
completes_no_bar catalogue x given t p deed l (Completes.own_write rec value next r a v e g) b = next_no_bar given t p next b
completes_no_bar catalogue x given t p deed l (Completes.own_copy rec stored next r a v c free e g) b = next_no_bar given t p next b
completes_no_bar catalogue x given t p deed l (Completes.change_again rec before next r a v g) b = next_no_bar given t p next b
completes_no_bar catalogue x given t p deed l (Completes.change_alone rec next r a v none g) b = next_no_bar given t p next b
completes_no_bar catalogue x given t p deed l (Completes.read_answered from rec value c last r e g) b = let z = sym c ∙ b.5 in cc
completes_no_bar catalogue x given t p deed l (Completes.change_answered from rec c last r g) b = let z = sym c ∙ b.5 in cc

-- only a bar that is told closes a transaction otherwise
pub why_late : (catalogue : Catalogue) (x : SiteState) (given : Input) (after : SiteState) (t : Live) (why : Ending) → Why catalogue x given after t why → (is_late why ≡ true) ⊎ BarComes given
why_late catalogue x given after t _ (Why.aborted was p at e) = inl refl
why_late catalogue x given after t _ (Why.held_here was p name rec exclusive holder at e o f c) = inl refl
why_late catalogue x given after t _ (Why.held_there p from name exclusive holder a c o) = inl refl
why_late catalogue x given after t _ (Why.other_view p from now a c) = inl refl
why_late catalogue x given after t _ (Why.barred_there p from name exclusive inside total a c o) = inr (from, t.txn, p.number, inside, total, c)
why_late catalogue x given after t _ (Why.left h e) = inl refl
why_late catalogue x given after t _ (Why.timed_out missing h) = inl refl

-- the reports of a transaction among the replies, and all that they say of calls that are done
abbrev pub told_of : TxnId → List Reply → List Report
told_of u rs = filter_map (reported u) (map (λ (r : Reply). r.answer) rs)

abbrev pub heard_of : TxnId → List Reply → List Heard
heard_of u rs = filter_map (heard u) (map (λ (r : Reply). r.answer) rs)

-- the site keeps the answer
pub data IsKept (x : SiteState) (a : Answer) : Type 0 where
  live : (t : Live) → Has x.live t → Has t.answers a → IsKept x a
  finished : (f : Finished) → Has x.finished f → Has f.answers a → IsKept x a

-- each reply reports nothing of the transaction, or was given before
abbrev pub Repeats : SiteState → TxnId → List Reply → Type 0
Repeats x u rs = (r : Reply) → Has rs r → (heard u r.answer ≡ None) ⊎ IsKept x r.answer

-- no reply is an early refusal
abbrev pub AreLate : List Reply → Type 0
AreLate rs = (r : Reply) → Has rs r → is_early_refusal r.answer ≡ false

pub data LiveTold (catalogue : Catalogue) (x : SiteState) (given : Input) (rs : List Reply) (t : Live) : Type 0 where
  was : (u : Live) → Has x.live u → u.txn ≡ t.txn → u.ops ≡ t.ops → u.tables ≡ t.tables → u.answers ≡ t.answers → SameCall u.pending t.pending → Repeats x t.txn rs → LiveTold catalogue x given rs t
  goes : (u : Live) (p q : Pending) → Takes x given u p → u.txn ≡ t.txn → u.ops ≡ t.ops → u.tables ≡ t.tables → u.answers ≡ t.answers → t.pending ≡ Some q → p.call ≡ q.call → Repeats x t.txn rs → AreLate rs → LiveTold catalogue x given rs t
  completed : (u : Live) (p : Pending) (deed : Deed) (l : Lent) → Has x.live u → IsDone x given u p → Completes catalogue x given u p deed l → done u p deed ≡ t → heard_of u.txn rs ≡ heard_of u.txn (told_to p.port (deed_answer u.txn p.number deed) ∷ []) → AreLate rs → LiveTold catalogue x given rs t
  begins : (port : ℕ) (view : View) → given ≡ input.Call port call.Begin → begun (next_name x) view.id ≡ t → Repeats x t.txn rs → LiveTold catalogue x given rs t

pub record ToldNow (catalogue : Catalogue) (x : SiteState) (given : Input) (c : CoordinatorState) (rs : List Reply) (cs : List Commit) : Type 0 where
  pub live : (t : Live) → Has c.live t → LiveTold catalogue x given rs t
  pub others : (u : TxnId) → NotLive x.live u → Repeats x u rs
  pub entered : (e : Commit) → Has cs e → Repeats x e.txn rs

pub plain_unheard : (u : TxnId) (a : Answer) → is_plain a ≡ true → heard u a ≡ None
plain_unheard u (answer.Value txn number value) e = cc
plain_unheard u (answer.Written txn number) e = cc
plain_unheard u (answer.Absent txn number) e = cc
plain_unheard u (answer.Deleted txn number) e = cc
plain_unheard u (answer.Weighed txn number) e = cc
plain_unheard u _ e = refl

-- what reports nothing of any transaction, and refuses nothing early, unless a bar is told
pub record IsSilent (given : Input) (rs : List Reply) : Type 0 where
  pub reports : (u : TxnId) (r : Reply) → Has rs r → heard u r.answer ≡ None
  pub late : (r : Reply) → Has rs r → (is_early_refusal r.answer ≡ false) ⊎ BarComes given

none_told : (u : TxnId) (rs : List Reply) → ((r : Reply) → Has rs r → heard u r.answer ≡ None) → heard_of u rs ≡ []
none_told u [] h = refl
none_told u (r ∷ rs) h = rw (h r (has_first r rs)) (none_told u rs (λ q k. h q (has_more r rs q k)))

told_more : (u : TxnId) (rs more : List Reply) → ((r : Reply) → Has more r → heard u r.answer ≡ None) → heard_of u (rs ++ more) ≡ heard_of u rs
told_more u rs more h =
    ap (filter_map (heard u)) (map-append (λ (r : Reply). r.answer) rs more)
    ∙ filter_map-append (heard u) (map (λ (r : Reply). r.answer) rs) (map (λ (r : Reply). r.answer) more)
    ∙ ap (λ (l : List Heard). heard_of u rs ++ l) (none_told u more h)
    ∙ append-nil (heard_of u rs)

module _ (catalogue : Catalogue) (x : SiteState) (given : Input) where
  repeats_more : (u : TxnId) (rs more : List Reply) → IsSilent given more → Repeats x u rs → Repeats x u (rs ++ more)
  repeats_more u rs more s h r k = ⊎_elim (λ old. h r old) (λ new. inl (s.reports u r new)) (has_cases rs more r k)

  pub late_more : (rs more : List Reply) → IsSilent given more → (BarComes given → ⊥) → AreLate rs → AreLate (rs ++ more)
  late_more rs more s none h r k = ⊎_elim (λ old. h r old) (λ new. ⊎_elim (λ late. late) (λ bar. absurd (none bar)) (s.late r new)) (has_cases rs more r k)

  live_more : (rs more : List Reply) (t : Live) → IsSilent given more → LiveTold catalogue x given rs t → LiveTold catalogue x given (rs ++ more) t
  live_more rs more t s (LiveTold.was u h a b gave c d e) = LiveTold.was u h a b gave c d (repeats_more t.txn rs more s e)
  live_more rs more t s (LiveTold.goes u p q at a b gave c d e f g) = LiveTold.goes u p q at a b gave c d e (repeats_more t.txn rs more s f) (late_more rs more s (λ bar. takes_no_bar x given u p at bar) g)
  live_more rs more t s (LiveTold.completed u p deed l h d c is e g) = LiveTold.completed u p deed l h d c is (told_more u.txn rs more (s.reports u.txn) ∙ e) (late_more rs more s (λ bar. completes_no_bar catalogue x given u p deed l c bar) g)
  live_more rs more t s (LiveTold.begins port view c is e) = LiveTold.begins port view c is (repeats_more t.txn rs more s e)

  pub last_silent : (t : Live) (why : Ending) → (is_late why ≡ true) ⊎ BarComes given → IsSilent given (last_reply t why)
  last_silent t why timely = record { reports = λ u r h. rw (← (last t.pending r h).1) (end_unheard u t.txn (last t.pending r h).0 why); late = λ r h. ⊎_elim (λ late. inl (rw (← (last t.pending r h).1) (end_late t.txn (last t.pending r h).0 why late))) (λ bar. inr bar) timely }
    where
      last : (q : Option Pending) (r : Reply) → Has (option_to_list (option_map (λ p. told_to p.port (answer_of t.txn p.number why)) q)) r → (number : ℕ) × (answer_of t.txn number why ≡ r.answer)
      last None r h = absurd (has_none r h)
      last (Some p) r h = (p.number, ap (λ (r : Reply). r.answer) (has_one_is _ r h))

  module _ (after : SiteState) (apart : Apart x.live) where
    abbrev G : CoordinatorState → List Reply → List Commit → Type 0
    G = ToldNow catalogue x given

    no_replies : (u : TxnId) → Repeats x u []
    no_replies u r h = absurd (has_none r h)

    none_early : AreLate []
    none_early r h = absurd (has_none r h)

    same_call : (o : Option Pending) → SameCall o o
    same_call None = SameCall.none refl refl
    same_call (Some p) = SameCall.same p p refl refl refl

    as_was : (rs : List Reply) (t : Live) → Has x.live t → Repeats x t.txn rs → LiveTold catalogue x given rs t
    as_was rs t h e = LiveTold.was t h refl refl refl refl (same_call t.pending) e

    starts : G x.coordinator [] []
    starts = record { live = λ t h. as_was [] t h (no_replies t.txn); others = λ u n. no_replies u; entered = λ e h. absurd (has_none e h) }

    -- one reply
    one_reply : (u : TxnId) (port : ℕ) (a : Answer) → (heard u a ≡ None) ⊎ IsKept x a → Repeats x u (told_to port a ∷ [])
    one_reply u port a h r k = subst (λ (r : Reply). (heard u r.answer ≡ None) ⊎ IsKept x r.answer) (has_one_is (told_to port a) r k) h

    tells : (u : TxnId) (port : ℕ) (words : Answer) → Tells catalogue x given port words → (heard u words ≡ None) ⊎ IsKept x words
    tells u _ words (Tells.plain w e port called c is) = inl (plain_unheard u w e)
    tells u _ words (Tells.inaccessible t p name rec exclusive deed weights at op f a e) = inl refl
    tells u _ words (Tells.again t number w h e c) = inr (IsKept.live t h (kept_has number t.answers w e))
    tells u _ words (Tells.finished_again f number w h e c) = inr (IsKept.finished f h (kept_has number f.answers w e))
    tells u _ words (Tells.ended f number h e c) = inl (end_unheard u f.txn number f.ending)

    -- nothing is replied
    silent : (c : CoordinatorState) → ((t : Live) → Has c.live t → LiveTold catalogue x given [] t) → G c [] []
    silent c all = record { live = all; others = λ u n. no_replies u; entered = λ e h. absurd (has_none e h) }

    -- the transaction goes on as u
    moved : (u : Live) → LiveTold catalogue x given [] u → (a : Live) → Has (put_live u x.coordinator).live a → LiveTold catalogue x given [] a
    moved u new a k = ⊎_elim (λ (is : a ≡ u). subst (LiveTold catalogue x given []) (sym is) new) (λ old. as_was [] a old.0 (no_replies a.txn)) (change_cases u x.live apart a k)

    goes_on : (t u : Live) (p : Pending) → Takes x given t p → Goes t p u → LiveTold catalogue x given [] u
    goes_on t u p at (Goes.reads rec q) = LiveTold.goes t p (record p { missing = q ∷ [] }) at refl refl refl refl refl refl (no_replies t.txn) none_early
    goes_on t u p at (Goes.writes sites) = LiveTold.goes t p (record p { missing = sites }) at refl refl refl refl refl refl (no_replies t.txn) none_early
    goes_on t u p at (Goes.prepares sites) = LiveTold.goes t p (record p { missing = sites }) at refl refl refl refl refl refl (no_replies t.txn) none_early

    completes : (t : Live) (p : Pending) (deed : Deed) (l : Lent) → Has x.live t → IsDone x given t p → Completes catalogue x given t p deed l → G (put_live (done t p deed) x.coordinator) (told_to p.port (deed_answer t.txn p.number deed) ∷ []) []
    completes t p deed l h d c =
        let says = completed_says catalogue x given t p deed l c in
        let words = deed_answer t.txn p.number deed in
        record {
          live = λ a k. ⊎_elim
              (λ (is : a ≡ done t p deed). LiveTold.completed t p deed l h d c (sym is) refl (λ r q. subst (λ (r : Reply). is_early_refusal r.answer ≡ false) (has_one_is (told_to p.port words) r q) says.late))
              (λ old. as_was _ a old.0 (one_reply a.txn p.port words (inl (says.others a.txn (λ e. old.1 (sym e))))))
              (change_cases (done t p deed) x.live apart a k);
          others = λ u n. one_reply u p.port words (inl (says.others u (λ e. n t h e)));
          entered = λ e k. absurd (has_none e k);
        }

    commits : (t : Live) (c : CoordinatorState) (cs : List Commit) → c.live ≡ x.live → G (with_finished t Committed c) (last_reply t Committed) cs
    commits t c cs stays =
        let quiet = last_silent t Committed (inl refl) in
        record {
          live = λ a k. as_was _ a (rw stays at (without_first_has (named t.txn) c.live a k)) (λ r q. inl (quiet.reports a.txn r q));
          others = λ u n r q. inl (quiet.reports u r q);
          entered = λ e k r q. inl (quiet.reports e.txn r q);
        }

    more : (c now : CoordinatorState) (rs extra : List Reply) → IsSilent given extra → ((t : Live) → Has now.live t → Has c.live t) → G c rs [] → G now (rs ++ extra) []
    more c now rs extra s sub g = record {
      live = λ t h. live_more rs extra t s (g.live t (sub t h));
      others = λ u n. repeats_more u rs extra s (g.others u n);
      entered = λ e h. absurd (has_none e h);
    }

    mark_told : (rs : List Reply) (t : Live) → LiveTold catalogue x given rs t → LiveTold catalogue x given rs (mark t)
    mark_told rs t (LiveTold.was u h a b gave c d e) = LiveTold.was u h a b gave c (marked_same d) e
      where
        marked_same : SameCall u.pending t.pending → SameCall u.pending (mark t).pending
        marked_same (SameCall.none e f) = SameCall.none e (rw f refl)
        marked_same (SameCall.same p q e f g) = SameCall.same p (record q { marked = true }) e (rw f refl) g
    mark_told rs t (LiveTold.goes u p q at a b gave c d e f g) = LiveTold.goes u p (record q { marked = true }) at a b gave c (rw d refl) e f g
    mark_told rs t (LiveTold.completed u p deed l h d c is e g) = LiveTold.completed u p deed l h d c (ap mark is) e g
    mark_told rs t (LiveTold.begins port view c is e) = LiveTold.begins port view c (ap mark is) e

    inviting_silent : (port : ℕ) → IsSilent given (told_to port (answer.Inviting (next_view x)) ∷ [])
    inviting_silent port = record {
      reports = λ u r h. subst (λ (r : Reply). heard u r.answer ≡ None) (has_one_is (told_to port (answer.Inviting (next_view x))) r h) refl;
      late = λ r h. inl (subst (λ (r : Reply). is_early_refusal r.answer ≡ false) (has_one_is (told_to port (answer.Inviting (next_view x))) r h) refl);
    }

    front : Front catalogue x given after G
    front = record {
      begin = λ port view held c.
          let t = begun (next_name x) view.id in
          record {
            live = λ a h. ⊎_elim (λ old. as_was _ a old (one_reply a.txn port _ (inl refl))) (λ (new : Has (t ∷ []) a). LiveTold.begins port view c (has_one_is t a new) (one_reply a.txn port _ (inl refl))) (has_cases x.live (t ∷ []) a h);
            others = λ u n. one_reply u port _ (inl refl);
            entered = λ e h. absurd (has_none e h);
          };
      tells = λ words port t. record {
        live = λ a h. as_was _ a h (one_reply a.txn port words (tells a.txn port words t));
        others = λ u n. one_reply u port words (tells u port words t);
        entered = λ e h. absurd (has_none e h);
      };
      complete = λ t p deed l h d c. completes t p deed l h d c;
      goes = λ t u p at g. silent (put_live u x.coordinator) (moved u (goes_on t u p at g));
      still = λ t p sites a. silent (put_live (waiting t p sites) x.coordinator) (moved (waiting t p sites) (LiveTold.was t a.live refl refl refl refl (SameCall.same p (record p { missing = sites }) a.pending refl refl) (no_replies t.txn)));
      decide = λ t c n d w v f s. commits t c _ v;
      close = λ t why c rs n w g. more c (with_finished t why c) rs (last_reply t why) (last_silent t why (why_late catalogue x given after t why w)) (λ a h. without_first_has (named t.txn) c.live a h) g;
      marks = λ c rs g. record {
        live = λ a h. let r = map_has mark c.live a h in subst (LiveTold catalogue x given rs) r.2 (mark_told rs r.0 (g.live r.0 r.1));
        others = g.others;
        entered = λ e h. absurd (has_none e h);
      };
      acknowledge = λ txn from. silent (with_acknowledged txn from x.coordinator) (λ t h. as_was [] t h (no_replies t.txn));
      inviting = λ c rs port is g. more c c rs _ (inviting_silent port) (λ t h. h) g;
    }

pub told-step : (catalogue : Catalogue) (x : SiteState) (given : Input) → Apart x.live → let o = step catalogue x given in ToldNow catalogue x given o.site.coordinator o.effects.replies o.effects.commits
told-step catalogue x given apart = step-front catalogue x given (ToldNow catalogue x given) (front catalogue x given (step catalogue x given).site apart) (starts catalogue x given (step catalogue x given).site apart)
