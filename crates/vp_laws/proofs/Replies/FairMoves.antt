-- After one step what is refused is still justified, and so are the step's own answers.
use Rattle.std.proofs.Common.{◌≡◌, ◌≢◌, ◌∙◌, ◌⊎◌, inl, inr, append-nil, ap, sym, subst, ℕ, zero, suc, ◌+◌, ◌-◌, ◌≤◌, ◌*◌, Bool, true, false, cond, List, [], ◌∷◌, ◌++◌, map, refl, arith, ⊎_elim, length}
use Rattle.std.specs.Prelude.{slice_get, Option, Some, None, is_some, filter, option_map, option_to_list, nat_le, nat_lt, not, ◌==◌, ◌&&◌, ◌||◌}
use Rattle.std.proofs.lemmas.Bool.Decides.{nat_tests}
use Rattle.std.proofs.Math.ListN.{length-append}
use Rattle.std.specs.List.{list_any}
use Rattle.std.proofs.lemmas.List.Elements.{filter-append}
use Rattle.vp_model.specs.Calls.{short_by, short_of_holders, short, change_asked, is_bad_table, is_too_large}
use Rattle.vp_model.specs.Types.op
use Rattle.vp_model.specs.Types.{TxnId, ViewId, View, Owner, Obstacle, Call, Answer, Reply, Message, Input, Pending, Live, Ending, Finished}
use Rattle.vp_base.specs.declared.site.Ending.TheVariants.{Committed, Aborted, LockHeld, ViewChanged, TimedOut, Inaccessible}
use Rattle.vp_model.specs.Types.answer
use Rattle.vp_model.specs.Types.call
use Rattle.vp_model.specs.Types.event
use Rattle.vp_model.specs.Types.input
use Rattle.vp_model.specs.Types.message
use Rattle.vp_model.specs.Types.obstacle
use Rattle.vp_model.specs.Words.{is_view, same_txn, first_some, has, value_at}
use Rattle.vp_model.specs.Catalogue.{Catalogue, Table as Weights, find_record, holders, total, weight_inside, weight_total, accessible_by}
use Rattle.vp_model.specs.Site.{SiteState, Stepped}
use Rattle.vp_model.specs.Answers.{is_live}
use Rattle.vp_model.specs.Messages.{held_id}
use Rattle.vp_model.specs.Locks.{conflict}
use Rattle.vp_model.specs.Transactions.{Deed, answer_of, answers_after}
use Rattle.vp_model.specs.Refresh.{members, members_in}
use Rattle.vp_model.specs.Step.{step}
use Rattle.vp_model.specs.Told.{answers_in, call_in}
use Rattle.vp_model.specs.World.{WorldState, Moment}
use Rattle.vp_model.specs.Justified.{justified, was_blocked, held_other, is_held_by, is_other_view, left_then, closed_then, takes_refusal, is_step_of, tested_before, answers_call, keeps_end, tells_end, Request, handles, is_named, is_begun, table_in, tables_below, sums_are, weighs_first, weighs, can_change, is_next, bars, held_by_none, was_barred, is_barred_by, is_delivery, site_named, refused_number, refused_in, barred_number, barred_in}
use Rattle.vp_laws.proofs.Keeping.Settled.{holding}
use Rattle.vp_laws.proofs.Replies.RefusedCalls.{first_in, first_last, none_first, first_told, refused_of, barred_of}
use Rattle.vp_laws.proofs.Lists.Members.{Has, filter_has, has_none, has_one, has_left, has_right, has_cases, has_one_is, map_has, any_true, any_of}
use Rattle.vp_laws.proofs.Moves.Table.{record_of, Comes, Handled, Reads, Changes, Tries, Requests, Asks}
use Rattle.vp_laws.proofs.Moves.LocalViews.{letter}
use Rattle.vp_laws.proofs.Worlds.Scenes.{Scene, scene_of, plain_at, acted}
use Rattle.vp_laws.proofs.Worlds.Events.{Arrives}
use Rattle.vp_laws.proofs.Invariant.Shares.{HasRequest}
use Rattle.vp_laws.proofs.Invariant.Answers.{Current}
use Rattle.vp_laws.proofs.Table.Led.{Led}
use Rattle.vp_model.proofs.SameTxn.{same_txn-self, same_txn-is}
use Rattle.vp_laws.proofs.Lists.Names.{apart_unique}
use Rattle.vp_laws.proofs.Replies.EndsTrue.{EndedAt, ended_step, ended_quiet, said_refused, said_barred}
use Rattle.vp_laws.proofs.Worlds.Sites.{NowIs, now_is, Quiet, quiet_is, live_still, finished_still}
use Rattle.vp_laws.proofs.Moves.Reasons.{IsCallOf, Operates, Takes, Awaits, Unable, Why, told_to}
use Rattle.vp_laws.proofs.Table.Refusals.{Refused, RefuseSays, refusals-step}
use Rattle.vp_laws.proofs.Table.Fair.{is_free, finished_as, LiveFrom, FinishedFrom, ReplyFrom, Causes, causes-step}
use Rattle.vp_laws.proofs.Replies.Fair.{is_site, WasBegun, Once, ByLock, OtherView, Fair, Untold, TellsEnd, closes, begun_more, eq_same, fair_more, fair_justified, first_of, second_of}
use Rattle.vp_laws.proofs.Replies.FairStep.{IsStep, named_site, delivers, delivered_uncalled, barred_there, called_event, step_here, handles_now, operation_asks, named_here, tested_x, replied, blocked_here, blocked_there, other_there, left_now, closed_now, called_now, called_first, pending_now, took_refusal, same_now, same_view-self}
use Rattle.vp_laws.proofs.Replies.FairAt.{named_number, IsAsked, RefuseFair, RefuseOk, FairEnd, FairAt, refuse_on, end_more, free_justified, report_fair}
use Rattle.vp_laws.proofs.Table.Kept.{is_report, kept_has}
use Rattle.vp_laws.proofs.Moves.Coordinator.{slice_has}
use Rattle.vp_model.specs.Calls.{handling, kept_answer}
use Rattle.vp_laws.proofs.Table.ToldLines.{lines_in}
use Rattle.vp_laws.proofs.Lists.LockTables.{same_owner-self}
use Rattle.std.specs.Option.{option_map_or}
use Rattle.std.proofs.lemmas.Bool.{or_left, or_right}
use Rattle.vp_laws.proofs.Lists.Numbers.{one_above, eq_self}
use Rattle.vp_laws.proofs.Keeping.Does.{Does, does}
use Rattle.vp_laws.proofs.Invariant.Known.{Known}
use Rattle.vp_laws.proofs.Invariant.Invariant.{Invariant}
use Rattle.vp_laws.proofs.Order.Invariant.{invariant_acts}

at_most_of : (a b c : ℕ) → a ≡ b + 1 → b + 1 ≤ c → a ≤ c
at_most_of a b c e h = omega arith

same_at_most : (a b : ℕ) → a ≡ b → b ≤ a
same_at_most a b e = omega arith

-- answers that say nothing of a refused call
free_unrefused : (txn : TxnId) (a : Answer) (n : ℕ) → is_free a ≡ true → refused_number txn a ≡ Some n → ⊥
free_unrefused txn (answer.LockHeld t number name at holder) n e f = cc
free_unrefused txn (answer.ViewChanged t number at held now) n e f = cc
free_unrefused txn _ n e f = cc

report_unrefused : (txn : TxnId) (a : Answer) (n : ℕ) → is_report a ≡ true → refused_number txn a ≡ Some n → ⊥
report_unrefused txn (answer.LockHeld t number name at holder) n e f = cc
report_unrefused txn (answer.ViewChanged t number at held now) n e f = cc
report_unrefused txn _ n e f = cc

free_unbarred : (txn : TxnId) (a : Answer) (n : ℕ) → is_free a ≡ true → barred_number txn a ≡ Some n → ⊥
free_unbarred txn (answer.Inaccessible t number name inside total) n e f = cc
free_unbarred txn _ n e f = cc

report_unnamed : (txn : TxnId) (a : Answer) (n : ℕ) → is_report a ≡ true → named_number txn a ≡ Some n → ⊥
report_unnamed txn (answer.LockHeld t number name at holder) n e f = cc
report_unnamed txn (answer.ViewChanged t number at held now) n e f = cc
report_unnamed txn (answer.Inaccessible t number name inside total) n e f = cc
report_unnamed txn _ n e f = cc

-- an end has the number that it names
named_of : (txn : TxnId) (number : ℕ) (why : Ending) (n : ℕ) → named_number txn (answer_of txn number why) ≡ Some n → number ≡ n
named_of txn number Committed n e = cc
named_of txn number Aborted n e = cc
named_of txn number (LockHeld name at holder) n e = (refused_of txn txn number (LockHeld name at holder) n e).1
named_of txn number (ViewChanged at held now) n e = (refused_of txn txn number (ViewChanged at held now) n e).1
named_of txn number (TimedOut at) n e = cc
named_of txn number (Inaccessible name inside total) n e = (barred_of txn txn number (Inaccessible name inside total) n e).1

own_barred : (txn : TxnId) (number : ℕ) (name : List ℕ) (inside total : ℕ) → barred_number txn (answer.Inaccessible txn number name inside total) ≡ Some number
own_barred txn number name inside total = rw (same_txn-self txn) refl

own_held : (txn : TxnId) (number : ℕ) (name : List ℕ) (at : ℕ) (holder : Owner) → refused_number txn (answer.LockHeld txn number name at holder) ≡ Some number
own_held txn number name at holder = rw (same_txn-self txn) refl

own_view : (txn : TxnId) (number at : ℕ) (held : ViewId) (held_now : Option ViewId) → refused_number txn (answer.ViewChanged txn number at held held_now) ≡ Some number
own_view txn number at held held_now = rw (same_txn-self txn) refl

below_of : (n m : ℕ) → nat_le n m ≡ false → m ≤ n
below_of n m e = grind (arith, nat_tests, e)

all_of_two : (a b : Bool) → a ≡ true → b ≡ true → (a && b) ≡ true
all_of_two a b p q = rw (p, q) refl

-- the last of a list, or one before it
last_place : {X : Type 0} (xs : List X) (y : X) (i : ℕ) (a : X) → slice_get (xs ++ y ∷ []) i ≡ Some a → (slice_get xs i ≡ Some a) ⊎ ((i ≡ length xs) × (y ≡ a))
last_place [] y zero a e = inr (refl, cc)
last_place [] y (suc i) a e = cc
last_place (x ∷ xs) y zero a e = inl e
last_place (x ∷ xs) y (suc i) a e = ⊎_elim (λ old. inl old) (λ new. inr (ap suc new.0, new.1)) (last_place xs y i a e)

up_to_64 : (number answered : ℕ) → number ≡ answered + 1 → nat_le 64 answered ≡ false → nat_le number 64 ≡ true
up_to_64 number answered e few = grind (arith, nat_tests, e, few)

-- a change that a call asks for is the one that it tries
asked_unrefused : (catalogue : Catalogue) (words : Call) (name : List ℕ) (exclusive : Bool) (rec : ℕ) (deed : Deed) (refuses : Deed → Bool) → Operates words name exclusive → Tries words rec deed → find_record catalogue name ≡ Some rec → refuses deed ≡ false → option_map_or refuses (change_asked catalogue words) false ≡ false
asked_unrefused catalogue words name _ rec deed refuses (Operates.reads txn n e) tries found none = rw e refl
asked_unrefused catalogue words name _ rec deed refuses (Operates.writes txn n value e) tries found none = rw (e, found) (subst (λ (d : Deed). refuses d ≡ false) (sym (is deed tries)) none)
  where
    is : (deed : Deed) → Tries words rec deed → Deed.operates (op.Write rec (Some value)) ≡ deed
    is _ (Tries.writes t k called written f) = let z = sym e ∙ f in let same : value ≡ written = cc in rw same refl
    is _ (Tries.reads t k called f) = let z = sym e ∙ f in cc
    is _ (Tries.deletes t k called f) = let z = sym e ∙ f in cc
    is _ (Tries.weighs t k called table f) = let z = sym e ∙ f in cc
asked_unrefused catalogue words name _ rec deed refuses (Operates.deletes txn n e) tries found none = rw (e, found) (subst (λ (d : Deed). refuses d ≡ false) (sym (is deed tries)) none)
  where
    is : (deed : Deed) → Tries words rec deed → Deed.operates (op.Write rec None) ≡ deed
    is _ (Tries.deletes t k called f) = refl
    is _ (Tries.reads t k called f) = let z = sym e ∙ f in cc
    is _ (Tries.writes t k called written f) = let z = sym e ∙ f in cc
    is _ (Tries.weighs t k called table f) = let z = sym e ∙ f in cc
asked_unrefused catalogue words name _ rec deed refuses (Operates.weighs txn n table e) tries found none = rw (e, found) (subst (λ (d : Deed). refuses d ≡ false) (sym (is deed tries)) none)
  where
    is : (deed : Deed) → Tries words rec deed → Deed.weighs rec table ≡ deed
    is _ (Tries.weighs t k called given f) = let z = sym e ∙ f in let same : table ≡ given = cc in rw same refl
    is _ (Tries.reads t k called f) = let z = sym e ∙ f in cc
    is _ (Tries.writes t k called written f) = let z = sym e ∙ f in cc
    is _ (Tries.deletes t k called f) = let z = sym e ∙ f in cc

-- a number and the place of its answer
place_number : (number n : ℕ) → n ≡ number - 1 + 1 → (n ≡ number) ⊎ ((number ≡ 0) × (n ≡ 1))
place_number zero n e = inr (refl, e)
place_number (suc i) n e = inl (omega (arith, e))

report_tells : (m : Moment) (a : Answer) → is_report a ≡ true → TellsEnd m a
report_tells m (answer.LockHeld txn number name at holder) e = cc
report_tells m (answer.ViewChanged txn number at held now) e = cc
report_tells m (answer.Inaccessible txn number name inside total) e = cc
report_tells m _ e = tt

module _ (catalogue : Catalogue) (world : WorldState) (past : List Moment) (m0 : Moment) (s : ℕ) (x : SiteState) (given : Input) (up : plain_at (scene_of world) s ≡ Some x) (arrives : Arrives (scene_of world) s given) (is : IsStep m0 world s x given (step catalogue x given)) (fair : FairAt catalogue (scene_of world) past) where
  abbrev w : Scene
  w = scene_of world

  abbrev o : Stepped
  o = step catalogue x given

  abbrev now : List Moment
  now = past ++ m0 ∷ []

  here : Has now m0
  here = has_right past (m0 ∷ []) m0 (has_one m0)

  known : Known catalogue w
  known = fair.inv.known

  inv_now : Invariant catalogue (acted w s x o)
  inv_now = invariant_acts catalogue w s x given up arrives fair.inv

  d : Does catalogue w (acted w s x o) s x given o
  d = does catalogue w s x given up arrives known

  c : Causes catalogue x given o.site o.site.coordinator o.effects.replies o.effects.commits
  c = causes-step catalogue x given (known.repeated.site s x up)

  own_site : (t : Live) → Has x.live t → t.txn.site ≡ s
  own_site t h = (d.led.names t h).0 ∙ d.here.id

  -- the pending call has the next number
  next_number : (t : Live) (p : Pending) → Has x.live t → t.pending ≡ Some p → p.number ≡ length t.answers + 1
  next_number t p h e = (known.ops.live s x t up h).next p e

  number_of : (t : Live) (why : Ending) (p : Pending) → Why catalogue x given o.site t why → t.pending ≡ Some p → p.number ≡ length t.answers + 1
  number_of t why p (Why.aborted was q at e) g = let z = ap (λ (t : Live). t.pending) e in let same : q ≡ p = cc in rw (← same, e) at.next.number
  number_of t why p (Why.held_here was q name rec exclusive holder at e op f n) g = let z = ap (λ (t : Live). t.pending) e in let same : q ≡ p = cc in rw (← same, e) at.next.number
  number_of t why p (Why.held_there q from name exclusive holder a n op) g = next_number t p a.live g
  number_of t why p (Why.other_view q from held_now a n) g = next_number t p a.live g
  number_of t why p (Why.barred_there q from name exclusive inside total a n op) g = next_number t p a.live g
  number_of t why p (Why.left h gone) g = next_number t p h g
  number_of t why p (Why.timed_out missing h) g = next_number t p h g

  -- a transaction that was live as the step began was told of no refusal before
  never_told : (txn : TxnId) (u : Live) → Has x.live u → u.txn ≡ txn → refused_in past txn ≡ None
  never_told txn u h same = none_first (refused_number txn) past (λ m k a q n e.
      let ended = fair.told m k a q txn n e in
      ended.over x (rw (← same, own_site u h) up) u h same)

  -- and in this step only under the number of its pending call
  finished_other : (t : Live) (f : Finished) (number : ℕ) (n : ℕ) → Handled x t → Has x.finished f → refused_number t.txn (answer_of f.txn number f.ending) ≡ Some n → ⊥
  finished_other t f number n at h e =
      let own : f.txn ≡ t.txn = (refused_of f.txn t.txn number f.ending n e).0 in
      (known.ends.settled s x up).finished f at.was h at.live (ap (λ (t : Live). t.txn) (sym at.same) ∙ sym own)

  -- the pending call of one of that name has its next number
  next_of : (t : Live) → Handled x t → (u : Live) (why : Ending) (p : Pending) → Handled x u → Why catalogue x given o.site u why → u.pending ≡ Some p → u.txn ≡ t.txn → p.number ≡ length t.answers + 1
  next_of t at u why p also w q named =
      let one : also.was ≡ at.was = apart_unique x.live (known.votes.site s x up) also.was at.was also.live at.live (ap (λ (t : Live). t.txn) (sym also.same) ∙ named ∙ ap (λ (t : Live). t.txn) at.same) in
      let same : u.answers ≡ t.answers = ap (λ (t : Live). t.answers) also.same ∙ ap (λ (t : Live). t.answers) one ∙ ap (λ (t : Live). t.answers) (sym at.same) in
      number_of u why p w q ∙ ap (λ (answers : List Answer). length answers + 1) same

  number_told : (t : Live) → Handled x t → (a : Answer) → ReplyFrom catalogue x given o.site a → (n : ℕ) → refused_number t.txn a ≡ Some n → n ≡ length t.answers + 1
  number_told t at a (ReplyFrom.free b f) n e = absurd (free_unrefused t.txn b n f e)
  number_told t at a (ReplyFrom.inaccessible u p name rec exclusive deed weights takes op found tries f) n e = cc
  number_told t at a (ReplyFrom.repeated f place b k q c) n e = ⊎_elim
      (λ r. absurd (report_unrefused t.txn b n r e))
      (λ (r : (number : ℕ) × (b ≡ answer_of f.txn number f.ending)). absurd (finished_other t f r.0 n at k (ap (refused_number t.txn) (sym r.1) ∙ e)))
      ((known.repeated.site s x up).finished f k b (kept_has place f.answers b q))
  number_told t at a (ReplyFrom.ended f number k l c) n e = absurd (finished_other t f number n at k e)
  number_told t at a (ReplyFrom.closed u why p also w q) n e = let own = refused_of u.txn t.txn p.number why n e in sym own.1 ∙ next_of t at u why p also w q own.0

  number_in : (t : Live) → Handled x t → (a : Answer) → Has (answers_in m0.line) a → (n : ℕ) → refused_number t.txn a ≡ Some n → n ≡ length t.answers + 1
  number_in t at a h =
      let r = map_has (λ (r : Reply). r.answer) o.effects.replies a (rw is.shown at h) in
      number_told t at a (subst (ReplyFrom catalogue x given o.site) r.2 (c.says r.0 r.1))

  refused_first : (t : Live) (p : Pending) (a : Answer) → Handled x t → p.number ≡ length t.answers + 1 → refused_number t.txn a ≡ Some p.number → Has (answers_in m0.line) a → refused_in now t.txn ≡ Some p.number
  refused_first t p a at number own h =
      first_last (refused_number t.txn) past m0 (never_told t.txn at.was at.live (ap (λ (t : Live). t.txn) (sym at.same)))
      ∙ first_told (refused_number t.txn) (answers_in m0.line) p.number (λ b q n e. number_in t at b q n e ∙ sym number) a h own

  -- a transaction that the step says was refused is over
  ended_told : (a : Answer) → Has (answers_in m0.line) a → (txn : TxnId) (n : ℕ) → refused_number txn a ≡ Some n → EndedAt (acted w s x o) txn
  ended_told a h txn n e =
      let r = map_has (λ (r : Reply). r.answer) o.effects.replies a (rw is.shown at h) in
      said_refused catalogue w (acted w s x o) s x given o known inv_now.known d fair.inv.own_ends r.0.answer txn n (d.replying.said r.0 r.1) (ap (refused_number txn) r.2 ∙ e)

  -- the same of a transaction that a message ended by `inaccessible`
  never_barred : (txn : TxnId) (u : Live) → Has x.live u → u.txn ≡ txn → barred_in past txn ≡ None
  never_barred txn u h same = none_first (barred_number txn) (filter (λ (m : Moment). is_delivery m.line.event) past) (λ m k a q n e.
      let f = filter_has (λ (m : Moment). is_delivery m.line.event) past m k in
      let ended = fair.barred m f.0 f.1 a q txn n e in
      ended.over x (rw (← same, own_site u h) up) u h same)

  barred_told : (t : Live) → Handled x t → is_delivery m0.line.event ≡ true → (a : Answer) → ReplyFrom catalogue x given o.site a → (n : ℕ) → barred_number t.txn a ≡ Some n → n ≡ length t.answers + 1
  barred_told t at delivery a (ReplyFrom.free b f) n e = absurd (free_unbarred t.txn b n f e)
  barred_told t at delivery a (ReplyFrom.inaccessible u p name rec exclusive deed weights takes op found tries f) n e = absurd (delivered_uncalled catalogue m0 world s x given o is delivery p.port p.call takes.called.comes)
  barred_told t at delivery a (ReplyFrom.repeated f place b k q c) n e = absurd (delivered_uncalled catalogue m0 world s x given o is delivery c.port c.words c.comes)
  barred_told t at delivery a (ReplyFrom.ended f number k l c) n e = absurd (delivered_uncalled catalogue m0 world s x given o is delivery c.port c.words c.comes)
  barred_told t at delivery a (ReplyFrom.closed u why p also w q) n e = let own = barred_of u.txn t.txn p.number why n e in sym own.1 ∙ next_of t at u why p also w q own.0

  barred_first : (t : Live) (p : Pending) (a : Answer) → Handled x t → is_delivery m0.line.event ≡ true → p.number ≡ length t.answers + 1 → barred_number t.txn a ≡ Some p.number → Has (answers_in m0.line) a → barred_in now t.txn ≡ Some p.number
  barred_first t p a at delivery number own h =
      let last : filter (λ (m : Moment). is_delivery m.line.event) (m0 ∷ []) ≡ m0 ∷ [] = rw delivery refl in
      ap (first_in (barred_number t.txn)) (filter-append (λ (m : Moment). is_delivery m.line.event) past (m0 ∷ []) ∙ ap (λ (ms : List Moment). filter (λ (m : Moment). is_delivery m.line.event) past ++ ms) last)
      ∙ first_last (barred_number t.txn) (filter (λ (m : Moment). is_delivery m.line.event) past) m0 (never_barred t.txn at.was at.live (ap (λ (t : Live). t.txn) (sym at.same)))
      ∙ first_told (barred_number t.txn) (answers_in m0.line) p.number (λ b q n e. barred_here t at delivery b q n e ∙ sym number) a h own
    where
      barred_here : (t : Live) → Handled x t → is_delivery m0.line.event ≡ true → (a : Answer) → Has (answers_in m0.line) a → (n : ℕ) → barred_number t.txn a ≡ Some n → n ≡ length t.answers + 1
      barred_here t at delivery a h n e =
          let r = map_has (λ (r : Reply). r.answer) o.effects.replies a (rw is.shown at h) in
          barred_told t at delivery a (subst (ReplyFrom catalogue x given o.site) r.2 (c.says r.0 r.1)) n e

  barred_ended : is_delivery m0.line.event ≡ true → (a : Answer) → Has (answers_in m0.line) a → (txn : TxnId) (n : ℕ) → barred_number txn a ≡ Some n → EndedAt (acted w s x o) txn
  barred_ended delivery a h txn n e =
      let r = map_has (λ (r : Reply). r.answer) o.effects.replies a (rw is.shown at h) in
      said_barred catalogue w (acted w s x o) s x given o known inv_now.known d fair.inv.own_ends r.0.answer txn n (d.replying.said r.0 r.1)
      (λ t p next. delivered_uncalled catalogue m0 world s x given o is delivery p.port p.call next.comes) (ap (barred_number txn) r.2 ∙ e)

  was_live : (t : Live) → Has x.live t → is_live t.txn x.live ≡ true
  was_live t h = any_of (λ (u : Live). same_txn u.txn t.txn) x.live t h (same_txn-self t.txn)

  over_now : (txn : TxnId) → txn.site ≡ s → EndedAt (acted w s x o) txn → is_live txn o.site.live ≡ false
  over_now txn at ended = go (is_live txn o.site.live) refl
    where
      go : (b : Bool) → is_live txn o.site.live ≡ b → b ≡ false
      go false e = refl
      go true e = let r = any_true (λ (t : Live). same_txn t.txn txn) o.site.live e in absurd (ended.over o.site (rw at d.st.now) r.0 r.1 (same_txn-is r.0.txn txn r.2))

  handled_site : (t : Live) → Handled x t → t.txn.site ≡ s
  handled_site t at = ap (λ (t : Live). t.txn.site) at.same ∙ own_site at.was at.live

  -- the step closes a live transaction that is over then
  closed_over : (t : Live) → Handled x t → EndedAt (acted w s x o) t.txn → closed_then t.txn m0 ≡ true
  closed_over t at ended =
      let was : at.was.txn ≡ t.txn = ap (λ (t : Live). t.txn) (sym at.same) in
      let site : t.txn.site ≡ s = handled_site t at in
      let live : is_live t.txn x.live ≡ true = subst (λ (txn : TxnId). is_live txn x.live ≡ true) was (was_live at.was at.live) in
      closed_now catalogue m0 world s x given o is t.txn site live (over_now t.txn site ended)

  -- as one whose refusal it reports
  closed_here : (t : Live) (a : Answer) (n : ℕ) → Handled x t → Has (answers_in m0.line) a → refused_number t.txn a ≡ Some n → closed_then t.txn m0 ≡ true
  closed_here t a n at h e = closed_over t at (ended_told a h t.txn n e)

  -- the request that was refused is of the pending call, and of another site
  current : (t : Live) (p : Pending) (Asked : Pending → Type 0) → Has x.live t → t.pending ≡ Some p → Current Asked p.number t → Asked p
  current t p Asked h e cur = ⊎_elim
      (λ old. absurd (one_above p.number (length t.answers) old (next_number t p h e)))
      (λ (q : (a : Pending) × (t.pending ≡ Some a) × (a.number ≡ p.number) × Asked a). let z = q.1 in let same : q.0 ≡ p = cc in subst Asked same q.3) cur

  uses_reads : (p : Pending) (name : List ℕ) (exclusive : Bool) (rec : ℕ) → Operates p.call name exclusive → Reads catalogue p rec → find_record catalogue name ≡ Some rec
  uses_reads p name exclusive rec (Operates.reads txn n e) r = let z = r.words in let same : r.name ≡ name = cc in rw (← same) r.found
  uses_reads p name exclusive rec (Operates.writes txn n value e) r = let z = r.words in cc
  uses_reads p name exclusive rec (Operates.deletes txn n e) r = let z = r.words in cc
  uses_reads p name exclusive rec (Operates.weighs txn n table e) r = let z = r.words in cc

  of_record : (name : List ℕ) (f : ℕ → Deed) (rec : ℕ) (deed : Deed) → ((k : ℕ) → record_of (f k) ≡ k) → option_map f (find_record catalogue name) ≡ Some deed → record_of deed ≡ rec → find_record catalogue name ≡ Some rec
  of_record name f rec deed at asked on = go (find_record catalogue name) asked
    where
      go : (o : Option ℕ) → option_map f o ≡ Some deed → o ≡ Some rec
      go None e = cc
      go (Some k) e = let is : f k ≡ deed = cc in ap (λ (n : ℕ). Some n) (sym (at k) ∙ ap record_of is ∙ on)

  uses_writes : (p : Pending) (name : List ℕ) (exclusive : Bool) (rec : ℕ) (deed : Deed) → Operates p.call name exclusive → Changes catalogue p rec deed → find_record catalogue name ≡ Some rec
  uses_writes p name exclusive rec deed (Operates.reads txn n e) r = let z = ap (change_asked catalogue) (sym e) ∙ r.asked in cc
  uses_writes p name exclusive rec deed (Operates.writes txn n v e) r = of_record name (λ k. Deed.operates (op.Write k (Some v))) rec deed (λ k. refl) (ap (change_asked catalogue) (sym e) ∙ r.asked) r.on
  uses_writes p name exclusive rec deed (Operates.deletes txn n e) r = of_record name (λ k. Deed.operates (op.Write k None)) rec deed (λ k. refl) (ap (change_asked catalogue) (sym e) ∙ r.asked) r.on
  uses_writes p name exclusive rec deed (Operates.weighs txn n table e) r = of_record name (λ k. Deed.weighs k table) rec deed (λ k. refl) (ap (change_asked catalogue) (sym e) ∙ r.asked) r.on

  up_there : (t : Live) → Has x.live t → plain_at w t.txn.site ≡ Some x
  up_there t h = rw (own_site t h) up

  named_there : (t : Live) (p : Pending) (from q : ℕ) (view : ViewId) (rec : ℕ) (flag exclusive : Bool) (name : List ℕ) → Awaits x t p → HasRequest w q from t.txn view p.number rec flag → Operates p.call name exclusive → (find_record catalogue name ≡ Some rec) × (from ≢ t.txn.site)
  named_there t p from q view rec flag exclusive name a (HasRequest.to_read m) op = (
    uses_reads p name exclusive rec op (current t p (λ p. Reads catalogue p rec) a.live a.pending (known.answers.asks _ m x t (up_there t a.live) a.live refl)),
    (known.led.asked _ m).5,
  )
  named_there t p from q view rec flag exclusive name a (HasRequest.to_write m) op =
      let r = current t p (λ p. (deed : Deed) × Changes catalogue p rec deed) a.live a.pending (known.answers.asks _ m x t (up_there t a.live) a.live refl) in (
        uses_writes p name exclusive rec r.0 op r.1,
        (known.led.asked _ m).5,
      )

  -- the transaction's view is the one that it was asked for in
  view_of : (t : Live) (q from : ℕ) (view : ViewId) (number : ℕ) → Has x.live t → IsAsked w q from t.txn view number → (t.view ≡ view) × (from ≢ t.txn.site)
  view_of t q from view number h (IsAsked.to_read rec m) = ((known.shares.says _ m).live x t (up_there t h) h refl, (known.led.asked _ m).5)
  view_of t q from view number h (IsAsked.to_write rec m) = ((known.shares.says _ m).live x t (up_there t h) h refl, (known.led.asked _ m).5)
  view_of t q from view number h (IsAsked.to_prepare reads writes m) = ((known.shares.says _ m).live x t (up_there t h) h refl, (known.led.asked _ m).5)

  begun_now : (t : Live) → Has x.live t → WasBegun now t.txn t.view
  begun_now t h = begun_more past (m0 ∷ []) t.txn t.view (fair.live s x t up h)

  -- a lock that another site named
  there_fair : (t : Live) (p : Pending) (from : ℕ) (name : List ℕ) (exclusive : Bool) (holder : Owner) (k : ℕ) → Awaits x t p → Operates p.call name exclusive → Comes given from (message.Refuse t.txn p.number (obstacle.Held holder)) → closed_then t.txn m0 ≡ true → refused_in now t.txn ≡ Some p.number → p.number ≤ k → RefuseFair catalogue w past from t.txn p.number (obstacle.Held holder) → Fair catalogue now (answer.LockHeld t.txn k name from holder)
  there_fair t p from name exclusive holder k a op came closed first up_to (RefuseFair.blocked view rec flag held_by q asked m h f) =
      let n = named_there t p from q view rec flag exclusive name a asked op in
      let took : takes_refusal t.txn p.number from (is_held_by holder) m0 ≡ true = took_refusal catalogue m0 world s x given o is from t.txn p.number (obstacle.Held holder) (is_held_by holder) came (same_owner-self holder) in
      record {
        refused = p.number;
        first = first;
        up_to = up_to;
        closed = ByLock.there n.1 (closes now t.txn (takes_refusal t.txn p.number from (is_held_by holder)) m0 here closed took) (record { moment = m; has = has_left past (m0 ∷ []) m h; passes = f name n.0 n.1 });
      }

  -- a bar that another site named
  bar_fair : (t : Live) (p : Pending) (from : ℕ) (name : List ℕ) (exclusive : Bool) (i n k : ℕ) → Awaits x t p → Operates p.call name exclusive → Comes given from (message.Refuse t.txn p.number (obstacle.Barred i n)) → closed_then t.txn m0 ≡ true → barred_in now t.txn ≡ Some p.number → p.number ≤ k → RefuseFair catalogue w past from t.txn p.number (obstacle.Barred i n) → Fair catalogue now (answer.Inaccessible t.txn k name i n)
  bar_fair t p from name exclusive i n k a op came closed first up_to (RefuseFair.barred view rec flag inside total q asked m h f) =
      let named = named_there t p from q view rec flag exclusive name a asked op in
      let self : is_barred_by i n (obstacle.Barred i n) ≡ true = rw (eq_self i) (eq_self n) in
      let took : takes_refusal t.txn p.number from (is_barred_by i n) m0 ≡ true = took_refusal catalogue m0 world s x given o is from t.txn p.number (obstacle.Barred i n) (is_barred_by i n) came self in
      record {
        refused = p.number;
        first = first;
        up_to = up_to;
        closed = record {
          at = from;
          closes = closes now t.txn (takes_refusal t.txn p.number from (is_barred_by i n)) m0 here closed took;
          barred = record { moment = m; has = has_left past (m0 ∷ []) m h; passes = f name named.0 };
        };
      }

  -- another view that another site named
  view_fair : (t : Live) (p : Pending) (from : ℕ) (held_now : Option ViewId) (k : ℕ) → Awaits x t p → Comes given from (message.Refuse t.txn p.number (obstacle.OtherView held_now)) → closed_then t.txn m0 ≡ true → refused_in now t.txn ≡ Some p.number → p.number ≤ k → RefuseFair catalogue w past from t.txn p.number (obstacle.OtherView held_now) → Fair catalogue now (answer.ViewChanged t.txn k from t.view held_now)
  view_fair t p from held_now k a came closed first up_to (RefuseFair.elsewhere view w_now q asked e once) =
      let n = view_of t q from view p.number a.live asked in
      let e_now : is_view held_now t.view ≡ false = rw n.0 e in
      let once_now : Once past (held_other catalogue t.txn p.number from t.view held_now) = rw n.0 once in
      let took : takes_refusal t.txn p.number from (is_other_view held_now) m0 ≡ true = took_refusal catalogue m0 world s x given o is from t.txn p.number (obstacle.OtherView held_now) (is_other_view held_now) came (same_now held_now) in (
        begun_now t a.live,
        OtherView.other held_now n.1 e_now (record {
          refused = p.number;
          first = first;
          up_to = up_to;
          closed = record {
            closes = closes now t.txn (takes_refusal t.txn p.number from (is_other_view held_now)) m0 here closed took;
            other = record { moment = once_now.moment; has = has_left past (m0 ∷ []) once_now.moment once_now.has; passes = once_now.passes };
          };
        }),
      )

  -- a lock here, of a call that comes in this step
  here_fair : (was : Live) (p : Pending) (name : List ℕ) (rec : ℕ) (exclusive : Bool) (holder : Owner) (k : ℕ) → Takes x given was p → Operates p.call name exclusive → find_record catalogue name ≡ Some rec → conflict rec exclusive was.txn x.locks ≡ Some holder → closed_then was.txn m0 ≡ true → refused_in now was.txn ≡ Some p.number → p.number ≤ k → Has (answers_in m0.line) (answer.LockHeld was.txn p.number name x.id holder) → Fair catalogue now (answer.LockHeld was.txn k name x.id holder)
  here_fair was p name rec exclusive holder k at op f n closed first up_to told =
      let told_here : Has (answers_in m0.line) (answer.LockHeld was.txn p.number name s holder) = rw (← d.here.id) told in
      let blocked = blocked_here catalogue m0 world s x given o is was p name rec exclusive holder at.called op f n (own_site was at.live) told_here in
      rw d.here.id (record { refused = p.number; first = first; up_to = up_to; closed = ByLock.here (sym (own_site was at.live)) (closes now was.txn (was_blocked catalogue was.txn p.number name s holder) m0 here closed blocked) })

  -- where the site holds no view it has no live transaction
  none_left : o.site.held ≡ None → (txn : TxnId) → is_live txn o.site.live ≡ false
  none_left gone txn = go (is_live txn o.site.live) refl
    where
      led_now : Led o.site
      led_now = inv_now.known.led.site s o.site d.st.now

      go : (b : Bool) → is_live txn o.site.live ≡ b → b ≡ false
      go false e = refl
      go true e = let r = any_true (λ (t : Live). same_txn t.txn txn) o.site.live e in let v = led_now.live r.0 r.1 in let z = v.1 in cc

  left_fair : (t : Live) (k : ℕ) → Has x.live t → o.site.held ≡ None → Fair catalogue now (answer.ViewChanged t.txn k x.id t.view None)
  left_fair t k h gone =
      let v = d.led.live t h in
      let closed : closed_then t.txn m0 ≡ true = closed_now catalogue m0 world s x given o is t.txn (own_site t h) (was_live t h) (none_left gone t.txn) in
      let left : left_then s v.0.id m0 ≡ true = left_now catalogue m0 world s x given o is v.0 v.1 gone in
      let left_here : left_then x.id t.view m0 ≡ true = subst (λ (k : ℕ). left_then k t.view m0 ≡ true) (sym d.here.id) (subst (λ (i : ViewId). left_then s i m0 ≡ true) v.2 left) in
      (begun_now t h, OtherView.left (d.here.id ∙ sym (own_site t h)) (closes now t.txn (left_then x.id t.view) m0 here closed left_here))

  why_fair : (t : Live) (why : Ending) (k : ℕ) → Handled x t → Why catalogue x given o.site t why → ((p : Pending) → t.pending ≡ Some p → Has (answers_in m0.line) (answer_of t.txn p.number why)) → ((p : Pending) → t.pending ≡ Some p → length t.answers + 1 ≤ k) → Fair catalogue now (answer_of t.txn k why)
  why_fair t why k handled (Why.aborted was p at e) told up_to = tt
  why_fair t why k handled (Why.held_here was p name rec exclusive holder at e op f n) told up_to =
      let pending : t.pending ≡ Some p = ap (λ (t : Live). t.pending) e in
      let same : t.txn ≡ was.txn = ap (λ (t : Live). t.txn) e in
      let next : p.number ≡ length t.answers + 1 = number_of t (LockHeld name x.id holder) p (Why.held_here was p name rec exclusive holder at e op f n) pending in
      let number : p.number ≤ k = at_most_of p.number (length t.answers) k next (up_to p pending) in
      let first : refused_in now t.txn ≡ Some p.number = refused_first t p _ handled next (own_held t.txn p.number name x.id holder) (told p pending) in
      let closed : closed_then t.txn m0 ≡ true = closed_here t _ p.number handled (told p pending) (own_held t.txn p.number name x.id holder) in
      rw same (here_fair was p name rec exclusive holder k at op f n (subst (λ (txn : TxnId). closed_then txn m0 ≡ true) same closed) (rw same at first) number (rw same at (told p pending)))
  why_fair t why k handled (Why.held_there p from name exclusive holder a n op) told up_to =
      let next = next_number t p a.live a.pending in
      let first : refused_in now t.txn ≡ Some p.number = refused_first t p _ handled next (own_held t.txn p.number name from holder) (told p a.pending) in
      there_fair t p from name exclusive holder k a op n (closed_here t _ p.number handled (told p a.pending) (own_held t.txn p.number name from holder)) first (at_most_of p.number (length t.answers) k next (up_to p a.pending)) (fair.sent _ (d.came from _ n))
  why_fair t why k handled (Why.other_view p from held_now a n) told up_to =
      let next = next_number t p a.live a.pending in
      let first : refused_in now t.txn ≡ Some p.number = refused_first t p _ handled next (own_view t.txn p.number from t.view held_now) (told p a.pending) in
      view_fair t p from held_now k a n (closed_here t _ p.number handled (told p a.pending) (own_view t.txn p.number from t.view held_now)) first (at_most_of p.number (length t.answers) k next (up_to p a.pending)) (fair.sent _ (d.came from _ n))
  why_fair t why k handled (Why.barred_there p from name exclusive i n a came op) told up_to =
      let next = next_number t p a.live a.pending in
      let delivery = delivers catalogue m0 world s x given o is from _ came in
      let own = own_barred t.txn p.number name i n in
      bar_fair t p from name exclusive i n k a op came (closed_over t handled (barred_ended delivery _ (told p a.pending) t.txn p.number own)) (barred_first t p _ handled delivery next own (told p a.pending)) (at_most_of p.number (length t.answers) k next (up_to p a.pending)) (fair.sent _ (d.came from _ came))
  why_fair t why k handled (Why.left h gone) told up_to = left_fair t k h gone
  why_fair t why k handled (Why.timed_out missing h) told up_to = tt

  told_of : (t : Live) (why : Ending) → ((p : Pending) → t.pending ≡ Some p → Has o.effects.replies (told_to p.port (answer_of t.txn p.number why))) → (p : Pending) → t.pending ≡ Some p → Has (answers_in m0.line) (answer_of t.txn p.number why)
  told_of t why told p e = replied catalogue m0 world s x given o is p.port (answer_of t.txn p.number why) (told p e)

  -- the weights that an answer names: by the call's own table, by a bar, or none since no member holds the record
  weighs_by : (name : List ℕ) (rec : ℕ) (v : View) (i n : ℕ) → x.held ≡ Some v → nat_le (2 * i) n ≡ true → find_record catalogue name ≡ Some rec → weighs_first catalogue m0 i n x rec ≡ true → weighs catalogue m0 name i n x ≡ true
  weighs_by name rec v i n held up_to found first = let some : is_some x.held ≡ true = rw held refl in rw (some, found) (all_of_two (nat_le (2 * i) n) _ up_to first)

  none_half : (n : ℕ) → nat_le (2 * 0) n ≡ true
  none_half n = grind (arith, nat_tests)

  half : (i n : ℕ) → nat_lt n (2 * i) ≡ false → nat_le (2 * i) n ≡ true
  half i n short = grind (arith, nat_tests, short)

  sums_self : (table : Weights) (sites : List ℕ) → sums_are (weight_inside sites table) (weight_total table) sites table ≡ true
  sums_self table sites = rw (eq_self (weight_inside sites table)) (eq_self (weight_total table))

  bar_holds : (rec : ℕ) (v : View) (bar : ℕ × ℕ) → x.held ≡ Some v → value_at rec x.bars ≡ Some bar → (bars catalogue w.journal rec bar.0 bar.1 x ≡ true) × (nat_le (2 * bar.0) bar.1 ≡ true)
  bar_holds rec v bar held e =
      let b = fair.inv.bars.site s rec x v bar up held e in
      let up_to : nat_le (2 * bar.0) bar.1 ≡ true = subst (λ (q : ℕ × ℕ). nat_le (2 * q.0) q.1 ≡ true) (sym b.sums) (half (weight_inside v.members b.table) (weight_total b.table) b.short) in
      let sums : sums_are bar.0 bar.1 v.members b.table ≡ true = subst (λ (q : ℕ × ℕ). sums_are q.0 q.1 v.members b.table ≡ true) (sym b.sums) (sums_self b.table v.members) in
      let any : list_any (sums_are bar.0 bar.1 v.members) (tables_below catalogue w.journal rec v.id) ≡ true = any_of (sums_are bar.0 bar.1 v.members) (tables_below catalogue w.journal rec v.id) b.table b.given sums in
      (rw (held, e, eq_self bar.0, eq_self bar.1, up_to) any, up_to)

  -- whether the call's own table leaves a majority
  own_short : (table : Weights) (b : Bool) → table_in m0.line.event ≡ Some table → not (accessible_by table (members x)) ≡ b → option_map_or (λ table. not (accessible_by table (members x))) (table_in m0.line.event) false ≡ b
  own_short table b own e = rw own e

  weighs_else : (name : List ℕ) (rec : ℕ) (v : View) (weights : ℕ × ℕ) → x.held ≡ Some v → find_record catalogue name ≡ Some rec → option_map_or (λ table. not (accessible_by table (members x))) (table_in m0.line.event) false ≡ false → first_some (value_at rec x.bars) (short_of_holders catalogue rec (members_in x.held)) ≡ Some weights → weighs catalogue m0 name weights.0 weights.1 x ≡ true
  weighs_else name rec v weights held found own e = by_bar (value_at rec x.bars) refl e
    where
      first : (i n : ℕ) (b : Bool) → is_some (value_at rec x.bars) ≡ b → cond b (bars catalogue m0.before.journal rec i n x) (held_by_none catalogue rec i n x) ≡ true → weighs_first catalogue m0 i n x rec ≡ true
      first i n b is h = second_of _ _ _ own (subst (λ (b : Bool). cond b (bars catalogue m0.before.journal rec i n x) (held_by_none catalogue rec i n x) ≡ true) (sym is) h)

      by_none : value_at rec x.bars ≡ None → (b : Bool) → list_any (has (members_in x.held)) (holders catalogue rec) ≡ b → cond b None (Some (0, total catalogue rec)) ≡ Some weights → weighs catalogue m0 name weights.0 weights.1 x ≡ true
      by_none none_here true f e = cc
      by_none none_here false f e =
          let is : (0, total catalogue rec) ≡ weights = cc in
          let none : held_by_none catalogue rec 0 (total catalogue rec) x ≡ true = rw (f, eq_self (total catalogue rec)) refl in
          subst (λ (q : ℕ × ℕ). weighs catalogue m0 name q.0 q.1 x ≡ true) is
          (weighs_by name rec v 0 (total catalogue rec) held (none_half (total catalogue rec)) found (first 0 (total catalogue rec) false (ap is_some none_here) none))

      by_bar : (bar : Option (ℕ × ℕ)) → value_at rec x.bars ≡ bar → first_some bar (short_of_holders catalogue rec (members_in x.held)) ≡ Some weights → weighs catalogue m0 name weights.0 weights.1 x ≡ true
      by_bar None f e = by_none f (list_any (has (members_in x.held)) (holders catalogue rec)) refl e
      by_bar (Some bar) f e =
          let same : bar ≡ weights = cc in
          let b = bar_holds rec v bar held f in
          let barred : bars catalogue m0.before.journal rec bar.0 bar.1 x ≡ true = subst (λ (w : WorldState). bars catalogue w.journal rec bar.0 bar.1 x ≡ true) (sym is.before) b.0 in
          subst (λ (q : ℕ × ℕ). weighs catalogue m0 name q.0 q.1 x ≡ true) same (weighs_by name rec v bar.0 bar.1 held b.1 found (first bar.0 bar.1 true (ap is_some f) barred))

  weighs_x : (t : Live) (p : Pending) (name : List ℕ) (rec : ℕ) (deed : Deed) (weights : ℕ × ℕ) → Takes x given t p → find_record catalogue name ≡ Some rec → Tries p.call rec deed → short catalogue x.held x.bars rec deed ≡ Some weights → weighs catalogue m0 name weights.0 weights.1 x ≡ true
  weighs_x t p name rec deed weights at found tries e = go deed tries e
    where
      v : (v : View) × (x.held ≡ Some v)
      v = let q = d.led.live t at.live in (q.0, q.1)

      event_is : (words : Call) → p.call ≡ words → m0.line.event ≡ event.Call s words
      event_is words same = called_event m0.line.event world s given is.gives p.port words (at.called.comes ∙ ap (input.Call p.port) same)

      no_table : (words : Call) → p.call ≡ words → table_in (event.Call s words) ≡ None → option_map_or (λ table. not (accessible_by table (members x))) (table_in m0.line.event) false ≡ false
      no_table words same none = let own : table_in m0.line.event ≡ None = ap table_in (event_is words same) ∙ none in rw own refl

      of_table : (table : Weights) (b : Bool) → accessible_by table (members_in x.held) ≡ b → table_in m0.line.event ≡ Some table → first_some (cond b None (Some (weight_inside (members_in x.held) table, weight_total table))) (first_some (value_at rec x.bars) (short_of_holders catalogue rec (members_in x.held))) ≡ Some weights → weighs catalogue m0 name weights.0 weights.1 x ≡ true
      of_table table true f own e = weighs_else name rec v.0 weights v.1 found (own_short table false own (ap not f)) e
      of_table table false f own e =
          let is : (weight_inside (members_in x.held) table, weight_total table) ≡ weights = cc in
          let sums : option_map_or (sums_are (weight_inside (members_in x.held) table) (weight_total table) (members x)) (table_in m0.line.event) false ≡ true = rw own (sums_self table (members_in x.held)) in
          subst (λ (q : ℕ × ℕ). weighs catalogue m0 name q.0 q.1 x ≡ true) is
          (weighs_by name rec v.0 (weight_inside (members_in x.held) table) (weight_total table) v.1 (half (weight_inside (members_in x.held) table) (weight_total table) f) found (first_of _ _ _ (own_short table true own (ap not f)) sums))

      go : (a : Deed) → Tries p.call rec a → first_some (short_by a (members_in x.held)) (first_some (value_at rec x.bars) (short_of_holders catalogue rec (members_in x.held))) ≡ Some weights → weighs catalogue m0 name weights.0 weights.1 x ≡ true
      go _ (Tries.weighs txn number called table words) e = of_table table (accessible_by table (members_in x.held)) refl (ap table_in (event_is (call.Weigh txn number called table) words)) e
      go _ (Tries.reads txn number called words) e = weighs_else name rec v.0 weights v.1 found (no_table (call.Read txn number called) words refl) e
      go _ (Tries.writes txn number called value words) e = weighs_else name rec v.0 weights v.1 found (no_table (call.Write txn number called value) words refl) e
      go _ (Tries.deletes txn number called words) e = weighs_else name rec v.0 weights v.1 found (no_table (call.Delete txn number called) words refl) e

  -- the call is the next one, and nothing else refuses it
  next_here : (t : Live) (p : Pending) (name : List ℕ) (rec : ℕ) (exclusive : Bool) (deed : Deed) (weights : ℕ × ℕ) → Takes x given t p → Operates p.call name exclusive → find_record catalogue name ≡ Some rec → Tries p.call rec deed → Unable catalogue x t rec deed weights → list_any (is_next catalogue m0 t.txn p.number) x.live ≡ true
  next_here t p name rec exclusive deed weights at op found tries u = any_of (is_next catalogue m0 t.txn p.number) x.live t at.live
      (all_of_two _ (option_map_or (can_change catalogue t) (call_in m0.line.event) false)
      (all_of_two _ (nat_le p.number 64)
      (all_of_two _ (p.number == length t.answers + 1)
      (all_of_two (same_txn t.txn t.txn) (not (is_some t.pending)) (same_txn-self t.txn) (ap not at.next.idle))
      (eq_same p.number (length t.answers + 1) at.next.number))
      (up_to_64 p.number (length t.answers) at.next.number u.few))
      can)
    where
      refuses : Deed → Bool
      refuses deed = is_bad_table catalogue deed || is_too_large t deed

      none : refuses deed ≡ false
      none = rw (u.table, u.fits) refl

      asks : option_map_or (λ deed. is_bad_table catalogue deed || is_too_large t deed) (change_asked catalogue p.call) false ≡ false
      asks = asked_unrefused catalogue p.call name exclusive rec deed (λ deed. is_bad_table catalogue deed || is_too_large t deed) op tries found none

      can : option_map_or (can_change catalogue t) (call_in m0.line.event) false ≡ true
      can = let calls : call_in m0.line.event ≡ Some p.call = ap call_in (called_event m0.line.event world s given is.gives p.port p.call at.called.comes) in rw calls (ap not asks)

  -- the step is of the transaction's own site, which closes it or keeps its end, and answers this call
  tells_here : (txn : TxnId) (n : ℕ) → txn.site ≡ s → (closed_then txn m0 || tested_before s (keeps_end txn) m0) ≡ true → answers_call txn n m0 ≡ true → tells_end txn n m0 ≡ true
  tells_here txn n at e calls =
      all_of_two _ (answers_call txn n m0)
      (subst (λ (k : ℕ). (is_step_of k m0 && (closed_then txn m0 || tested_before k (keeps_end txn) m0)) ≡ true) (sym at) (all_of_two (is_step_of s m0) _ (step_here catalogue m0 world s x given o is) e)) calls

  closes_tells : (t : Live) (n : ℕ) → t.txn.site ≡ s → closed_then t.txn m0 ≡ true → answers_call t.txn n m0 ≡ true → tells_end t.txn n m0 ≡ true
  closes_tells t n at closed calls = tells_here t.txn n at (or_left (closed_then t.txn m0) _ closed) calls

  keeps_tells : (f : Finished) (n : ℕ) → Has x.finished f → answers_call f.txn n m0 ≡ true → tells_end f.txn n m0 ≡ true
  keeps_tells f n h calls =
      let kept : keeps_end f.txn x ≡ true = any_of (λ (g : Finished). same_txn g.txn f.txn) x.finished f h (same_txn-self f.txn) in
      tells_here f.txn n (((known.ends.settled s x up).names f h).0 ∙ d.here.id)
      (or_right (closed_then f.txn m0) _ (tested_x catalogue m0 world s x given o is (keeps_end f.txn) kept)) calls

  kept_tells : (f : Finished) → Has x.finished f → (n : ℕ) (why : Ending) → (named_number f.txn (answer_of f.txn n why) ≡ Some n → answers_call f.txn n m0 ≡ true) → TellsEnd m0 (answer_of f.txn n why)
  kept_tells f h n Committed calls = tt
  kept_tells f h n Aborted calls = tt
  kept_tells f h n (LockHeld name at holder) calls = keeps_tells f n h (calls (own_held f.txn n name at holder))
  kept_tells f h n (ViewChanged at held held_now) calls = keeps_tells f n h (calls (own_view f.txn n at held held_now))
  kept_tells f h n (TimedOut at) calls = tt
  kept_tells f h n (Inaccessible name inside total) calls = keeps_tells f n h (calls (own_barred f.txn n name inside total))

  -- a kept refusal is repeated to the call that has its number, or to one under number 0
  place_called : (f : Finished) (place : ℕ) (a : Answer) (n : ℕ) → Has x.finished f → kept_answer place f.answers ≡ Some a → IsCallOf given f.txn place → named_number f.txn a ≡ Some n → answers_call f.txn n m0 ≡ true
  place_called f place a n h kept calls e = ⊎_elim
      (λ (same : n ≡ place). rw same (called_now catalogue m0 world s x given o is f.txn place calls))
      (λ (zeroth : (place ≡ 0) × (n ≡ 1)). rw zeroth.1 (called_first catalogue m0 world s x given o is f.txn (subst (IsCallOf given f.txn) zeroth.0 calls)))
      (place_number place n ((fair.finished s x f up h).numbered (place - 1) a n kept e))

  -- a transaction that is closed answers its pending call
  handled_called : (was : Live) (q p : Pending) (t : Live) → Takes x given was q → t ≡ handling was q → t.pending ≡ Some p → answers_call t.txn p.number m0 ≡ true
  handled_called was q p t at same e =
      let z = ap (λ (t : Live). t.pending) same in
      let call : q ≡ p = cc in
      rw (same, ← call) (called_now catalogue m0 world s x given o is was.txn q.number (record { port = q.port; words = q.call; comes = at.called.comes; own = at.called.own }))

  closed_called : (t : Live) (why : Ending) (p : Pending) → Why catalogue x given o.site t why → t.pending ≡ Some p → answers_call t.txn p.number m0 ≡ true
  closed_called t why p (Why.aborted was q at e) g = handled_called was q p t at e g
  closed_called t why p (Why.held_here was q name rec exclusive holder at e op f n) g = handled_called was q p t at e g
  closed_called t why p (Why.held_there q from name exclusive holder a n op) g = pending_now catalogue m0 world s x given o is t p a.live g (own_site t a.live)
  closed_called t why p (Why.other_view q from held_now a n) g = pending_now catalogue m0 world s x given o is t p a.live g (own_site t a.live)
  closed_called t why p (Why.barred_there q from name exclusive inside total a n op) g = pending_now catalogue m0 world s x given o is t p a.live g (own_site t a.live)
  closed_called t why p (Why.left h gone) g = pending_now catalogue m0 world s x given o is t p h g (own_site t h)
  closed_called t why p (Why.timed_out missing h) g = pending_now catalogue m0 world s x given o is t p h g (own_site t h)

  -- a bar ends a transaction by a message
  barred_came : (t : Live) (why : Ending) (name : List ℕ) (inside total : ℕ) → why ≡ Inaccessible name inside total → Why catalogue x given o.site t why → is_delivery m0.line.event ≡ true
  barred_came t why name inside total e (Why.aborted was q at g) = cc
  barred_came t why name inside total e (Why.held_here was q n rec exclusive holder at g op f k) = cc
  barred_came t why name inside total e (Why.held_there q from n exclusive holder a k op) = cc
  barred_came t why name inside total e (Why.other_view q from held_now a k) = cc
  barred_came t why name inside total e (Why.barred_there q from n exclusive i k a came op) = delivers catalogue m0 world s x given o is from _ came
  barred_came t why name inside total e (Why.left h gone) = cc
  barred_came t why name inside total e (Why.timed_out missing h) = cc

  why_tells : (t : Live) (why : Ending) (p : Pending) → Handled x t → Why catalogue x given o.site t why → t.pending ≡ Some p → Has (answers_in m0.line) (answer_of t.txn p.number why) → TellsEnd m0 (answer_of t.txn p.number why)
  why_tells t Committed p at y e h = tt
  why_tells t Aborted p at y e h = tt
  why_tells t (LockHeld name from holder) p at y e h = closes_tells t p.number (handled_site t at) (closed_here t _ p.number at h (own_held t.txn p.number name from holder)) (closed_called t _ p y e)
  why_tells t (ViewChanged from held held_now) p at y e h = closes_tells t p.number (handled_site t at) (closed_here t _ p.number at h (own_view t.txn p.number from held held_now)) (closed_called t _ p y e)
  why_tells t (TimedOut from) p at y e h = tt
  why_tells t (Inaccessible name inside total) p at y e h = closes_tells t p.number (handled_site t at) (closed_over t at (barred_ended (barred_came t _ name inside total refl y) _ h t.txn p.number (own_barred t.txn p.number name inside total))) (closed_called t _ p y e)

  end_justified : (a : Answer) → Fair catalogue now a → Untold (lines_in now) a → TellsEnd m0 a → justified catalogue now m0 a ≡ true
  end_justified a f untold ends = fair_justified catalogue now m0 a f untold ends

  reply_justified : (a : Answer) → Has (answers_in m0.line) a → Untold (lines_in now) a → ReplyFrom catalogue x given o.site a → justified catalogue now m0 a ≡ true
  reply_justified a h untold (ReplyFrom.free b e) = free_justified catalogue now m0 b e
  reply_justified a h untold (ReplyFrom.inaccessible t p name rec exclusive deed weights at op found tries u) =
      let i = weights.0 in
      let n = weights.1 in
      let r : Request = record { txn = t.txn; number = p.number; lock = Some (rec, exclusive); view = None } in
      let asked : handles catalogue s t.txn p.number (λ request. option_map_or (λ lock. is_named catalogue name lock.0) request.lock false) m0 ≡ true = handles_now catalogue m0 world s x given o is r (λ request. option_map_or (λ lock. is_named catalogue name lock.0) request.lock false) (operation_asks catalogue m0 world s x given o is t p name rec exclusive at.called op found) (named_here catalogue m0 world s x given o is name rec found) in
      let weighed : tested_before s (λ site. list_any (is_next catalogue m0 t.txn p.number) site.live && weighs catalogue m0 name i n site) m0 ≡ true = tested_x catalogue m0 world s x given o is (λ site. list_any (is_next catalogue m0 t.txn p.number) site.live && weighs catalogue m0 name i n site) (all_of_two (list_any (is_next catalogue m0 t.txn p.number) x.live) (weighs catalogue m0 name i n x) (next_here t p name rec exclusive deed weights at op found tries u) (weighs_x t p name rec deed weights at found tries u.by)) in
      or_left _ _ (subst (λ (k : ℕ). (handles catalogue k t.txn p.number (λ request. option_map_or (λ lock. is_named catalogue name lock.0) request.lock false) m0 && tested_before k (λ site. list_any (is_next catalogue m0 t.txn p.number) site.live && weighs catalogue m0 name i n site) m0) ≡ true) (sym (own_site t at.live)) (all_of_two _ _ asked weighed))
  reply_justified a h untold (ReplyFrom.repeated f place b k q c) =
      end_justified b (fair_more catalogue past (m0 ∷ []) b ((fair.finished s x f up k).answers b (kept_has place f.answers b q))) untold (⊎_elim
      (λ r. report_tells m0 b r)
      (λ (r : (number : ℕ) × (b ≡ answer_of f.txn number f.ending)). subst (TellsEnd m0) (sym r.1) (kept_tells f k r.0 f.ending (λ e. place_called f place b r.0 k q c (ap (named_number f.txn) r.1 ∙ e))))
      ((known.repeated.site s x up).finished f k b (kept_has place f.answers b q)))
  reply_justified a h untold (ReplyFrom.ended f number k e c) =
      end_justified _ (fair_more catalogue past (m0 ∷ []) _ ((fair.finished s x f up k).later number (below_of number (length f.answers) e))) untold (kept_tells f k number f.ending (λ refused. called_now catalogue m0 world s x given o is f.txn number c))
  reply_justified a h untold (ReplyFrom.closed t why p n w e) =
      end_justified _ (why_fair t why p.number n w (λ q g. let same : p ≡ q = cc in subst (λ (q : Pending). Has (answers_in m0.line) (answer_of t.txn q.number why)) same h) (λ q g. same_at_most p.number (length t.answers + 1) (number_of t why p w e))) untold (why_tells t why p n w e h)

  pub replies_justified : ((a : Answer) → Has (answers_in m0.line) a → Untold (lines_in now) a) → (a : Answer) → Has (answers_in m0.line) a → justified catalogue now m0 a ≡ true
  replies_justified untold a h =
      let z : Has (map (λ (r : Reply). r.answer) o.effects.replies) a = rw is.shown at h in
      let r = map_has (λ (r : Reply). r.answer) o.effects.replies a z in
      reply_justified a h (untold a h) (subst (ReplyFrom catalogue x given o.site) r.2 (c.says r.0 r.1))

  -- what a transaction that ends in this step keeps
  ends_fair : (t : Live) (why : Ending) → Handled x t → ((k : ℕ) → ((p : Pending) → t.pending ≡ Some p → length t.answers + 1 ≤ k) → Fair catalogue now (answer_of t.txn k why)) → ((p : Pending) → t.pending ≡ Some p → p.number ≡ length t.answers + 1) → FairEnd catalogue now (finished_as t why)
  ends_fair t why n fair_at number = record {
    answers = λ a h. ⊎_elim (λ old. report_fair catalogue now a (reports a old)) (λ new. last t.pending refl a new) (has_cases t.answers _ a h);
    later = λ k h. fair_at k (λ p e. longer k p e h);
    numbered = λ i a n at e. placed t.pending refl i a n at e;
  }
    where
      reports : (a : Answer) → Has t.answers a → is_report a ≡ true
      reports a h = (known.repeated.site s x up).live n.was n.live a (rw (ap (λ (t : Live). t.answers) n.same) at h)

      last : (q : Option Pending) → t.pending ≡ q → (a : Answer) → Has (option_to_list (option_map (λ p. answer_of t.txn p.number why) q)) a → Fair catalogue now a
      last None e a k = absurd (has_none a k)
      last (Some p) e a k = subst (Fair catalogue now) (has_one_is (answer_of t.txn p.number why) a k) (fair_at p.number (λ q g. same_at_most p.number (length t.answers + 1) (number p e)))

      before : (i : ℕ) (a : Answer) (n : ℕ) → slice_get t.answers i ≡ Some a → named_number t.txn a ≡ Some n → n ≡ i + 1
      before i a n at e = absurd (report_unnamed t.txn a n (reports a (slice_has t.answers i a at)) e)

      placed : (q : Option Pending) → t.pending ≡ q → (i : ℕ) (a : Answer) (n : ℕ) → slice_get (t.answers ++ option_to_list (option_map (λ p. answer_of t.txn p.number why) q)) i ≡ Some a → named_number t.txn a ≡ Some n → n ≡ i + 1
      placed None g i a n at e = before i a n (subst (λ (answers : List Answer). slice_get answers i ≡ Some a) (append-nil t.answers) at) e
      placed (Some p) g i a n at e = ⊎_elim (λ old. before i a n old e)
          (λ (new : (i ≡ length t.answers) × (answer_of t.txn p.number why ≡ a)).
          let own = named_of t.txn p.number why n (ap (named_number t.txn) new.1 ∙ e) in
          rw new.0 (sym own ∙ number p g))
          (last_place t.answers (answer_of t.txn p.number why) i a at)

      longer : (k : ℕ) (p : Pending) → t.pending ≡ Some p → length (answers_after t why) ≤ k → length t.answers + 1 ≤ k
      longer k p e h = let size : length (answers_after t why) ≡ length t.answers + 1 = rw e (length-append t.answers (answer_of t.txn p.number why ∷ [])) in rw size at h

  finished_now : (f : Finished) → FinishedFrom catalogue x given o.site o.effects.replies f → FairEnd catalogue now f
  finished_now f (FinishedFrom.was g h) = end_more catalogue past (m0 ∷ []) g (fair.finished s x g up h)
  finished_now f (FinishedFrom.committed t n) = committed t n
    where
      committed : (t : Live) → Handled x t → FairEnd catalogue now (finished_as t Committed)
      committed t n0 = record {
        answers = λ a h. ⊎_elim (λ old. report_fair catalogue now a ((known.repeated.site s x up).live n0.was n0.live a (rw (ap (λ (t : Live). t.answers) n0.same) at old))) (λ new. last t.pending a new) (has_cases t.answers _ a h);
        later = λ k h. tt;
        numbered = λ i a n at e. absurd (kept_unrefused a n (slice_has (answers_after t Committed) i a at) e);
      }
        where
          unrefused : (q : Option Pending) (a : Answer) (n : ℕ) → Has (option_to_list (option_map (λ p. answer_of t.txn p.number Committed) q)) a → named_number t.txn a ≡ Some n → ⊥
          unrefused None a n k e = absurd (has_none a k)
          unrefused (Some p) a n k e = let same = has_one_is (answer_of t.txn p.number Committed) a k in let z = ap (named_number t.txn) same in cc

          kept_unrefused : (a : Answer) (n : ℕ) → Has (answers_after t Committed) a → named_number t.txn a ≡ Some n → ⊥
          kept_unrefused a n h e = ⊎_elim
              (λ old. report_unnamed t.txn a n ((known.repeated.site s x up).live n0.was n0.live a (rw (ap (λ (t : Live). t.answers) n0.same) at old)) e)
              (λ new. unrefused t.pending a n new e) (has_cases t.answers _ a h)

          last : (q : Option Pending) → (a : Answer) → Has (option_to_list (option_map (λ p. answer_of t.txn p.number Committed) q)) a → Fair catalogue now a
          last None a k = absurd (has_none a k)
          last (Some p) a k = subst (Fair catalogue now) (has_one_is (answer_of t.txn p.number Committed) a k) tt
  finished_now f (FinishedFrom.closed t why n w told) = ends_fair t why n (λ k up_to. why_fair t why k n w (told_of t why told) up_to) (λ p e. number_of t why p w e)

  live_now : (t : Live) → LiveFrom x o.effects.replies t → WasBegun now t.txn t.view
  live_now t (LiveFrom.was u h e f) = rw (← e, ← f) (begun_now u h)
  live_now t (LiveFrom.begins port h) = record {
    moment = m0;
    has = here;
    told = any_of (is_begun t.txn t.view) (answers_in m0.line) (answer.Begun t.txn t.view) (replied catalogue m0 world s x given o is port (answer.Begun t.txn t.view) h) (rw (same_txn-self t.txn, same_view-self t.view) refl);
  }

  -- a refusal that this step sends
  abbrev new : Scene
  new = acted w s x o

  came_on : (from : ℕ) (m : Message) → Comes given from m → Has new.sent (letter from s m)
  came_on from m e = d.st.moved.sent (letter from s m) (d.came from m e)

  was_requested : (q : ℕ) (txn : TxnId) (view : ViewId) (number rec : ℕ) (exclusive : Bool) → Requests given q txn view number rec exclusive → HasRequest new q s txn view number rec exclusive
  was_requested q txn view number rec exclusive (Requests.reads e) = HasRequest.to_read (came_on q _ e)
  was_requested q txn view number rec exclusive (Requests.writes e) = HasRequest.to_write (came_on q _ e)

  was_asked : (q : ℕ) (txn : TxnId) (view : ViewId) (number : ℕ) → Asks given q txn view number → IsAsked new q s txn view number
  was_asked q txn view number (Asks.reads rec e) = IsAsked.to_read rec (came_on q _ e)
  was_asked q txn view number (Asks.writes rec e) = IsAsked.to_write rec (came_on q _ e)
  was_asked q txn view number (Asks.prepares reads writes e) = IsAsked.to_prepare reads writes (came_on q _ e)

  refused_now : (to : ℕ) (txn : TxnId) (number : ℕ) (why : Obstacle) → Has o.effects.messages (letter s to (message.Refuse txn number why)) → Refused x given to txn number why → RefuseFair catalogue new now s txn number why
  refused_now to txn number why sent (Refused.held view rec exclusive holder asks e) =
      RefuseFair.blocked view rec exclusive holder to (was_requested to txn view number rec exclusive asks) m0 here
      (λ name found away. blocked_there catalogue m0 world s x given o is to txn view number rec exclusive holder name asks e sent found away)
  refused_now to txn number why sent (Refused.barred view rec exclusive bar asks held e) =
      let v = holding x view held in
      RefuseFair.barred view rec exclusive bar.0 bar.1 to (was_requested to txn view number rec exclusive asks) m0 here
      (λ name found.
      let site : site_named m0.before m0.line.event ≡ Some s = rw is.before (named_site m0.line.event world s given is.gives) in
      let named : is_site (site_named m0.before m0.line.event) s ≡ true = rw site (eq_self s) in
      all_of_two (was_barred catalogue txn number name bar.0 bar.1 m0) _ (barred_there catalogue m0 world s x given o is to txn view number rec exclusive bar.0 bar.1 name asks (bar_holds rec v.0 bar v.1 e).0 sent found) named)
  refused_now to txn number why sent (Refused.other view asks e) =
      RefuseFair.elsewhere view (held_id x) to (was_asked to txn view number asks) e (record { moment = m0; has = here; passes = other_there catalogue m0 world s x given o is to txn view number asks sent })

  sent_ok : (from to : ℕ) (m : Message) → Has o.effects.messages (letter from to m) → RefuseSays x given from to m → RefuseOk catalogue new now from m
  sent_ok from to (message.Refuse txn number why) h r =
      let at : from ≡ s = r.0 ∙ d.here.id in
      subst (λ (from : ℕ). RefuseFair catalogue new now from txn number why) (sym at) (refused_now to txn number why (subst (λ (from : ℕ). Has o.effects.messages (letter from to (message.Refuse txn number why))) at h) r.1)
  sent_ok from to m h r = tt

  told_now : (m : Moment) → m0 ≡ m → (a : Answer) → Has (answers_in m.line) a → (txn : TxnId) (n : ℕ) → refused_number txn a ≡ Some n → EndedAt new txn
  told_now m same = subst (λ (m : Moment). (a : Answer) → Has (answers_in m.line) a → (txn : TxnId) (n : ℕ) → refused_number txn a ≡ Some n → EndedAt new txn) same told_here
    where
      told_here : (a : Answer) → Has (answers_in m0.line) a → (txn : TxnId) (n : ℕ) → refused_number txn a ≡ Some n → EndedAt new txn
      told_here = ended_told

  barred_now : (m : Moment) → m0 ≡ m → is_delivery m.line.event ≡ true → (a : Answer) → Has (answers_in m.line) a → (txn : TxnId) (n : ℕ) → barred_number txn a ≡ Some n → EndedAt new txn
  barred_now m same = subst (λ (m : Moment). is_delivery m.line.event ≡ true → (a : Answer) → Has (answers_in m.line) a → (txn : TxnId) (n : ℕ) → barred_number txn a ≡ Some n → EndedAt new txn) same barred_ended

  pub step_fair : FairAt catalogue new now
  step_fair = record {
    inv = inv_now;
    told = λ m h a q txn n e. ⊎_elim (λ old. ended_step catalogue w new s x given o known inv_now.known d txn (fair.told m old a q txn n e)) (λ last. told_now m (has_one_is m0 m last) a q txn n e) (has_cases past (m0 ∷ []) m h);
    barred = λ m h delivery a q txn n e. ⊎_elim (λ old. ended_step catalogue w new s x given o known inv_now.known d txn (fair.barred m old delivery a q txn n e)) (λ last. barred_now m (has_one_is m0 m last) delivery a q txn n e) (has_cases past (m0 ∷ []) m h);
    sent = λ m h. ⊎_elim (λ old. refuse_on catalogue w new past (m0 ∷ []) d.st.moved.sent m.from m.message (fair.sent m old))
        (λ more. sent_ok m.from m.to m.message more ((refusals-step catalogue x given).sent m more)) (d.st.sent m h);
    live = λ k y t h g. live_at y t g (now_is w new s x o d.st k y h);
    finished = λ k y f h g. finished_at y f g (now_is w new s x o d.st k y h);
  }
    where
      live_at : {k : ℕ} (y : SiteState) (t : Live) → Has y.live t → NowIs w s o.site k y → WasBegun now t.txn t.view
      live_at {k} y t g (NowIs.other n old) = begun_more past (m0 ∷ []) t.txn t.view (fair.live k y t old g)
      live_at y t g (NowIs.here e same) = live_now t (c.live t (subst (λ (y : SiteState). Has y.live t) (sym same) g))

      finished_at : {k : ℕ} (y : SiteState) (f : Finished) → Has y.finished f → NowIs w s o.site k y → FairEnd catalogue now f
      finished_at {k} y f g (NowIs.other n old) = end_more catalogue past (m0 ∷ []) f (fair.finished k y f old g)
      finished_at y f g (NowIs.here e same) = finished_now f (c.finished f (subst (λ (y : SiteState). Has y.finished f) (sym same) g))

-- no moment says an answer
abbrev pub Silent : List Moment → Type 0
Silent more = (m : Moment) → Has more m → (a : Answer) → Has (answers_in m.line) a → ⊥

-- an event that is no step
pub quiet_fair : (catalogue : Catalogue) (w new : Scene) (past more : List Moment) (s : ℕ) → Quiet catalogue w new s → Invariant catalogue new → Silent more → FairAt catalogue w past → FairAt catalogue new (past ++ more)
quiet_fair catalogue w new past more s q inv silent fair = record {
  inv = inv;
  told = λ m h a k txn n e. ⊎_elim (λ old. ended_quiet catalogue w new s q txn (fair.told m old a k txn n e)) (λ last. absurd (silent m last a k)) (has_cases past more m h);
  barred = λ m h delivery a k txn n e. ⊎_elim (λ old. ended_quiet catalogue w new s q txn (fair.barred m old delivery a k txn n e)) (λ last. absurd (silent m last a k)) (has_cases past more m h);
  sent = λ m h. refuse_on catalogue w new past more (λ m h. rw q.sent h) m.from m.message (fair.sent m (rw q.sent at h));
  live = λ k y t h g. begun_more past more t.txn t.view (fair.live k y t (live_still catalogue w s k y t g (quiet_is catalogue w new s q k y h)) g);
  finished = λ k y f h g. end_more catalogue past more f (fair.finished k y f (finished_still catalogue w s k y f g (quiet_is catalogue w new s q k y h)) g);
}

-- nothing but the moments
pub same_fair : (catalogue : Catalogue) (w : Scene) (past more : List Moment) → Silent more → FairAt catalogue w past → FairAt catalogue w (past ++ more)
same_fair catalogue w past more silent fair = record {
  inv = fair.inv;
  told = λ m h a k txn n e. ⊎_elim (λ old. fair.told m old a k txn n e) (λ last. absurd (silent m last a k)) (has_cases past more m h);
  barred = λ m h delivery a k txn n e. ⊎_elim (λ old. fair.barred m old delivery a k txn n e) (λ last. absurd (silent m last a k)) (has_cases past more m h);
  sent = λ m h. refuse_on catalogue w w past more (λ m h. h) m.from m.message (fair.sent m h);
  live = λ k y t h g. begun_more past more t.txn t.view (fair.live k y t h g);
  finished = λ k y f h g. end_more catalogue past more f (fair.finished k y f h g);
}
