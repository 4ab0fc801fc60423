-- One step keeps what the lines report.
use Rattle.std.proofs.Common.{◌≡◌, ◌≢◌, ◌⊎◌, ◌∙◌, ap, sym, subst, ℕ, ◌+◌, ◌<◌, ◌≤◌, Bool, true, false, cond, List, [], ◌∷◌, ◌++◌, map, refl, arith, inl, inr, ⊎_elim, length, length-append}
use Rattle.std.specs.Prelude.{Option, Some, None, is_some, option_map, option_to_list, find, ◌==◌}
use Rattle.std.proofs.lemmas.Bool.{eq-eqb}
use Rattle.vp_model.specs.Types.{TxnId, Op, Call, Answer, Reply, Commit, Input, Line, Pending, Live, Finished}
use Rattle.vp_model.specs.Types.call
use Rattle.vp_model.specs.Types.input
use Rattle.vp_model.specs.Words.{same_txn, value_at, put_at, for_each}
use Rattle.vp_model.specs.Catalogue.{Catalogue}
use Rattle.vp_model.specs.Durable.{DurableState}
use Rattle.vp_model.specs.Site.{SiteState, Lent, Stepped}
use Rattle.vp_model.specs.Transactions.{with_operation, deed_answer, Deed, answer_of}
use Rattle.vp_model.specs.Step.{step}
use Rattle.vp_model.specs.World.{WorldState, Moment}
use Rattle.vp_model.specs.Told.{answers_in, call_in, reported, put_first, reports, is_call, takes, taken_call}
use Rattle.vp_laws.proofs.Table.ToldLines.{Report, collected, reports-last, IsReported, reported_lasts, Tells, IsUnheard, tells_on, unheard_on, taken_on}
use Rattle.vp_laws.proofs.Table.Heard.{heard, unheard_report, same_told}
use Rattle.vp_laws.proofs.Journal.Play.{value_put}
use Rattle.vp_laws.proofs.Lists.Members.{Has, has_none, has_cases, has_one_is, map_has}
use Rattle.vp_laws.proofs.Lists.Changes.{mapped_has}
use Rattle.vp_laws.proofs.Lists.Items.{none_of}
use Rattle.vp_model.proofs.SameTxn.{same_txn-is, same_txn-not}
use Rattle.vp_laws.proofs.Lists.Names.{Apart, apart_unique}
use Rattle.vp_laws.proofs.Moves.Table.{next_name, Completes}
use Rattle.vp_laws.proofs.Table.Led.{Led}
use Rattle.vp_laws.proofs.Table.Endings.{NotLive, Settled}
use Rattle.vp_laws.proofs.Table.Finished.{EndsNow}
use Rattle.vp_laws.proofs.Table.Calls.{CallSays, call_said}
use Rattle.vp_laws.proofs.Table.Told.{Reported, SaysDone, completed_says, told_of, heard_of, IsKept, Repeats, AreLate, LiveTold, ToldNow, told-step, end_unheard}
use Rattle.vp_laws.proofs.Worlds.Scenes.{Scene, scene_of, plain_at, kept_at, acted}
use Rattle.vp_laws.proofs.Worlds.Events.{Arrives}
use Rattle.vp_laws.proofs.Worlds.Sites.{NowIs, now_is}
use Rattle.vp_laws.proofs.Invariant.Views.{SiteOk}
use Rattle.vp_laws.proofs.Invariant.Names.{UsedTxn}
use Rattle.vp_laws.proofs.Moves.Reasons.{Takes, IsDone, told_to}
use Rattle.vp_laws.proofs.Replies.FairStep.{IsStep}
use Rattle.vp_laws.proofs.Table.ToldCalls.{silent_next, reach, TellsCall, SameCall, as_pending, call_on, call_taken, taken_now, untaken_on, done_next, begins}
use Rattle.vp_laws.proofs.Told.At.{ToldAt, same_reports, taking, takes_now, call_of, gives_call, call_gives, has_holders}
use Rattle.vp_laws.proofs.Keeping.Does.{Does, does}
use Rattle.vp_laws.proofs.Keeping.Endings.{fresh}
use Rattle.vp_laws.proofs.Keeping.Names.{used_lasts, own_used}
use Rattle.vp_laws.proofs.Invariant.Known.{Known}
use Rattle.vp_laws.proofs.Keeping.Known.{known_acts}

by_false : (b : Bool) → (b ≡ true → ⊥) → b ≡ false
by_false true h = absurd (h refl)
by_false false h = refl

at_least : (last : ℕ) (pending : Option Pending) → last ≤ reach last pending
at_least last None = omega arith
at_least last (Some p) = omega arith

no_less : (a b j : ℕ) → j ≤ a → a ≡ b → b < j → ⊥
no_less a b j h e k = omega arith

beyond_reach : (a b j : ℕ) → a ≤ b → b < j → a < j
beyond_reach a b j h k = omega arith

not_next : (a j : ℕ) → j ≡ a + 1 → a + 1 < j → ⊥
not_next a j e h = omega arith

more_by_one : (a b : ℕ) → a ≡ b → a ≡ b + 1 → ⊥
more_by_one a b e f = omega arith

pub same_or_not : (a b : TxnId) → (a ≡ b) ⊎ (a ≢ b)
same_or_not a b = go (same_txn a b) refl
  where
    go : (c : Bool) → same_txn a b ≡ c → (a ≡ b) ⊎ (a ≢ b)
    go true e = inl (same_txn-is a b e)
    go false e = inr (same_txn-not a b e)

-- what was reported is there
put_there : (r : Report) (before : List Report) → is_some (value_at r.0 (put_first r before)) ≡ true
put_there r before = go (is_some (value_at r.0 before)) refl
  where
    go : (b : Bool) → is_some (value_at r.0 before) ≡ b → is_some (value_at r.0 (cond b before (put_at r.0 r.1 before))) ≡ true
    go true e = e
    go false e = let s : (r.0 == r.0) ≡ true = eq-eqb r.0 r.0 refl in rw (value_put r.0 r.0 r.1 before, s) refl

-- the same transaction by its fields
moved_tells : (catalogue : Catalogue) (ls : List Line) (pending : Option Pending) (txn named : TxnId) (ops did : List Op) (answers told : List Answer) → txn ≡ named → ops ≡ did → answers ≡ told → TellsCall catalogue ls txn (length answers) pending ops → TellsCall catalogue ls named (length told) pending did
moved_tells catalogue ls pending txn named ops did answers told a b c h = rw (← a, ← b, ← c) h

module _ (catalogue : Catalogue) (world : WorldState) (lines : List Line) (m0 : Moment) (s : ℕ) (x : SiteState) (given : Input) (up : plain_at (scene_of world) s ≡ Some x) (arrives : Arrives (scene_of world) s given) (is : IsStep m0 world s x given (step catalogue x given)) (told : ToldAt catalogue (scene_of world) lines) where
  abbrev w : Scene
  w = scene_of world

  abbrev o : Stepped
  o = step catalogue x given

  abbrev new : Scene
  new = acted w s x o

  abbrev line : Line
  line = m0.line

  abbrev more : List Line
  more = lines ++ line ∷ []

  n : Known catalogue new
  n = known_acts catalogue w s x given up arrives told.known

  k : Known catalogue w
  k = told.known

  d : Does catalogue w new s x given o
  d = does catalogue w s x given up arrives k

  apart : Apart x.live
  apart = k.votes.site s x up

  t : ToldNow catalogue x given o.site.coordinator o.effects.replies o.effects.commits
  t = told-step catalogue x given apart

  settled : Settled x.id x.life x.coordinator
  settled = k.ends.settled s x up

  ok : SiteOk w s x
  ok = k.views.site s x up

  led : Led x
  led = k.led.site s x up

  answered : answers_in line ≡ map (λ (r : Reply). r.answer) o.effects.replies
  answered = rw is.shown refl

  -- reports
  reports_now : (u : TxnId) → reports more u ≡ for_each (told_of u o.effects.replies) put_first (reports lines u)
  reports_now u = reports-last lines line u ∙ ap (λ (z : List Answer). collected u z (reports lines u)) answered

  pub repeats_now : (u : TxnId) → Repeats x u o.effects.replies → reports more u ≡ reports lines u
  repeats_now u h = reports_now u ∙ same_reports u o.effects.replies (reports lines u) (λ r q v e. ⊎_elim (λ none. let z = unheard_report u r.answer none in cc) (λ kept. told.kept s x r.answer up kept u v e) (h r q))

  -- what is heard of a call that is done is reported
  told_one : (u : Live) (p : Pending) (deed : Deed) → heard_of u.txn o.effects.replies ≡ heard_of u.txn (told_to p.port (deed_answer u.txn p.number deed) ∷ []) → told_of u.txn o.effects.replies ≡ told_of u.txn (told_to p.port (deed_answer u.txn p.number deed) ∷ [])
  told_one u p deed one = same_told u.txn (map (λ (r : Reply). r.answer) o.effects.replies) (deed_answer u.txn p.number deed ∷ []) one

  -- numbers
  took : (u : TxnId) (j : ℕ) → takes u j line ≡ true → CallSays x u j o.site.live o.effects.replies × AreLate o.effects.replies
  took u j e =
      let q = taking u j line e in
      let c = call_gives line.event world s given q.words is.gives q.call in (
        subst (λ (g : Input). let o = step catalogue x g in CallSays x u j o.site.live o.effects.replies) (sym c) (call_said catalogue x 0 u j apart (has_holders catalogue w s x up k) q.words (call_of u j q.words q.own)),
        (λ r h. q.late r.answer (rw answered (mapped_has (λ (r : Reply). r.answer) o.effects.replies r h))),
      )

  not_over : (u : Live) (f : Finished) → Has x.live u → Has x.finished f → f.txn ≡ u.txn → ⊥
  not_over u f h g e = settled.finished f u g h (sym e)

  one_of : (a b : Live) → Has x.live a → Has x.live b → a.txn ≡ b.txn → a ≡ b
  one_of a b h g e = apart_unique x.live apart a b h g e

  same_length : (a b : Live) → a ≡ b → length a.answers ≡ length b.answers
  same_length a b e = ap (λ (t : Live). length t.answers) e

  untaken_beyond : (u : Live) → Has x.live u → (j : ℕ) → length u.answers + 1 < j → takes u.txn j line ≡ false
  untaken_beyond u h j above = by_false (takes u.txn j line) (λ e. let c = took u.txn j e in go c.0 c.1)
    where
      go : CallSays x u.txn j o.site.live o.effects.replies → AreLate o.effects.replies → ⊥
      go (CallSays.early r q e) late = absurd (let z = late r q in cc)
      go (CallSays.repeated v q e le) late = no_less (length v.answers) (length u.answers) j le (same_length v u (one_of v u q h e)) (omega (arith, above))
      go (CallSays.next v q e n idle taken) late = let z = same_length v u (one_of v u q h e) in not_next (length u.answers) j (n ∙ ap (λ (m : ℕ). m + 1) z) above
      go (CallSays.over f q e) late = not_over u f h q e

  untaken_same : (u a : Live) → Has x.live u → Has o.site.live a → a.txn ≡ u.txn → a.answers ≡ u.answers → SameCall u.pending a.pending → (j : ℕ) → reach (length u.answers) u.pending < j → takes u.txn j line ≡ false
  untaken_same u a h now named same pending j above = by_false (takes u.txn j line) (λ e. let c = took u.txn j e in go c.0 c.1)
    where
      undone : (v : Live) → v ≡ u → is_some v.pending ≡ false → (is_some a.pending ≡ true) ⊎ (length a.answers ≡ length v.answers + 1) → SameCall u.pending a.pending → ⊥
      undone v one idle after (SameCall.none e f) = ⊎_elim
          (λ (some : is_some a.pending ≡ true). absurd (let z : is_some a.pending ≡ false = rw f refl in cc))
          (λ more. more_by_one (length a.answers) (length v.answers) (ap (λ (l : List Answer). length l) same ∙ sym (same_length v u one)) more) after
      undone v one idle after (SameCall.same p q e f g) = absurd (let z : is_some v.pending ≡ true = ap (λ (t : Live). is_some t.pending) one ∙ rw e refl in cc)

      go : CallSays x u.txn j o.site.live o.effects.replies → AreLate o.effects.replies → ⊥
      go (CallSays.early r q e) late = absurd (let z = late r q in cc)
      go (CallSays.repeated v q e le) late = no_less (length v.answers) (length u.answers) j le (same_length v u (one_of v u q h e)) (beyond_reach (length u.answers) (reach (length u.answers) u.pending) j (at_least (length u.answers) u.pending) above)
      go (CallSays.next v q e n idle taken) late = undone v (one_of v u q h e) idle (taken a now (named ∙ sym e)) pending
      go (CallSays.over f q e) late = not_over u f h q e

  untaken_other : (u : TxnId) → NotLive x.live u → ((f : Finished) → Has x.finished f → f.txn ≢ u) → (j : ℕ) → takes u j line ≡ false
  untaken_other u gone none j = by_false (takes u j line) (λ e. let c = took u j e in go c.0 c.1)
    where
      go : CallSays x u j o.site.live o.effects.replies → AreLate o.effects.replies → ⊥
      go (CallSays.early r q e) late = absurd (let z = late r q in cc)
      go (CallSays.repeated v q e le) late = gone v q e
      go (CallSays.next v q e n idle taken) late = gone v q e
      go (CallSays.over f q e) late = none f q e

  untaken_begin : (port : ℕ) → given ≡ input.Call port call.Begin → (u : TxnId) (j : ℕ) → takes u j line ≡ false
  untaken_begin port c u j = by_false (takes u j line) (λ e.
      let q = taking u j line e in
      let z = call_gives line.event world s given q.words is.gives q.call in
      let words : call.Begin ≡ q.words = cc in
      let own : is_call u j call.Begin ≡ true = subst (λ (c : Call). is_call u j c ≡ true) (sym words) q.own in absurd (let y = own in cc))

  -- a next call takes its number
  call_here : (u : Live) (p : Pending) → Takes x given u p → call_in line.event ≡ Some p.call
  call_here u p at = ap call_in (gives_call line.event world s given p.port p.call is.gives at.called.comes)

  takes_next : (u : Live) (p : Pending) → Takes x given u p → AreLate o.effects.replies → takes u.txn (length u.answers + 1) line ≡ true
  takes_next u p at late =
      takes_now u.txn (length u.answers + 1) line p.call (call_here u p at) (subst (λ (n : ℕ). is_call u.txn n p.call ≡ true) at.next.number at.called.own) (rw is.shown refl)
      (λ a h. let q = map_has (λ (r : Reply). r.answer) o.effects.replies a (rw answered at h) in rw (← q.2) (late q.0 q.1))

  -- an operation that is done has the next number, which its call has taken
  pub done_number : (u : Live) (p : Pending) → Has x.live u → IsDone x given u p → p.number ≡ length u.answers + 1
  done_number u p h (IsDone.at_once at) = at.next.number
  done_number u p h (IsDone.at_last wait) = (k.ops.live s x u up h).next p wait.pending

  pub done_call : (u : Live) (p : Pending) → Has x.live u → IsDone x given u p → AreLate o.effects.replies → taken_call more u.txn (length u.answers + 1) ≡ Some p.call
  done_call u p h (IsDone.at_once at) late =
      let before = subst (λ (o : Option Pending). TellsCall catalogue lines u.txn (length u.answers) o u.ops) (none_of u.pending at.next.idle) (told.live s x u up h) in
      taken_now lines line u.txn (length u.answers + 1) p.call (before.untaken (length u.answers + 1) (omega arith)) (takes_next u p at late) (call_here u p at)
  done_call u p h (IsDone.at_last wait) late = taken_on lines line u.txn (length u.answers + 1) p.call ((told.live s x u up h).taken p wait.pending)

  -- live transactions
  live_told : (a : Live) → Has o.site.live a → LiveTold catalogue x given o.effects.replies a → TellsCall catalogue more a.txn (length a.answers) a.pending a.ops
  live_told a now (LiveTold.was u h named did gave same pending repeats) =
      let r : Repeats x u.txn o.effects.replies = subst (λ (txn : TxnId). Repeats x txn o.effects.replies) (sym named) repeats in
      let on = call_on catalogue lines line u.txn (length u.answers) u.ops u.pending (told.live s x u up h) (repeats_now u.txn r) (untaken_same u a h now (sym named) (sym same) pending) in
      moved_tells catalogue more a.pending u.txn a.txn u.ops a.ops u.answers a.answers named did same (as_pending catalogue more u.txn (length u.answers) u.ops u.pending a.pending pending on)
  live_told a now (LiveTold.goes u p q at named did gave same pending alike repeats late) =
      let r : Repeats x u.txn o.effects.replies = subst (λ (txn : TxnId). Repeats x txn o.effects.replies) (sym named) repeats in
      let before = subst (λ (o : Option Pending). TellsCall catalogue lines u.txn (length u.answers) o u.ops) (none_of u.pending at.next.idle) (told.live s x u up at.live) in
      let on = call_taken catalogue lines line u.txn (length u.answers) u.ops p before (repeats_now u.txn r) (call_here u p at) (takes_next u p at late) (untaken_beyond u at.live) in
      moved_tells catalogue more a.pending u.txn a.txn u.ops a.ops u.answers a.answers named did same (as_pending catalogue more u.txn (length u.answers) u.ops (Some p) a.pending (SameCall.same p q refl pending alike) on)
  live_told a now (LiveTold.completed u p deed l h how c made one late) =
      let says = completed_says catalogue x given u p deed l c in
      subst (λ (a : Live). TellsCall catalogue more a.txn (length a.answers) a.pending a.ops) made
      (subst (λ (n : ℕ). TellsCall catalogue more u.txn n None (with_operation deed u.ops)) (sym (length-append u.answers (deed_answer u.txn p.number deed ∷ []))) (next deed says.reports (told_one u p deed one)))
    where
      number : p.number ≡ length u.answers + 1
      number = done_number u p h how

      single : (operation : Op) (report : Option (Option (List ℕ))) → reported u.txn (deed_answer u.txn p.number (Deed.operates operation)) ≡ Some (p.number, report) → told_of u.txn (told_to p.port (deed_answer u.txn p.number (Deed.operates operation)) ∷ []) ≡ (length u.answers + 1, report) ∷ []
      single operation report is = rw (is, number) refl

      its_rest : IsDone x given u p → (j : ℕ) → length u.answers + 1 < j → find (takes u.txn j) lines ≡ None
      its_rest how j above = (told.live s x u up h).untaken j (within u.pending j above)
        where
          within : (q : Option Pending) (j : ℕ) → length u.answers + 1 < j → reach (length u.answers) q < j
          within None j above = omega (arith, above)
          within (Some q) j above = omega (arith, above)

      next : (d : Deed) → Reported catalogue u.txn p d → told_of u.txn o.effects.replies ≡ told_of u.txn (told_to p.port (deed_answer u.txn p.number d) ∷ []) → TellsCall catalogue more u.txn (length u.answers + 1) None (with_operation d u.ops)
      next (Deed.operates operation) (Reported.operated _ report is tells) one = done_next catalogue lines line u.txn (length u.answers) u.pending u.ops operation (told.live s x u up h) (record {
        report = report;
        words = p.call;
        reports = reports_now u.txn ∙ ap (λ (z : List Report). for_each z put_first (reports lines u.txn)) (one ∙ single operation report is);
        taken = done_call u p h how late;
        untaken = λ j above. untaken_on lines line u.txn j (its_rest how j above) (untaken_beyond u h j above);
        tells = tells;
      })
      next (Deed.weighs rec table) (Reported.weighed _ _) one = silent_next catalogue lines line u.txn (length u.answers) u.pending u.ops (told.live s x u up h)
          (reports_now u.txn ∙ ap (λ (z : List Report). for_each z put_first (reports lines u.txn)) one)
          (λ j above. untaken_on lines line u.txn j (its_rest how j above) (untaken_beyond u h j above))
  live_told a now (LiveTold.begins port view c made repeats) =
      let name = next_name x in
      let unheard = told.fresh name (λ used. fresh w s x up ok.id name used refl) in
      let r : Repeats x name o.effects.replies = subst (λ (txn : TxnId). Repeats x txn o.effects.replies) (sym (ap (λ (t : Live). t.txn) made)) repeats in
      let on = call_on catalogue lines line name 0 [] None (begins catalogue lines name unheard) (repeats_now name r) (λ j above. untaken_begin port c name j) in
      subst (λ (a : Live). TellsCall catalogue more a.txn (length a.answers) a.pending a.ops) made on

  -- other sites' transactions, and those that are not live
  own_site : (u : Live) → Has x.live u → u.txn.site ≡ s
  own_site u h = (led.names u h).0 ∙ ok.id

  finished_site : (f : Finished) → Has x.finished f → f.txn.site ≡ s
  finished_site f h = (settled.names f h).0 ∙ ok.id

  life_was : (kept_at w s).life ≡ x.life
  life_was = ap (λ (d : DurableState). d.life) (sym ok.kept)

  no_more : (a b c : ℕ) → a ≡ b → c ≡ b → a ≤ c
  no_more a b c e f = omega arith

  finished_used : (f : Finished) → Has x.finished f → UsedTxn w f.txn
  finished_used f h =
      let n = settled.names f h in
      let here = finished_site f h in
      record {
        life = no_more f.txn.life x.life _ n.1 (ap (λ (k : ℕ). (kept_at w k).life) here ∙ life_was);
        seq = λ y g e. let same : x ≡ y = (let z = rw here at g in cc) in subst (λ (y : SiteState). f.txn.seq ≤ y.seq) same n.2;
      }

  used_now : (u : TxnId) → UsedTxn w u → UsedTxn new u
  used_now u h = used_lasts w new s d.st.moved d.grows u h

  fresh_now : (u : TxnId) → (UsedTxn new u → ⊥) → IsUnheard more u
  fresh_now u unused =
      let gone : NotLive x.live u = (λ v h e. unused (used_now u (subst (UsedTxn w) e (own_used w s x up ok.id life_was led v h)))) in
      let over : (f : Finished) → Has x.finished f → f.txn ≢ u = (λ f h e. unused (used_now u (subst (UsedTxn w) e (finished_used f h)))) in
      unheard_on catalogue lines line u (told.fresh u (λ used. unused (used_now u used))) (repeats_now u (t.others u gone)) (untaken_other u gone over)

  elsewhere : (j : ℕ) (y : SiteState) (a : Live) → j ≢ s → plain_at w j ≡ Some y → Has y.live a → TellsCall catalogue more a.txn (length a.answers) a.pending a.ops
  elsewhere j y a away at h =
      let site : a.txn.site ≡ j = ((k.led.site j y at).names a h).0 ∙ (k.views.site j y at).id in
      let gone : NotLive x.live a.txn = (λ v q e. away (sym site ∙ ap (λ (t : TxnId). t.site) (sym e) ∙ own_site v q)) in
      let over : (f : Finished) → Has x.finished f → f.txn ≢ a.txn = (λ f q e. away (sym site ∙ ap (λ (t : TxnId). t.site) (sym e) ∙ finished_site f q)) in
      call_on catalogue lines line a.txn (length a.answers) a.ops a.pending (told.live j y a at h) (repeats_now a.txn (t.others a.txn gone)) (λ i above. untaken_other a.txn gone over i)

  live_now : (j : ℕ) (y : SiteState) (a : Live) → Has y.live a → NowIs w s o.site j y → TellsCall catalogue more a.txn (length a.answers) a.pending a.ops
  live_now j y a h (NowIs.other away old) = elsewhere j y a away old h
  live_now j y a h (NowIs.here here same) = let g = subst (λ (y : SiteState). Has y.live a) (sym same) h in live_told a g (t.live a g)

  -- entries
  entry_now : (e : Commit) → Has w.journal e ⊎ Has o.effects.commits e → Tells catalogue more e.txn e.ops
  entry_now e = ⊎_elim
      (λ old.
      let gone : NotLive x.live e.txn = (λ v q same. k.ends.entry e old x (rw (ap (λ (t : TxnId). t.site) (sym same) ∙ own_site v q) up) v q same) in
      tells_on catalogue lines line e.txn e.ops (told.entries e old) (repeats_now e.txn (t.others e.txn gone)))
      (λ added.
      let q = d.steps.entered e added in
      let u = q.handled.was in
      let txn : u.txn ≡ e.txn = sym (ap (λ (t : Live). t.txn) q.handled.same) ∙ ap (λ (c : Commit). c.txn) q.is in
      let ops : u.ops ≡ e.ops = sym (ap (λ (t : Live). t.ops) q.handled.same) ∙ ap (λ (c : Commit). c.ops) q.is in
      let before : Tells catalogue lines e.txn e.ops = subst (λ (n : TxnId). Tells catalogue lines n e.ops) txn (subst (λ (ops : List Op). Tells catalogue lines u.txn ops) ops (told.live s x u up q.handled.live).so_far) in
      tells_on catalogue lines line e.txn e.ops before (repeats_now e.txn (t.entered e added)))

  -- answers that are kept
  old_kept : (a : Answer) → IsKept x a → IsReported more a
  old_kept a h = reported_lasts lines line a (told.kept s x a up h)

  unreported : (a : Answer) → ((u : TxnId) → reported u a ≡ None) → IsReported more a
  unreported a none u v e = let z = none u in cc

  done_kept : (u : Live) (p : Pending) (deed : Deed) → SaysDone catalogue u.txn p deed → told_of u.txn o.effects.replies ≡ told_of u.txn (told_to p.port (deed_answer u.txn p.number deed) ∷ []) → IsReported more (deed_answer u.txn p.number deed)
  done_kept u p deed says one txn v e = ⊎_elim
      (λ (mine : u.txn ≡ txn). subst (λ (n : TxnId). is_some (value_at v.0 (reports more n)) ≡ true) mine (its_own (ap (λ (n : TxnId). reported n (deed_answer u.txn p.number deed)) mine ∙ e)))
      (λ (other : u.txn ≢ txn). let z = unheard_report txn _ (says.others txn other) in cc)
      (same_or_not u.txn txn)
    where
      its_own : reported u.txn (deed_answer u.txn p.number deed) ≡ Some v → is_some (value_at v.0 (reports more u.txn)) ≡ true
      its_own same =
          let one_report : told_of u.txn (told_to p.port (deed_answer u.txn p.number deed) ∷ []) ≡ v ∷ [] = rw same refl in
          let now : reports more u.txn ≡ put_first v (reports lines u.txn) = reports_now u.txn ∙ ap (λ (z : List Report). for_each z put_first (reports lines u.txn)) (one ∙ one_report) in
          rw now (put_there v (reports lines u.txn))

  -- what holds of the answers that were kept, of what speaks of no operation and of an operation that is done now, holds of all that are kept
  module _ (R : Answer → Type 0) (old : (a : Answer) → IsKept x a → R a) (none : (a : Answer) → ((u : TxnId) → heard u a ≡ None) → R a) (doing : (u : Live) (p : Pending) (deed : Deed) (l : Lent) → Has x.live u → IsDone x given u p → Completes catalogue x given u p deed l → heard_of u.txn o.effects.replies ≡ heard_of u.txn (told_to p.port (deed_answer u.txn p.number deed) ∷ []) → AreLate o.effects.replies → R (deed_answer u.txn p.number deed)) where
    live_kept : (v : Live) → LiveTold catalogue x given o.effects.replies v → (a : Answer) → Has v.answers a → R a
    live_kept v (LiveTold.was u h named did gave same pending repeats) a there = old a (IsKept.live u h (rw same there))
    live_kept v (LiveTold.goes u p q at named did gave same pending alike repeats late) a there = old a (IsKept.live u at.live (rw same there))
    live_kept v (LiveTold.completed u p deed l h how c made one late) a there = ⊎_elim
        (λ before. old a (IsKept.live u h before))
        (λ added. subst R (has_one_is (deed_answer u.txn p.number deed) a added) (doing u p deed l h how c one late))
        (has_cases u.answers (deed_answer u.txn p.number deed ∷ []) a (rw (← ap (λ (t : Live). t.answers) made) at there))
    live_kept v (LiveTold.begins port view c made repeats) a there = absurd (has_none a (rw (← ap (λ (t : Live). t.answers) made) at there))

    ended_kept : (f : Finished) → EndsNow x f → (a : Answer) → Has f.answers a → R a
    ended_kept f e a there = ⊎_elim
        (λ before. old a (IsKept.live e.live.was e.live.live (subst (λ (answers : List Answer). Has answers a) (ap (λ (t : Live). t.answers) e.live.same) before)))
        (λ added. of_pending e.handled.pending added)
        (has_cases e.handled.answers (option_to_list (option_map (λ (p : Pending). answer_of e.handled.txn p.number e.why) e.handled.pending)) a (subst (λ (answers : List Answer). Has answers a) (ap (λ (f : Finished). f.answers) (sym e.is)) there))
      where
        of_pending : (p : Option Pending) → Has (option_to_list (option_map (λ (p : Pending). answer_of e.handled.txn p.number e.why) p)) a → R a
        of_pending None h = absurd (has_none a h)
        of_pending (Some p) h = subst R (has_one_is _ a h) (none (answer_of e.handled.txn p.number e.why) (λ u. end_unheard u e.handled.txn p.number e.why))

    pub kept_here : (a : Answer) → IsKept o.site a → R a
    kept_here a (IsKept.live v h there) = live_kept v (t.live v h) a there
    kept_here a (IsKept.finished f h there) = ⊎_elim (λ before. old a (IsKept.finished f before there)) (λ now. ended_kept f now a there) (d.finished f h)

  reported_here : (a : Answer) → IsKept o.site a → IsReported more a
  reported_here = kept_here (IsReported more) old_kept (λ a none. unreported a (λ u. unheard_report u a (none u))) (λ u p deed l h how c one late. done_kept u p deed (completed_says catalogue x given u p deed l c) (told_one u p deed one))

  kept_now : (j : ℕ) (y : SiteState) (a : Answer) → IsKept y a → NowIs w s o.site j y → IsReported more a
  kept_now j y a h (NowIs.other away old) = reported_lasts lines line a (told.kept j y a old h)
  kept_now j y a h (NowIs.here here same) = reported_here a (subst (λ (y : SiteState). IsKept y a) (sym same) h)

  pub step_told : ToldAt catalogue new more
  step_told = record {
    known = n;
    live = λ j y a at h. live_now j y a h (now_is w new s x o d.st j y at);
    entries = λ e h. entry_now e (d.st.entered e h);
    fresh = fresh_now;
    kept = λ j y a at h. kept_now j y a h (now_is w new s x o d.st j y at);
  }
