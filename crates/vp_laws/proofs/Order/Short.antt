-- Bars, sharper than their numbers: where a record is barred in a view it is closed for the view, and the members have no more than half of
-- its weight by the table in force.
use Rattle.std.proofs.Common.{◌≡◌, ◌≢◌, ◌⊎◌, ◌∙◌, ap, sym, subst, ℕ, Bool, true, false, List, [], ◌∷◌, refl, ⊎_elim, inl, inr}
use Rattle.std.specs.Prelude.{Option, Some, ◌&&◌}
use Rattle.vp_model.specs.Types.{ViewId, View, Commit, Input, Stored}
use Rattle.vp_model.specs.Words.{keys, has, value_at, view_before}
use Rattle.vp_model.specs.Catalogue.{Catalogue, holders, weights_of, table_or, start_copies}
use Rattle.vp_model.specs.Durable.{empty_durable}
use Rattle.vp_model.specs.OneCopy.{order}
use Rattle.vp_model.specs.Refresh.{members_in, newest}
use Rattle.vp_model.specs.Site.{SiteState, Stepped}
use Rattle.vp_model.specs.Step.{step}
use Rattle.vp_model.specs.Transactions.{last_changes}
use Rattle.vp_model.specs.World.{start_world}
use Rattle.vp_laws.proofs.Lists.Members.{Has, has_none, has_first, has_more, has_cons, has_test, has_from_test, both_true}
use Rattle.vp_laws.proofs.Lists.Views.{AtMost, AtMost-refl, AtMost-trans, AtMost-same, Precedes, Precedes-at_most, not_both, from_before, same_site, three_ways}
use Rattle.vp_laws.specs.Catalogues.{IsWhole}
use Rattle.vp_laws.proofs.Table.Copies.{AnswerNow, newest_from}
use Rattle.vp_laws.proofs.Table.CopyAt.{Certain, newest_own, newest_each}
use Rattle.vp_laws.proofs.Table.Covered.{BarFrom}
use Rattle.vp_laws.proofs.Table.Unlisted.{Ended, Verdict}
use Rattle.vp_laws.proofs.Worlds.Scenes.{Scene, scene_of, kept_at, plain_at, acted}
use Rattle.vp_laws.proofs.Worlds.Sites.{NowIs, now_is, QuietIs, quiet_is, Quiet, started, With, with_last}
use Rattle.vp_laws.proofs.Worlds.Events.{Arrives, Lasts}
use Rattle.vp_laws.proofs.Journal.Order.{Precedes-trans}
use Rattle.vp_laws.proofs.Journal.UpTo.{under, test_above}
use Rattle.vp_laws.proofs.Journal.TablesAfter.{Table, given_by, accessible_by, weighs, table_in, table_upto, same_between}
use Rattle.vp_laws.proofs.Journal.TableContents.{content_table}
use Rattle.vp_laws.proofs.Journal.ValuesAfter.{content_of, Wrote, value_after}
use Rattle.vp_laws.proofs.Invariant.Closed.{ClosedAt, Closed, table_in_force, InForce}
use Rattle.vp_laws.proofs.Invariant.Entered.{AgreedAs}
use Rattle.vp_laws.proofs.Invariant.Lived.{InvLived}
use Rattle.vp_laws.proofs.Invariant.Invariant.{Invariant}
use Rattle.vp_laws.proofs.Order.Invariant.{invariant_acts, invariant_last}
use Rattle.vp_laws.proofs.Keeping.Barred.{no_bar}
use Rattle.vp_laws.proofs.Keeping.Closing.{closed_quiet}
use Rattle.vp_laws.proofs.Keeping.Does.{Does, does}
use Rattle.vp_laws.proofs.Keeping.Listed.{not_below_itself}
use Rattle.vp_laws.proofs.Keeping.NewEntries.{entering, entering_agreed, agreed_was}
use Rattle.vp_laws.proofs.Keeping.Stopping.{met_stops}
use Rattle.vp_laws.proofs.Copies.Brought.{doubt_on}
use Rattle.vp_laws.proofs.Copies.CopiesKept.{kept_copy, sure, low, sure_value}
use Rattle.vp_laws.proofs.Copies.Facts.{still_below}
use Rattle.vp_laws.proofs.Copies.Force.{Weighed, walk_up, usable_after, shared_by}
use Rattle.vp_laws.proofs.Copies.Opening.{closed_now, table_stays}
use Rattle.vp_laws.proofs.Copies.Refreshes.{answer_in, answer_unwritten, left_below_now, other_answer, all_closed}
use Rattle.vp_laws.proofs.Copies.Values.{value_now}
use Rattle.vp_laws.proofs.Copies.Weights.{weighed_wrote, known_weighed, force_sites}

-- ---- the last of some entries, by view

pub record Greatest (test : Commit → Bool) (es : List Commit) : Type 0 where
  pub entry : Commit
  pub there : Has es entry
  pub passes : test entry ≡ true
  pub greatest : (f : Commit) → Has es f → test f ≡ true → AtMost f.view entry.view

pub find_greatest : (test : Commit → Bool) (es : List Commit) → Greatest test es ⊎ ((f : Commit) → Has es f → test f ≡ false)
find_greatest test [] = inr (λ f h. absurd (has_none f h))
find_greatest test (e ∷ es) = go (test e) refl (find_greatest test es)
  where
    alone : test e ≡ true → ((f : Commit) → Has es f → test f ≡ false) → Greatest test (e ∷ es)
    alone p none = record {
      entry = e;
      there = has_first e es;
      passes = p;
      greatest = λ f h q. ⊎_elim (λ (one : e ≡ f). rw one (AtMost-refl f.view)) (λ more. absurd (let z = none f more in cc)) (has_cons e es f h);
    }

    both : test e ≡ true → Greatest test es → Greatest test (e ∷ es)
    both p r = ⊎_elim
        (λ (le : AtMost r.entry.view e.view). record {
          entry = e;
          there = has_first e es;
          passes = p;
          greatest = λ f h q. ⊎_elim (λ (one : e ≡ f). rw one (AtMost-refl f.view)) (λ more. AtMost-trans f.view r.entry.view e.view (r.greatest f more q) le) (has_cons e es f h);
        })
        (λ (ge : AtMost e.view r.entry.view). record {
          entry = r.entry;
          there = has_more e es r.entry r.there;
          passes = r.passes;
          greatest = λ f h q. ⊎_elim (λ (one : e ≡ f). subst (λ (g : Commit). AtMost g.view r.entry.view) one ge) (λ more. r.greatest f more q) (has_cons e es f h);
        })
        (⊎_elim (λ (p : Precedes r.entry.view e.view). inl (Precedes-at_most r.entry.view e.view p)) (λ more. ⊎_elim (λ (q : r.entry.view ≡ e.view). inl (AtMost-same r.entry.view e.view q)) (λ (p : Precedes e.view r.entry.view). inr (Precedes-at_most e.view r.entry.view p)) more) (three_ways r.entry.view e.view))

    skip : test e ≡ false → Greatest test es → Greatest test (e ∷ es)
    skip p r = record {
      entry = r.entry;
      there = has_more e es r.entry r.there;
      passes = r.passes;
      greatest = λ f h q. ⊎_elim (λ (one : e ≡ f). absurd (let z : test f ≡ false = rw (← one) p in cc)) (λ more. r.greatest f more q) (has_cons e es f h);
    }

    go : (b : Bool) → test e ≡ b → Greatest test es ⊎ ((f : Commit) → Has es f → test f ≡ false) → Greatest test (e ∷ es) ⊎ ((f : Commit) → Has (e ∷ es) f → test f ≡ false)
    go true p rest = ⊎_elim (λ r. inl (both p r)) (λ none. inl (alone p none)) rest
    go false p rest = ⊎_elim (λ r. inl (skip p r)) (λ none. inr (λ f h. ⊎_elim (λ (one : e ≡ f). rw (← one) p) (λ more. none f more) (has_cons e es f h))) rest

-- ---- the invariant

pub record IsShort (catalogue : Catalogue) (w : Scene) (rec : ℕ) (v : View) : Type 0 where
  pub closed : Closed catalogue w rec v
  pub short : InForce catalogue w rec v → ⊥

pub record InvShort (catalogue : Catalogue) (w : Scene) : Type 0 where
  pub site : (s rec : ℕ) (x : SiteState) (v : View) (bar : ℕ × ℕ) → plain_at w s ≡ Some x → x.held ≡ Some v → value_at rec x.bars ≡ Some bar → IsShort catalogue w rec v

module _ (catalogue : Catalogue) (w new : Scene) (s : ℕ) (x : SiteState) (given : Input) (o : Stepped) (k : Invariant catalogue w) (n : Invariant catalogue new) (d : Does catalogue w new s x given o) where
  weighed : (rec : ℕ) → Weighed given_by rec catalogue new
  weighed rec = known_weighed catalogue new n.known n.refresh rec

  -- ---- an old bar

  -- the scene as it was, with the journal that is now
  abbrev mix : Scene
  mix = record w { journal = new.journal }

  closed_mix : (q rec : ℕ) (i : ViewId) → ClosedAt w q rec i → ClosedAt mix q rec i
  closed_mix q rec i c = record { left = λ j b. record { promised = (c.left j b).promised; unused = (c.left j b).unused }; certain = c.certain }

  closed_was : (q rec : ℕ) (i : ViewId) → ClosedAt mix q rec i → ClosedAt w q rec i
  closed_was q rec i c = record { left = λ j b. record { promised = (c.left j b).promised; unused = (c.left j b).unused }; certain = c.certain }

  module _ (rec : ℕ) (v : View) (b : IsShort catalogue w rec v) (enough : InForce catalogue new rec v) where
    closed_entry : (e : Commit) (u : View) → Has new.journal e → weighs given_by rec e ≡ true → AgreedAs w e.view u → Closed catalogue w rec u
    closed_entry e u h q a = ⊎_elim
        (λ old. (known_weighed catalogue w k.known k.refresh rec).closed e u old q a)
        (λ more.
        let f = entering catalogue w new s x given o k.known n.known d e more in
        (k.refresh.uses s x f.was rec u d.up f.live (inr (subst (λ (e : Commit). Wrote e rec) (sym f.done) (weighed_wrote rec e q))) (a.0, a.1 ∙ sym f.viewed)).closed)
        (d.st.entered e h)

    weighed_mix : Weighed given_by rec catalogue mix
    weighed_mix = record {
      usable = λ e u h q a. (weighed rec).usable e u h q (d.st.moved.agreed u a.0, a.1);
      majority = λ e u t h is a. (weighed rec).majority e u t h is (d.st.moved.agreed u a.0, a.1);
      sites = λ e t h is. (weighed rec).sites e t h is;
      closed = λ e u h q a j holder member. closed_mix j rec u.id (closed_entry e u h q a j holder member);
      agreed = λ e h. ⊎_elim
          (λ old. (known_weighed catalogue w k.known k.refresh rec).agreed e old)
          (λ more. let f = entering catalogue w new s x given o k.known n.known d e more in (f.view, entering_agreed catalogue w new s x given o k.known n.known d e f))
          (d.st.entered e h);
    }

    -- no entry of this step, of a lower view, changed the record
    no_new : (e : Commit) → Has o.effects.commits e → Precedes e.view v.id → Wrote e rec → ⊥
    no_new e h below wrote =
        let f = entering catalogue w new s x given o k.known n.known d e h in
        let agreed = entering_agreed catalogue w new s x given o k.known n.known d e f in
        let now : AgreedAs new e.view f.view = (d.st.moved.agreed f.view agreed.0, agreed.1) in
        let m = walk_up given_by rec catalogue mix weighed_mix f.view v (subst (λ (i : ViewId). Precedes i v.id) (sym f.is) below)
        (usable_after given_by rec catalogue mix weighed_mix f.view agreed.0 (n.refresh.entry e f.view rec (d.st.enters e h) now (inr wrote)).usable)
        enough (λ j holder member. closed_mix j rec v.id (b.closed j holder member)) in
        met_stops catalogue w new s x given o d.up d.here.id d.led k.known.shares n.known.shares n.known.entered d.steps d.shares d.st e f.view rec m.site m.up h now wrote m.holder m.member (subst (λ (i : ViewId). Precedes i m.up) f.is m.above) (closed_was m.site rec m.up m.closed)

    still_clash : ⊥
    still_clash = b.short (subst (λ (t : Table). accessible_by t v.members ≡ true) (table_stays catalogue w new s x given o k.known n.known d k.refresh rec v.id no_new) enough)

  still_short : (rec : ℕ) (v : View) → IsShort catalogue w rec v → IsShort catalogue new rec v
  still_short rec v b = record { closed = closed_now catalogue w new s x given o k.known n.known d k.refresh rec v b.closed; short = λ enough. still_clash rec v b enough }

  -- ---- a new one: the record's refresh has ended in this step

  module _ (rec : ℕ) (v : View) (held : o.site.held ≡ Some v) (q : Ended catalogue x given o rec) (own : Stored) (copy : value_at rec o.site.copies ≡ Some own) where
    abbrev best : Stored
    best = newest own q.r.answers

    answers : (p : ℕ × Stored) → Has q.r.answers p → AnswerNow catalogue x given rec p
    answers p a = (q.answers p a).0

    held_then : (p : ℕ × Stored) → Has q.r.answers p → x.held ≡ Some v
    held_then p a = sym (q.answers p a).1 ∙ held

    certain : Certain (kept_at new s).doubts rec
    certain = sure catalogue w new s x given o k.known n.known d k.copies k.refresh k.base rec v own held copy q

    its_copy : value_at rec (kept_at new s).copies ≡ Some own
    its_copy = kept_copy catalogue w new s x given o k.known n.known d k.copies k.refresh rec own copy

    ended_closed : Closed catalogue new rec v
    ended_closed = all_closed catalogue w new s x given o k.known n.known d k.refresh rec v q.r o.site (n.known.views.site s o.site d.st.now).id held q.on q.all answers held_then (λ i below. left_below_now catalogue w new s x given o k.known n.known d v i held below) certain

    abbrev Dated : Stored → Type 0
    Dated c = (value_after catalogue new.journal c.date rec ≡ Some (content_of c)) × Precedes c.date v.id

    dated_answer : (p : ℕ × Stored) → Has q.r.answers p → Dated p.1
    dated_answer p h =
        let a = answer_in catalogue w new s x given o k.known n.known d rec p v (answers p h) (held_then p h) in
        (value_now catalogue w new s x given o k.known n.known d k.copies k.refresh p.1.date rec (λ f g wrote le. answer_unwritten catalogue w new s x given o k.known n.known d rec p (answers p h) f g wrote) ∙ k.refresh.value p.0 s rec v.id p.1 a.sent a.low, a.low)

    dated_best : Dated best
    dated_best = ⊎_elim
        (λ (same : best ≡ own). subst Dated (sym same) (sure_value catalogue w new s x given o k.known n.known d k.copies k.refresh k.base rec v own held copy q, low catalogue w new s x given o k.known n.known d k.copies k.refresh k.base rec v own held copy q))
        (λ (p : (p : ℕ × Stored) × Has q.r.answers p × (p.1 ≡ best)). subst Dated p.2 (dated_answer p.0 p.1))
        (newest_from own q.r.answers)

    -- each holder in the view of an entry between would have told of it
    none_missed : (e : Commit) → Has new.journal e → Wrote e rec → Precedes best.date e.view → Precedes e.view v.id → (u : View) → AgreedAs new e.view u → (a : ℕ) → Has (holders catalogue rec) a → Has u.members a → Has v.members a → ⊥
    none_missed e there wrote later below u agreed a its there_too here_too = ⊎_elim
        (λ (here : a ≡ s).
        let z = n.copies.above s rec own e u its_copy there wrote (still_below own.date best.date e.view (newest_own own q.r.answers) later) agreed (subst (Has u.members) here there_too) in
        certain z.0 z.1 (doubt_on catalogue new n.known.shares e s rec z.0 there wrote (subst (Has (holders catalogue rec)) here its) z.1 z.2))
        (λ (other : a ≢ s).
        let r = other_answer catalogue w new s x given o k.known n.known d k.refresh rec v q.r o.site (n.known.views.site s o.site d.st.now).id held q.on q.all answers held_then a its here_too other in
        let then = held_then r.0 r.1 in
        let f = answer_in catalogue w new s x given o k.known n.known d rec r.0 v (answers r.0 r.1) then in
        ⊎_elim
        (λ old. k.refresh.between r.0.0 s rec v.id r.0.1 e u f.sent old wrote (still_below r.0.1.date best.date e.view (newest_each own q.r.answers r.0 r.1) later) below (agreed_was catalogue w new s x given o k.known n.known d e u old agreed) (subst (Has u.members) (sym r.2) there_too))
        (λ more.
        let g = entering catalogue w new s x given o k.known n.known d e more in
        let same : g.view ≡ v = (let y = g.held in let z = then in cc) in
        not_below_itself e.view v.id below (sym g.is ∙ ap (λ (v : View). v.id) same))
        (d.st.entered e there))
        (same_site a s)

    abbrev between : Commit → Bool
    between e = has (keys (last_changes e)) rec && (view_before best.date e.view && view_before e.view v.id)

    parts : (e : Commit) → between e ≡ true → Wrote e rec × Precedes best.date e.view × Precedes e.view v.id
    parts e t =
        let a = both_true (has (keys (last_changes e)) rec) (view_before best.date e.view && view_before e.view v.id) t in
        let b = both_true (view_before best.date e.view) (view_before e.view v.id) a.1 in
        (has_from_test (keys (last_changes e)) rec a.0, from_before best.date e.view b.0, from_before e.view v.id b.1)

    is_between : (e : Commit) → Wrote e rec → Precedes best.date e.view → Precedes e.view v.id → between e ≡ true
    is_between e wrote a b = rw (has_test (keys (last_changes e)) rec wrote, test_above best.date e.view a, test_above e.view v.id b) refl

    module _ (enough : InForce catalogue new rec v) where
      no_greatest : Greatest between new.journal → ⊥
      no_greatest r =
          let t = parts r.entry r.passes in
          let z = (weighed rec).agreed r.entry r.there in
          let usable = usable_after given_by rec catalogue new (weighed rec) z.0 z.1.0 (n.refresh.entry r.entry z.0 rec r.there z.1 (inr t.0)).usable in
          let same : table_in_force catalogue new rec v.id ≡ table_upto given_by rec (weights_of catalogue rec) new.journal z.0.id = same_between given_by rec z.0.id v.id (weights_of catalogue rec) new.journal (subst (λ (i : ViewId). Precedes i v.id) (sym z.1.1) t.2) (λ f h a b. unweighed f h (subst (λ (i : ViewId). Precedes i f.view) z.1.1 a) b (weighs given_by rec f) refl) in
          let q = shared_by (table_in_force catalogue new rec v.id) v.members z.0.members enough (rw same usable) in
          none_missed r.entry r.there t.0 t.1 t.2 z.0 z.1 q.0 (subst (λ (sites : List ℕ). Has sites q.0) (force_sites catalogue new n.known n.refresh rec v.id) q.1) q.3 q.2
        where
          unweighed : (f : Commit) → Has new.journal f → Precedes r.entry.view f.view → Precedes f.view v.id → (c : Bool) → weighs given_by rec f ≡ c → weighs given_by rec f ≡ false
          unweighed f h a b false e = e
          unweighed f h a b true e = absurd (
              let t = parts r.entry r.passes in
              let m = is_between f (weighed_wrote rec f e) (Precedes-trans best.date r.entry.view f.view t.1 a) b in
              not_both r.entry.view f.view a (r.greatest f h m)
              )

      none_between : (f : Commit) → Has new.journal f → Wrote f rec → Precedes best.date f.view → Precedes f.view v.id → ⊥
      none_between f h wrote a b = ⊎_elim no_greatest (λ (none : (f : Commit) → Has new.journal f → between f ≡ false). let z = sym (none f h) ∙ is_between f wrote a b in cc) (find_greatest between new.journal)

      in_force : table_in_force catalogue new rec v.id ≡ table_or catalogue rec best.table
      in_force =
          same_between given_by rec best.date v.id (weights_of catalogue rec) new.journal dated_best.1 (λ f h a b. unweighed f h a b (weighs given_by rec f) refl)
          ∙ sym (content_table catalogue rec new.journal best.date (content_of best) dated_best.0)
        where
          unweighed : (f : Commit) → Has new.journal f → Precedes best.date f.view → Precedes f.view v.id → (c : Bool) → weighs given_by rec f ≡ c → weighs given_by rec f ≡ false
          unweighed f h a b false e = e
          unweighed f h a b true e = absurd (none_between f h (weighed_wrote rec f e) a b)

    ended_short : accessible_by (table_or catalogue rec best.table) (members_in o.site.held) ≡ false → IsShort catalogue new rec v
    ended_short a = record {
      closed = ended_closed;
      short = λ enough.
          let yes : accessible_by (table_or catalogue rec best.table) v.members ≡ true = subst (λ (t : Table). accessible_by t v.members ≡ true) (in_force enough) enough in
          let no : accessible_by (table_or catalogue rec best.table) v.members ≡ false = subst (λ (h : Option View). accessible_by (table_or catalogue rec best.table) (members_in h) ≡ false) held a in
          let z = sym yes ∙ no in cc;
    }

  module _ (inv : InvShort catalogue w) where
    bar_here : (rec : ℕ) (v : View) (bar : ℕ × ℕ) → o.site.held ≡ Some v → value_at rec o.site.bars ≡ Some bar → IsShort catalogue new rec v
    bar_here rec v bar held e = go (d.bar_from rec v bar held e (d.unlisting.base.1.1.barred rec bar e).unlisted)
      where
        judged : (q : Ended catalogue x given o rec) → Verdict catalogue o q.r rec → IsShort catalogue new rec v
        judged q (Verdict.taken own free copy a) = absurd (let z = sym e ∙ free in cc)
        judged q (Verdict.barred own found copy a) = ended_short rec v held q own copy a

        go : BarFrom catalogue x given o rec bar → IsShort catalogue new rec v
        go (BarFrom.still was same) = still_short rec v (inv.site s rec x v bar d.up (sym same ∙ held) was)
        go (BarFrom.ended q) = judged q q.verdict

    short_keeps : InvShort catalogue new
    short_keeps = record { site = λ j rec y v bar up held e. at_site j rec y v bar held e (now_is w new s x o d.st j y up) }
      where
        at_site : (j rec : ℕ) (y : SiteState) (v : View) (bar : ℕ × ℕ) → y.held ≡ Some v → value_at rec y.bars ≡ Some bar → NowIs w s o.site j y → IsShort catalogue new rec v
        at_site j rec y v bar held e (NowIs.other m old) = still_short rec v (inv.site j rec y v bar old held e)
        at_site j rec y v bar held e (NowIs.here z same) = bar_here rec v bar (ap (λ (y : SiteState). y.held) same ∙ held) (ap (λ (y : SiteState). value_at rec y.bars) same ∙ e)

short_acts : (catalogue : Catalogue) (w : Scene) (s : ℕ) (x : SiteState) (given : Input) → plain_at w s ≡ Some x → Arrives w s given → Invariant catalogue w → InvShort catalogue w → InvShort catalogue (acted w s x (step catalogue x given))
short_acts catalogue w s x given up r k inv = short_keeps catalogue w (acted w s x (step catalogue x given)) s x given (step catalogue x given) k (invariant_acts catalogue w s x given up r k) (does catalogue w s x given up r k.known) inv

short_starts : (catalogue : Catalogue) → InvShort catalogue (scene_of (start_world catalogue))
short_starts catalogue = record { site = λ s rec x v bar up held e. absurd (no_bar catalogue s (empty_durable (start_copies catalogue s)) rec bar (ap (λ (x : SiteState). value_at rec x.bars) (started catalogue s x up) ∙ e)) }

short_quiet : (catalogue : Catalogue) (w new : Scene) (s : ℕ) → Quiet catalogue w new s → InvLived w → InvShort catalogue w → InvShort catalogue new
short_quiet catalogue w new s q lived inv = record { site = λ j rec y v bar up held e. at_site j rec y v bar held e (quiet_is catalogue w new s q j y up) }
  where
    still : (rec : ℕ) (v : View) → IsShort catalogue w rec v → IsShort catalogue new rec v
    still rec v b = record {
      closed = λ j holder member. closed_quiet catalogue w new s q lived j rec v.id (b.closed j holder member);
      short = λ enough. b.short (subst (λ (es : List Commit). accessible_by (table_in given_by rec (weights_of catalogue rec) (under v.id (order es))) v.members ≡ true) q.journal enough);
    }

    at_site : (j rec : ℕ) (y : SiteState) (v : View) (bar : ℕ × ℕ) → y.held ≡ Some v → value_at rec y.bars ≡ Some bar → QuietIs catalogue w s j y → IsShort catalogue new rec v
    at_site j rec y v bar held e (QuietIs.other n old) = still rec v (inv.site j rec y v bar old held e)
    at_site j rec y v bar held e (QuietIs.here z same) = absurd (no_bar catalogue s (kept_at w s) rec bar (ap (λ (y : SiteState). value_at rec y.bars) same ∙ e))

pub short_last : (catalogue : Catalogue) → IsWhole catalogue → Lasts catalogue (With (Invariant catalogue) (InvShort catalogue))
short_last catalogue whole = with_last catalogue (Invariant catalogue) (InvShort catalogue) (invariant_last catalogue whole) (record {
  starts = short_starts catalogue;
  acts = λ w s x given up r k inv. short_acts catalogue w s x given up r k inv;
  quiet = λ w new s q k inv. short_quiet catalogue w new s q k.known.lived inv;
})
