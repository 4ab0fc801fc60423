-- A copy that a step writes: for a doubt that commits, or for an entry of the step. Nothing is in doubt on it, it has the value that its
-- entry wrote, and no entry of a later view of the site has written it.
use Rattle.std.proofs.Common.{◌≡◌, ◌≢◌, ◌∙◌, ap, sym, subst, ℕ, Bool, true, false, cond, List, [], ◌∷◌, ◌++◌, refl, arith, ⊎_elim}
use Rattle.std.proofs.lemmas.Bool.Decides.{nat_tests}
use Rattle.std.proofs.lemmas.List.Elements.{filter-append}
use Rattle.vp_model.specs.OneCopy.{order}
use Rattle.vp_laws.proofs.Invariant.Base.{Stands, InvBase}
use Rattle.vp_laws.proofs.Journal.Acts.{IsQuiet, after, after_upto, after_own, after_between, under_same}
use Rattle.vp_laws.proofs.Journal.UpTo.{upto, under, up_to_from}
use Rattle.std.specs.Prelude.{Option, Some, None, not, option_map, slice_get}
use Rattle.vp_model.specs.Types.{Change, ViewId, TxnId, View, Commit, Input, Stored, Doubt}
use Rattle.vp_model.specs.Types.message
use Rattle.vp_model.specs.Words.{has, keys, value_at, view_before, same_txn}
use Rattle.vp_model.specs.Catalogue.{Catalogue, holders, start_values}
use Rattle.vp_model.specs.Durable.{DurableState}
use Rattle.vp_model.specs.Transactions.{last_changes, writes_held}
use Rattle.vp_model.specs.Site.{SiteState, Stepped}
use Rattle.vp_model.specs.Step.{durable_of}
use Rattle.vp_laws.proofs.Lists.Members.{Has, filter_has, has_first, has_more, has_right, has_cons}
use Rattle.vp_laws.proofs.Lists.Changes.{mapped_has}
use Rattle.vp_laws.proofs.Lists.Views.{AtMost, Precedes, AtMost-along, Precedes-at_most, not_both, three_ways}
use Rattle.vp_laws.proofs.Journal.Order.{Precedes-trans}
use Rattle.vp_laws.proofs.Moves.LocalViews.{letter}
use Rattle.vp_laws.proofs.Worlds.Scenes.{Scene, kept_at, promise_at}
use Rattle.vp_laws.proofs.Invariant.Shares.{InDoubt}
use Rattle.vp_laws.proofs.Invariant.Entered.{AgreedAs}
use Rattle.vp_laws.proofs.Invariant.Held.{copy_value}
use Rattle.vp_laws.proofs.Journal.Places.{Once, has_split, stands_behind, once_later}
use Rattle.vp_laws.proofs.Journal.LastChanges.{last_change}
use Rattle.vp_laws.proofs.Journal.ValuesAfter.{Content, content_of, started, writes_over, Wrote, without_entry, without_none, value_after, value_up_to, leaves_value, takes_value}
use Rattle.vp_laws.proofs.Journal.ValuesGrow.{after_some}
use Rattle.vp_laws.proofs.Copies.Facts.{no_doubt_below}
use Rattle.vp_laws.proofs.Keeping.NewEntries.{none_entered, journal_same, one_entry, Entering, entering, entering_agreed, certain_now, doubt_says, agreed_was, doubt_from, fresh_no_outcome}
use Rattle.vp_laws.proofs.Copies.Origins.{Applied, Written}
use Rattle.vp_laws.proofs.Copies.Values.{value_now}
use Rattle.vp_laws.proofs.Keeping.Does.{Does}
use Rattle.vp_laws.proofs.Invariant.Copies.{FromView, DoubtOn, InvCopies}
use Rattle.vp_laws.proofs.Invariant.Refresh.{InvRefresh}
use Rattle.vp_laws.proofs.Keeping.Listed.{wrote_here, not_below_itself}
use Rattle.vp_laws.proofs.Invariant.Known.{Known}

-- the entries of views up to one are among those below a higher one
upto_under : (d v : ViewId) (es : List Commit) → Precedes d v → upto d (under v es) ≡ upto d es
upto_under d v [] p = refl
upto_under d v (f ∷ es) p = go (view_before f.view v) (view_before d f.view) refl refl (upto_under d v es p)
  where
    go : (a b : Bool) → view_before f.view v ≡ a → view_before d f.view ≡ b → upto d (under v es) ≡ upto d es → upto d (cond a (f ∷ under v es) (under v es)) ≡ cond (not b) (f ∷ upto d es) (upto d es)
    go true true q r rest = rw r rest
    go true false q r rest = rw r (ap (λ (l : List Commit). f ∷ l) rest)
    go false true q r rest = rest
    go false false q r rest = absurd (apart (up_to_from d f.view r) q)
      where
        apart : AtMost f.view d → view_before f.view v ≡ false → ⊥
        apart a b = let c = up_to_from f.view v b in grind (arith, p, a, c)

-- no other entry is of the transaction of one
once_other : (front back : List Commit) (e f : Commit) → Once (front ++ e ∷ back) → Has (front ++ back) f → f.txn ≢ e.txn
once_other [] back e f h k = h.0 f k
once_other (c ∷ front) back e f h k = ⊎_elim
    (λ (one : c ≡ f). λ (same : f.txn ≡ e.txn). h.0 e (has_right front (e ∷ back) e (has_first e back)) (sym same ∙ ap (λ (g : Commit). g.txn) (sym one)))
    (λ more. once_other front back e f h.1 more)
    (has_cons c (front ++ back) f k)

stands_among : (front back : List Commit) (e f : Commit) → Has (front ++ back) f → Has (front ++ e ∷ back) f
stands_among [] back e f k = has_more e back f k
stands_among (c ∷ front) back e f k = ⊎_elim
    (λ (one : c ≡ f). rw (← one) (has_first c (front ++ e ∷ back)))
    (λ more. has_more c (front ++ e ∷ back) f (stands_among front back e f more))
    (has_cons c (front ++ back) f k)

-- the journal without the entry that is there
without_there : (front back : List Commit) (e : Commit) → Once (front ++ e ∷ back) → without_entry e.txn (front ++ e ∷ back) ≡ front ++ back
without_there front back e once =
    filter-append (λ (f : Commit). not (same_txn f.txn e.txn)) front (e ∷ back)
    ∙ (let t : same_txn e.txn e.txn ≡ true = grind (arith, nat_tests) in ap (λ (l : List Commit). without_entry e.txn front ++ l) (rw t refl))
    ∙ sym (filter-append (λ (f : Commit). not (same_txn f.txn e.txn)) front back)
    ∙ without_none e.txn (front ++ back) (λ f h. once_other front back e f once h)

module _ (catalogue : Catalogue) (w new : Scene) (s : ℕ) (x : SiteState) (given : Input) (o : Stepped) (k : Known catalogue w) (n : Known catalogue new) (d : Does catalogue w new s x given o) (copies : InvCopies catalogue w) (refresh : InvRefresh catalogue w) where
  -- for a doubt that commits
  module _ (j rec : ℕ) (c : Stored) (holder : Has (holders catalogue rec) j) (a : Applied catalogue w new s x given o k n d j rec c) where
    pub applied_date : a.doubt.view ≡ c.date
    applied_date = ap (λ (p : ℕ × Stored). p.1.date) a.is

    pub applied_on : Has (keys a.doubt.writes) rec
    applied_on = subst (Has (keys a.doubt.writes)) (ap (λ (p : ℕ × Stored). p.0) a.is) (mapped_has (λ (p : ℕ × Change). p.0) a.doubt.writes a.write a.wrote)

    no_entry : (e : Commit) → Has o.effects.commits e → ⊥
    no_entry = none_entered catalogue w new s x given o k n d a.from (message.Outcome a.doubt.txn true) a.comes (λ q. let z = q.1 in cc)

    quiet : new.journal ≡ w.journal
    quiet = journal_same catalogue w new s x given o k n d a.from (message.Outcome a.doubt.txn true) a.comes (λ q. let z = q.1 in cc)

    pub entry : (e : Commit) × Has w.journal e × (e.txn ≡ a.doubt.txn)
    entry = (k.ends.told (letter a.from s (message.Outcome a.doubt.txn true)) (d.came a.from _ a.comes)).1

    says : (entry.0.view ≡ a.doubt.view) × (writes_held catalogue j (last_changes entry.0) ≡ a.doubt.writes)
    says = doubt_says catalogue w new s x given o k n d entry.0 (d.st.moved.journal entry.0 entry.1) j a.doubt a.was (sym entry.2)

    view : (v : View) × AgreedAs w a.doubt.view v × Has v.members j
    view = let q = (k.shares.doubts j a.doubt a.was).0 in let b = k.led.asked _ q.3 in (b.0, (b.1, b.2), b.3)

    pub applied_sure : (v : Doubt) → Has (kept_at new j).doubts v → Has (keys v.writes) rec → ⊥
    applied_sure v there also = ⊎_elim
        (λ was. a.gone v there (k.guards.writes j v a.doubt rec was a.was also applied_on))
        (λ f. fresh_no_outcome catalogue w new s x given o k n d j v f a.from a.doubt.txn true a.comes)
        (doubt_from catalogue w new s x given o k n d j v there)

    rec_is : a.write.0 ≡ rec
    rec_is = ap (λ (p : ℕ × Stored). p.0) a.is

    kept_here : durable_of x ≡ kept_at w j
    kept_here = d.here.kept ∙ ap (kept_at w) (sym a.here)

    -- the copy before
    pub before : (b : Stored) × (value_at rec (kept_at w j).copies ≡ Some b)
    before = (a.old, subst (λ (n : ℕ). value_at n (kept_at w j).copies ≡ Some a.old) rec_is there)
      where
        there : value_at a.write.0 (kept_at w j).copies ≡ Some a.old
        there =
            subst (λ (k : DurableState). value_at a.write.0 k.copies ≡ Some a.old) kept_here
            (copy_value catalogue w s x d.up d.here.kept k.held a.write.0 a.old (subst (λ (k : DurableState). Has k.copies (a.write.0, a.old)) (sym kept_here) a.before))

    -- an entry that wrote the record and is in doubt here is the doubt's
    same_txn_in_doubt : (f : Commit) → Has w.journal f → Wrote f rec → InDoubt w j f.txn → f.txn ≡ a.doubt.txn
    same_txn_in_doubt f h wrote (u, there, named) =
        let q = doubt_says catalogue w new s x given o k n d f (d.st.moved.journal f h) j u there named in
        sym named ∙ k.guards.writes j u a.doubt rec there a.was (subst (λ (ws : List (ℕ × Change)). Has (keys ws) rec) q.1 (wrote_here catalogue f j rec holder wrote)) applied_on

    -- it is the last one of its view that wrote it
    none_behind : (front back : List Commit) (f : Commit) → w.journal ≡ front ++ entry.0 ∷ back → Has back f → f.view ≡ entry.0.view → Wrote f rec → ⊥
    none_behind front back f is behind same wrote = ⊎_elim earlier (λ later. ⊎_elim equal above later) (three_ways before.0.date a.doubt.view)
      where
        there : Has w.journal f
        there = rw is (stands_behind front entry.0 back f behind)

        earlier : Precedes before.0.date a.doubt.view → ⊥
        earlier p =
            let at : f.view ≡ a.doubt.view = same ∙ says.0 in
            let u = copies.above j rec before.0 f view.0 before.1 there wrote (subst (Precedes before.0.date) (sym at) p) (view.1.0, view.1.1 ∙ sym at) view.2 in
            once_later front back entry.0 f (subst (λ (es : List Commit). Once es) is k.ends.once) behind (same_txn_in_doubt f there wrote u ∙ sym entry.2)

        equal : before.0.date ≡ a.doubt.view → ⊥
        equal e = copies.last j rec before.0 a.doubt front back entry.0 f before.1 (a.was, applied_on, sym e) is entry.2 behind wrote same

        above : Precedes a.doubt.view before.0.date → ⊥
        above p = no_doubt_below catalogue w k copies refresh j rec before.0 a.doubt before.1 a.was applied_on p

    change_is : value_at rec (last_changes entry.0) ≡ Some a.write.1
    change_is =
        let there : Has (writes_held catalogue j (last_changes entry.0)) a.write = rw says.1 a.wrote in
        subst (λ (n : ℕ). value_at n (last_changes entry.0) ≡ Some a.write.1) rec_is
        (last_change entry.0 a.write (filter_has (λ (w : ℕ × Change). has (holders catalogue w.0) j) (last_changes entry.0) a.write there).0)

    -- whatever entries make of it: the content after those of views up to the doubt's is what the doubt's entry makes of the copy before
    module _ {C : Type 0} (act : Commit → C → C) (calm : (e : Commit) → (Wrote e rec → ⊥) → IsQuiet act e) (start : C) (of : Stored → C) (base : InvBase w) (content : ((u : Doubt) → DoubtOn w j rec before.0.date u → ⊥) → after_upto act start w.journal before.0.date ≡ of before.0) (in_doubt : (u : Doubt) → DoubtOn w j rec before.0.date u → after_upto act start (without_entry u.txn w.journal) before.0.date ≡ of before.0) where
      pub applied_content : after_upto act start w.journal entry.0.view ≡ act entry.0 (of before.0)
      applied_content = go (has_split w.journal entry.0 entry.1)
        where
          go : (q : (front : List Commit) × (back : List Commit) × (w.journal ≡ front ++ entry.0 ∷ back)) → after_upto act start w.journal entry.0.view ≡ act entry.0 (of before.0)
          go (front, back, is) =
              ap (λ (es : List Commit). after_upto act start es entry.0.view) is
              ∙ after_own act start front back entry.0 (λ f h same. calm f (λ did. none_behind front back f is h same did))
              ∙ ap (act entry.0) (⊎_elim earlier (λ later. ⊎_elim equal above later) (three_ways before.0.date a.doubt.view))
            where
              once : Once (front ++ entry.0 ∷ back)
              once = subst (λ (es : List Commit). Once es) is k.ends.once

              -- an entry of another transaction that changed it in a view above the date is of one above the doubt's
              other_quiet : Precedes before.0.date a.doubt.view → (f : Commit) → Has (front ++ back) f → Precedes before.0.date f.view → AtMost f.view entry.0.view → IsQuiet act f
              other_quiet p f h low high = calm f (λ did. ⊎_elim (λ b. base j rec before.0 a.doubt f before.1 a.was applied_on (Stands.entered entry.0 entry.1 entry.2) (there f h) did low b)
                  (λ q. ⊎_elim (λ same. level f h did same) (λ b. not_both a.doubt.view f.view b (subst (AtMost f.view) says.0 high)) q)
                  (three_ways f.view a.doubt.view))
                where
                  there : (f : Commit) → Has (front ++ back) f → Has w.journal f
                  there f h = rw is (stands_among front back entry.0 f h)

                  level : (f : Commit) → Has (front ++ back) f → Wrote f rec → f.view ≡ a.doubt.view → ⊥
                  level f h did same =
                      let u = copies.above j rec before.0 f view.0 before.1 (there f h) did (subst (Precedes before.0.date) (sym same) p) (view.1.0, view.1.1 ∙ sym same) view.2 in
                      once_other front back entry.0 f once h (same_txn_in_doubt f (there f h) did u ∙ sym entry.2)

              earlier : Precedes before.0.date a.doubt.view → after_upto act start (front ++ back) entry.0.view ≡ of before.0
              earlier p =
                  let low : Precedes before.0.date entry.0.view = subst (Precedes before.0.date) (sym says.0) p in
                  after_between act start (front ++ back) before.0.date entry.0.view (Precedes-at_most before.0.date entry.0.view low) (other_quiet p)
                  ∙ ap (after act start) (sym (upto_under before.0.date entry.0.view (order (front ++ back)) low) ∙ ap (upto before.0.date) (sym (under_same front back entry.0)) ∙ upto_under before.0.date entry.0.view (order (front ++ entry.0 ∷ back)) low)
                  ∙ ap (λ (es : List Commit). after_upto act start es before.0.date) (sym is)
                  ∙ content none
                where
                  none : (u : Doubt) → DoubtOn w j rec before.0.date u → ⊥
                  none u on =
                      let named = k.guards.writes j u a.doubt rec on.0 a.was on.1 applied_on in
                      let q = doubt_says catalogue w new s x given o k n d entry.0 (d.st.moved.journal entry.0 entry.1) j u on.0 (named ∙ sym entry.2) in
                      not_below_itself before.0.date a.doubt.view p (sym on.2 ∙ sym q.0 ∙ says.0)

              equal : before.0.date ≡ a.doubt.view → after_upto act start (front ++ back) entry.0.view ≡ of before.0
              equal same =
                  let t : without_entry a.doubt.txn w.journal ≡ front ++ back = ap (without_entry a.doubt.txn) is ∙ ap (λ (t : TxnId). without_entry t (front ++ entry.0 ∷ back)) (sym entry.2) ∙ without_there front back entry.0 once in
                  ap (after_upto act start (front ++ back)) (says.0 ∙ sym same)
                  ∙ ap (λ (es : List Commit). after_upto act start es before.0.date) (sym t)
                  ∙ in_doubt a.doubt (a.was, applied_on, sym same)

              above : Precedes a.doubt.view before.0.date → after_upto act start (front ++ back) entry.0.view ≡ of before.0
              above p = absurd (no_doubt_below catalogue w k copies refresh j rec before.0 a.doubt before.1 a.was applied_on p)

    -- so its content is the one after these entries
    pub applied_value : InvBase w → value_after catalogue new.journal c.date rec ≡ Some (content_of c)
    unfolding before
    applied_value base = value_now catalogue w new s x given o k n d copies refresh c.date rec (λ e h. absurd (no_entry e h)) ∙ go (slice_get (start_values catalogue) rec) refl
      where
        at : c.date ≡ entry.0.view
        at = sym applied_date ∙ sym says.0

        starts_as : (journal : List Commit) (view : ViewId) (first : Option (List ℕ)) (content : Content) → slice_get (start_values catalogue) rec ≡ Some first → value_after catalogue journal view rec ≡ Some content → value_up_to rec (started first) journal view ≡ content
        starts_as journal view first content e h =
            let z : Some (value_up_to rec (started first) journal view) ≡ Some content = subst (λ (q : Option (Option (List ℕ))). option_map (λ start. value_up_to rec (started start) journal view) q ≡ Some content) e h in
            cc

        go : (q : Option (Option (List ℕ))) → slice_get (start_values catalogue) rec ≡ q → option_map (λ start. value_up_to rec (started start) w.journal c.date) q ≡ Some (content_of c)
        go None e =
            let some = after_some catalogue w.journal c.date rec j holder in
            let z = subst (λ (q : Option (Option (List ℕ))). option_map (λ start. value_up_to rec (started start) w.journal c.date) q ≡ Some some.0) e some.1 in
            cc
        go (Some first) e = ap (λ (v : Content). Some v) (
            ap (value_up_to rec (started first) w.journal) at
            ∙ applied_content (writes_over rec) (λ f none. leaves_value f rec none) (started first) content_of base
            (λ none. starts_as w.journal before.0.date first (content_of before.0) e (copies.value j rec before.0 before.1 none))
            (λ u on. starts_as (without_entry u.txn w.journal) before.0.date first (content_of before.0) e (copies.value_in_doubt j rec before.0 u before.1 on))
            ∙ takes_value entry.0 rec a.write.1 (content_of a.old) change_is
            ∙ ap (λ (p : ℕ × Stored). content_of p.1) a.is
            )

    pub applied_above : (e : Commit) (v : View) → Has new.journal e → Wrote e rec → Precedes c.date e.view → AgreedAs new e.view v → Has v.members j → ⊥
    applied_above e v h wrote later agreed member = ⊎_elim earlier (λ q. ⊎_elim equal above q) (three_ways before.0.date e.view)
      where
        there : Has w.journal e
        there = rw quiet at h

        below : Precedes a.doubt.view e.view
        below = subst (λ (i : ViewId). Precedes i e.view) (sym applied_date) later

        earlier : Precedes before.0.date e.view → ⊥
        earlier p =
            let u = copies.above j rec before.0 e v before.1 there wrote p (agreed_was catalogue w new s x given o k n d e v there agreed) member in
            let q = doubt_says catalogue w new s x given o k n d e h j a.doubt a.was (sym (same_txn_in_doubt e there wrote u)) in
            not_below_itself a.doubt.view e.view below (sym q.0)

        equal : before.0.date ≡ e.view → ⊥
        equal q = no_doubt_below catalogue w k copies refresh j rec before.0 a.doubt before.1 a.was applied_on (subst (Precedes a.doubt.view) (sym q) below)

        above : Precedes e.view before.0.date → ⊥
        above p = no_doubt_below catalogue w k copies refresh j rec before.0 a.doubt before.1 a.was applied_on (Precedes-trans a.doubt.view e.view before.0.date below p)

    pub applied_from : FromView catalogue new j rec c.date
    applied_from = FromView.member view.0 (d.st.moved.agreed view.0 view.1.0, view.1.1 ∙ applied_date) view.2

  -- for an entry of the step
  module _ (j rec : ℕ) (c : Stored) (holder : Has (holders catalogue rec) j) (b : Written catalogue w new s x given o k n d j rec c) where
    pub written_date : b.entry.view ≡ c.date
    written_date = ap (λ (p : ℕ × Stored). p.1.date) b.is

    pub there_last : Has (last_changes b.entry) b.write
    there_last = (filter_has (λ (w : ℕ × Change). has (holders catalogue w.0) x.id) (last_changes b.entry) b.write b.wrote).0

    pub wrote : Wrote b.entry rec
    wrote = subst (Wrote b.entry) (ap (λ (p : ℕ × Stored). p.0) b.is) (mapped_has (λ (p : ℕ × Change). p.0) (last_changes b.entry) b.write there_last)

    f : Entering catalogue w new s x given o k n d b.entry
    f = entering catalogue w new s x given o k n d b.entry b.entered

    pub written_sure : (v : Doubt) → Has (kept_at new j).doubts v → Has (keys v.writes) rec → ⊥
    written_sure v there also =
        certain_now catalogue w new s x given o k n d b.entry rec b.entered wrote (subst (Has (holders catalogue rec)) b.here holder) v
        (subst (λ (k : DurableState). Has k.doubts v) (ap (kept_at new) b.here ∙ d.st.kept_now) there) also

    pub written_above : (e : Commit) (v : View) → Has new.journal e → Wrote e rec → Precedes c.date e.view → AgreedAs new e.view v → Has v.members j → ⊥
    written_above e v h also later agreed member = ⊎_elim old more (d.st.entered e h)
      where
        below : Precedes b.entry.view e.view
        below = subst (λ (i : ViewId). Precedes i e.view) (sym written_date) later

        more : Has o.effects.commits e → ⊥
        more q = not_below_itself b.entry.view e.view below (ap (λ (e : Commit). e.view) (one_entry catalogue w new s x given o k n d b.entry e b.entered q))

        old : Has w.journal e → ⊥
        old q =
            let v_was = agreed_was catalogue w new s x given o k n d e v q agreed in
            let le : AtMost v.id (promise_at w s) = (k.views.view v v_was.0).members s (subst (Has v.members) b.here member) in
            let promise : promise_at w s ≡ b.entry.view = ap (λ (d : DurableState). d.promise) (sym d.here.kept) ∙ sym (d.here.tidy.held f.view f.held).0 ∙ f.is in
            not_both b.entry.view e.view below (AtMost-along le (sym v_was.1) (sym promise))

    pub written_from : FromView catalogue new j rec c.date
    written_from =
        let agreed = entering_agreed catalogue w new s x given o k n d b.entry f in
        FromView.member f.view (d.st.moved.agreed f.view agreed.0, f.is ∙ written_date) (subst (Has f.view.members) (d.here.id ∙ sym b.here) (d.here.tidy.held f.view f.held).3)
