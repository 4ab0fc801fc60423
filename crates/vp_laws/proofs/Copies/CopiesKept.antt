-- A step keeps the invariant of copies.
use Rattle.std.proofs.Common.{◌≡◌, ◌≢◌, ◌∙◌, ap, sym, subst, ℕ, Bool, true, false, List, ◌∷◌, ◌++◌, refl, ⊎_elim}
use Rattle.std.specs.Prelude.{Option, Some, None, is_some, not}
use Rattle.vp_model.specs.Types.{ViewId, View, Commit, Input, Stored, Doubt}
use Rattle.vp_model.specs.Words.{value_at, keys, has, opening}
use Rattle.vp_model.specs.Transactions.{last_changes}
use Rattle.vp_laws.proofs.Journal.TablesAfter.{Table, given_by, accessible_by, weighs}
use Rattle.vp_laws.proofs.Copies.Force.{below, after, Weighed, none_between, in_force}
use Rattle.vp_laws.proofs.Copies.Weights.{weighed_wrote}
use Rattle.vp_laws.proofs.Copies.Opening.{stops, open_now, weighed_now, changed_now}
use Rattle.vp_laws.proofs.Journal.TableContents.{content_table}
use Rattle.vp_model.specs.Catalogue.{Catalogue, holders, sites_of, table_or}
use Rattle.vp_model.specs.Durable.{DurableState}
use Rattle.vp_model.specs.Refresh.{is_open, members_in, newest, refreshing_of}
use Rattle.vp_model.specs.Site.{SiteState, Stepped}
use Rattle.vp_laws.proofs.Lists.Members.{Has, has_test, has_from_test}
use Rattle.vp_laws.proofs.Lists.Views.{AtMost, AtMost-along, Precedes, same_site}
use Rattle.vp_laws.proofs.Journal.Order.{Precedes-trans}
use Rattle.vp_laws.proofs.Table.Copies.{AnswerNow, value_pair}
use Rattle.vp_laws.proofs.Table.CopyAt.{Certain, newest_each}
use Rattle.vp_laws.proofs.Table.Unlisted.{Ended, Verdict}
use Rattle.vp_laws.proofs.Table.Listed.{IsUnlisted, ListedNow}
use Rattle.vp_laws.proofs.Table.Covered.{Quits}
use Rattle.vp_laws.proofs.Worlds.Scenes.{Scene, kept_at}
use Rattle.vp_laws.proofs.Invariant.Shares.{InDoubt}
use Rattle.vp_laws.proofs.Invariant.Entered.{AgreedAs}
use Rattle.vp_laws.proofs.Invariant.Held.{has_copy, holds_copy}
use Rattle.vp_laws.proofs.Keeping.Guards.{strictly}
use Rattle.vp_laws.proofs.Journal.ValuesAfter.{content_of, Wrote, value_after, without_entry}
use Rattle.vp_laws.proofs.Copies.Facts.{still_below, copy_dated, copy_holder}
use Rattle.vp_laws.proofs.Worlds.Sites.{NowIs, now_is}
use Rattle.vp_laws.proofs.Keeping.NewEntries.{entering, agreed_was}
use Rattle.vp_laws.proofs.Copies.Origins.{Own, Origin, origin}
use Rattle.vp_laws.proofs.Copies.Values.{old_value, old_in_doubt, old_last}
use Rattle.vp_laws.proofs.Copies.Writes.{applied_date, applied_on, applied_sure, applied_value, applied_from, written_date, written_sure, written_from}
use Rattle.vp_laws.proofs.Copies.NewCopies.{written_value}
use Rattle.vp_laws.proofs.Invariant.Base.{InvBase}
use Rattle.vp_laws.proofs.Copies.Brought.{doubt_on, own_above, brought_sure, brought_value, brought_from, brought_above}
use Rattle.vp_laws.proofs.Copies.Refreshes.{unlisted_from, unlisted_none, certain_from, answer_listed, answer_in, left_below_now, other_answer, all_closed}
use Rattle.vp_laws.proofs.Keeping.Does.{Does}
use Rattle.vp_laws.proofs.Invariant.Copies.{FromView, DoubtOn, InvCopies}
use Rattle.vp_laws.proofs.Invariant.Refresh.{InvRefresh}
use Rattle.vp_laws.proofs.Keeping.Listed.{not_below_itself, unwritten_since}
use Rattle.vp_laws.proofs.Invariant.Known.{Known}
use Rattle.vp_laws.proofs.Invariant.Closed.{Closed, Open}

module _ (catalogue : Catalogue) (w new : Scene) (s : ℕ) (x : SiteState) (given : Input) (o : Stepped) (k : Known catalogue w) (n : Known catalogue new) (d : Does catalogue w new s x given o) (copies : InvCopies catalogue w) (refresh : InvRefresh catalogue w) where
  pub from_lasts : (j rec : ℕ) (date : ViewId) → FromView catalogue w j rec date → FromView catalogue new j rec date
  from_lasts j rec date (FromView.member v agreed m) = FromView.member v (d.st.moved.agreed v agreed.0, agreed.1) m
  from_lasts j rec date (FromView.closed v agreed later m opened) = FromView.closed v (d.st.moved.agreed v agreed) later m (open_now catalogue w new s x given o k n d refresh rec v opened)

  module _ (j rec : ℕ) (c : Stored) (h : value_at rec (kept_at new j).copies ≡ Some c) where
    holder : Has (holders catalogue rec) j
    holder = copy_holder catalogue new n j rec c h

    at : Origin catalogue w new s x given o k n d j rec c
    at = origin catalogue w new s x given o k n d j rec c h

    value_kept : InvBase w → ((u : Doubt) → DoubtOn new j rec c.date u → ⊥) → value_after catalogue new.journal c.date rec ≡ Some (content_of c)
    value_kept base none = go at
      where
        go : Origin catalogue w new s x given o k n d j rec c → value_after catalogue new.journal c.date rec ≡ Some (content_of c)
        go (Origin.plain (Own.old t)) = old_value catalogue w new s x given o k n d copies refresh j rec c t none
        go (Origin.plain (Own.outcome a)) = applied_value catalogue w new s x given o k n d copies refresh j rec c holder a base
        go (Origin.plain (Own.entered b)) = written_value catalogue w new s x given o k n d copies refresh j rec c holder b
        go (Origin.brought b) = brought_value catalogue w new s x given o k n d copies refresh j rec c holder b

    in_doubt_kept : (u : Doubt) → DoubtOn new j rec c.date u → value_after catalogue (without_entry u.txn new.journal) c.date rec ≡ Some (content_of c)
    in_doubt_kept u on = go at
      where
        go : Origin catalogue w new s x given o k n d j rec c → value_after catalogue (without_entry u.txn new.journal) c.date rec ≡ Some (content_of c)
        go (Origin.plain (Own.old t)) = old_in_doubt catalogue w new s x given o k n d copies refresh j rec c u t on
        go (Origin.plain (Own.outcome a)) = absurd (applied_sure catalogue w new s x given o k n d copies refresh j rec c holder a u on.0 on.1)
        go (Origin.plain (Own.entered b)) = absurd (written_sure catalogue w new s x given o k n d copies refresh j rec c holder b u on.0 on.1)
        go (Origin.brought b) = absurd (brought_sure catalogue w new s x given o k n d copies refresh j rec c holder b u on.0 on.1)

    last_kept : (u : Doubt) (front back : List Commit) (e f : Commit) → DoubtOn new j rec c.date u → new.journal ≡ front ++ e ∷ back → e.txn ≡ u.txn → Has back f → Wrote f rec → f.view ≢ e.view
    last_kept u front back e f on is named behind wrote = go at
      where
        go : Origin catalogue w new s x given o k n d j rec c → f.view ≢ e.view
        go (Origin.plain (Own.old t)) = old_last catalogue w new s x given o k n d copies refresh j rec c u front back e f t on is named behind wrote
        go (Origin.plain (Own.outcome a)) = absurd (applied_sure catalogue w new s x given o k n d copies refresh j rec c holder a u on.0 on.1)
        go (Origin.plain (Own.entered b)) = absurd (written_sure catalogue w new s x given o k n d copies refresh j rec c holder b u on.0 on.1)
        go (Origin.brought b) = absurd (brought_sure catalogue w new s x given o k n d copies refresh j rec c holder b u on.0 on.1)

    above_kept : (e : Commit) (v : View) → Has new.journal e → Wrote e rec → Precedes c.date e.view → AgreedAs new e.view v → Has v.members j → InDoubt new j e.txn
    above_kept e v there wrote later agreed member = go at
      where
        go : Origin catalogue w new s x given o k n d j rec c → InDoubt new j e.txn
        go (Origin.plain own) = own_above catalogue w new s x given o k n d copies refresh j rec c e v holder own there wrote later agreed member
        go (Origin.brought b) = brought_above catalogue w new s x given o k n d copies refresh j rec c holder b e v there wrote later agreed member

    from_kept : FromView catalogue new j rec c.date
    from_kept = go at
      where
        go : Origin catalogue w new s x given o k n d j rec c → FromView catalogue new j rec c.date
        go (Origin.plain (Own.old t)) = from_lasts j rec c.date (copies.from j rec c t.was)
        go (Origin.plain (Own.outcome a)) = applied_from catalogue w new s x given o k n d copies refresh j rec c holder a
        go (Origin.plain (Own.entered b)) = written_from catalogue w new s x given o k n d copies refresh j rec c holder b
        go (Origin.brought b) = brought_from catalogue w new s x given o k n d copies refresh j rec c holder b

  module _ (rec : ℕ) (c : Stored) (h : value_at rec o.site.copies ≡ Some c) where
    pub kept_copy : value_at rec (kept_at new s).copies ≡ Some c
    kept_copy = subst (λ (k : DurableState). value_at rec k.copies ≡ Some c) (sym d.st.kept_now) h

    its_holder : Has (holders catalogue rec) s
    its_holder = copy_holder catalogue new n s rec c kept_copy

  -- a record whose refresh has ended in this step: the copy here is of a lower view
  module _ (base : InvBase w) (rec : ℕ) (v : View) (c : Stored) (held : o.site.held ≡ Some v) (h : value_at rec o.site.copies ≡ Some c) (q : Ended catalogue x given o rec) where
    pub sure : Certain (kept_at new s).doubts rec
    sure = certain_from (kept_at new s).doubts o.site rec (ap (λ (k : DurableState). k.doubts) (sym d.st.kept_now)) q.certain

    -- the copy is of a lower view
    above_opening : opening ≡ v.id → ⊥
    above_opening is = go q.since
      where
        go : ListedNow x o rec → ⊥
        go (ListedNow.still r there on same) =
            let low = (k.guards.site s x d.up).lower r there in
            let one : low.0 ≡ v = (let y = low.1 in let z = sym same ∙ held in cc) in
            not_below_itself opening low.0.id low.2 (is ∙ ap (λ (v : View). v.id) (sym one))
        go (ListedNow.joined view now origin) =
            let one : view ≡ v = (let y = now in let z = held in cc) in
            ⊎_elim
            (λ awaits. not_below_itself opening view.id (d.here.awaits view.id awaits).1 (is ∙ ap (λ (v : View). v.id) (sym one)))
            (λ invites. d.here.unfixed (view.id, view.members) (record { id = opening; members = sites_of catalogue }) invites k.views.opening (ap (λ (v : View). v.id) one ∙ sym is))
            origin

    differs : c.date ≢ v.id
    differs same = ⊎_elim
        (λ (first : c.date ≡ opening). above_opening (sym first ∙ same))
        (λ (e : (e : Commit) × Has new.journal e × Wrote e rec × (e.view ≡ c.date)).
        unwritten_since catalogue w new s x given o d.up k.views n.views d.led k.led k.shares n.shares k.entered n.entered k.settled k.guards k.held n.held k.listed d.steps d.shares d.unlisting.base.1.0 d.st
        rec v e.0 e.1 held q.copied q.since e.2 (e.3 ∙ same))
        (copy_dated catalogue new n s rec c (kept_copy rec c h))

    pub low : Precedes c.date v.id
    low = strictly c.date v.id
        (AtMost-along ((n.below.site s o.site d.st.now).copies (rec, c) (value_pair rec o.site.copies c h)) refl ((n.views.site s o.site d.st.now).tidy.held v held).0)
        differs

    pub sure_value : value_after catalogue new.journal c.date rec ≡ Some (content_of c)
    sure_value = value_kept s rec c (kept_copy rec c h) base (λ u on. sure u on.0 on.1)

  -- a record here that has no bar and is not under refresh
  module _ (base : InvBase w) (rec : ℕ) (v : View) (c : Stored) (held : o.site.held ≡ Some v) (opened : is_open o.site rec ≡ true) (unlisted : refreshing_of rec o.site.refresh ≡ None) (h : value_at rec o.site.copies ≡ Some c) where
    its_copy : value_at rec (kept_at new s).copies ≡ Some c
    its_copy = kept_copy rec c h

    here_holder : Has (holders catalogue rec) s
    here_holder = its_holder rec c h

    why : Quits catalogue x given o rec
    why = d.quits rec v held (holds_copy catalogue w s x d.up d.here.kept k.held rec here_holder) (unlisted_from rec o.site.refresh unlisted)

    before : (b : Stored) × (value_at rec x.copies ≡ Some b)
    before = has_copy catalogue w s x d.up d.here.kept k.held rec here_holder

    was_open : value_at rec o.site.bars ≡ value_at rec x.bars → is_open x rec ≡ true
    was_open same = subst (λ (bar : Option (ℕ × ℕ)). not (is_some bar) ≡ true) same opened

    still_open : IsUnlisted x.refresh rec → o.site.held ≡ x.held → value_at rec o.site.bars ≡ value_at rec x.bars → Open catalogue w rec v
    still_open none same bars = copies.open_copy s rec x v before.0 d.up (sym same ∙ held) (was_open bars) (unlisted_none rec x.refresh none) before.1

    -- its refresh has ended in this step
    module _ (q : Ended catalogue x given o rec) where
      answers : (p : ℕ × Stored) → Has q.r.answers p → AnswerNow catalogue x given rec p
      answers p a = (q.answers p a).0

      held_then : (p : ℕ × Stored) → Has q.r.answers p → x.held ≡ Some v
      held_then p a = sym (q.answers p a).1 ∙ held

      ended_closed : Closed catalogue new rec v
      ended_closed = all_closed catalogue w new s x given o k n d refresh rec v q.r o.site (n.views.site s o.site d.st.now).id held q.on q.all answers held_then (λ i below. left_below_now catalogue w new s x given o k n d v i held below) (sure base rec v c held h q)

      -- the copy is the newest, and by its table the view has more than half
      taken : ((b : Stored) × (c ≡ newest b q.r.answers)) × (accessible_by (table_or catalogue rec c.table) (members_in o.site.held) ≡ true)
      taken = go q.verdict
        where
          go : Verdict catalogue o q.r rec → ((b : Stored) × (c ≡ newest b q.r.answers)) × (accessible_by (table_or catalogue rec c.table) (members_in o.site.held) ≡ true)
          go (Verdict.taken own free copy a) =
              let is : c ≡ newest own q.r.answers = (let z = sym h ∙ copy in cc) in
              ((own, is), subst (λ (c : Stored). accessible_by (table_or catalogue rec c.table) (members_in o.site.held) ≡ true) (sym is) a)
          go (Verdict.barred own bar copy a) = absurd (let z : not (is_some (value_at rec o.site.bars)) ≡ false = rw bar refl in let y = sym opened ∙ z in cc)

      as_new : (p : ℕ × Stored) → Has q.r.answers p → AtMost p.1.date c.date
      as_new p a = subst (λ (c : Stored). AtMost p.1.date c.date) (sym taken.0.1) (newest_each taken.0.0 q.r.answers p a)

      -- each holder in the view of an entry between would have told of it
      none_missed : (e : Commit) → Has new.journal e → Wrote e rec → Precedes c.date e.view → Precedes e.view v.id → (u : View) → AgreedAs new e.view u → (a : ℕ) → Has (holders catalogue rec) a → Has u.members a → Has v.members a → ⊥
      none_missed e there wrote later below u agreed a its there_too here_too = ⊎_elim
          (λ (here : a ≡ s).
          let z = above_kept s rec c its_copy e u there wrote later agreed (subst (Has u.members) here there_too) in
          sure base rec v c held h q z.0 z.1 (doubt_on catalogue new n.shares e s rec z.0 there wrote here_holder z.1 z.2))
          (λ (other : a ≢ s). missed other)
          (same_site a s)
        where
          missed : a ≢ s → ⊥
          missed other =
              let r = other_answer catalogue w new s x given o k n d refresh rec v q.r o.site (n.views.site s o.site d.st.now).id held q.on q.all answers held_then a its here_too other in
              let then = held_then r.0 r.1 in
              let f = answer_in catalogue w new s x given o k n d rec r.0 v (answers r.0 r.1) then in
              ⊎_elim
              (λ old. refresh.between r.0.0 s rec v.id r.0.1 e u f.sent old wrote (still_below r.0.1.date c.date e.view (as_new r.0 r.1) later) below (agreed_was catalogue w new s x given o k n d e u old agreed) (subst (Has u.members) (sym r.2) there_too))
              (λ more.
              let g = entering catalogue w new s x given o k n d e more in
              let same : g.view ≡ v = (let y = g.held in let z = then in cc) in
              not_below_itself e.view v.id below (sym g.is ∙ ap (λ (v : View). v.id) same))
              (d.st.entered e there)

      -- the table that the copy's date leaves has more than half in the view, so no entry between changed the record, and it is in force there
      enough : accessible_by (after given_by rec catalogue new c.date) v.members ≡ true
      enough =
          subst (λ (t : Table). accessible_by t v.members ≡ true)
          (content_table catalogue rec new.journal c.date (content_of c) (sure_value base rec v c held h q))
          (subst (λ (held : Option View). accessible_by (table_or catalogue rec c.table) (members_in held) ≡ true) held taken.1)

      abbrev did : Commit → Bool
      did e = has (keys (last_changes e)) rec

      told : (e : Commit) (u : View) (a : ℕ) → Has new.journal e → did e ≡ true → AgreedAs new e.view u → Precedes c.date e.view → Precedes e.view v.id → Has (holders catalogue rec) a → Has u.members a → Has v.members a → ⊥
      told e u a there was agreed later low its there_too here_too = none_missed e there (has_from_test (keys (last_changes e)) rec was) later low u agreed a its there_too here_too

      weighed_did : (e : Commit) → weighs given_by rec e ≡ true → did e ≡ true
      weighed_did e gave = has_test (keys (last_changes e)) rec (weighed_wrote rec e gave)

      used_did : (e : Commit) (u : View) → Has new.journal e → did e ≡ true → AgreedAs new e.view u → accessible_by (below given_by rec catalogue new e.view) u.members ≡ true
      used_did e u there was agreed = changed_now catalogue w new s x given o k n d refresh rec e u there (has_from_test (keys (last_changes e)) rec was) agreed

      inv : Weighed given_by rec catalogue new
      inv = weighed_now catalogue w new s x given o k n d refresh rec

      ended_between : (e : Commit) → Has new.journal e → Wrote e rec → Precedes c.date e.view → Precedes e.view v.id → ⊥
      ended_between e there wrote later low = none_between given_by rec catalogue new inv did weighed_did used_did c.date v enough told e there (has_test (keys (last_changes e)) rec wrote) later low

      ended_open : Open catalogue new rec v
      ended_open = record {
        closed = ended_closed;
        usable = subst (λ (t : Table). accessible_by t v.members ≡ true) (sym (in_force given_by rec catalogue new inv did weighed_did used_did c.date v enough told (low base rec v c held h q))) enough;
      }

    open_here : Open catalogue new rec v
    open_here = go why
      where
        go : Quits catalogue x given o rec → Open catalogue new rec v
        go (Quits.still none same bars) = open_now catalogue w new s x given o k n d refresh rec v (still_open none same bars)
        go (Quits.ended q) = ended_open q

    between_here : (e : Commit) → Has new.journal e → Wrote e rec → Precedes c.date e.view → Precedes e.view v.id → ⊥
    between_here e there wrote later below = go why
      where
        member : Has v.members s
        member = subst (Has v.members) (n.views.site s o.site d.st.now).id ((n.views.site s o.site d.st.now).tidy.held v held).3

        still : IsUnlisted x.refresh rec → o.site.held ≡ x.held → value_at rec o.site.bars ≡ value_at rec x.bars → Origin catalogue w new s x given o k n d s rec c → Has w.journal e → ⊥
        still none same bars (Origin.plain (Own.old t)) old =
            copies.between s rec x v c e d.up (sym same ∙ held) (was_open bars) (unlisted_none rec x.refresh none)
            (subst (λ (k : DurableState). value_at rec k.copies ≡ Some c) (sym d.here.kept) t.was) old wrote later below
        still none same bars (Origin.plain (Own.outcome a)) old =
            ((still_open none same bars).closed s here_holder member).certain a.doubt a.was (applied_on catalogue w new s x given o k n d copies refresh s rec c here_holder a)
            (subst (λ (i : ViewId). Precedes i v.id) (sym (applied_date catalogue w new s x given o k n d copies refresh s rec c here_holder a)) (Precedes-trans c.date e.view v.id later below))
        still none same bars (Origin.plain (Own.entered b)) old =
            let f = entering catalogue w new s x given o k n d b.entry b.entered in
            let is : f.view ≡ v = (let y = f.held in let z = sym same ∙ held in cc) in
            not_below_itself c.date v.id (Precedes-trans c.date e.view v.id later below) (sym (written_date catalogue w new s x given o k n d copies refresh s rec c here_holder b) ∙ sym f.is ∙ ap (λ (v : View). v.id) is)
        still none same bars (Origin.brought b) old =
            let r = answer_listed catalogue w new s x given o k n d rec b.refreshed.taken.0 (b.refreshed.answers b.refreshed.taken.0 b.refreshed.taken.1) in
            none r.0 r.1 r.2

        go : Quits catalogue x given o rec → ⊥
        go (Quits.still none same bars) = ⊎_elim
            (λ old. still none same bars (origin catalogue w new s x given o k n d s rec c its_copy) old)
            (λ more. stops catalogue w new s x given o k n d refresh e v rec more wrote below (still_open none same bars))
            (d.st.entered e there)
        go (Quits.ended q) = ended_between q e there wrote later below

  pub copies_keep : InvBase w → InvCopies catalogue new
  copies_keep base = record {
    value = λ j rec c h none. value_kept j rec c h base none;
    value_in_doubt = λ j rec c u h on. in_doubt_kept j rec c h u on;
    last = λ j rec c u front back e f h on is named behind wrote. last_kept j rec c h u front back e f on is named behind wrote;
    above = λ j rec c e v h there wrote later agreed member. above_kept j rec c h e v there wrote later agreed member;
    from = λ j rec c h. from_kept j rec c h;
    between = λ j rec y v c e up held opened unlisted h there wrote later below. between_at j rec y v c e held opened unlisted h there wrote later below (now_is w new s x o d.st j y up);
    open_copy = λ j rec y v c up held opened unlisted h. open_at j rec y v c held opened unlisted h (now_is w new s x o d.st j y up);
  }
    where
      open_at : (j rec : ℕ) (y : SiteState) (v : View) (c : Stored) → y.held ≡ Some v → is_open y rec ≡ true → refreshing_of rec y.refresh ≡ None → value_at rec y.copies ≡ Some c → NowIs w s o.site j y → Open catalogue new rec v
      open_at j rec y v c held opened unlisted h (NowIs.other m old) = open_now catalogue w new s x given o k n d refresh rec v (copies.open_copy j rec y v c old held opened unlisted h)
      open_at j rec y v c held opened unlisted h (NowIs.here z same) =
          open_here base rec v c (ap (λ (y : SiteState). y.held) same ∙ held) (subst (λ (y : SiteState). is_open y rec ≡ true) (sym same) opened) (subst (λ (y : SiteState). refreshing_of rec y.refresh ≡ None) (sym same) unlisted) (subst (λ (y : SiteState). value_at rec y.copies ≡ Some c) (sym same) h)

      between_at : (j rec : ℕ) (y : SiteState) (v : View) (c : Stored) (e : Commit) → y.held ≡ Some v → is_open y rec ≡ true → refreshing_of rec y.refresh ≡ None → value_at rec y.copies ≡ Some c → Has new.journal e → Wrote e rec → Precedes c.date e.view → Precedes e.view v.id → NowIs w s o.site j y → ⊥
      between_at j rec y v c e held opened unlisted h there wrote later below (NowIs.here z same) =
          between_here base rec v c (ap (λ (y : SiteState). y.held) same ∙ held) (subst (λ (y : SiteState). is_open y rec ≡ true) (sym same) opened) (subst (λ (y : SiteState). refreshing_of rec y.refresh ≡ None) (sym same) unlisted) (subst (λ (y : SiteState). value_at rec y.copies ≡ Some c) (sym same) h) e there wrote later below
      between_at j rec y v c e held opened unlisted h there wrote later below (NowIs.other m old) = ⊎_elim
          (λ was. copies.between j rec y v c e old held opened unlisted h was wrote later below)
          (λ more. stops catalogue w new s x given o k n d refresh e v rec more wrote below (copies.open_copy j rec y v c old held opened unlisted h))
          (d.st.entered e there)
