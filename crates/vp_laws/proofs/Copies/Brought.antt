-- An entry that wrote a record in a view above the date of a copy, and of which the site is a member, is in doubt there after a step; and
-- what a refresh brings is the newest copy of the members.
use Rattle.std.proofs.Common.{◌≡◌, ◌≢◌, ◌∙◌, ap, sym, subst, ℕ, Bool, true, List, ⊎_elim}
use Rattle.std.specs.Prelude.{Option, Some}
use Rattle.vp_model.specs.Types.{Change, TxnId, View, Commit, Input, Stored, Doubt}
use Rattle.vp_model.specs.Types.message
use Rattle.vp_model.specs.Words.{keys, has}
use Rattle.vp_model.specs.Transactions.{last_changes}
use Rattle.vp_laws.proofs.Journal.TablesAfter.{Table, given_by, accessible_by, weighs}
use Rattle.vp_laws.proofs.Copies.Force.{below as below_table, after, none_between, in_force}
use Rattle.vp_laws.proofs.Copies.Weights.{weighed_wrote, known_weighed, changed_usable}
use Rattle.vp_laws.proofs.Copies.Opening.{table_stays}
use Rattle.vp_laws.proofs.Journal.TableContents.{content_table}
use Rattle.vp_model.specs.Catalogue.{Catalogue, holders, table_or}
use Rattle.vp_model.specs.Durable.{DurableState}
use Rattle.vp_model.specs.Refresh.{members_in}
use Rattle.vp_model.specs.Site.{SiteState, Stepped}
use Rattle.vp_laws.proofs.Lists.Members.{Has, has_test, has_from_test}
use Rattle.vp_laws.proofs.Lists.Views.{AtMost, Precedes, AtMost-along, not_both, same_site, three_ways}
use Rattle.vp_laws.proofs.Moves.LocalViews.{letter}
use Rattle.vp_laws.proofs.Table.Copies.{AnswerNow}
use Rattle.vp_laws.proofs.Table.CopyAt.{Certain}
use Rattle.vp_laws.proofs.Worlds.Scenes.{Scene, kept_at, promise_at}
use Rattle.vp_laws.proofs.Invariant.Shares.{InDoubt, InvShares}
use Rattle.vp_laws.proofs.Invariant.Entered.{AgreedAs}
use Rattle.vp_laws.proofs.Journal.ValuesAfter.{content_of, Wrote, value_after}
use Rattle.vp_laws.proofs.Copies.Facts.{still_below, copy_holder}
use Rattle.vp_laws.proofs.Keeping.NewEntries.{doubted, agreed_was}
use Rattle.vp_laws.proofs.Copies.Origins.{Untouched, Own, Brought, gone_aborted}
use Rattle.vp_laws.proofs.Copies.Values.{value_now}
use Rattle.vp_laws.proofs.Copies.Writes.{applied_above, written_above}
use Rattle.vp_laws.proofs.Copies.Refreshes.{Answer, answer_listed, answer_view, answer_in, answer_unwritten, left_below, other_answer, all_closed}
use Rattle.vp_laws.proofs.Keeping.Does.{Does}
use Rattle.vp_laws.proofs.Invariant.Copies.{FromView, InvCopies}
use Rattle.vp_laws.proofs.Invariant.Refresh.{InvRefresh}
use Rattle.vp_laws.proofs.Keeping.Listed.{wrote_here}
use Rattle.vp_laws.proofs.Invariant.Known.{Known}
use Rattle.vp_laws.proofs.Invariant.Closed.{InForce}

-- a doubt of an entry's transaction writes what the entry wrote there
pub doubt_on : (catalogue : Catalogue) (w : Scene) → InvShares catalogue w → (e : Commit) (j rec : ℕ) (u : Doubt) → Has w.journal e → Wrote e rec → Has (holders catalogue rec) j → Has (kept_at w j).doubts u → u.txn ≡ e.txn → Has (keys u.writes) rec
doubt_on catalogue w shares e j rec u h wrote holder there named =
    let q = (shares.doubts j u there).0 in
    let says = shares.entry e h q.0 j u.view q.1 q.2 u.writes (subst (λ (t : TxnId). Has w.sent (letter q.0 j (message.Prepare t u.view q.1 q.2 u.writes))) named q.3) in
    subst (λ (ws : List (ℕ × Change)). Has (keys ws) rec) says.1 (wrote_here catalogue e j rec holder wrote)

module _ (catalogue : Catalogue) (w new : Scene) (s : ℕ) (x : SiteState) (given : Input) (o : Stepped) (k : Known catalogue w) (n : Known catalogue new) (d : Does catalogue w new s x given o) (copies : InvCopies catalogue w) (refresh : InvRefresh catalogue w) where
  -- an untouched copy
  old_above : (j rec : ℕ) (c : Stored) (e : Commit) (v : View) → Untouched catalogue w new s x given o k n d j rec c → Has new.journal e → Wrote e rec → Precedes c.date e.view → AgreedAs new e.view v → Has v.members j → InDoubt new j e.txn
  old_above j rec c e v t h wrote later agreed member = ⊎_elim old more (d.st.entered e h)
    where
      holder : Has (holders catalogue rec) j
      holder = copy_holder catalogue w k j rec c t.was

      old : Has w.journal e → InDoubt new j e.txn
      old there =
          let u = copies.above j rec c e v t.was there wrote later (agreed_was catalogue w new s x given o k n d e v there agreed) member in
          ⊎_elim
          (λ still. (u.0, still, u.2))
          (λ no_entry. absurd (no_entry e there (sym u.2)))
          (gone_aborted catalogue w new s x given o k n d j rec c u.0 t u.1 (doubt_on catalogue w k.shares e j rec u.0 there wrote holder u.1 u.2))

      more : Has o.effects.commits e → InDoubt new j e.txn
      more entered = ⊎_elim
          (λ (here : j ≡ s). absurd (t.entered here e entered wrote))
          (λ (other : j ≢ s). let q = doubted catalogue w new s x given o k n d e j rec v entered agreed member holder wrote other in (q.doubt, q.now, q.named))
          (same_site j s)

  pub own_above : (j rec : ℕ) (c : Stored) (e : Commit) (v : View) → Has (holders catalogue rec) j → Own catalogue w new s x given o k n d j rec c → Has new.journal e → Wrote e rec → Precedes c.date e.view → AgreedAs new e.view v → Has v.members j → InDoubt new j e.txn
  own_above j rec c e v holder (Own.old t) h wrote later agreed member = old_above j rec c e v t h wrote later agreed member
  own_above j rec c e v holder (Own.outcome a) h wrote later agreed member = absurd (applied_above catalogue w new s x given o k n d copies refresh j rec c holder a e v h wrote later agreed member)
  own_above j rec c e v holder (Own.entered b) h wrote later agreed member = absurd (written_above catalogue w new s x given o k n d copies refresh j rec c holder b e v h wrote later agreed member)

  -- what a refresh brought
  module _ (j rec : ℕ) (c : Stored) (holder : Has (holders catalogue rec) j) (b : Brought catalogue w new s x given o k n d j rec c) where
    pub taken : AnswerNow catalogue x given rec b.refreshed.taken.0
    taken = b.refreshed.answers b.refreshed.taken.0 b.refreshed.taken.1

    abbrev pub u : View
    u = (answer_view catalogue w new s x given o k n d rec b.refreshed.taken.0 taken).0

    held : x.held ≡ Some u
    held = (answer_view catalogue w new s x given o k n d rec b.refreshed.taken.0 taken).1

    answer : Answer catalogue w new s x given o k n d rec u b.refreshed.taken.0
    answer = answer_in catalogue w new s x given o k n d rec b.refreshed.taken.0 u taken held

    low : Precedes c.date u.id
    low = subst (λ (c : Stored). Precedes c.date u.id) b.refreshed.taken.2 answer.low

    member : Has u.members s
    member = subst (Has u.members) d.here.id (d.here.tidy.held u held).3

    pub brought_sure : Certain (kept_at new j).doubts rec
    brought_sure v h on = b.refreshed.certain v (subst (λ (k : DurableState). Has k.doubts v) (ap (kept_at new) b.here ∙ d.st.kept_now) h) on

    value_was : value_after catalogue w.journal c.date rec ≡ Some (content_of c)
    value_was = subst (λ (c : Stored). value_after catalogue w.journal c.date rec ≡ Some (content_of c)) b.refreshed.taken.2 (refresh.value b.refreshed.taken.0.0 s rec u.id b.refreshed.taken.0.1 answer.sent answer.low)

    unwritten : (e : Commit) → Has o.effects.commits e → Wrote e rec → ⊥
    unwritten = answer_unwritten catalogue w new s x given o k n d rec b.refreshed.taken.0 taken

    pub brought_value : value_after catalogue new.journal c.date rec ≡ Some (content_of c)
    brought_value = value_now catalogue w new s x given o k n d copies refresh c.date rec (λ e h wrote le. unwritten e h wrote) ∙ value_was

    -- each holder in the view of an old entry between would have told of it
    none_missed : (e : Commit) → Has w.journal e → Wrote e rec → Precedes c.date e.view → Precedes e.view u.id → (v : View) → AgreedAs w e.view v → (q : ℕ) → Has (holders catalogue rec) q → Has v.members q → Has u.members q → ⊥
    none_missed e there wrote later p v agreed q its there_too here_too = ⊎_elim here other (same_site q s)
      where
        entered : Has new.journal e
        entered = d.st.moved.journal e there

        here : q ≡ s → ⊥
        here same =
            let z = own_above j rec b.own e v holder b.from entered wrote (still_below b.own.date c.date e.view b.newer later) (d.st.moved.agreed v agreed.0, agreed.1) (subst (Has v.members) (same ∙ sym b.here) there_too) in
            brought_sure z.0 z.1 (doubt_on catalogue new n.shares e j rec z.0 entered wrote holder z.1 z.2)

        other : q ≢ s → ⊥
        other away =
            let r = other_answer catalogue w new s x given o k n d refresh rec u b.refreshed.r x d.here.id held b.refreshed.on b.refreshed.all b.refreshed.answers (λ p h. held) q its here_too away in
            let a = answer_in catalogue w new s x given o k n d rec r.0 u (b.refreshed.answers r.0 r.1) held in
            refresh.between r.0.0 s rec u.id r.0.1 e v a.sent there wrote (still_below r.0.1.date c.date e.view (b.refreshed.newest r.0 r.1) later) p agreed (subst (Has v.members) (sym r.2) there_too)

    -- the table that the brought copy's date leaves has more than half in the view, so no entry between changed the record
    enough : accessible_by (after given_by rec catalogue w c.date) u.members ≡ true
    enough =
        subst (λ (t : Table). accessible_by t u.members ≡ true) (content_table catalogue rec w.journal c.date (content_of c) value_was)
        (subst (λ (held : Option View). accessible_by (table_or catalogue rec c.table) (members_in held) ≡ true) held b.refreshed.enough)

    abbrev did : Commit → Bool
    did e = has (keys (last_changes e)) rec

    weighed_did : (e : Commit) → weighs given_by rec e ≡ true → did e ≡ true
    weighed_did e q = has_test (keys (last_changes e)) rec (weighed_wrote rec e q)

    used_did : (e : Commit) (v : View) → Has w.journal e → did e ≡ true → AgreedAs w e.view v → accessible_by (below_table given_by rec catalogue w e.view) v.members ≡ true
    used_did e v there was agreed = changed_usable catalogue w k.led refresh.entry refresh.weighed rec e v there (has_from_test (keys (last_changes e)) rec was) agreed

    told : (e : Commit) (v : View) (q : ℕ) → Has w.journal e → did e ≡ true → AgreedAs w e.view v → Precedes c.date e.view → Precedes e.view u.id → Has (holders catalogue rec) q → Has v.members q → Has u.members q → ⊥
    told e v q there was agreed later p its there_too here_too = none_missed e there (has_from_test (keys (last_changes e)) rec was) later p v agreed q its there_too here_too

    brought_between : (e : Commit) → Has w.journal e → Wrote e rec → Precedes c.date e.view → Precedes e.view u.id → ⊥
    brought_between e there wrote later p = none_between given_by rec catalogue w (known_weighed catalogue w k refresh rec) did weighed_did used_did c.date u enough told e there (has_test (keys (last_changes e)) rec wrote) later p

    -- and that table is in force in the view
    usable : InForce catalogue new rec u
    usable = subst (λ (t : Table). accessible_by t u.members ≡ true)
        (sym (table_stays catalogue w new s x given o k n d refresh rec u.id (λ e h below wrote. unwritten e h wrote)
        ∙ in_force given_by rec catalogue w (known_weighed catalogue w k refresh rec) did weighed_did used_did c.date u enough told low)) enough

    pub brought_from : FromView catalogue new j rec c.date
    brought_from = FromView.closed u (d.st.moved.agreed u (d.here.held u held)) low (subst (Has u.members) (sym b.here) member)
        (record {
          usable = usable;
          closed = all_closed catalogue w new s x given o k n d refresh rec u b.refreshed.r x d.here.id held b.refreshed.on b.refreshed.all b.refreshed.answers (λ p h. held)
              (λ i below. left_below catalogue w new s x given o k n d u i held below)
              (subst (λ (j : ℕ). Certain (kept_at new j).doubts rec) b.here brought_sure);
        })

    pub brought_above : (e : Commit) (v : View) → Has new.journal e → Wrote e rec → Precedes c.date e.view → AgreedAs new e.view v → Has v.members j → InDoubt new j e.txn
    brought_above e v h wrote later agreed in_view = ⊎_elim (λ there. absurd (old there)) (λ entered. absurd (unwritten e entered wrote)) (d.st.entered e h)
      where
        old : Has w.journal e → ⊥
        old there = ⊎_elim (λ below. brought_between e there wrote later below) (λ q. ⊎_elim (λ same. equal same) (λ above. higher above) q) (three_ways e.view u.id)
          where
            v_was : AgreedAs w e.view v
            v_was = agreed_was catalogue w new s x given o k n d e v there agreed

            equal : e.view ≡ u.id → ⊥
            equal same = let r = answer_listed catalogue w new s x given o k n d rec b.refreshed.taken.0 taken in k.listed.unwritten s x u r.0 e d.up held r.1 there (subst (Wrote e) (sym r.2) wrote) same

            higher : Precedes u.id e.view → ⊥
            higher above =
                let le : AtMost v.id (promise_at w s) = (k.views.view v v_was.0).members s (subst (Has v.members) b.here in_view) in
                let promise : promise_at w s ≡ u.id = ap (λ (d : DurableState). d.promise) (sym d.here.kept) ∙ sym (d.here.tidy.held u held).0 in
                not_both u.id e.view above (AtMost-along le (sym v_was.1) (sym promise))
