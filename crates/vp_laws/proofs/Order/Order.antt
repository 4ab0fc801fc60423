-- The entries by view stay a serial run, after which what the live transactions have done can be played.
use Rattle.std.proofs.Common.{inl, ◌≡◌, ◌≢◌, ◌∙◌, ap, sym, subst, ℕ, false, List, [], ◌∷◌, ◌++◌, ⊎_elim}
use Rattle.std.specs.Prelude.{option_map, Option, Some}
use Rattle.vp_laws.proofs.Journal.Changed.{HasChanged}
use Rattle.vp_model.specs.Types.{ViewId, TxnId, View, Commit, Input, Op, Live}
use Rattle.vp_model.specs.Types.message
use Rattle.vp_model.specs.Catalogue.{Catalogue, holders, start_values}
use Rattle.vp_model.specs.OneCopy.{Values, play, serial, order, content}
use Rattle.vp_model.specs.Site.{SiteState, Stepped}
use Rattle.vp_laws.specs.Entries.{record_in}
use Rattle.vp_laws.proofs.Lists.Members.{Has, has_none}
use Rattle.vp_laws.proofs.Lists.Views.{AtMost, Precedes, not_both, three_ways}
use Rattle.vp_laws.proofs.Moves.LocalViews.{letter}
use Rattle.vp_laws.proofs.Table.Led.{IsOf}
use Rattle.vp_laws.proofs.Worlds.Scenes.{Scene, plain_at, scene_of}
use Rattle.vp_laws.proofs.Worlds.Sites.{NowIs, now_is, quiet_is, start_journal, started_idle, live_still, Quiet}
use Rattle.vp_laws.proofs.Invariant.Shares.{HasRequest}
use Rattle.vp_laws.proofs.Invariant.Ops.{op_used}
use Rattle.vp_laws.proofs.Invariant.Answers.{HasRead}
use Rattle.vp_laws.proofs.Invariant.Entered.{AgreedAs}
use Rattle.vp_laws.proofs.Invariant.Used.{HasAnswered}
use Rattle.vp_laws.proofs.Invariant.Reading.{InvReading}
use Rattle.vp_laws.proofs.Journal.ValuesAfter.{read_after, Content, Wrote, value_after}
use Rattle.vp_laws.proofs.Journal.ValuesGrow.{after_more}
use Rattle.vp_laws.proofs.Journal.Playing.{WritesNone, plays_behind, entry_plays, content_own, content_below}
use Rattle.vp_laws.proofs.Keeping.NewEntries.{JournalNow, journal_now, Entering, entering}
use Rattle.vp_laws.proofs.Copies.Opening.{stops}
use Rattle.vp_laws.proofs.Order.Conflicts.{UsedAt, apart_used, written_at, read_from, no_conflict}
use Rattle.vp_laws.proofs.Journal.Contents.{plays_above}
use Rattle.vp_laws.proofs.Order.Steps.{plays_then, answered_now}
use Rattle.vp_laws.proofs.Keeping.Does.{Does}
use Rattle.vp_laws.proofs.Invariant.Copies.{InvCopies}
use Rattle.vp_laws.proofs.Invariant.Order.{Plays, InvOrder}
use Rattle.vp_laws.proofs.Invariant.Refresh.{InvRefresh}
use Rattle.vp_laws.proofs.Keeping.Used.{Was}
use Rattle.vp_laws.proofs.Invariant.Known.{Known}
use Rattle.vp_model.specs.World.{start_world}

module _ (catalogue : Catalogue) (w new : Scene) (s : ℕ) (x : SiteState) (given : Input) (o : Stepped) (k : Known catalogue w) (n : Known catalogue new) (d : Does catalogue w new s x given o) (copies : InvCopies catalogue w) (refresh : InvRefresh catalogue w) (reading : InvReading catalogue w) (inv : InvOrder catalogue w) where
  abbrev first : Values
  first = start_values catalogue

  -- an entry is added
  module _ (e : Commit) (h : Has o.effects.commits e) where
    f : Entering catalogue w new s x given o k n d e
    f = entering catalogue w new s x given o k n d e h

    its_plays : Plays (content first w.journal e.view) e.ops
    its_plays = subst (λ (ops : List Op). Plays (content first w.journal e.view) ops) (ap (λ (e : Commit). e.ops) f.done) (subst (λ (i : ViewId). Plays (content first w.journal i) f.was.ops) f.viewed (inv.live s x f.was d.up f.live))

    above_none : (g : Commit) → Has w.journal g → Precedes e.view g.view → WritesNone e g.ops
    above_none g there above operation did wrote =
        let v = k.led.entry g there in
        stops catalogue w new s x given o k n d refresh e v.0 (record_in operation) h wrote (subst (Precedes e.view) (sym v.2) above)
        (refresh.entry g v.0 (record_in operation) there (v.1, v.2) (inl (op_used g.ops operation did)))

    has_written : (rec : ℕ) → Wrote e rec → HasChanged f.was rec
    has_written rec wrote = subst (λ (e : Commit). Wrote e rec) (sym f.done) wrote

    its_view : AgreedAs w f.was.view f.view
    its_view = (d.here.held f.view f.held, f.is ∙ sym f.viewed)

    module _ (j : ℕ) (y : SiteState) (t : Live) (up : plain_at w j ≡ Some y) (live : Has y.live t) (other : t.txn ≢ e.txn) where
      of : IsOf y t
      of = (k.led.site j y up).live t live

      agreed : AgreedAs w t.view of.0
      agreed = ((k.views.site j y up).held of.0 of.1, of.2)

      same_view_none : e.view ≡ t.view → WritesNone e t.ops
      same_view_none same operation did wrote = other (sym (no_conflict catalogue w k copies refresh reading s j x y f.was t d.up f.live up live f.view its_view (f.viewed ∙ same) (record_in operation) (op_used t.ops operation did) (has_written (record_in operation) wrote)) ∙ f.named)

      higher_none : Precedes e.view t.view → WritesNone e t.ops
      higher_none below operation did wrote =
          stops catalogue w new s x given o k n d refresh e of.0 (record_in operation) h wrote (subst (Precedes e.view) (sym of.2) below)
          (refresh.uses j y t (record_in operation) of.0 up live (inl (op_used t.ops operation did)) agreed)

      plays_grow : Plays (content first (w.journal ++ e ∷ []) t.view) t.ops
      plays_grow = go (inv.live j y t up live)
        where
          lower : Precedes t.view e.view → Plays (content first w.journal t.view) t.ops → Plays (content first (w.journal ++ e ∷ []) t.view) t.ops
          lower below p = (p.0, p.1, content_below first w.journal e t.view below ∙ p.2, p.3)

          equal : e.view ≡ t.view → Plays (content first w.journal t.view) t.ops → Plays (content first (w.journal ++ e ∷ []) t.view) t.ops
          equal same p =
              let there : content first w.journal e.view ≡ Some p.0 = ap (content first w.journal) same ∙ p.2 in
              let one : its_plays.0 ≡ p.0 = (let z = its_plays.2 in cc) in
              let r = plays_behind e t.ops its_plays.0 its_plays.1 p.1 its_plays.3 (subst (λ (m : Values). play m t.ops ≡ Some p.1) (sym one) p.3) (same_view_none same) in
              (its_plays.1, r.0, ap (content first (w.journal ++ e ∷ [])) (sym same) ∙ content_own first w.journal e its_plays.0 its_plays.1 its_plays.2 its_plays.3, r.1)

          higher : Precedes e.view t.view → Plays (content first w.journal t.view) t.ops → Plays (content first (w.journal ++ e ∷ []) t.view) t.ops
          higher below p =
              let r = plays_above first w.journal e t.view its_plays.0 its_plays.1 p.0 p.1 t.ops below its_plays.2 its_plays.3 p.2 p.3 above_none (higher_none below) in
              (r.0, r.1, r.2, r.3)

          go : Plays (content first w.journal t.view) t.ops → Plays (content first (w.journal ++ e ∷ []) t.view) t.ops
          go p = ⊎_elim (λ above. higher above p) (λ q. ⊎_elim (λ same. equal same p) (λ below. lower below p) q) (three_ways e.view t.view)

      -- a value on its way stays that of the one copy
      value_grow : (q rec : ℕ) (value : Option (List ℕ)) → HasRead w q t.txn rec → read_after catalogue w.journal t.view rec ≡ Some value → read_after catalogue (w.journal ++ e ∷ []) t.view rec ≡ Some value
      value_grow q rec value r is = ap (option_map (λ (c : Content). c.value)) (after_more catalogue w.journal e t.view rec none) ∙ is
        where
          a : Has (holders catalogue rec) q × Has of.0.members q
          a = read_from catalogue w k copies refresh reading j y t up live of.0 agreed rec q r

          equal : Wrote e rec → e.view ≡ t.view → ⊥
          equal wrote same =
              let one : f.view ≡ of.0 = k.views.unique f.view of.0 its_view.0 agreed.0 (f.is ∙ same ∙ sym of.2) in
              other (sym (apart_used catalogue w k copies refresh reading s j x y f.was t d.up f.live up live (f.viewed ∙ same) q rec false
              (written_at catalogue w k copies refresh reading s x f.was d.up f.live f.view its_view rec q (has_written rec wrote) a.0 (subst (λ (v : View). Has v.members q) (sym one) a.1))
              (UsedAt.answered (HasAnswered.read r))) ∙ f.named)

          none : Wrote e rec → AtMost e.view t.view → ⊥
          none wrote le = ⊎_elim
              (λ below. stops catalogue w new s x given o k n d refresh e of.0 rec h wrote (subst (Precedes e.view) (sym of.2) below) (refresh.used j q rec false y t of.0 up live (HasAnswered.read r) agreed))
              (λ q. ⊎_elim (λ same. equal wrote same) (λ above. not_both t.view e.view above le) q)
              (three_ways e.view t.view)

  -- a live transaction was live as it is, and has no entry
  record Stood (e : Commit) (j : ℕ) (t : Live) : Type 0 where
    site : SiteState
    up : plain_at w j ≡ Some site
    live : Has site.live t
    other : t.txn ≢ e.txn

  stood : (e : Commit) → Has o.effects.commits e → (j : ℕ) (y : SiteState) (t : Live) → plain_at new j ≡ Some y → Has y.live t → Stood e j t
  stood e h j y t up live = go (now_is w new s x o d.st j y up)
    where
      other : t.txn ≢ e.txn
      other same = n.ends.entry e (d.st.enters e h) y (rw (ap (λ (t : TxnId). t.site) (sym same) ∙ ((n.led.site j y up).names t live).0 ∙ (n.views.site j y up).id) up) t live same

      go : NowIs w s o.site j y → Stood e j t
      go (NowIs.other m old) = record { site = y; up = old; live = live; other = other }
      go (NowIs.here z same) = ⊎_elim
          (λ none. absurd (has_none e (rw none at h)))
          (λ (all : (t : Live) → Has o.site.live t → Has x.live t). record { site = x; up = rw z d.up; live = all t (subst (λ (y : SiteState). Has y.live t) (sym same) live); other = other })
          d.alone

  serial_new : (after : Values) × (serial first (order new.journal) ≡ Some after)
  serial_new = go (journal_now catalogue w new s x given o k n d)
    where
      go : JournalNow catalogue w new s x given o k n d → (after : Values) × (serial first (order new.journal) ≡ Some after)
      go (JournalNow.stays z) = (inv.serial.0, ap (λ (es : List Commit). serial first (order es)) z ∙ inv.serial.1)
      go (JournalNow.longer e h z) =
          let p = its_plays e h in
          let r = entry_plays first w.journal e p.0 p.1 inv.serial.0 p.2 p.3 inv.serial.1 (above_none e h) in
          (r.0, ap (λ (es : List Commit). serial first (order es)) z ∙ r.1)

  live_new : (j : ℕ) (y : SiteState) (t : Live) → plain_at new j ≡ Some y → Has y.live t → Plays (content first new.journal t.view) t.ops
  live_new j y t up live = go (journal_now catalogue w new s x given o k n d)
    where
      on : (es : List Commit) → new.journal ≡ es → Plays (content first es t.view) t.ops → Plays (content first new.journal t.view) t.ops
      on es z p = subst (λ (es : List Commit). Plays (content first es t.view) t.ops) (sym z) p

      before : NowIs w s o.site j y → Plays (content first w.journal t.view) t.ops
      before (NowIs.other m old) = inv.live j y t old live
      before (NowIs.here z same) = plays_then catalogue w new s x given o k n d copies refresh reading inv t (d.steps.live t (subst (λ (y : SiteState). Has y.live t) (sym same) live))

      go : JournalNow catalogue w new s x given o k n d → Plays (content first new.journal t.view) t.ops
      go (JournalNow.stays z) = on w.journal z (before (now_is w new s x o d.st j y up))
      go (JournalNow.longer e h z) = let q = stood e h j y t up live in on (w.journal ++ e ∷ []) z (plays_grow e h j q.site t q.up q.live q.other)

  answered_new : (j q to number rec : ℕ) (view : ViewId) (value : Option (List ℕ)) (y : SiteState) (t : Live) → plain_at new j ≡ Some y → Has y.live t → Has new.sent (letter q to (message.ReadAnswer t.txn number value)) → Has new.sent (letter to q (message.ReadRequest t.txn view number rec)) → read_after catalogue new.journal t.view rec ≡ Some value
  answered_new j q to number rec view value y t up live sent request = ⊎_elim old more (d.st.sent _ sent)
    where
      one : (other : ℕ) (i : ViewId) → Has w.sent (letter to q (message.ReadRequest t.txn i number other)) → other ≡ rec
      one other i h = n.used.one j y t to q to q number other rec i view false up live (HasRequest.to_read (d.st.moved.sent _ h)) (HasRequest.to_read request)

      was_live : (other : ℕ) (i : ViewId) → Has w.sent (letter to q (message.ReadRequest t.txn i number other)) → Was w j t
      was_live other i h = d.was j y t (k.names.sent (letter to q (message.ReadRequest t.txn i number other)) h).0.0 live (now_is w new s x o d.st j y up)

      on : (es : List Commit) → new.journal ≡ es → read_after catalogue es t.view rec ≡ Some value → read_after catalogue new.journal t.view rec ≡ Some value
      on es z p = subst (λ (es : List Commit). option_map (λ (c : Content). c.value) (value_after catalogue es t.view rec) ≡ Some value) (sym z) p

      along : (u : Live) (other : ℕ) → u.view ≡ t.view → other ≡ rec → read_after catalogue w.journal u.view other ≡ Some value → read_after catalogue w.journal t.view rec ≡ Some value
      along u other viewed same p = subst (λ (r : ℕ). read_after catalogue w.journal t.view r ≡ Some value) same (subst (λ (i : ViewId). read_after catalogue w.journal i other ≡ Some value) viewed p)

      more : Has o.effects.messages (letter q to (message.ReadAnswer t.txn number value)) → read_after catalogue new.journal t.view rec ≡ Some value
      more h =
          let a = answered_now catalogue w new s x given o k n d copies refresh reading inv q to number value t h in
          let u = was_live a.rec a.view a.request in
          let b = answered_now catalogue w new s x given o k n d copies refresh reading inv q to number value u.u (subst (λ (txn : TxnId). Has o.effects.messages (letter q to (message.ReadAnswer txn number value))) (sym u.named) h) in
          on w.journal b.quiet (along u.u b.rec u.viewed (one b.rec b.view (subst (λ (txn : TxnId). Has w.sent (letter to q (message.ReadRequest txn b.view number b.rec))) u.named b.request)) (b.valued j u.site u.up_then u.here))

      old : Has w.sent (letter q to (message.ReadAnswer t.txn number value)) → read_after catalogue new.journal t.view rec ≡ Some value
      old h =
          let a = k.shares.says _ h in
          let u = was_live a.1 a.0 a.2 in
          let same = one a.1 a.0 a.2 in
          let was = along u.u a.1 u.viewed same (inv.answered j q to number a.1 a.0 value u.site u.u u.up_then u.here (subst (λ (txn : TxnId). Has w.sent (letter q to (message.ReadAnswer txn number value))) (sym u.named) h) (subst (λ (txn : TxnId). Has w.sent (letter to q (message.ReadRequest txn a.0 number a.1))) (sym u.named) a.2)) in
          go was (to, number, a.0, value, h, subst (λ (r : ℕ). Has w.sent (letter to q (message.ReadRequest t.txn a.0 number r))) same a.2) (journal_now catalogue w new s x given o k n d)
        where
          go : read_after catalogue w.journal t.view rec ≡ Some value → HasRead w q t.txn rec → JournalNow catalogue w new s x given o k n d → read_after catalogue new.journal t.view rec ≡ Some value
          go was r (JournalNow.stays z) = on w.journal z was
          go was r (JournalNow.longer e entered z) = let p = stood e entered j y t up live in on (w.journal ++ e ∷ []) z (value_grow e entered j p.site t p.up p.live p.other q rec value r was)

  pub order_keep : InvOrder catalogue new
  order_keep = record { serial = serial_new; live = live_new; answered = answered_new }

pub order_starts : (catalogue : Catalogue) → InvOrder catalogue (scene_of (start_world catalogue))
order_starts catalogue = record {
  serial = (start_values catalogue, ap (λ (es : List Commit). serial (start_values catalogue) (order es)) (start_journal catalogue));
  live = λ s x t up h. absurd (started_idle catalogue s x t up h);
  answered = λ s q to number rec view value x t up h sent request. absurd (started_idle catalogue s x t up h);
}

pub order_quiet : (catalogue : Catalogue) (w new : Scene) (s : ℕ) → Quiet catalogue w new s → InvOrder catalogue w → InvOrder catalogue new
order_quiet catalogue w new s q inv = record {
  serial = (inv.serial.0, ap (λ (es : List Commit). serial (start_values catalogue) (order es)) q.journal ∙ inv.serial.1);
  live = λ j y t up h. subst (λ (es : List Commit). Plays (content (start_values catalogue) es t.view) t.ops) (sym q.journal) (inv.live j y t (live_still catalogue w s j y t h (quiet_is catalogue w new s q j y up)) h);
  answered = λ j a to number rec view value y t up h sent request. subst (λ (es : List Commit). option_map (λ (c : Content). c.value) (value_after catalogue es t.view rec) ≡ Some value) (sym q.journal) (inv.answered j a to number rec view value y t (live_still catalogue w s j y t h (quiet_is catalogue w new s q j y up)) h (rw q.sent at sent) (rw q.sent at request));
}
