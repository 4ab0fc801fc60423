-- What a live transaction has done, the operation of the step included, can be played after the entries before it; and an answer
-- that is given has the value after them.
use Rattle.std.proofs.Common.{◌≡◌, ◌≢◌, ◌∙◌, ap, sym, subst, ℕ, Bool, true, false, List, [], ◌∷◌, ◌++◌, refl, inr}
use Rattle.std.specs.Prelude.{option_map, Option, Some, None, is_some, option_and_then, slice_get, slice_set, ◌||◌}
use Rattle.vp_model.specs.Types.{ViewId, TxnId, View, Sent, Commit, Input, Op, Stored, Pending, Live, Doubt}
use Rattle.vp_model.specs.Types.message
use Rattle.vp_model.specs.Types.op
use Rattle.vp_model.specs.Types.owner
use Rattle.vp_model.specs.Words.{keys, value_at}
use Rattle.vp_model.specs.Catalogue.{Catalogue, holders, start_values}
use Rattle.vp_model.specs.Durable.{DurableState}
use Rattle.vp_model.specs.Transactions.{with_operation, Deed, last_writes}
use Rattle.vp_model.specs.Refresh.{is_open}
use Rattle.vp_model.specs.OneCopy.{Values, play, content}
use Rattle.vp_model.specs.Site.{SiteState, Stepped, Lent}
use Rattle.vp_model.proofs.PlayedInParts.{play-append}
use Rattle.vp_laws.proofs.Journal.Play.{get_all, get_all-other, play_sets, last_ascending, read_plays}
use Rattle.vp_laws.proofs.Lists.Members.{Has}
use Rattle.vp_laws.proofs.Lists.Changes.{mapped_has}
use Rattle.vp_laws.proofs.Lists.Views.{AtMost, AtMost-along}
use Rattle.vp_laws.proofs.Lists.LockTables.{IsFree, free_from_none}
use Rattle.vp_laws.proofs.Moves.LocalViews.{letter}
use Rattle.vp_laws.proofs.Moves.Table.{Requests, Completes}
use Rattle.vp_laws.proofs.Table.Led.{IsOf}
use Rattle.vp_laws.proofs.Table.Steps.{LiveNow}
use Rattle.vp_laws.proofs.Table.Shares.{is_reply, ReplyTo, Granted}
use Rattle.vp_laws.proofs.Table.Copies.{value_pair}
use Rattle.vp_laws.proofs.Worlds.Scenes.{Scene, plain_at, kept_at}
use Rattle.vp_laws.proofs.Invariant.Held.{copy_held}
use Rattle.vp_laws.proofs.Invariant.Reading.{InvReading}
use Rattle.vp_laws.proofs.Copies.Weights.{force_holder}
use Rattle.vp_laws.proofs.Journal.Changed.{written_changed}
use Rattle.vp_laws.proofs.Journal.ValuesAfter.{Content, read_after, content_of, value_after}
use Rattle.vp_laws.proofs.Journal.ValuesGrow.{after_some}
use Rattle.vp_laws.proofs.Journal.Playing.{content_value}
use Rattle.vp_laws.proofs.Copies.Refreshes.{unlisted_none}
use Rattle.vp_laws.proofs.Copies.RefreshKept.{free_unlisted, read_request}
use Rattle.vp_laws.proofs.Keeping.NewEntries.{journal_same}
use Rattle.vp_laws.proofs.Copies.Usable.{usable_value}
use Rattle.vp_laws.proofs.Journal.Contents.{content_there}
use Rattle.vp_laws.proofs.Moves.Calls.{read_not_write_asked}
use Rattle.vp_laws.proofs.Keeping.Does.{Does}
use Rattle.vp_laws.proofs.Invariant.Copies.{InvCopies}
use Rattle.vp_laws.proofs.Invariant.Order.{Plays, InvOrder}
use Rattle.vp_laws.proofs.Invariant.Refresh.{InvRefresh}
use Rattle.vp_laws.proofs.Keeping.Guards.{txn_same}
use Rattle.vp_laws.proofs.Keeping.Settled.{holding}
use Rattle.vp_laws.proofs.Invariant.Known.{Known}

-- the value of a record after operations: the last one that they wrote, or the one before

written_then : (before after : Values) (ops : List Op) (rec : ℕ) (value : Option (List ℕ)) → play before ops ≡ Some after → value_at rec (last_writes ops) ≡ Some value → is_some (slice_get before rec) ≡ true → slice_get after rec ≡ Some value
written_then before after ops rec value h wrote there = ap (λ (m : Values). slice_get m rec) (play_sets ops before after h) ∙ get_all rec value (last_writes ops) before (last_ascending ops) wrote there

unwritten_then : (before after : Values) (ops : List Op) (rec : ℕ) (value : Option (List ℕ)) → play before ops ≡ Some after → value_at rec (last_writes ops) ≡ None → slice_get before rec ≡ Some value → slice_get after rec ≡ Some value
unwritten_then before after ops rec value h none there = ap (λ (m : Values). slice_get m rec) (play_sets ops before after h) ∙ get_all-other rec (last_writes ops) before none ∙ there

-- one more operation
plays_with : (start : Option Values) (ops : List Op) (operation : Op) (p : Plays start ops) → (n : Values) × (play p.1 (operation ∷ []) ≡ Some n) → Plays start (ops ++ operation ∷ [])
plays_with start ops operation p q = (p.0, q.0, p.2, play-append p.0 ops (operation ∷ []) ∙ ap (option_and_then (λ (m : Values). play m (operation ∷ []))) p.3 ∙ q.1)

module _ (catalogue : Catalogue) (w new : Scene) (s : ℕ) (x : SiteState) (given : Input) (o : Stepped) (k : Known catalogue w) (n : Known catalogue new) (d : Does catalogue w new s x given o) (copies : InvCopies catalogue w) (refresh : InvRefresh catalogue w) (reading : InvReading catalogue w) (inv : InvOrder catalogue w) where
  -- a copy here on which no other transaction has a lock has the value after the entries of views up to the held one
  free_value : (rec : ℕ) (exclusive : Bool) (txn : TxnId) (v : View) (stored : Stored) → x.held ≡ Some v → is_open x rec ≡ true → value_at rec x.copies ≡ Some stored → IsFree rec exclusive (owner.Txn txn) x.locks → ((e : Commit) → Has w.journal e → e.txn ≢ txn) → value_after catalogue w.journal v.id rec ≡ Some (content_of stored)
  free_value rec exclusive txn v stored held usable copy free no_entry =
      usable_value catalogue w k.shares copies s rec x v stored d.up d.here.kept held usable
      (unlisted_none rec x.refresh (free_unlisted catalogue w new s x given o k n d copies refresh rec exclusive txn free))
      copy (d.here.held v held) (subst (Has v.members) d.here.id (d.here.tidy.held v held).3) holder dated unentered
    where
      there : Has x.copies (rec, stored)
      there = value_pair rec x.copies stored copy

      holder : Has (holders catalogue rec) s
      holder = copy_held catalogue w s x d.up d.here.kept k.held rec (mapped_has (λ (p : ℕ × Stored). p.0) x.copies (rec, stored) there)

      dated : AtMost stored.date v.id
      dated = AtMost-along (d.below.copies (rec, stored) there) refl (d.here.tidy.held v held).0

      or_true : (b : Bool) → (b || true) ≡ true
      or_true true = refl
      or_true false = refl

      unentered : (u : Doubt) → Has (kept_at w s).doubts u → Has (keys u.writes) rec → (e : Commit) → Has w.journal e → e.txn ≢ u.txn
      unentered u h on e entry named =
          let lock = (k.guards.site s x d.up).doubted u rec (subst (λ (k : DurableState). Has k.doubts u) (sym d.here.kept) h) on in
          let by = free lock.lock lock.has lock.on (rw (lock.strong refl) (or_true exclusive)) in
          no_entry e entry (named ∙ txn_same u.txn txn (sym lock.by ∙ by))

  -- a live transaction here has no entry
  live_no_entry : (t : Live) → Has x.live t → (e : Commit) → Has w.journal e → e.txn ≢ t.txn
  live_no_entry t h e entry named = k.ends.entry e entry x (rw (ap (λ (t : TxnId). t.site) named ∙ (d.led.names t h).0 ∙ d.here.id) d.up) t h (sym named)

  -- a record that a site holds has a value
  value_there : (rec q : ℕ) (before : Values) (view : ViewId) → Has (holders catalogue rec) q → content (start_values catalogue) w.journal view ≡ Some before → is_some (slice_get before rec) ≡ true
  value_there rec q before view holder h =
      let v = after_some catalogue w.journal view rec q holder in
      rw (content_value catalogue w.journal view before rec h ∙ ap (option_map (λ (c : Content). c.value)) v.1) refl

  -- the read that a step does has the value that the record has then
  read_value : (u : Live) (a : Pending) (deed : Deed) (l : Lent) → Has x.live u → Completes catalogue x given u a deed l → (rec : ℕ) (value : Option (List ℕ)) → deed ≡ Deed.operates (op.Read rec value) → (before after : Values) → content (start_values catalogue) w.journal u.view ≡ Some before → play before u.ops ≡ Some after → slice_get after rec ≡ Some value
  read_value u a deed l h (Completes.own_write r v next reads usable wrote e g) rec value is before after start plays =
      let z = sym e ∙ is in
      let same : r ≡ rec = cc in
      let valued : v ≡ value = cc in
      let of : IsOf x u = d.led.live u h in
      let opened = refresh.uses s x u r of.0 d.up h (inr (written_changed u r v wrote)) (d.here.held of.0 of.1, of.2) in
      let q = force_holder catalogue w k refresh r of.0 opened.usable in
      written_then before after u.ops rec value plays (rw (← same, ← valued) wrote) (value_there rec q.0 before u.view (subst (λ (n : ℕ). Has (holders catalogue n) q.0) same q.1) start)
  read_value u a deed l h (Completes.own_copy r stored next reads usable none copy free e g) rec value is before after start plays =
      let z = sym e ∙ is in
      let same : r ≡ rec = cc in
      let valued : stored.value ≡ value = cc in
      let of : IsOf x u = d.led.live u h in
      let now = free_value r false u.txn of.0 stored of.1 usable copy (free_from_none r false u.txn x.locks free) (live_no_entry u h) in
      unwritten_then before after u.ops rec value plays (subst (λ (n : ℕ). value_at n (last_writes u.ops) ≡ None) same none)
      (content_value catalogue w.journal u.view before rec start ∙ subst (λ (n : ℕ). read_after catalogue w.journal u.view n ≡ Some value) same (subst (λ (i : ViewId). read_after catalogue w.journal i r ≡ Some value) of.2 (ap (option_map (λ (c : Content). c.value)) now ∙ ap (λ (v : Option (List ℕ)). Some v) valued)))
  read_value u a deed l h (Completes.change_again r v next writes usable wrote g) rec value is before after start plays = read_not_write_asked catalogue a deed rec value is writes
  read_value u a deed l h (Completes.change_alone r next writes usable none alone g) rec value is before after start plays = read_not_write_asked catalogue a deed rec value is writes
  read_value u a deed l h (Completes.change_answered from r c last writes g) rec value is before after start plays = read_not_write_asked catalogue a deed rec value is writes
  read_value u a deed l h (Completes.read_answered from r v c last reads e g) rec value is before after start plays =
      let z = sym e ∙ is in
      let same : r ≡ rec = cc in
      let valued : v ≡ value = cc in
      unwritten_then before after u.ops rec value plays (subst (λ (n : ℕ). value_at n (last_writes u.ops) ≡ None) same (reading.pending s x u a r d.up h last.pending reads))
      (content_value catalogue w.journal u.view before rec start ∙ subst (λ (n : ℕ). read_after catalogue w.journal u.view n ≡ Some value) same (answer_value ∙ ap (λ (v : Option (List ℕ)). Some v) valued))
    where
      sent : Has w.sent (letter from s (message.ReadAnswer u.txn a.number v))
      sent = d.came from (message.ReadAnswer u.txn a.number v) c

      answer_value : read_after catalogue w.journal u.view r ≡ Some v
      answer_value =
          let request = read_request catalogue w new s x given o k n d copies refresh from u a r v h last.pending reads c in
          inv.answered s from s a.number r request.0 v x u d.up h sent request.1

  -- the operation of a step goes through
  operation_plays : (u : Live) (a : Pending) (deed : Deed) (l : Lent) → Has x.live u → Completes catalogue x given u a deed l → Plays (content (start_values catalogue) w.journal u.view) (with_operation deed u.ops)
  operation_plays u a (Deed.operates operation) l h c = plays_with (content (start_values catalogue) w.journal u.view) u.ops operation p (go operation (λ rec value is. read_value u a (Deed.operates operation) l h c rec value (ap (λ (o : Op). Deed.operates o) is) p.0 p.1 p.2 p.3))
    where
      p : Plays (content (start_values catalogue) w.journal u.view) u.ops
      p = inv.live s x u d.up h

      go : (operation2 : Op) → ((rec : ℕ) (value : Option (List ℕ)) → operation2 ≡ op.Read rec value → slice_get p.1 rec ≡ Some value) → (n : Values) × (play p.1 (operation2 ∷ []) ≡ Some n)
      go (op.Read rec value) read = (p.1, read_plays p.1 rec value (read rec value refl))
      go (op.Write rec value) read = (slice_set p.1 rec value, refl)
  operation_plays u a (Deed.weighs rec table) l h c = inv.live s x u d.up h

  same_plays : (u t : Live) → Has x.live u → u.view ≡ t.view → u.ops ≡ t.ops → Plays (content (start_values catalogue) w.journal t.view) t.ops
  same_plays u t h viewed done = subst (λ (ops : List Op). Plays (content (start_values catalogue) w.journal t.view) ops) done (subst (λ (i : ViewId). Plays (content (start_values catalogue) w.journal i) u.ops) viewed (inv.live s x u d.up h))

  pub plays_then : (t : Live) → LiveNow catalogue x given t → Plays (content (start_values catalogue) w.journal t.view) t.ops
  plays_then t (LiveNow.still h) = inv.live s x t d.up h
  plays_then t (LiveNow.marked u h tick is) = same_plays u t h (ap (λ (t : Live). t.view) is) (ap (λ (t : Live). t.ops) is)
  plays_then t (LiveNow.waits u a from h f m l c is) = same_plays u t h (ap (λ (t : Live). t.view) is) (ap (λ (t : Live). t.ops) is)
  plays_then t (LiveNow.reads u a other q h asks is) = same_plays u t h (ap (λ (t : Live). t.view) is) (ap (λ (t : Live). t.ops) is)
  plays_then t (LiveNow.writes u a other v h asks is) = same_plays u t h (ap (λ (t : Live). t.view) is) (ap (λ (t : Live). t.ops) is)
  plays_then t (LiveNow.prepares u a h asks is) = same_plays u t h (ap (λ (t : Live). t.view) is) (ap (λ (t : Live). t.ops) is)
  plays_then t (LiveNow.completed u a deed l h c is) = subst (λ (t : Live). Plays (content (start_values catalogue) w.journal t.view) t.ops) is (operation_plays u a deed l h c)
  plays_then t (LiveNow.begins view h is) =
      let m = content_there (start_values catalogue) w.journal view.id inv.serial.0 inv.serial.1 in
      subst (λ (t : Live). Plays (content (start_values catalogue) w.journal t.view) t.ops) is (m.0, m.0, m.1, refl)

  -- an answer that is given now
  record Replied (q to : ℕ) (txn : TxnId) (number : ℕ) (value : Option (List ℕ)) : Type 0 where
    rec : ℕ
    stored : Stored
    granted : Granted x given to txn number rec false stored
    valued : stored.value ≡ value

  replied : (m : Sent) → ReplyTo x given o.site.participant m → (q : ℕ) (txn : TxnId) (number : ℕ) (value : Option (List ℕ)) → m.message ≡ message.ReadAnswer txn number value → Replied q m.to txn number value
  replied m (ReplyTo.other quiet) q txn number value is = absurd (let z = ap is_reply is in cc)
  replied m (ReplyTo.doubt_again u a b i f) q txn number value is = absurd (let z = f ∙ is in cc)
  replied m (ReplyTo.vote_again part a b i z f) q txn number value is = absurd (let z = f ∙ is in cc)
  replied m (ReplyTo.vote_reading part reads writes a none i f) q txn number value is = absurd (let z = f ∙ is in cc)
  replied m (ReplyTo.vote_writing part reads writes a some i f) q txn number value is = absurd (let z = f ∙ is in cc)
  replied m (ReplyTo.acks t a none f) q txn number value is = absurd (let z = f ∙ is in cc)
  replied m (ReplyTo.write_answer t i r stored a f) q txn number value is = absurd (let z = f ∙ is in cc)
  replied m (ReplyTo.refresh_answer view r stored a b i j f) q txn number value is = absurd (let z = f ∙ is in cc)
  replied m (ReplyTo.read_answer t i r stored a f) q txn number value is =
      let z = f ∙ is in
      let name : t ≡ txn = cc in
      let count : i ≡ number = cc in
      record { rec = r; stored = stored; granted = rw (← name, ← count) a; valued = cc }

  request_came : (to number rec : ℕ) (txn : TxnId) (view : ViewId) → Requests given to txn view number rec false → Has w.sent (letter to s (message.ReadRequest txn view number rec))
  request_came to number rec txn view (Requests.reads e) = d.came to _ e

  -- for a transaction that is live at its site
  replied_value : (q to : ℕ) (number : ℕ) (value : Option (List ℕ)) (j : ℕ) (y : SiteState) (u : Live) (r : Replied q to u.txn number value) → plain_at w j ≡ Some y → Has y.live u → read_after catalogue w.journal u.view r.rec ≡ Some value
  replied_value q to number value j y u r up h =
      let g = r.granted in
      let v = holding x g.view g.held in
      let request = request_came to number r.rec u.txn g.view g.comes in
      let at : plain_at w u.txn.site ≡ Some y = rw (((k.led.site j y up).names u h).0 ∙ (k.views.site j y up).id) up in
      let viewed : u.view ≡ g.view = (k.shares.says _ request).live y u at h refl in
      let no_entry : (e : Commit) → Has w.journal e → e.txn ≢ u.txn = (λ e entry named. k.ends.entry e entry y (rw (ap (λ (t : TxnId). t.site) named) at) u h (sym named)) in
      let now = free_value r.rec false u.txn v.0 r.stored v.1 g.opened g.copy (free_from_none r.rec false u.txn x.locks g.free) no_entry in
      subst (λ (i : ViewId). read_after catalogue w.journal i r.rec ≡ Some value) (v.2 ∙ sym viewed) (ap (option_map (λ (c : Content). c.value)) now ∙ ap (λ (v : Option (List ℕ)). Some v) r.valued)

  read_quiet : (to : ℕ) (txn : TxnId) (view : ViewId) (number rec : ℕ) → Requests given to txn view number rec false → new.journal ≡ w.journal
  read_quiet to txn view number rec (Requests.reads e) = journal_same catalogue w new s x given o k n d to (message.ReadRequest txn view number rec) e (λ q. let z = q.1 in cc)

  pub record AnsweredNow (q to number : ℕ) (value : Option (List ℕ)) (u : Live) : Type 0 where
    pub rec : ℕ
    pub view : ViewId
    pub here : q ≡ s
    pub quiet : new.journal ≡ w.journal
    pub request : Has w.sent (letter to q (message.ReadRequest u.txn view number rec))
    pub valued : (j : ℕ) (y : SiteState) → plain_at w j ≡ Some y → Has y.live u → read_after catalogue w.journal u.view rec ≡ Some value

  pub answered_now : (q to number : ℕ) (value : Option (List ℕ)) (u : Live) → Has o.effects.messages (letter q to (message.ReadAnswer u.txn number value)) → AnsweredNow q to number value u
  answered_now q to number value u h =
      let here : q ≡ s = d.shares.from _ h ∙ d.here.id in
      let r = replied (letter q to (message.ReadAnswer u.txn number value)) (d.shares.replies _ h) q u.txn number value refl in
      record {
        rec = r.rec;
        view = r.granted.view;
        here = here;
        quiet = read_quiet to u.txn r.granted.view number r.rec r.granted.comes;
        request = subst (λ (q : ℕ). Has w.sent (letter to q (message.ReadRequest u.txn r.granted.view number r.rec))) (sym here) (request_came to number r.rec u.txn r.granted.view r.granted.comes);
        valued = λ j y up live. replied_value q to number value j y u r up live;
      }
