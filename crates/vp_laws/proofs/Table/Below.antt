-- Parts belong to other sites' transactions and to the held view; the views of doubts and the dates of copies are at most the
-- promise.
use Rattle.std.proofs.Common.{◌≡◌, ◌≢◌, ◌∙◌, ap, sym, ℕ, Bool, true, false, cond, List, [], ◌∷◌, ◌++◌, map, refl, arith, ⊎_elim, append-nil}
use Rattle.std.specs.Prelude.{Option, Some, None, is_some, nat_lt, ◌==◌, not, option_map, filter}
use Rattle.vp_model.specs.Types.{Change, ViewId, TxnId, View, Stored, Message, Sent, Input, Part, Refreshing, Pending, Live, Ending, Doubt, Decision}
use Rattle.vp_base.specs.declared.site.Ending.TheVariants.{Committed}
use Rattle.vp_model.specs.Types.log_record
use Rattle.vp_model.specs.Types.message
use Rattle.vp_model.specs.Words.{same_txn, txn_before, value_at, put_at, view_before, is_view, replace_at}
use Rattle.vp_model.specs.Catalogue.{Catalogue}
use Rattle.vp_model.specs.Durable.{doubt_of, with_writes}
use Rattle.vp_model.specs.Site.{Here, ViewState, ParticipantState, send, change_participant, change_refresh, SiteState, Lent, Stepped, begin_step, lent, put_back, letters, force}
use Rattle.vp_model.specs.Transactions.{last_changes, entry_of, keep_writes, complete, writes_held}
use Rattle.vp_model.specs.Refresh.{refreshing_of, newest, unlist, end_refresh, start_refresh, other_holders}
use Rattle.vp_model.specs.Views.{other_sites, drop_view, start_inviting, hold}
use Rattle.vp_model.specs.Calls.{start_txn, take_lock, read_at, write_at, prepare_parts, prepare_for}
use Rattle.vp_model.specs.Messages.{with_accepted, with_seen, holds_view, accept, on_accept, on_stale, with_heard, with_part, with_vote, with_new_doubt, with_ended, with_answer, grant, end_here}
use Rattle.vp_model.specs.Step.{step, with_monitor, fix, without_wait, probe_all, mark_calls, resend_one}
use Rattle.vp_laws.proofs.Lists.Members.{Has, has_none, has_one_is, has_cases, filter_has, find_has, map_has, both_true}
use Rattle.vp_laws.proofs.Lists.Views.{AtMost, AtMost-same, AtMost-trans, AtMost-along, Precedes-at_most, from_before, is_view_is, same_is}
use Rattle.vp_laws.proofs.Lists.Changes.{put_has, replace_has, writes_has, value_has, newest_at_most}
use Rattle.vp_laws.proofs.Moves.Frames.{Ends, close-ends, decided-ends, decide-cases, judged, take-cases}
use Rattle.vp_laws.proofs.Moves.Table.{Comes, next_view, lent_at, Left, Asks, Handled, Back, SendsBack, Table, AsksAgain}
use Rattle.vp_laws.proofs.Moves.Rows.{step-keeps}
use Rattle.vp_laws.proofs.Moves.LocalViews.{letter, Tidy}
use Rattle.vp_laws.proofs.Moves.Parts.{part_there, with_part_has, with_part_doubts}
use Rattle.vp_laws.proofs.Table.Led.{Led}

abbrev pub PartOk : SiteState → Part → Type 0
PartOk x p = (v : View) × (x.held ≡ Some v) × (v.id ≡ p.view) × (p.txn.site ≢ x.id)

abbrev pub DoubtOk : ViewId → ℕ → Doubt → Type 0
DoubtOk promise id d = AtMost d.view promise × (d.txn.site ≢ id)

pub record Below (x : SiteState) : Type 0 where
  pub parts : (p : Part) → Has x.parts p → PartOk x p
  pub doubts : (d : Doubt) → Has x.doubts d → DoubtOk x.promise x.id d
  pub copies : (c : ℕ × Stored) → Has x.copies c → AtMost c.1.date x.promise
  pub answers : (r : Refreshing) (a : ℕ × Stored) → Has x.refresh r → Has r.answers a → AtMost a.1.date x.promise

abbrev pub IsDated : Message → Type 0
IsDated (message.RefreshAnswer view rec stored) = AtMost stored.date view
IsDated m = Unit {0}

pub record Lies (x : SiteState) (o : Stepped) : Type 0 where
  pub id : o.site.id ≡ x.id
  pub below : Below o.site
  pub sent : (m : Sent) → Has o.effects.messages m → IsDated m.message

abbrev pub is_undated : Message → Bool
is_undated (message.RefreshAnswer view rec stored) = false
is_undated m = true

undated : (m : Message) → is_undated m ≡ true → IsDated m
undated (message.RefreshAnswer view rec stored) e = cc
undated m e = tt

-- the same parts, doubts, copies and answers, and the same view and promise
pub record SameBelow (a b : SiteState) : Type 0 where
  pub id : b.id ≡ a.id
  pub promise : b.promise ≡ a.promise
  pub held : b.held ≡ a.held
  pub parts : b.parts ≡ a.parts
  pub doubts : b.doubts ≡ a.doubts
  pub copies : b.copies ≡ a.copies
  pub refresh : (r : Refreshing) (s : ℕ × Stored) → Has b.refresh r → Has r.answers s → (q : Refreshing) × Has a.refresh q × Has q.answers s

below_same : (a b : SiteState) → SameBelow a b → Below a → Below b
below_same a b e l = record {
  parts = λ p h. let q = l.parts p (rw e.parts at h) in (q.0, e.held ∙ q.1, q.2, (λ z. q.3 (z ∙ e.id)));
  doubts = λ d h. let q = l.doubts d (rw e.doubts at h) in (AtMost-along q.0 refl e.promise, (λ z. q.1 (z ∙ e.id)));
  copies = λ c h. AtMost-along (l.copies c (rw e.copies at h)) refl e.promise;
  answers = λ r s h k. let q = e.refresh r s h k in AtMost-along (l.answers q.0 s q.1 q.2) refl e.promise;
}

pub self_same : (a : SiteState) → SameBelow a a
self_same a = record { id = refl; promise = refl; held = refl; parts = refl; doubts = refl; copies = refl; refresh = λ r s h k. (r, h, k) }

module _ (catalogue : Catalogue) (x : SiteState) (given : Input) (tidy : Tidy x) (led : Led x) (below : Below x) (others : (from : ℕ) (txn : TxnId) (view : ViewId) (number : ℕ) → Asks given from txn view number → txn.site ≢ x.id) (dated : (from : ℕ) (view : ViewId) (rec : ℕ) (stored : Stored) → Comes given from (message.RefreshAnswer view rec stored) → AtMost stored.date view) where
  begins : Lies x (begin_step x)
  begins = record { id = refl; below = below; sent = λ m h. absurd (has_none m h) }

  beside : (o e : Stepped) (more : List Sent) → SameBelow o.site e.site → e.effects.messages ≡ o.effects.messages ++ more → ((m : Sent) → Has more m → is_undated m.message ≡ true) → Lies x o → Lies x e
  beside o e more same ms quiet l = record {
    id = same.id ∙ l.id;
    below = below_same o.site e.site same l.below;
    sent = λ m h. ⊎_elim (λ old. l.sent m old) (λ new. undated m.message (quiet m new)) (has_cases o.effects.messages more m (rw ms at h));
  }

  silent : (o e : Stepped) → SameBelow o.site e.site → e.effects.messages ≡ o.effects.messages → Lies x o → Lies x e
  silent o e same ms l = beside o e [] same (ms ∙ sym (append-nil o.effects.messages)) (λ m h. absurd (has_none m h)) l

  letters_undated : (from : ℕ) (message_to : ℕ → Message) (sites : List ℕ) → ((q : ℕ) → is_undated (message_to q) ≡ true) → (m : Sent) → Has (letters from message_to sites) m → is_undated m.message ≡ true
  letters_undated from message_to sites quiet m h =
      let r = map_has (λ (q : ℕ). letter from q (message_to q)) sites m h in rw (sym (ap (λ (m : Sent). m.message) r.2)) (quiet r.0)

  letter_undated : (from to : ℕ) (words : Message) → is_undated words ≡ true → (m : Sent) → Has (letter from to words ∷ []) m → is_undated m.message ≡ true
  letter_undated from to words quiet m h = rw (sym (ap (λ (m : Sent). m.message) (has_one_is (letter from to words) m h))) quiet

  one : (o : Stepped) (from to : ℕ) (words : Message) → is_undated words ≡ true → SameBelow x o.site → o.effects.messages ≡ letter from to words ∷ [] → Lies x o
  one o from to words quiet same ms = beside (begin_step x) o (letter from to words ∷ []) same ms (letter_undated from to words quiet) begins

  same_but : (s a : SiteState) → s.id ≡ a.id → s.views ≡ a.views → s.participant ≡ a.participant → s.copies ≡ a.copies → s.refresh ≡ a.refresh → SameBelow a s
  same_but s a i v p c r = record {
    id = i;
    promise = ap (λ (v : ViewState). v.promise) v;
    held = ap (λ (v : ViewState). v.held) v;
    parts = ap (λ (p : ParticipantState). p.parts) p;
    doubts = ap (λ (p : ParticipantState). p.doubts) p;
    copies = c;
    refresh = λ q t h k. (q, rw r at h, k);
  }

  views_but : (v : ViewState) → v.promise ≡ x.promise → v.held ≡ x.held → SameBelow x (record x { views = v })
  views_but v p h = record { id = refl; promise = p; held = h; parts = refl; doubts = refl; copies = refl; refresh = λ r s h k. (r, h, k) }

  abbrev K : Lent → Type 0
  K = Back x (Lies x)

  -- the same copies, and other words than dated ones
  plain : (l now : Lent) (more : List Sent) → now.copies ≡ l.copies → now.effects.messages ≡ l.effects.messages ++ more → ((m : Sent) → Has more m → is_undated m.message ≡ true) → K l → K now
  plain l now more c ms quiet q = beside (put_back (begin_step x) l) (put_back (begin_step x) now) more (same_but _ _ refl refl refl c refl) ms quiet q

  hushed : (l now : Lent) → now.copies ≡ l.copies → now.effects.messages ≡ l.effects.messages → K l → K now
  hushed l now c ms q = silent (put_back (begin_step x) l) (put_back (begin_step x) now) (same_but _ _ refl refl refl c refl) ms q

  ends : (t : Live) (why : Ending) (commit : Bool) (l now : Lent) → Ends x.id t why commit l now → K l → K now
  ends t why commit l now e q = plain l now _ (ap (λ (h : Here). h.copies) e.here) e.messages (letters_undated x.id (λ q. message.Outcome t.txn commit) t.parts (λ q. refl)) q

  -- no part is of a site without a view
  no_parts : x.held ≡ None → (p : Part) → Has x.parts p → ⊥
  no_parts e p h = let q = (below.parts p h).1 in cc

  -- a live transaction is of the held view, which is promised
  live_below : (t : Live) → Handled x t → AtMost t.view x.promise
  live_below t n =
      let q = led.live n.was n.live in
      AtMost-same t.view x.promise (ap (λ (t : Live). t.view) n.same ∙ sym q.2 ∙ (tidy.held q.0 q.1).0)

  keeps_writes : (t : Live) → Handled x t → K (keep_writes catalogue x.id t (lent_at x))
  unfolding keep_writes
  keeps_writes t n = record {
    id = refl;
    below = record {
      parts = below.parts;
      doubts = below.doubts;
      copies = λ c h. ⊎_elim (λ (e : c.1.date ≡ t.view). rw e (live_below t n)) (λ old. below.copies c old) (writes_has t.view (writes_held catalogue x.id (last_changes (entry_of t))) x.copies c h);
      answers = below.answers;
    };
    sent = λ m h. absurd (has_none m h);
  }

  -- the view is left, and the promise rises
  drops : (o : Stepped) → Lies x o → Lies x (drop_view o)
  unfolding drop_view
  drops o l = record {
    id = l.id;
    below = record { parts = λ p h. absurd (has_none p h); doubts = l.below.doubts; copies = l.below.copies; answers = λ r a h k. absurd (has_none r h) };
    sent = l.sent;
  }

  rises : (o e : Stepped) (more : List Sent) → Left x o → AtMost o.site.promise e.site.promise → e.site.id ≡ o.site.id → e.site.participant ≡ o.site.participant → e.site.copies ≡ o.site.copies → e.site.refresh ≡ o.site.refresh → e.effects.messages ≡ o.effects.messages ++ more → ((m : Sent) → Has more m → is_undated m.message ≡ true) → Lies x o → Lies x e
  rises o e more left up i p c r ms quiet l = record {
    id = i ∙ l.id;
    below = record {
      parts = λ a h. absurd (has_none a (rw (ap (λ (p : ParticipantState). p.parts) (p ∙ left.participant)) at h));
      doubts = λ d h. let q = l.below.doubts d (rw (ap (λ (p : ParticipantState). p.doubts) p) at h) in (AtMost-trans d.view o.site.promise e.site.promise q.0 up, (λ z. q.1 (z ∙ i)));
      copies = λ a h. AtMost-trans a.1.date o.site.promise e.site.promise (l.below.copies a (rw c at h)) up;
      answers = λ q a h k. absurd (has_none q (rw (r ∙ left.refresh) at h));
    };
    sent = λ m h. ⊎_elim (λ old. l.sent m old) (λ new. undated m.message (quiet m new)) (has_cases o.effects.messages more m (rw ms at h));
  }

  above : AtMost x.promise (next_view x)
  above = omega arith

  invites : (o : Stepped) → Left x o → Lies x o → Lies x (start_inviting catalogue (next_view x) o)
  unfolding start_inviting
  invites o left l =
      rises o _ (letters o.site.id (λ q. message.Invite (next_view x)) (other_sites catalogue o.site.id)) left (AtMost-along above (ap (λ (v : ViewState). v.promise) left.views) refl) refl refl refl refl refl
      (letters_undated o.site.id (λ q. message.Invite (next_view x)) (other_sites catalogue o.site.id) (λ q. refl)) l

  accepts : (from : ℕ) (id : ViewId) (o : Stepped) → view_before x.promise id ≡ true → Left x o → Lies x o → Lies x (accept from id o)
  unfolding accept
  accepts from id o e left l =
      rises o _ (letter o.site.id from (message.Accept id) ∷ []) left (AtMost-along (Precedes-at_most x.promise id (from_before x.promise id e)) (ap (λ (v : ViewState). v.promise) left.views) refl) refl refl refl refl refl
      (letter_undated o.site.id from (message.Accept id) refl) l

  -- a view is held where none was
  joins : (o : Stepped) → x.held ≡ None → o.site.id ≡ x.id → o.site.promise ≡ x.promise → o.site.participant ≡ x.participant → o.site.copies ≡ x.copies → o.site.refresh ≡ x.refresh → ((m : Sent) → Has o.effects.messages m → is_undated m.message ≡ true) → Lies x o
  joins o none i v p c r quiet = record {
    id = i;
    below = record {
      parts = λ a h. absurd (no_parts none a (rw p at h));
      doubts = λ d h. let q = below.doubts d (rw p at h) in (AtMost-along q.0 refl v, (λ z. q.1 (z ∙ i)));
      copies = λ a h. AtMost-along (below.copies a (rw c at h)) refl v;
      answers = λ q a h k. AtMost-along (below.answers q a (rw r at h) k) refl v;
    };
    sent = λ m h. undated m.message (quiet m h);
  }

  holds : (id : ViewId) (members : List ℕ) → is_view x.waiting id ≡ true → Lies x (hold (record { id = id; members = members }) (begin_step x))
  unfolding hold
  holds id members e = joins _ (tidy.waiting id (is_view_is x.waiting id e)).1 refl refl refl refl refl (λ m h. absurd (has_none m h))

  fixes : (view : View) → x.inviting ≡ Some (view.id, view.members) → Lies x (fix view (begin_step x))
  unfolding fix hold
  fixes view e = joins _ (tidy.inviting (view.id, view.members) e).1 refl refl refl refl refl (letters_undated x.id (λ q. message.ViewCommit view.id view.members) (filter (λ q. not (q == x.id)) view.members) (λ q. refl))

  starts_refresh : (view : View) (rec : ℕ) (o : Stepped) → Lies x o → Lies x (start_refresh catalogue view rec o)
  unfolding start_refresh
  starts_refresh view rec o l =
      beside o _ (letters o.site.id (λ q. message.RefreshRequest view.id rec) (other_holders catalogue o.site rec))
      (record {
        id = refl;
        promise = refl;
        held = refl;
        parts = refl;
        doubts = refl;
        copies = refl;
        refresh = λ r s h k. ⊎_elim (λ (e : r ≡ record { rec = rec; answers = [] }). absurd (has_none s (rw e at k))) (λ old. (r, old, k)) (put_has (λ (a : Refreshing) (b : Refreshing). a.rec == b.rec) (λ (a : Refreshing) (b : Refreshing). nat_lt a.rec b.rec) (record { rec = rec; answers = [] }) o.site.refresh r h);
      })
      refl (letters_undated o.site.id (λ q. message.RefreshRequest view.id rec) (other_holders catalogue o.site rec) (λ q. refl)) l

  takes_newer : (r : Refreshing) (own : Stored) (o : Stepped) → AtMost (newest own r.answers).date o.site.promise → Lies x o → Lies x (judged catalogue r own o)
  takes_newer r own o up l = take-cases (Lies x) catalogue r own o (record { id = l.id; below = newer; sent = l.sent }) l
      (record { id = l.id; below = record { parts = l.below.parts; doubts = l.below.doubts; copies = l.below.copies; answers = l.below.answers }; sent = l.sent })
    where
      best : Stored
      best = newest own r.answers

      newer : Below (record o.site { here = record o.site.here { copies = replace_at r.rec best o.site.here.copies } })
      newer = record {
        parts = l.below.parts;
        doubts = l.below.doubts;
        copies = λ c h. ⊎_elim (λ (e : c.1 ≡ best). rw e up) (λ old. l.below.copies c old) (replace_has r.rec best o.site.here.copies c h);
        answers = l.below.answers;
      }

  ends_refresh : (rec : ℕ) (r : Refreshing) (own : Stored) (o : Stepped) → refreshing_of rec o.site.refresh ≡ Some r → value_at r.rec o.site.copies ≡ Some own → Lies x o → Lies x (end_refresh catalogue r own o)
  unfolding end_refresh unlist
  ends_refresh rec r own o e v l =
      let listed = find_has (λ (q : Refreshing). q.rec == rec) o.site.refresh r e in
      let c = value_has r.rec o.site.copies own v in
      let mine : AtMost own.date o.site.promise = AtMost-along (l.below.copies c.0 c.1) (ap (λ (s : Stored). s.date) (sym c.2)) refl in
      let up = newest_at_most o.site.promise own r.answers mine (λ a k. l.below.answers r a listed k) in
      silent (judged catalogue r own o) _
      (record { id = refl; promise = refl; held = refl; parts = refl; doubts = refl; copies = refl; refresh = λ q s h k. (q, (filter_has (λ (other : Refreshing). not (other.rec == r.rec)) _ q h).0, k) }) refl
      (takes_newer r own o up l)

  -- the held view, and its identifier is the promise
  held_is : (view : ViewId) → holds_view x view ≡ true → (v : View) × (x.held ≡ Some v) × (v.id ≡ view)
  held_is view e = go x.held refl e
    where
      go : (o : Option View) → x.held ≡ o → is_view (option_map (λ (v : View). v.id) o) view ≡ true → (v : View) × (x.held ≡ Some v) × (v.id ≡ view)
      go None h t = cc
      go (Some v) h t = (v, h, same_is v.id view t)

  held_promise : (view : ViewId) → holds_view x view ≡ true → view ≡ x.promise
  held_promise view e = let q = held_is view e in sym q.2 ∙ (tidy.held q.0 q.1).0

  -- other parts and doubts, with the same view
  others_now : (p : ParticipantState) (o : Stepped) (more : List Sent) → ((a : Part) → Has p.parts a → PartOk x a) → ((d : Doubt) → Has p.doubts d → DoubtOk x.promise x.id d) → o.site.id ≡ x.id → o.site.views ≡ x.views → o.site.participant ≡ p → ((c : ℕ × Stored) → Has o.site.copies c → AtMost c.1.date x.promise) → o.site.refresh ≡ x.refresh → o.effects.messages ≡ more → ((m : Sent) → Has more m → is_undated m.message ≡ true) → Lies x o
  others_now p o more parts doubts i v same copies r ms quiet = record {
    id = i;
    below = record {
      parts = λ a h. let q = parts a (rw same at h) in (q.0, ap (λ (v : ViewState). v.held) v ∙ q.1, q.2, (λ z. q.3 (z ∙ i)));
      doubts = λ d h. let q = doubts d (rw same at h) in (AtMost-along q.0 refl (ap (λ (v : ViewState). v.promise) v), (λ z. q.1 (z ∙ i)));
      copies = λ c h. AtMost-along (copies c h) refl (ap (λ (v : ViewState). v.promise) v);
      answers = λ q a h k. AtMost-along (below.answers q a (rw r at h) k) refl (ap (λ (v : ViewState). v.promise) v);
    };
    sent = λ m h. undated m.message (quiet m (rw ms at h));
  }

  grants : (from : ℕ) (txn : TxnId) (view : ViewId) (number rec : ℕ) (exclusive : Bool) (words : Message) → Asks given from txn view number → holds_view x view ≡ true → is_undated words ≡ true → Lies x (grant txn view rec exclusive words from (begin_step x))
  unfolding grant
  grants from txn view number rec exclusive words asks e quiet =
      let q = held_is view e in
      others_now (with_part txn view x.participant) _ (letter x.id from words ∷ [])
      (λ a h. ⊎_elim (λ (new : a ≡ record { txn = txn; view = view; voted = false }). rw new (q.0, q.1, q.2, others from txn view number asks)) (λ old. below.parts a old) (with_part_has x.participant txn view a h))
      (λ d h. below.doubts d (rw (with_part_doubts x.participant txn view) at h)) refl refl refl below.copies refl refl (letter_undated x.id from words quiet)

  votes_reading : (from : ℕ) (part : Part) → Has x.parts part → Lies x (send (message.Vote part.txn) from (change_participant (with_vote part) (begin_step x)))
  votes_reading from part h =
      others_now (with_vote part x.participant) _ (letter x.id from (message.Vote part.txn) ∷ [])
      (λ a q. ⊎_elim (λ (new : a ≡ record part { voted = true }). rw new (below.parts part h)) (λ old. below.parts a old)
      (put_has (λ (a : Part) (b : Part). same_txn a.txn b.txn) (λ (a : Part) (b : Part). txn_before a.txn b.txn) (record part { voted = true }) x.parts a q))
      below.doubts refl refl refl below.copies refl refl (letter_undated x.id from (message.Vote part.txn) refl)

  votes_writing : (from : ℕ) (part : Part) (writes : List (ℕ × Change)) → Has x.parts part → Lies x (send (message.Vote part.txn) from (force (log_record.Yes part.txn part.view writes) (change_participant (with_new_doubt part writes) (begin_step x))))
  votes_writing from part writes h =
      let q = below.parts part h in
      let up : AtMost part.view x.promise = AtMost-same part.view x.promise (sym q.2 ∙ (tidy.held q.0 q.1).0) in
      others_now (with_new_doubt part writes x.participant) _ (letter x.id from (message.Vote part.txn) ∷ [])
      (λ a k. below.parts a (filter_has (λ (other : Part). not (same_txn other.txn part.txn)) x.parts a k).0)
      (λ d k. ⊎_elim (λ (new : d ≡ (record { txn = part.txn; view = part.view; writes = writes })). rw new (up, q.3)) (λ old. below.doubts d old)
      (put_has (λ (a : Doubt) (b : Doubt). same_txn a.txn b.txn) (λ (a : Doubt) (b : Doubt). txn_before a.txn b.txn) (record { txn = part.txn; view = part.view; writes = writes }) x.doubts d k))
      refl refl refl below.copies refl refl (letter_undated x.id from (message.Vote part.txn) refl)

  ends_here : (from : ℕ) (txn : TxnId) (commit : Bool) (doubt : Option Doubt) → doubt_of txn x.doubts ≡ doubt → Lies x (end_here from txn commit doubt (begin_step x))
  unfolding end_here
  ends_here from txn commit doubt e = go commit doubt e
    where
      p : ParticipantState
      p = with_ended (is_some x.held) txn x.participant

      parts : (a : Part) → Has p.parts a → PartOk x a
      parts a h = below.parts a (filter_has (λ (part : Part). not (same_txn part.txn txn)) x.parts a h).0

      doubts : (d : Doubt) → Has p.doubts d → DoubtOk x.promise x.id d
      doubts d h = below.doubts d (filter_has (λ (d : Doubt). not (same_txn d.txn txn)) x.doubts d h).0

      copied : (d : Doubt) → doubt_of txn x.doubts ≡ Some d → (c : ℕ × Stored) → Has (with_writes d.view d.writes x.copies) c → AtMost c.1.date x.promise
      copied d e c h = ⊎_elim (λ (q : c.1.date ≡ d.view). rw q (below.doubts d (find_has (λ (d : Doubt). same_txn d.txn txn) x.doubts d e)).0) (λ old. below.copies c old) (writes_has d.view d.writes x.copies c h)

      go : (commit : Bool) (doubt : Option Doubt) → doubt_of txn x.doubts ≡ doubt → Lies x (end_here from txn commit doubt (begin_step x))
      go true None e = others_now p _ (letter x.id from (message.Ack txn) ∷ []) parts doubts refl refl refl below.copies refl refl (letter_undated x.id from (message.Ack txn) refl)
      go false None e = others_now p _ [] parts doubts refl refl refl below.copies refl refl (λ m h. absurd (has_none m h))
      go true (Some d) e = others_now p _ (letter x.id from (message.Ack txn) ∷ []) parts doubts refl refl refl (copied d e) refl refl (letter_undated x.id from (message.Ack txn) refl)
      go false (Some d) e = others_now p _ [] parts doubts refl refl refl below.copies refl refl (λ m h. absurd (has_none m h))

  keeps_answer : (from rec : ℕ) (view : ViewId) (stored : Stored) → AtMost stored.date view → holds_view x view ≡ true → Lies x (change_refresh (map (with_answer rec from stored)) (begin_step x))
  keeps_answer from rec view stored up e = record {
    id = refl;
    below = record {
      parts = below.parts;
      doubts = below.doubts;
      copies = below.copies;
      answers = λ r a h k. let q = map_has (with_answer rec from stored) x.refresh r h in answered (q.0.rec == rec) q.0 r a q.1 q.2 k;
    };
    sent = λ m h. absurd (has_none m h);
  }
    where
      now : AtMost stored.date x.promise
      now = AtMost-along up refl (sym (held_promise view e))

      answered : (b : Bool) (q r : Refreshing) (a : ℕ × Stored) → Has x.refresh q → cond b (record q { answers = put_at from stored q.answers }) q ≡ r → Has r.answers a → AtMost a.1.date x.promise
      answered false q r a h same k = below.answers q a h (rw (← same) at k)
      answered true q r a h same k =
          let z : Has (put_at from stored q.answers) a = rw (← same) at k in
          ⊎_elim (λ (new : a ≡ (from, stored)). rw new now) (λ old. below.answers q a h old) (put_has (λ (a : ℕ × Stored) (b : ℕ × Stored). a.0 == b.0) (λ (a : ℕ × Stored) (b : ℕ × Stored). nat_lt a.0 b.0) (from, stored) q.answers a z)

  answers_refresh : (from rec : ℕ) (view : ViewId) (stored : Stored) → holds_view x view ≡ true → value_at rec x.copies ≡ Some stored → Lies x (send (message.RefreshAnswer view rec stored) from (begin_step x))
  answers_refresh from rec view stored e v =
      let c = value_has rec x.copies stored v in
      record {
        id = refl;
        below = below;
        sent = λ m h. rw (← (has_one_is (letter x.id from (message.RefreshAnswer view rec stored)) m h))
            (AtMost-along (below.copies c.0 c.1) (ap (λ (s : Stored). s.date) (sym c.2)) (held_promise view e));
      }

  writes_at : (t : Live) (p : Pending) (rec : ℕ) (sites : List ℕ) (l : Lent) → K l → K (write_at x.id t p rec sites l)
  unfolding write_at
  writes_at t p rec sites l q = plain l _ (letters x.id (λ q. message.WriteRequest t.txn t.view p.number rec) sites) refl refl (letters_undated x.id (λ q. message.WriteRequest t.txn t.view p.number rec) sites (λ q. refl)) q

  resends : (d : Decision) (o : Stepped) → Lies x o → Lies x (put_back o (resend_one o.site.id d (lent o)))
  unfolding resend_one
  resends d o l = beside o _ (letters o.site.id (λ q. message.Outcome d.txn true) d.waiting) (self_same o.site) refl (letters_undated o.site.id (λ q. message.Outcome d.txn true) d.waiting (λ q. refl)) l

  sent_back : (from : ℕ) (m : Message) → SendsBack x given from m → Lies x (send m from (begin_step x))
  sent_back from _ (SendsBack.answer_refresh view rec stored c e d v) = answers_refresh from rec view stored e v
  sent_back from m t = one _ x.id from m refl (self_same x) refl

  again_undated : (o : Stepped) (to : ℕ) (m : Message) → AsksAgain catalogue x given o to m → is_undated m ≡ true
  again_undated o to _ (AsksAgain.refresh view r e h v q) = refl
  again_undated o to m a = refl

  pub table : Table catalogue x given (Lies x)
  unfolding on_accept on_stale start_txn take_lock read_at prepare_parts complete mark_calls
  table = record {
    sends_back = λ from m t. sent_back from m t;
    asks_again = λ o ms all p. beside o _ ms (self_same o.site) refl (λ m h. again_undated o m.to m.message (all m h).1) p;
    drop_view = λ l e z p. drops (put_back (begin_step x) l) p;
    start_inviting = λ o s left l. invites o left l;
    accept = λ from id o c e left l. accepts from id o e left l;
    accepted = λ from id c. silent (begin_step x) (on_accept from id (begin_step x)) (views_but (with_accepted from id x.views) refl refl) refl begins;
    seen = λ from id promise c. silent (begin_step x) (on_stale promise (begin_step x)) (views_but (with_seen promise x.views) refl refl) refl begins;
    hold = λ from id members c e. holds id members (both_true _ _ e).0;
    heard = λ from view c e. silent (begin_step x) _ (views_but (with_heard from x.views) refl refl) refl begins;
    fix = λ view c e. fixes view e;
    without_wait = λ id c i w. silent (begin_step x) _ (views_but (without_wait x.views) refl refl) refl begins;
    probe = λ view c e. beside (begin_step x) (probe_all catalogue view (begin_step x)) _ (views_but (with_monitor x.views) refl refl) refl (letters_undated x.id (λ q. message.Probe view.id) (other_sites catalogue x.id) (λ q. refl)) begins;
    start_refresh = λ view rec o e h l. starts_refresh view rec o l;
    end_refresh = λ rec r own o e a d v l. ends_refresh rec r own o e v l;
    keep_answer = λ from view rec stored r c e f g. keeps_answer from rec view stored (dated from view rec stored c) e;
    grant_read = λ from txn view number rec stored c e n v f u. grants from txn view number rec false (message.ReadAnswer txn number stored.value) (Asks.reads rec c) e refl;
    grant_write = λ from txn view number rec stored c e n v f u. grants from txn view number rec true (message.WriteAnswer txn number) (Asks.writes rec c) e refl;
    vote_reading = λ from txn view number reads writes part c e n d f v a w. votes_reading from part (part_there txn x.parts part f);
    vote_writing = λ from txn view number reads writes part c e n d f v a w. votes_writing from part writes (part_there txn x.parts part f);
    end_here = λ from txn commit c. ends_here from txn commit (doubt_of txn x.doubts) refl;
    coordinator = record {
      begin = λ port view e g u. hushed (lent_at x) _ refl refl begins;
      answers = λ words port why y. hushed (lent_at x) _ refl refl begins;
      take_lock = λ t rec exclusive stored h i a v c. hushed (lent_at x) _ refl refl begins;
      complete = λ t p deed l h g y e q. hushed l _ refl refl q;
      read_at = λ t p rec q h n r a w c o y. one _ x.id q (message.ReadRequest t.txn t.view p.number rec) refl (same_but _ x refl refl refl refl refl) refl;
      write_at = λ t p rec value l h n w a e o d y v q. writes_at t p rec (other_holders catalogue x rec) l q;
      prepare_parts = λ t p h i g e. plain (lent_at x) _ (letters x.id (prepare_for catalogue t p) t.parts) refl refl (letters_undated x.id (prepare_for catalogue t p) t.parts (λ q. refl)) begins;
      still_waits = λ t p from h e m f c. hushed (lent_at x) _ refl refl begins;
      decide = λ t n d. decide-cases K catalogue x.id t (lent_at x) (λ e. ends t Committed true _ _ (decided-ends x.id t (lent_at x)) begins) (λ e. ends t Committed true _ _ (decided-ends x.id t _) (keeps_writes t n));
      close = λ t why l n a z y q. ends t why false l _ (close-ends x.id t why l) q;
      mark_calls = λ l c z q. hushed l _ refl refl q;
      acknowledge = λ from txn c w. hushed (lent_at x) _ refl refl begins;
    };
    answers_inviting = λ port c s l. silent _ _ (self_same _) refl l;
    resend_one = λ d o c h l. resends d o l;
  }

pub below-step : (catalogue : Catalogue) (x : SiteState) (given : Input) → Tidy x → Led x → Below x → ((from : ℕ) (txn : TxnId) (view : ViewId) (number : ℕ) → Asks given from txn view number → txn.site ≢ x.id) → ((from : ℕ) (view : ViewId) (rec : ℕ) (stored : Stored) → Comes given from (message.RefreshAnswer view rec stored) → AtMost stored.date view) → Lies x (step catalogue x given)
below-step catalogue x given tidy led below others dated =
    step-keeps catalogue x given (Lies x) (table catalogue x given tidy led below others dated) (begins catalogue x given tidy led below others dated)
