-- Where each part and each doubt of a step comes from, and what each answer to another site answers.
use Rattle.std.proofs.Common.{◌≡◌, ◌≢◌, ◌⊎◌, ◌∙◌, ap, sym, subst, ℕ, Bool, true, false, List, [], ◌∷◌, ◌++◌, refl, inl, inr, ⊎_elim, append-nil}
use Rattle.std.specs.Prelude.{Option, Some, None, is_some, filter, not, ◌==◌}
use Rattle.vp_model.specs.Types.{Change, ViewId, TxnId, Message, Sent, Input, Stored, Part, Refreshing, Live, Doubt}
use Rattle.vp_model.specs.Types.input
use Rattle.vp_model.specs.Types.message
use Rattle.vp_model.specs.Words.{same_txn, txn_before, has_txn, is_empty, value_at}
use Rattle.vp_model.specs.Catalogue.{Catalogue}
use Rattle.vp_model.specs.Durable.{doubt_of}
use Rattle.vp_model.specs.Locks.{conflict}
use Rattle.vp_model.specs.Site.{ParticipantState, SiteState, Lent, Stepped, begin_step, lent, put_back, letters, send}
use Rattle.vp_model.specs.Transactions.{keep_writes, complete}
use Rattle.vp_model.specs.Refresh.{unlist, end_refresh, start_refresh, other_holders, is_doubtful, is_open}
use Rattle.vp_model.specs.Views.{part_of, has_doubt, other_sites, drop_view, start_inviting, hold}
use Rattle.vp_model.specs.Calls.{start_txn, take_lock, read_at, write_at, prepare_parts, prepare_for}
use Rattle.vp_model.specs.Messages.{holds_view, with_part, with_vote, with_new_doubt, with_ended, has_all_locks, accept, on_accept, on_stale, grant, end_here}
use Rattle.vp_model.specs.Step.{fix, mark_calls, ask_again, resend_one, step}
use Rattle.vp_laws.proofs.Lists.Members.{Has, has_none, has_one_is, has_cases, map_has, filter_has, filter_keeps, find_true, any_true, any_false}
use Rattle.vp_laws.proofs.Lists.Changes.{put_has, put_new, put_old}
use Rattle.vp_model.proofs.SameTxn.{same_txn-is, same_txn-turned, same_txn-clash}
use Rattle.vp_laws.proofs.Moves.Frames.{close-ends, decided-ends, decide-cases, judged, take-cases}
use Rattle.vp_laws.proofs.Moves.Table.{Comes, Closed, next_view, lent_at, Requests, Back, SendsBack, Table, AsksAgain}
use Rattle.vp_laws.proofs.Moves.Rows.{step-keeps}
use Rattle.vp_laws.proofs.Moves.LocalViews.{letter}
use Rattle.vp_laws.proofs.Moves.Parts.{part_there, with_part_has, with_part_doubts}

abbrev pub fresh_part : TxnId → ViewId → Part
fresh_part txn view = record { txn = txn; view = view; voted = false }

-- a prepare came for a part of its transaction, which has all the locks
pub record Prepared (x : SiteState) (given : Input) (from : ℕ) (part : Part) (reads : List ℕ) (writes : List (ℕ × Change)) : Type 0 where
  pub view : ViewId
  pub number : ℕ
  pub comes : Comes given from (message.Prepare part.txn view number reads writes)
  pub held : holds_view x view ≡ true
  pub going : has_txn x.ended part.txn ≡ false
  pub certain : has_doubt part.txn x.doubts ≡ false
  pub part_here : Has x.parts part
  pub unvoted : part.voted ≡ false
  pub locks : has_all_locks x.locks part.txn reads writes ≡ true

-- a request for a lock came in the held view, and neither a bar nor another lock forbids it
pub record Granted (x : SiteState) (given : Input) (from : ℕ) (txn : TxnId) (number rec : ℕ) (exclusive : Bool) (stored : Stored) : Type 0 where
  pub view : ViewId
  pub comes : Requests given from txn view number rec exclusive
  pub held : holds_view x view ≡ true
  pub going : has_txn x.ended txn ≡ false
  pub copy : value_at rec x.copies ≡ Some stored
  pub free : conflict rec exclusive txn x.locks ≡ None
  pub opened : is_open x rec ≡ true

-- a part was here, has voted without writes, or is new for a request
pub data PartNow (x : SiteState) (given : Input) (p : Part) : Type 0 where
  still : Has x.parts p → PartNow x given p
  voted : (from : ℕ) (part : Part) (reads : List ℕ) (writes : List (ℕ × Change)) → Prepared x given from part reads writes → is_empty writes ≡ true → record part { voted = true } ≡ p → PartNow x given p
  fresh : (from : ℕ) (txn : TxnId) (number rec : ℕ) (exclusive : Bool) (stored : Stored) (g : Granted x given from txn number rec exclusive stored) → fresh_part txn g.view ≡ p → PartNow x given p

-- a doubt was here, or is new for a prepare
pub data DoubtNow (x : SiteState) (given : Input) (d : Doubt) : Type 0 where
  still : Has x.doubts d → DoubtNow x given d
  fresh : (from : ℕ) (part : Part) (reads : List ℕ) (writes : List (ℕ × Change)) → Prepared x given from part reads writes → is_empty writes ≡ false → (record { txn = part.txn; view = part.view; writes = writes }) ≡ d → DoubtNow x given d

-- an outcome of the transaction came
abbrev pub OutcomeComes : Input → TxnId → Type 0
OutcomeComes given txn = (from : ℕ) × (commit : Bool) × Comes given from (message.Outcome txn commit)

abbrev pub is_reply : Message → Bool
is_reply (message.Vote txn) = true
is_reply (message.Ack txn) = true
is_reply (message.ReadAnswer txn number value) = true
is_reply (message.WriteAnswer txn number) = true
is_reply (message.RefreshAnswer view rec stored) = true
is_reply m = false

-- a prepare of this transaction came in the held view
pub record Answered (x : SiteState) (given : Input) (from : ℕ) (txn : TxnId) : Type 0 where
  pub view : ViewId
  pub number : ℕ
  pub reads : List ℕ
  pub writes : List (ℕ × Change)
  pub comes : Comes given from (message.Prepare txn view number reads writes)
  pub held : holds_view x view ≡ true
  pub going : has_txn x.ended txn ≡ false

-- what a message answers, and what the site has then
pub data ReplyTo (x : SiteState) (given : Input) (p : ParticipantState) (m : Sent) : Type 0 where
  other : is_reply m.message ≡ false → ReplyTo x given p m
  doubt_again : (d : Doubt) → Answered x given m.to d.txn → Has x.doubts d → Has p.doubts d → message.Vote d.txn ≡ m.message → ReplyTo x given p m
  vote_again : (part : Part) → Answered x given m.to part.txn → Has x.parts part → Has p.parts part → part.voted ≡ true → message.Vote part.txn ≡ m.message → ReplyTo x given p m
  vote_reading : (part : Part) (reads : List ℕ) (writes : List (ℕ × Change)) → Prepared x given m.to part reads writes → is_empty writes ≡ true → Has p.parts (record part { voted = true }) → message.Vote part.txn ≡ m.message → ReplyTo x given p m
  vote_writing : (part : Part) (reads : List ℕ) (writes : List (ℕ × Change)) → Prepared x given m.to part reads writes → is_empty writes ≡ false → Has p.doubts (record { txn = part.txn; view = part.view; writes = writes }) → message.Vote part.txn ≡ m.message → ReplyTo x given p m
  acks : (txn : TxnId) → Comes given m.to (message.Outcome txn true) → ((d : Doubt) → Has p.doubts d → d.txn ≢ txn) → message.Ack txn ≡ m.message → ReplyTo x given p m
  read_answer : (txn : TxnId) (number rec : ℕ) (stored : Stored) → Granted x given m.to txn number rec false stored → message.ReadAnswer txn number stored.value ≡ m.message → ReplyTo x given p m
  write_answer : (txn : TxnId) (number rec : ℕ) (stored : Stored) → Granted x given m.to txn number rec true stored → message.WriteAnswer txn number ≡ m.message → ReplyTo x given p m
  refresh_answer : (view : ViewId) (rec : ℕ) (stored : Stored) → Comes given m.to (message.RefreshRequest view rec) → holds_view x view ≡ true → is_doubtful x rec ≡ false → value_at rec x.copies ≡ Some stored → message.RefreshAnswer view rec stored ≡ m.message → ReplyTo x given p m

pub record Shares (x : SiteState) (given : Input) (o : Stepped) : Type 0 where
  pub id : o.site.id ≡ x.id
  pub parts : (p : Part) → Has o.site.parts p → PartNow x given p
  pub doubts : (d : Doubt) → Has o.site.doubts d → DoubtNow x given d
  -- a doubt stays until an outcome comes
  pub stays : (d : Doubt) → Has x.doubts d → Has o.site.doubts d ⊎ OutcomeComes given d.txn
  pub from : (m : Sent) → Has o.effects.messages m → m.from ≡ x.id
  pub replies : (m : Sent) → Has o.effects.messages m → ReplyTo x given o.site.participant m

module _ (catalogue : Catalogue) (x : SiteState) (given : Input) where
  abbrev P : Stepped → Type 0
  P = Shares x given

  starts : P (begin_step x)
  starts = record { id = refl; parts = λ p h. PartNow.still h; doubts = λ d h. DoubtNow.still h; stays = λ d h. inl h; from = λ m h. absurd (has_none m h); replies = λ m h. absurd (has_none m h) }

  more : (o e : Stepped) (ms : List Sent) → e.site.id ≡ o.site.id → e.site.participant ≡ o.site.participant → e.effects.messages ≡ o.effects.messages ++ ms → ((m : Sent) → Has ms m → (m.from ≡ o.site.id) × (is_reply m.message ≡ false)) → P o → P e
  more o e ms i p same quiet l = record {
    id = i ∙ l.id;
    parts = λ a h. l.parts a (rw (ap (λ (p : ParticipantState). p.parts) p) at h);
    doubts = λ a h. l.doubts a (rw (ap (λ (p : ParticipantState). p.doubts) p) at h);
    stays = λ d h. ⊎_elim (λ old. inl (rw (ap (λ (p : ParticipantState). p.doubts) p) old)) (λ c. inr c) (l.stays d h);
    from = λ m h. ⊎_elim (λ old. l.from m old) (λ new. (quiet m new).0 ∙ l.id) (has_cases o.effects.messages ms m (rw same at h));
    replies = λ m h. ⊎_elim (λ old. subst (λ (p : ParticipantState). ReplyTo x given p m) (sym p) (l.replies m old)) (λ new. ReplyTo.other (quiet m new).1) (has_cases o.effects.messages ms m (rw same at h));
  }

  silent : (o e : Stepped) → e.site.id ≡ o.site.id → e.site.participant ≡ o.site.participant → e.effects.messages ≡ o.effects.messages → P o → P e
  silent o e i p same l = more o e [] i p (same ∙ sym (append-nil o.effects.messages)) (λ m h. absurd (has_none m h)) l

  letters_other : (from : ℕ) (message_to : ℕ → Message) (sites : List ℕ) → ((q : ℕ) → is_reply (message_to q) ≡ false) → (m : Sent) → Has (letters from message_to sites) m → (m.from ≡ from) × (is_reply m.message ≡ false)
  letters_other from message_to sites quiet m h = let r = map_has (λ (q : ℕ). letter from q (message_to q)) sites m h in (sym (ap (λ (m : Sent). m.from) r.2), rw (sym (ap (λ (m : Sent). m.message) r.2)) (quiet r.0))

  many : (o e : Stepped) (message_to : ℕ → Message) (sites : List ℕ) → e.site.id ≡ o.site.id → e.site.participant ≡ o.site.participant → e.effects.messages ≡ o.effects.messages ++ letters o.site.id message_to sites → ((q : ℕ) → is_reply (message_to q) ≡ false) → P o → P e
  many o e message_to sites i p same quiet l = more o e (letters o.site.id message_to sites) i p same (letters_other o.site.id message_to sites quiet) l

  one : (o : Stepped) (to : ℕ) (words : Message) → is_reply words ≡ false → o.site.id ≡ x.id → o.site.participant ≡ x.participant → o.effects.messages ≡ letter x.id to words ∷ [] → P o
  one o to words quiet i p ms = many (begin_step x) o (λ q. words) (to ∷ []) i p ms (λ q. quiet) starts

  -- a reply, with other parts and doubts
  replying : (o : Stepped) (p : ParticipantState) (to : ℕ) (words : Message) → o.site.id ≡ x.id → o.site.participant ≡ p → o.effects.messages ≡ letter x.id to words ∷ [] → ((a : Part) → Has p.parts a → PartNow x given a) → ((d : Doubt) → Has p.doubts d → DoubtNow x given d) → ((d : Doubt) → Has x.doubts d → Has p.doubts d ⊎ OutcomeComes given d.txn) → ReplyTo x given p (letter x.id to words) → P o
  replying o p to words i same ms parts doubts stays reply = record {
    id = i;
    parts = λ a h. parts a (rw same at h);
    doubts = λ d h. doubts d (rw same at h);
    stays = λ d h. ⊎_elim (λ old. inl (rw same old)) (λ c. inr c) (stays d h);
    from = λ m h. sym (ap (λ (m : Sent). m.from) (has_one_is (letter x.id to words) m (rw ms at h)));
    replies = λ m h. subst (λ (m : Sent). ReplyTo x given o.site.participant m) (has_one_is (letter x.id to words) m (rw ms at h)) (subst (λ (p : ParticipantState). ReplyTo x given p (letter x.id to words)) (sym same) reply);
  }

  ends_refresh : (r : Refreshing) (own : Stored) (o : Stepped) → P o → P (end_refresh catalogue r own o)
  unfolding end_refresh unlist
  ends_refresh r own o l = silent (judged catalogue r own o) _ refl refl refl (take-cases P catalogue r own o (silent o _ refl refl refl l) l (silent o _ refl refl refl l))

  part_same : (txn : TxnId) (part : Part) → part_of txn x.parts ≡ Some part → part.txn ≡ txn
  part_same txn part e = same_txn-is part.txn txn (find_true (λ (p : Part). same_txn p.txn txn) x.parts part e)

  -- a granted lock
  granted_parts : (from : ℕ) (txn : TxnId) (number rec : ℕ) (exclusive : Bool) (stored : Stored) (g : Granted x given from txn number rec exclusive stored) (a : Part) → Has (with_part txn g.view x.participant).parts a → PartNow x given a
  granted_parts from txn number rec exclusive stored g a h = ⊎_elim
      (λ (new : a ≡ fresh_part txn g.view). PartNow.fresh from txn number rec exclusive stored g (sym new))
      (λ old. PartNow.still old)
      (with_part_has x.participant txn g.view a h)

  grants : (from : ℕ) (txn : TxnId) (number rec : ℕ) (exclusive : Bool) (stored : Stored) (g : Granted x given from txn number rec exclusive stored) (words : Message) → ReplyTo x given (with_part txn g.view x.participant) (letter x.id from words) → P (grant txn g.view rec exclusive words from (begin_step x))
  unfolding grant
  grants from txn number rec exclusive stored g words reply =
      replying _ (with_part txn g.view x.participant) from words refl refl refl (granted_parts from txn number rec exclusive stored g)
      (λ d h. DoubtNow.still (rw (with_part_doubts x.participant txn g.view) at h)) (λ d h. inl (rw (with_part_doubts x.participant txn g.view) h)) reply

  no_such : (txn : TxnId) (d : Doubt) (writes : List (ℕ × Change)) (view : ViewId) → has_doubt txn x.doubts ≡ false → Has x.doubts d → same_txn txn d.txn ≡ false
  no_such txn d writes view e h = let n = any_false (λ (d : Doubt). same_txn d.txn txn) x.doubts e d h in same_txn-turned d.txn txn n

  votes_reading : (from : ℕ) (part : Part) (reads : List ℕ) (writes : List (ℕ × Change)) → Prepared x given from part reads writes → is_empty writes ≡ true → (o : Stepped) → o.site.id ≡ x.id → o.site.participant ≡ with_vote part x.participant → o.effects.messages ≡ letter x.id from (message.Vote part.txn) ∷ [] → P o
  votes_reading from part reads writes p e o i same ms =
      replying o (with_vote part x.participant) from (message.Vote part.txn) i same ms
      (λ a h. ⊎_elim (λ (new : a ≡ record part { voted = true }). PartNow.voted from part reads writes p e (sym new)) (λ old. PartNow.still old)
      (put_has (λ (a : Part) (b : Part). same_txn a.txn b.txn) (λ (a : Part) (b : Part). txn_before a.txn b.txn) (record part { voted = true }) x.parts a h))
      (λ d h. DoubtNow.still h) (λ d h. inl h)
      (ReplyTo.vote_reading part reads writes p e (put_new (λ (a : Part) (b : Part). same_txn a.txn b.txn) (λ (a : Part) (b : Part). txn_before a.txn b.txn) (record part { voted = true }) x.parts) refl)

  votes_writing : (from : ℕ) (part : Part) (reads : List ℕ) (writes : List (ℕ × Change)) → Prepared x given from part reads writes → is_empty writes ≡ false → (o : Stepped) → o.site.id ≡ x.id → o.site.participant ≡ with_new_doubt part writes x.participant → o.effects.messages ≡ letter x.id from (message.Vote part.txn) ∷ [] → P o
  votes_writing from part reads writes p e o i same ms =
      replying o (with_new_doubt part writes x.participant) from (message.Vote part.txn) i same ms
      (λ a h. PartNow.still (filter_has (λ (other : Part). not (same_txn other.txn part.txn)) x.parts a h).0)
      (λ d h. ⊎_elim (λ (new : d ≡ (record { txn = part.txn; view = part.view; writes = writes })). DoubtNow.fresh from part reads writes p e (sym new)) (λ old. DoubtNow.still old)
      (put_has (λ (a : Doubt) (b : Doubt). same_txn a.txn b.txn) (λ (a : Doubt) (b : Doubt). txn_before a.txn b.txn) (record { txn = part.txn; view = part.view; writes = writes }) x.doubts d h))
      (λ d h. inl (put_old (λ (a : Doubt) (b : Doubt). same_txn a.txn b.txn) (λ (a : Doubt) (b : Doubt). txn_before a.txn b.txn) (record { txn = part.txn; view = part.view; writes = writes }) x.doubts d h (no_such part.txn d writes part.view p.certain h)))
      (ReplyTo.vote_writing part reads writes p e (put_new (λ (a : Doubt) (b : Doubt). same_txn a.txn b.txn) (λ (a : Doubt) (b : Doubt). txn_before a.txn b.txn) (record { txn = part.txn; view = part.view; writes = writes }) x.doubts) refl)

  answered_by : (from : ℕ) (txn t : TxnId) (view : ViewId) (number : ℕ) (reads : List ℕ) (writes : List (ℕ × Change)) → Comes given from (message.Prepare txn view number reads writes) → holds_view x view ≡ true → has_txn x.ended txn ≡ false → t ≡ txn → Answered x given from t
  answered_by from txn t view number reads writes c e n same = rw same (record { view = view; number = number; reads = reads; writes = writes; comes = c; held = e; going = n })

  prepared_by : (from : ℕ) (txn : TxnId) (view : ViewId) (number : ℕ) (reads : List ℕ) (writes : List (ℕ × Change)) (part : Part) → Comes given from (message.Prepare txn view number reads writes) → holds_view x view ≡ true → has_txn x.ended txn ≡ false → has_doubt txn x.doubts ≡ false → part_of txn x.parts ≡ Some part → part.voted ≡ false → has_all_locks x.locks part.txn reads writes ≡ true → Prepared x given from part reads writes
  prepared_by from txn view number reads writes part c e n d f v a =
      let same = part_same txn part f in
      record { view = view; number = number; comes = rw same c; held = e; going = rw same n; certain = rw same d; part_here = part_there txn x.parts part f; unvoted = v; locks = a }

  doubts_again : (from : ℕ) (txn : TxnId) (view : ViewId) (number : ℕ) (reads : List ℕ) (writes : List (ℕ × Change)) → Comes given from (message.Prepare txn view number reads writes) → holds_view x view ≡ true → has_txn x.ended txn ≡ false → has_doubt txn x.doubts ≡ true → (o : Stepped) → o.site.id ≡ x.id → o.site.participant ≡ x.participant → o.effects.messages ≡ letter x.id from (message.Vote txn) ∷ [] → P o
  doubts_again from txn view number reads writes c e n d o i same ms =
      let q = any_true (λ (d : Doubt). same_txn d.txn txn) x.doubts d in
      let is = same_txn-is q.0.txn txn q.2 in
      replying o x.participant from (message.Vote txn) i same ms (λ a h. PartNow.still h) (λ d h. DoubtNow.still h) (λ d h. inl h)
      (ReplyTo.doubt_again q.0 (answered_by from txn q.0.txn view number reads writes c e n is) q.1 q.1 (ap (λ (t : TxnId). message.Vote t) is))

  ends_here : (from : ℕ) (txn : TxnId) (commit : Bool) (doubt : Option Doubt) → Comes given from (message.Outcome txn commit) → P (end_here from txn commit doubt (begin_step x))
  unfolding end_here
  ends_here from txn commit doubt c = go commit doubt c
    where
      now : ParticipantState
      now = with_ended (is_some x.held) txn x.participant

      parts : (a : Part) → Has now.parts a → PartNow x given a
      parts a h = PartNow.still (filter_has (λ (part : Part). not (same_txn part.txn txn)) x.parts a h).0

      doubts : (d : Doubt) → Has now.doubts d → DoubtNow x given d
      doubts d h = DoubtNow.still (filter_has (λ (d : Doubt). not (same_txn d.txn txn)) x.doubts d h).0

      stays : (commit : Bool) → Comes given from (message.Outcome txn commit) → (d : Doubt) → Has x.doubts d → Has now.doubts d ⊎ OutcomeComes given d.txn
      stays commit c d h = split (same_txn d.txn txn) refl
        where
          came : Comes given from (message.Outcome txn commit)
          came = c

          split : (b : Bool) → same_txn d.txn txn ≡ b → Has now.doubts d ⊎ OutcomeComes given d.txn
          split true e = inr (from, commit, came ∙ ap (λ (t : TxnId). input.Message from (message.Outcome t commit)) (sym (same_txn-is d.txn txn e)))
          split false e = inl (filter_keeps (λ (d : Doubt). not (same_txn d.txn txn)) x.doubts d h (ap not e))

      gone : (d : Doubt) → Has now.doubts d → d.txn ≢ txn
      gone d h e = let q = (filter_has (λ (d : Doubt). not (same_txn d.txn txn)) x.doubts d h).1 in same_txn-clash d.txn txn q e

      quiet : (o : Stepped) → o.site.id ≡ x.id → o.site.participant ≡ now → o.effects.messages ≡ [] → Comes given from (message.Outcome txn false) → P o
      quiet o i same ms c = record {
        id = i;
        parts = λ a h. parts a (rw same at h);
        doubts = λ d h. doubts d (rw same at h);
        stays = λ d h. ⊎_elim (λ old. inl (rw same old)) (λ e. inr e) (stays false c d h);
        from = λ m h. absurd (has_none m (rw ms at h));
        replies = λ m h. absurd (has_none m (rw ms at h));
      }

      go : (commit : Bool) (doubt : Option Doubt) → Comes given from (message.Outcome txn commit) → P (end_here from txn commit doubt (begin_step x))
      go true None c = replying _ now from (message.Ack txn) refl refl refl parts doubts (stays true c) (ReplyTo.acks txn c gone refl)
      go false None c = quiet _ refl refl refl c
      go true (Some d) c = replying _ now from (message.Ack txn) refl refl refl parts doubts (stays true c) (ReplyTo.acks txn c gone refl)
      go false (Some d) c = quiet _ refl refl refl c

  drops : (l : Lent) → Closed x l → P (put_back (begin_step x) l) → P (drop_view (put_back (begin_step x) l))
  unfolding drop_view
  drops l z p = record {
    id = refl;
    parts = λ a h. absurd (has_none a h);
    doubts = p.doubts;
    stays = p.stays;
    from = p.from;
    replies = λ m h. let q = z.messages m h in ReplyTo.other (rw q.1 refl);
  }

  abbrev K : Lent → Type 0
  K = Back x P

  hushed : (l now : Lent) → now.effects.messages ≡ l.effects.messages → K l → K now
  hushed l now ms q = silent (put_back (begin_step x) l) (put_back (begin_step x) now) refl refl ms q

  asking : (l now : Lent) (message_to : ℕ → Message) (sites : List ℕ) → now.effects.messages ≡ l.effects.messages ++ letters x.id message_to sites → ((q : ℕ) → is_reply (message_to q) ≡ false) → K l → K now
  asking l now message_to sites ms quiet q = many (put_back (begin_step x) l) (put_back (begin_step x) now) message_to sites refl refl ms quiet q

  keeps_writes : (t : Live) (l : Lent) → K l → K (keep_writes catalogue x.id t l)
  unfolding keep_writes
  keeps_writes t l q = hushed l _ refl q

  sent_back : (from : ℕ) (m : Message) → SendsBack x given from m → P (send m from (begin_step x))
  sent_back from _ (SendsBack.answer_refresh view rec stored c e d v) = replying _ x.participant from (message.RefreshAnswer view rec stored) refl refl refl (λ a h. PartNow.still h) (λ d h. DoubtNow.still h) (λ d h. inl h) (ReplyTo.refresh_answer view rec stored c e d v refl)
  sent_back from _ (SendsBack.doubt_again txn view number reads writes c e n d) = doubts_again from txn view number reads writes c e n d _ refl refl refl
  sent_back from _ (SendsBack.vote_again txn view number reads writes part c e n f v) =
      replying _ x.participant from (message.Vote part.txn) refl refl refl (λ a h. PartNow.still h) (λ d h. DoubtNow.still h) (λ d h. inl h)
      (ReplyTo.vote_again part (answered_by from txn part.txn view number reads writes c e n (part_same txn part f)) (part_there txn x.parts part f) (part_there txn x.parts part f) v refl)
  sent_back from m t = one _ from m refl refl refl refl

  again_asks : (o : Stepped) (to : ℕ) (m : Message) → AsksAgain catalogue x given o to m → is_reply m ≡ false
  again_asks o to _ (AsksAgain.refresh view r e h v q) = refl
  again_asks o to m a = refl

  pub table : Table catalogue x given P
  unfolding on_accept on_stale start_inviting accept hold fix ask_again start_refresh start_txn take_lock complete read_at write_at prepare_parts mark_calls resend_one
  table = record {
    sends_back = λ from m t. sent_back from m t;
    asks_again = λ o ms all p. more o _ ms refl refl refl (λ m h. let q = all m h in (q.0, again_asks o m.to m.message q.1)) p;
    drop_view = λ l e z p. drops l z p;
    start_inviting = λ o s left p. many o (start_inviting catalogue (next_view x) o) (λ q. message.Invite (next_view x)) (other_sites catalogue o.site.id) refl refl refl (λ q. refl) p;
    accept = λ from id o c e left p. many o (accept from id o) (λ q. message.Accept id) (from ∷ []) refl refl refl (λ q. refl) p;
    accepted = λ from id c. silent (begin_step x) _ refl refl refl starts;
    seen = λ from id promise c. silent (begin_step x) _ refl refl refl starts;
    hold = λ from id members c e. silent (begin_step x) _ refl refl refl starts;
    heard = λ from view c e. silent (begin_step x) _ refl refl refl starts;
    fix = λ view c e. many (begin_step x) (fix view (begin_step x)) (λ q. message.ViewCommit view.id view.members) (filter (λ q. not (q == x.id)) view.members) refl refl refl (λ q. refl) starts;
    without_wait = λ id c i w. silent (begin_step x) _ refl refl refl starts;
    probe = λ view c e. many (begin_step x) _ (λ q. message.Probe view.id) (other_sites catalogue x.id) refl refl refl (λ q. refl) starts;
    answers_inviting = λ port c s p. silent _ _ refl refl refl p;
    start_refresh = λ view rec o e h p. many o (start_refresh catalogue view rec o) (λ q. message.RefreshRequest view.id rec) (other_holders catalogue o.site rec) refl refl refl (λ q. refl) p;
    end_refresh = λ rec r own o e a d v p. ends_refresh r own o p;
    keep_answer = λ from view rec stored r c e f g. silent (begin_step x) _ refl refl refl starts;
    grant_read = λ from txn view number rec stored c e n v f u.
        let g : Granted x given from txn number rec false stored = record { view = view; comes = Requests.reads c; held = e; going = n; copy = v; free = f; opened = u } in
        grants from txn number rec false stored g (message.ReadAnswer txn number stored.value) (ReplyTo.read_answer txn number rec stored g refl);
    grant_write = λ from txn view number rec stored c e n v f u.
        let g : Granted x given from txn number rec true stored = record { view = view; comes = Requests.writes c; held = e; going = n; copy = v; free = f; opened = u } in
        grants from txn number rec true stored g (message.WriteAnswer txn number) (ReplyTo.write_answer txn number rec stored g refl);
    vote_reading = λ from txn view number reads writes part c e n d f v a w. votes_reading from part reads writes (prepared_by from txn view number reads writes part c e n d f v a) w _ refl refl refl;
    vote_writing = λ from txn view number reads writes part c e n d f v a w. votes_writing from part reads writes (prepared_by from txn view number reads writes part c e n d f v a) w _ refl refl refl;
    end_here = λ from txn commit c. ends_here from txn commit (doubt_of txn x.doubts) c;
    coordinator = record {
      begin = λ port view e g u. hushed (lent_at x) _ refl starts;
      answers = λ words port why y. hushed (lent_at x) _ refl starts;
      take_lock = λ t rec exclusive stored h i a v c. hushed (lent_at x) _ refl starts;
      complete = λ t p deed l h g y e q. hushed l _ refl q;
      read_at = λ t p rec q h n r a w c o y. asking (lent_at x) _ (λ a. message.ReadRequest t.txn t.view p.number rec) (q ∷ []) refl (λ q. refl) starts;
      write_at = λ t p rec value l h n w a e o d y v q. asking l _ (λ a. message.WriteRequest t.txn t.view p.number rec) (other_holders catalogue x rec) refl (λ q. refl) q;
      prepare_parts = λ t p h i g e. asking (lent_at x) _ (prepare_for catalogue t p) t.parts refl (λ q. refl) starts;
      still_waits = λ t p from h e m f c. hushed (lent_at x) _ refl starts;
      decide = λ t n d. decide-cases K catalogue x.id t (lent_at x)
          (λ e. asking (lent_at x) _ (λ q. message.Outcome t.txn true) t.parts (decided-ends x.id t (lent_at x)).messages (λ q. refl) starts)
          (λ e. asking (keep_writes catalogue x.id t (lent_at x)) _ (λ q. message.Outcome t.txn true) t.parts (decided-ends x.id t _).messages (λ q. refl) (keeps_writes t (lent_at x) starts));
      close = λ t why l n a z y q. asking l _ (λ q. message.Outcome t.txn false) t.parts (close-ends x.id t why l).messages (λ q. refl) q;
      mark_calls = λ l c z q. hushed l _ refl q;
      acknowledge = λ from txn c w. hushed (lent_at x) _ refl starts;
    };
    resend_one = λ d o c h p. many o (put_back o (resend_one o.site.id d (lent o))) (λ q. message.Outcome d.txn true) d.waiting refl refl refl (λ q. refl) p;
  }

pub shares-step : (catalogue : Catalogue) (x : SiteState) (given : Input) → Shares x given (step catalogue x given)
shares-step catalogue x given = step-keeps catalogue x given (Shares x given) (table catalogue x given) (starts catalogue x given)
