-- Prepares and votes: a prepare belongs to a live transaction whose commit is pending, and a vote answers a prepare.
use Rattle.std.proofs.Common.{◌≡◌, ◌∙◌, ap, sym, ℕ, Bool, true, false, List, [], ◌∷◌, ◌++◌, map, refl, inl, inr, ⊎_elim, append-nil, subst}
use Rattle.std.specs.Prelude.{Option, Some, None, is_some, ◌==◌, not, filter}
use Rattle.vp_laws.proofs.Moves.Calls.{changes_no_commit, done}
use Rattle.vp_model.specs.Types.{Change, ViewId, TxnId, View, Stored, Message, Sent, Input, Part, Refreshing, Pending, Live, Ending, Doubt}
use Rattle.vp_base.specs.declared.site.Ending.TheVariants.{Committed}
use Rattle.vp_model.specs.Types.answer
use Rattle.vp_model.specs.Types.message
use Rattle.vp_model.specs.Types.input
use Rattle.vp_model.specs.Words.{same_txn, change_first, without_first, for_each, put_number}
use Rattle.vp_model.specs.Catalogue.{Catalogue}
use Rattle.vp_model.specs.Durable.{doubt_of}
use Rattle.vp_model.specs.Site.{CoordinatorState, reply, SiteState, Lent, Stepped, begin_step, lent, put_back, letters, change_views, change_refresh, send}
use Rattle.vp_model.specs.Transactions.{Deed, last_changes, entry_of, keep_writes, complete, wait_for, writes_held}
use Rattle.vp_model.specs.Refresh.{unlist, end_refresh, start_refresh, other_holders}
use Rattle.vp_model.specs.Views.{part_of, other_sites, drop_view, start_inviting, invite, hold}
use Rattle.vp_model.specs.Calls.{begun, start_txn, take_lock, read_at, write_at, prepare_parts, prepare_for, records_read_at}
use Rattle.vp_model.specs.Messages.{with_answer, accept, on_accept, on_stale, with_heard, grant, end_here}
use Rattle.vp_model.specs.Step.{marked_call, without_wait, step, fix, mark, probe_all, mark_calls, ask_again, resend_one}
use Rattle.vp_laws.proofs.Lists.Members.{Has, has_none, has_one_is, has_cases, find_true, map_has}
use Rattle.vp_laws.proofs.Moves.Frames.{Ends, close-ends, decided-ends, decide-cases, judged, take-cases}
use Rattle.vp_laws.proofs.Lists.Changes.{without_first_has}
use Rattle.vp_model.proofs.SameTxn.{same_txn-is}
use Rattle.vp_laws.proofs.Lists.Names.{Apart, named, apart_without, change_cases, apart_change, apart_more, apart_mark}
use Rattle.vp_laws.specs.Votes.{is_commit}
use Rattle.vp_laws.proofs.Moves.Table.{IsOperating, Completes, Comes, next_view, next_name, lent_at, remaining, Back, SendsBack, Table, AsksAgain}
use Rattle.vp_laws.proofs.Moves.Rows.{step-keeps}
use Rattle.vp_laws.proofs.Moves.LocalViews.{letter}
use Rattle.vp_laws.proofs.Table.Led.{Led}
use Rattle.vp_laws.proofs.Lists.Numbers.{one_above}

-- the pending call is the same one, marked or with fewer sites missing
abbrev pub SameCall : Option Pending → Option Pending → Type 0
SameCall before now = (p : Pending) → before ≡ Some p → (q : Pending) × (now ≡ Some q) × (q.call ≡ p.call) × (q.number ≡ p.number)

-- what a live transaction was as the step began
pub data LiveFrom (x : SiteState) (t : Live) : Type 0 where
  same : (u : Live) → Has x.live u → t.txn ≡ u.txn → t.view ≡ u.view → entry_of t ≡ entry_of u → t.remote ≡ u.remote → t.parts ≡ u.parts → SameCall u.pending t.pending → LiveFrom x t
  operating : (u : Live) → Has x.live u → t.txn ≡ u.txn → IsOperating u → LiveFrom x t
  new : t.txn ≡ next_name x → LiveFrom x t

-- the transaction waits for the votes on its commit, and the prepare says what it has done at that part
pub record IsPrepared (catalogue : Catalogue) (t : Live) (to : ℕ) (view : ViewId) (number : ℕ) (reads : List ℕ) (writes : List (ℕ × Change)) : Type 0 where
  pub pending : Pending
  pub waits : t.pending ≡ Some pending
  pub commit : is_commit pending.call ≡ true
  pub numbered : pending.number ≡ number
  pub part : Has t.parts to
  pub in_view : t.view ≡ view
  pub has_read : records_read_at to t.remote ≡ reads
  pub has_written : writes_held catalogue to (last_changes (entry_of t)) ≡ writes

abbrev pub Prepares : Catalogue → List Live → ℕ → Message → Type 0
Prepares catalogue live to (message.Prepare txn view number reads writes) = (t : Live) → Has live t → t.txn ≡ txn → IsPrepared catalogue t to view number reads writes
Prepares catalogue live to m = Unit {0}

-- a vote answers a prepare that came
abbrev pub MayVote : Input → ℕ → Message → Type 0
MayVote given to (message.Vote txn) = (view : ViewId) × (number : ℕ) × (reads : List ℕ) × (writes : List (ℕ × Change)) × Comes given to (message.Prepare txn view number reads writes)
MayVote given to m = Unit {0}

pub record Votes (catalogue : Catalogue) (x : SiteState) (given : Input) (o : Stepped) : Type 0 where
  pub apart : Apart o.site.live
  pub live : (t : Live) → Has o.site.live t → LiveFrom x t
  pub prepares : (m : Sent) → Has o.effects.messages m → Prepares catalogue o.site.live m.to m.message
  pub votes : (m : Sent) → Has o.effects.messages m → (m.from ≡ x.id) × MayVote given m.to m.message
  pub id : o.site.id ≡ x.id

abbrev pub is_still : Message → Bool
is_still (message.Prepare txn view number reads writes) = false
is_still (message.Vote txn) = false
is_still m = true

still_prepares : (catalogue : Catalogue) (live : List Live) (to : ℕ) (m : Message) → is_still m ≡ true → Prepares catalogue live to m
still_prepares catalogue live to (message.Prepare txn view number reads writes) e = cc
still_prepares catalogue live to m e = tt

still_votes : (given : Input) (to : ℕ) (m : Message) → is_still m ≡ true → MayVote given to m
still_votes given to (message.Vote txn) e = cc
still_votes given to m e = tt

-- fewer or other live transactions for which the prepare holds too
prepares_on : (catalogue : Catalogue) (live now : List Live) (to : ℕ) (m : Message) → ((t : Live) → Has now t → (view : ViewId) (number : ℕ) (reads : List ℕ) (writes : List (ℕ × Change)) → ((u : Live) → Has live u → u.txn ≡ t.txn → IsPrepared catalogue u to view number reads writes) → IsPrepared catalogue t to view number reads writes) → Prepares catalogue live to m → Prepares catalogue now to m
prepares_on catalogue live now to (message.Prepare txn view number reads writes) f h = λ t q e. f t q view number reads writes (λ u r g. h u r (g ∙ e))
prepares_on catalogue live now to m f h = tt

pub some_not : (o : Option Pending) (p : Pending) → o ≡ Some p → is_some o ≡ false → ⊥
some_not None p e n = cc
some_not (Some q) p e n = cc

pub operating_not : (o : Option Pending) (p q : Pending) → o ≡ Some p → o ≡ Some q → is_commit p.call ≡ true → is_commit q.call ≡ false → ⊥
operating_not o p q a b c d = let same : p ≡ q = cc in let e = ap (λ (p : Pending). is_commit p.call) same in cc

pub completes_operating : (catalogue : Catalogue) (x : SiteState) (given : Input) (t : Live) (p : Pending) (deed : Deed) (l : Lent) → Completes catalogue x given t p deed l → IsOperating t
completes_operating catalogue x given t p deed l (Completes.own_write rec value next r a v o e) = inl next.idle
completes_operating catalogue x given t p deed l (Completes.own_copy rec stored next r a v c f o e) = inl next.idle
completes_operating catalogue x given t p deed l (Completes.change_again rec before next r a v e) = inl next.idle
completes_operating catalogue x given t p deed l (Completes.change_alone rec next r a v n e) = inl next.idle
completes_operating catalogue x given t p deed l (Completes.read_answered from rec value c last r o e) = inr (p, last.pending, ap is_commit r.words)
completes_operating catalogue x given t p deed l (Completes.change_answered from rec c last r e) = inr (p, last.pending, changes_no_commit catalogue p rec deed r)

module _ (catalogue : Catalogue) (x : SiteState) (given : Input) (led : Led x) (apart : Apart x.live) where
  begins : Votes catalogue x given (begin_step x)
  begins = record {
    apart = apart;
    live = λ t h. LiveFrom.same t h refl refl refl refl refl (λ p e. (p, e, refl, refl));
    prepares = λ m h. absurd (has_none m h);
    votes = λ m h. absurd (has_none m h);
    id = refl;
  }

  -- the same live transactions, or some of them
  fewer : (o e : Stepped) (more : List Sent) → Apart e.site.live → ((t : Live) → Has e.site.live t → Has o.site.live t) → e.site.id ≡ o.site.id → e.effects.messages ≡ o.effects.messages ++ more → ((m : Sent) → Has more m → (m.from ≡ o.site.id) × (is_still m.message ≡ true)) → Votes catalogue x given o → Votes catalogue x given e
  fewer o e more now sub i ms still l = record {
    apart = now;
    live = λ t h. l.live t (sub t h);
    prepares = λ m h. ⊎_elim (λ old. prepares_on catalogue o.site.live e.site.live m.to m.message (λ t q view number reads writes f. f t (sub t q) refl) (l.prepares m old)) (λ new. still_prepares catalogue e.site.live m.to m.message (still m new).1) (has_cases o.effects.messages more m (rw ms at h));
    votes = λ m h. ⊎_elim (λ old. l.votes m old) (λ new. ((still m new).0 ∙ l.id, still_votes given m.to m.message (still m new).1)) (has_cases o.effects.messages more m (rw ms at h));
    id = i ∙ l.id;
  }

  alike : (o e : Stepped) (more : List Sent) → e.site.live ≡ o.site.live → e.site.id ≡ o.site.id → e.effects.messages ≡ o.effects.messages ++ more → ((m : Sent) → Has more m → (m.from ≡ o.site.id) × (is_still m.message ≡ true)) → Votes catalogue x given o → Votes catalogue x given e
  alike o e more live i ms still l = fewer o e more (subst Apart (sym live) l.apart) (λ t h. rw live at h) i ms still l

  silent : (o e : Stepped) → e.site.live ≡ o.site.live → e.site.id ≡ o.site.id → e.effects.messages ≡ o.effects.messages → Votes catalogue x given o → Votes catalogue x given e
  silent o e live i ms l = alike o e [] live i (ms ∙ sym (append-nil o.effects.messages)) (λ m h. absurd (has_none m h)) l

  letters_still : (from : ℕ) (message_to : ℕ → Message) (sites : List ℕ) → ((q : ℕ) → is_still (message_to q) ≡ true) → (m : Sent) → Has (letters from message_to sites) m → (m.from ≡ from) × (is_still m.message ≡ true)
  letters_still from message_to sites still m h =
      let r = map_has (λ (q : ℕ). letter from q (message_to q)) sites m h in (sym (ap (λ (m : Sent). m.from) r.2), rw (sym (ap (λ (m : Sent). m.message) r.2)) (still r.0))

  letter_still : (from to : ℕ) (words : Message) → is_still words ≡ true → (m : Sent) → Has (letter from to words ∷ []) m → (m.from ≡ from) × (is_still m.message ≡ true)
  letter_still from to words still m h = let e = has_one_is (letter from to words) m h in (sym (ap (λ (m : Sent). m.from) e), rw (sym (ap (λ (m : Sent). m.message) e)) still)

  one : (o : Stepped) (to : ℕ) (words : Message) → is_still words ≡ true → o.site.live ≡ x.live → o.site.id ≡ x.id → o.effects.messages ≡ letter x.id to words ∷ [] → Votes catalogue x given o
  one o to words still live i ms = alike (begin_step x) o (letter x.id to words ∷ []) live i ms (letter_still x.id to words still) begins

  abbrev K : Lent → Type 0
  K = Back x (Votes catalogue x given)

  -- a vote on a prepare that came
  voted : (o : Stepped) (from : ℕ) (txn t : TxnId) (view : ViewId) (number : ℕ) (reads : List ℕ) (writes : List (ℕ × Change)) → Comes given from (message.Prepare txn view number reads writes) → t ≡ txn → o.site.live ≡ x.live → o.site.id ≡ x.id → o.effects.messages ≡ letter x.id from (message.Vote t) ∷ [] → Votes catalogue x given o
  voted o from txn t view number reads writes c e live i ms = record {
    apart = subst Apart (sym live) apart;
    live = λ u h. begins.live u (rw live at h);
    prepares = λ m h. let q = has_one_is (letter x.id from (message.Vote t)) m (rw ms at h) in subst (λ (m : Sent). Prepares catalogue o.site.live m.to m.message) q tt;
    votes = λ m h. let q = has_one_is (letter x.id from (message.Vote t)) m (rw ms at h) in subst (λ (m : Sent). (m.from ≡ x.id) × MayVote given m.to m.message) q (refl, (view, number, reads, writes, c ∙ ap (λ u. input.Message from (message.Prepare u view number reads writes)) (sym e)));
    id = i;
  }

  -- a transaction that was doing an operation, or nothing, moves on
  put_on : (t u : Live) (o e : Stepped) (more : List Sent) → Has x.live u → IsOperating u → t.txn ≡ u.txn → o.site.live ≡ x.live → e.site.live ≡ change_first (named t.txn) (λ (a : Live). t) o.site.live → e.site.id ≡ o.site.id → e.effects.messages ≡ o.effects.messages ++ more → ((m : Sent) → Has more m → (m.from ≡ o.site.id) × (is_still m.message ≡ true)) → Votes catalogue x given o → Votes catalogue x given e
  put_on t u o e more h idle name was now i ms still l = record {
    apart = subst Apart (sym now) (apart_change t o.site.live l.apart);
    live = λ a q. ⊎_elim (λ (at : a ≡ t). LiveFrom.operating u h (ap (λ (t : Live). t.txn) at ∙ name) idle) (λ old. l.live a old.0) (change_cases t o.site.live l.apart a (rw now at q));
    prepares = λ m k. ⊎_elim (λ old. prepares_on catalogue o.site.live e.site.live m.to m.message (λ a q view number reads writes f. carried m.to a q view number reads writes f) (l.prepares m old)) (λ new. still_prepares catalogue e.site.live m.to m.message (still m new).1) (has_cases o.effects.messages more m (rw ms at k));
    votes = λ m k. ⊎_elim (λ old. l.votes m old) (λ new. ((still m new).0 ∙ l.id, still_votes given m.to m.message (still m new).1)) (has_cases o.effects.messages more m (rw ms at k));
    id = i ∙ l.id;
  }
    where
      not_waiting : (view : ViewId) (number : ℕ) (reads : List ℕ) (writes : List (ℕ × Change)) (to : ℕ) → IsPrepared catalogue u to view number reads writes → ⊥
      not_waiting view number reads writes to q = ⊎_elim (λ none. absurd (some_not u.pending q.pending q.waits none)) (λ doing. absurd (let a = q.waits in let b = doing.1 in let c = q.commit in let d = doing.2 in operating_not u.pending q.pending doing.0 a b c d)) idle

      carried : (to : ℕ) (a : Live) → Has e.site.live a → (view : ViewId) (number : ℕ) (reads : List ℕ) (writes : List (ℕ × Change)) → ((b : Live) → Has o.site.live b → b.txn ≡ a.txn → IsPrepared catalogue b to view number reads writes) → IsPrepared catalogue a to view number reads writes
      carried to a q view number reads writes f =
          ⊎_elim (λ (at : a ≡ t). absurd (not_waiting view number reads writes to (f u (rw was h) (sym name ∙ ap (λ (t : Live). t.txn) (sym at)))))
          (λ old. f a old.0 refl) (change_cases t o.site.live l.apart a (rw now at q))

  -- the commit is pending now, and each part is asked
  prepares_parts : (t : Live) (p : Pending) → Has x.live t → is_some t.pending ≡ false → is_commit p.call ≡ true → K (prepare_parts catalogue x.id t p (lent_at x))
  unfolding prepare_parts
  prepares_parts t p h idle commit = record {
    apart = moved.apart;
    live = moved.live;
    prepares = λ m k. let r = map_has (λ (q : ℕ). letter x.id q (prepare_for catalogue t p q)) t.parts m k in subst (λ (m : Sent). Prepares catalogue (prepare_parts catalogue x.id t p (lent_at x)).live m.to m.message) r.2 (λ a q e. ready r.0 r.1 a q e);
    votes = λ m k. let r = map_has (λ (q : ℕ). letter x.id q (prepare_for catalogue t p q)) t.parts m k in subst (λ (m : Sent). (m.from ≡ x.id) × MayVote given m.to m.message) r.2 (refl, tt);
    id = refl;
  }
    where
      now : Live
      now = record t { pending = Some (record p { missing = t.parts }) }

      waiting : Stepped
      waiting = put_back (begin_step x) (wait_for t p t.parts (lent_at x))

      moved : Votes catalogue x given waiting
      moved = put_on now t (begin_step x) waiting [] h (inl idle) refl refl refl refl refl (λ m k. absurd (has_none m k)) begins

      ready : (to : ℕ) → Has t.parts to → (a : Live) → Has waiting.site.live a → a.txn ≡ t.txn → IsPrepared catalogue a to t.view p.number (records_read_at to t.remote) (writes_held catalogue to (last_changes (entry_of t)))
      ready to part a q e = ⊎_elim (λ (at : a ≡ now). subst (λ (a : Live). IsPrepared catalogue a to t.view p.number (records_read_at to t.remote) (writes_held catalogue to (last_changes (entry_of t)))) (sym at) (record {
        pending = record p { missing = t.parts };
        waits = refl;
        commit = commit;
        numbered = refl;
        part = part;
        in_view = refl;
        has_read = refl;
        has_written = refl;
      })) (λ old. absurd (old.1 e)) (change_cases now x.live apart a q)

  -- the same call, with other sites missing
  waits_on : (t : Live) (p : Pending) (missing : List ℕ) → Has x.live t → t.pending ≡ Some p → K (wait_for t p missing (lent_at x))
  waits_on t p missing h e = record {
    apart = apart_change now x.live apart;
    live = λ a q. ⊎_elim (λ (at : a ≡ now). subst (LiveFrom x) (sym at) (LiveFrom.same t h refl refl refl refl refl (λ o f. let is : p ≡ o = cc in (record p { missing = missing }, refl, ap (λ (p : Pending). p.call) is, ap (λ (p : Pending). p.number) is)))) (λ old. begins.live a old.0) (change_cases now x.live apart a q);
    prepares = λ m k. absurd (has_none m k);
    votes = λ m k. absurd (has_none m k);
    id = refl;
  }
    where
      now : Live
      now = record t { pending = Some (record p { missing = missing }) }

  marked_call-same : (o : Option Pending) → SameCall o (marked_call o)
  marked_call-same None p e = cc
  marked_call-same (Some q) p e = let is : q ≡ p = cc in (record q { marked = true }, refl, ap (λ (p : Pending). p.call) is, ap (λ (p : Pending). p.number) is)

  SameCall-trans : (a b c : Option Pending) → SameCall a b → SameCall b c → SameCall a c
  SameCall-trans a b c f g p e = let q = f p e in let r = g q.0 q.1 in (r.0, r.1, r.2 ∙ q.2, r.3 ∙ q.3)

  mark_from : (t : Live) → LiveFrom x t → LiveFrom x (mark t)
  mark_from t (LiveFrom.same u h n v o r p c) = LiveFrom.same u h n v o r p (SameCall-trans u.pending t.pending (marked_call t.pending) c (marked_call-same t.pending))
  mark_from t (LiveFrom.operating u h n i) = LiveFrom.operating u h n i
  mark_from t (LiveFrom.new n) = LiveFrom.new n

  mark_prepared : (t : Live) (to : ℕ) (view : ViewId) (number : ℕ) (reads : List ℕ) (writes : List (ℕ × Change)) → IsPrepared catalogue t to view number reads writes → IsPrepared catalogue (mark t) to view number reads writes
  mark_prepared t to view number reads writes q =
      let r = marked_call-same t.pending q.pending q.waits in
      record { pending = r.0; waits = r.1; commit = ap is_commit r.2 ∙ q.commit; numbered = r.3 ∙ q.numbered; part = q.part; in_view = q.in_view; has_read = q.has_read; has_written = q.has_written }

  marks : (l : Lent) → K l → K (mark_calls l)
  unfolding mark_calls
  marks l q = record {
    apart = apart_mark l.live q.apart;
    live = λ t h. let r = map_has mark l.live t h in subst (LiveFrom x) r.2 (mark_from r.0 (q.live r.0 r.1));
    prepares = λ m h. prepares_on catalogue l.live (map mark l.live) m.to m.message
        (λ t k view number reads writes f. let r = map_has mark l.live t k in subst (λ (t : Live). IsPrepared catalogue t m.to view number reads writes) r.2 (mark_prepared r.0 m.to view number reads writes (f r.0 r.1 (ap (λ (t : Live). t.txn) r.2)))) (q.prepares m h);
    votes = q.votes;
    id = refl;
  }

  hushed : (l now : Lent) → now.live ≡ l.live → now.effects.messages ≡ l.effects.messages → K l → K now
  hushed l now v ms q = silent (put_back (begin_step x) l) (put_back (begin_step x) now) v refl ms q

  ends : (t : Live) (why : Ending) (commit : Bool) (l now : Lent) → Ends x.id t why commit l now → K l → K now
  ends t why commit l now e q =
      let live : now.live ≡ without_first (named t.txn) l.live = ap (λ (c : CoordinatorState). c.live) e.coordinator in
      fewer (put_back (begin_step x) l) (put_back (begin_step x) now) _ (subst Apart (sym live) (apart_without t.txn l.live q.apart)) (λ a h. without_first_has (named t.txn) l.live a (rw live at h)) refl e.messages (letters_still x.id (λ q. message.Outcome t.txn commit) t.parts (λ q. refl)) q

  keeps_writes : (t : Live) (l : Lent) → K l → K (keep_writes catalogue x.id t l)
  unfolding keep_writes
  keeps_writes t l q = hushed l _ refl refl q

  -- the new name is one_above all others
  not_named : (t : Live) → Has x.live t → t.txn ≡ next_name x → ⊥
  not_named t h e = one_above t.txn.seq x.seq (led.names t h).2 (ap (λ (t : TxnId). t.seq) e)

  begins_one : (port : ℕ) (view : View) → K (start_txn (next_name x) port view.id (lent_at x))
  unfolding start_txn
  begins_one port view = record {
    apart = apart_more (begun (next_name x) view.id) x.live apart not_named;
    live = λ t h. ⊎_elim (λ old. begins.live t old) (λ new. LiveFrom.new (ap (λ (t : Live). t.txn) (sym (has_one_is (begun (next_name x) view.id) t new)))) (has_cases x.live (begun (next_name x) view.id ∷ []) t h);
    prepares = λ m k. absurd (has_none m k);
    votes = λ m k. absurd (has_none m k);
    id = refl;
  }

  part_same : (txn : TxnId) (part : Part) → part_of txn x.parts ≡ Some part → part.txn ≡ txn
  part_same txn part e = same_txn-is part.txn txn (find_true (λ (p : Part). same_txn p.txn txn) x.parts part e)

  starts_refresh : (view : View) (rec : ℕ) (o : Stepped) → Votes catalogue x given o → Votes catalogue x given (start_refresh catalogue view rec o)
  unfolding start_refresh
  starts_refresh view rec o l = alike o _ (letters o.site.id (λ q. message.RefreshRequest view.id rec) (other_holders catalogue o.site rec)) refl refl refl (letters_still o.site.id (λ q. message.RefreshRequest view.id rec) (other_holders catalogue o.site rec) (λ q. refl)) l

  ends_refresh : (r : Refreshing) (own : Stored) (o : Stepped) → Votes catalogue x given o → Votes catalogue x given (end_refresh catalogue r own o)
  unfolding end_refresh unlist
  ends_refresh r own o l = silent (judged catalogue r own o) _ refl refl refl (take-cases (Votes catalogue x given) catalogue r own o (silent o _ refl refl refl l) l (silent o _ refl refl refl l))

  ends_here : (from : ℕ) (txn : TxnId) (commit : Bool) (doubt : Option Doubt) → Votes catalogue x given (end_here from txn commit doubt (begin_step x))
  unfolding end_here
  ends_here from txn true None = one _ from (message.Ack txn) refl refl refl refl
  ends_here from txn false None = silent (begin_step x) _ refl refl refl begins
  ends_here from txn true (Some d) = one _ from (message.Ack txn) refl refl refl refl
  ends_here from txn false (Some d) = silent (begin_step x) _ refl refl refl begins

  sent_back : (from : ℕ) (m : Message) → SendsBack x given from m → Votes catalogue x given (send m from (begin_step x))
  sent_back from _ (SendsBack.doubt_again txn view number reads writes c e n d) = voted _ from txn txn view number reads writes c refl refl refl refl
  sent_back from _ (SendsBack.vote_again txn view number reads writes part c e n f v) = voted _ from txn part.txn view number reads writes c (part_same txn part f) refl refl refl
  sent_back from m t = one _ from m refl refl refl refl

  again_still : (o : Stepped) (to : ℕ) (m : Message) → AsksAgain catalogue x given o to m → is_still m ≡ true
  again_still o to _ (AsksAgain.refresh view r e h v q) = refl
  again_still o to m a = refl

  pub table : Table catalogue x given (Votes catalogue x given)
  unfolding on_accept on_stale start_txn take_lock read_at write_at complete grant drop_view start_inviting accept hold fix ask_again resend_one
  table = record {
    sends_back = λ from m t. sent_back from m t;
    asks_again = λ o ms all p. alike o _ ms refl refl refl (λ m h. let q = all m h in (q.0, again_still o m.to m.message q.1)) p;
    drop_view = λ l e z p. silent (put_back (begin_step x) l) (drop_view (put_back (begin_step x) l)) refl refl refl p;
    start_inviting = λ o s left l. alike o (start_inviting catalogue (next_view x) o) (letters o.site.id (λ q. message.Invite (next_view x)) (other_sites catalogue o.site.id)) refl refl refl (letters_still o.site.id (λ q. message.Invite (next_view x)) (other_sites catalogue o.site.id) (λ q. refl)) l;
    accept = λ from id o c e left l. alike o (accept from id o) (letter o.site.id from (message.Accept id) ∷ []) refl refl refl (letter_still o.site.id from (message.Accept id) refl) l;
    accepted = λ from id c. silent (begin_step x) (on_accept from id (begin_step x)) refl refl refl begins;
    seen = λ from id promise c. silent (begin_step x) (on_stale promise (begin_step x)) refl refl refl begins;
    hold = λ from id members c e. silent (begin_step x) (hold (record { id = id; members = members }) (begin_step x)) refl refl refl begins;
    heard = λ from view c e. silent (begin_step x) (change_views (with_heard from) (begin_step x)) refl refl refl begins;
    fix = λ view c e. alike (begin_step x) (fix view (begin_step x)) (letters x.id (λ q. message.ViewCommit view.id view.members) (filter (λ q. not (q == x.id)) view.members)) refl refl refl (letters_still x.id (λ q. message.ViewCommit view.id view.members) (filter (λ q. not (q == x.id)) view.members) (λ q. refl)) begins;
    without_wait = λ id c i w. silent (begin_step x) (change_views without_wait (begin_step x)) refl refl refl begins;
    probe = λ view c e. alike (begin_step x) (probe_all catalogue view (begin_step x)) (letters x.id (λ q. message.Probe view.id) (other_sites catalogue x.id)) refl refl refl (letters_still x.id (λ q. message.Probe view.id) (other_sites catalogue x.id) (λ q. refl)) begins;
    start_refresh = λ view rec o e h l. starts_refresh view rec o l;
    end_refresh = λ rec r own o e a d v l. ends_refresh r own o l;
    keep_answer = λ from view rec stored r c e f g. silent (begin_step x) (change_refresh (map (with_answer rec from stored)) (begin_step x)) refl refl refl begins;
    grant_read = λ from txn view number rec stored c e n v f u. one (grant txn view rec false (message.ReadAnswer txn number stored.value) from (begin_step x)) from (message.ReadAnswer txn number stored.value) refl refl refl refl;
    grant_write = λ from txn view number rec stored c e n v f u. one (grant txn view rec true (message.WriteAnswer txn number) from (begin_step x)) from (message.WriteAnswer txn number) refl refl refl refl;
    vote_reading = λ from txn view number reads writes part c e n d f v a w. voted _ from txn part.txn view number reads writes c (part_same txn part f) refl refl refl;
    vote_writing = λ from txn view number reads writes part c e n d f v a w. voted _ from txn part.txn view number reads writes c (part_same txn part f) refl refl refl;
    end_here = λ from txn commit c. ends_here from txn commit (doubt_of txn x.doubts);
    coordinator = record {
      begin = λ port view e g u. begins_one port view;
      answers = λ words port why y. hushed (lent_at x) _ refl refl begins;
      take_lock = λ t rec exclusive stored h i a v c. hushed (lent_at x) _ refl refl begins;
      complete = λ t p deed l h g y e q. put_on (done t p deed) t (put_back (begin_step x) l) (put_back (begin_step x) (complete t p deed l)) [] h (completes_operating catalogue x given t p deed l g) refl e refl refl (sym (append-nil l.effects.messages)) (λ m k. absurd (has_none m k)) q;
      read_at = λ t p rec q h n r a w c o y. put_on (record t { remote = t.remote ++ (q, rec) ∷ []; parts = put_number q t.parts; pending = Some (record p { missing = q ∷ [] }) }) t (begin_step x) (put_back (begin_step x) (read_at x.id t p rec q (lent_at x))) (letter x.id q (message.ReadRequest t.txn t.view p.number rec) ∷ []) h (inl n.idle) refl refl refl refl refl (letter_still x.id q (message.ReadRequest t.txn t.view p.number rec) refl) begins;
      write_at = λ t p rec value l h n w a e o d y v q. put_on (record t { parts = for_each (other_holders catalogue x rec) put_number t.parts; pending = Some (record p { missing = other_holders catalogue x rec }) }) t (put_back (begin_step x) l) (put_back (begin_step x) (write_at x.id t p rec (other_holders catalogue x rec) l)) (letters x.id (λ q. message.WriteRequest t.txn t.view p.number rec) (other_holders catalogue x rec)) h (inl n.idle) refl v refl refl refl (letters_still x.id (λ q. message.WriteRequest t.txn t.view p.number rec) (other_holders catalogue x rec) (λ q. refl)) q;
      prepare_parts = λ t p h i g e. prepares_parts t p h i.idle g;
      still_waits = λ t p from h e m f c. waits_on t p (remaining from p) h e;
      decide = λ t n d. decide-cases K catalogue x.id t (lent_at x) (λ e. ends t Committed true _ _ (decided-ends x.id t (lent_at x)) begins) (λ e. ends t Committed true _ _ (decided-ends x.id t _) (keeps_writes t (lent_at x) begins));
      close = λ t why l n a z y q. ends t why false l _ (close-ends x.id t why l) q;
      mark_calls = λ l c z q. marks l q;
      acknowledge = λ from txn c w. hushed (lent_at x) _ refl refl begins;
    };
    answers_inviting = λ port c s l. silent (invite catalogue (begin_step x)) (reply (answer.Inviting (next_view x)) port (invite catalogue (begin_step x))) refl refl refl l;
    resend_one = λ d o c h l. alike o (put_back o (resend_one o.site.id d (lent o))) (letters o.site.id (λ q. message.Outcome d.txn true) d.waiting) refl refl refl (letters_still o.site.id (λ q. message.Outcome d.txn true) d.waiting (λ q. refl)) l;
  }

pub votes-step : (catalogue : Catalogue) (x : SiteState) (given : Input) → Led x → Apart x.live → Votes catalogue x given (step catalogue x given)
votes-step catalogue x given led apart = step-keeps catalogue x given (Votes catalogue x given) (table catalogue x given led apart) (begins catalogue x given led apart)
