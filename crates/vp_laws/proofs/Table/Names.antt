-- The names of transactions and views that are in a site and in what it sends: a step makes no names but those that it has or is
-- given.
use Rattle.std.proofs.Common.{◌≡◌, ◌∙◌, ap, sym, subst, ℕ, Bool, true, false, cond, List, [], ◌∷◌, ◌++◌, map, refl, arith, ⊎_elim, append-nil}
use Rattle.std.specs.List.{AllByRecursion}
use Rattle.std.specs.Prelude.{Option, Some, None, is_some, nat_lt, ◌&&◌, ◌||◌, ◌==◌, not, option_map, filter, fold}
use Rattle.vp_model.specs.Types.{Change, ViewId, TxnId, View, Stored, Owner, Obstacle, Message, Sent, Input, Lock, Part, Refreshing, Pending, Live, Ending, Doubt, Decision}
use Rattle.vp_base.specs.declared.site.Ending.TheVariants.{Committed}
use Rattle.vp_model.specs.Types.owner
use Rattle.vp_model.specs.Types.log_record
use Rattle.vp_model.specs.Types.message
use Rattle.vp_model.specs.Types.obstacle
use Rattle.vp_model.specs.Words.{has_txn, same_owner, owner_before, for_each, put_txn, is_empty, same_txn, txn_before, value_at, put_at, view_before, is_view, replace_at}
use Rattle.vp_model.specs.Catalogue.{Catalogue}
use Rattle.vp_model.specs.Durable.{doubt_of, put_decision, with_decision, acknowledged, with_writes}
use Rattle.vp_model.specs.Locks.{raised, holds, with_lock, without_owner, lesser, least_owner, conflicting, conflict}
use Rattle.vp_model.specs.Site.{Here, ViewState, CoordinatorState, send, change_participant, change_refresh, SiteState, Lent, Stepped, begin_step, lent, put_back, letters, force}
use Rattle.vp_model.specs.Transactions.{last_changes, entry_of, writing_parts, keep_writes, complete, writes_held}
use Rattle.vp_model.specs.Refresh.{newer, refreshing_of, newest, unlist, end_refresh, start_refresh, other_holders}
use Rattle.vp_model.specs.Views.{outlasts, with_view, other_sites, drop_view, start_inviting, hold}
use Rattle.vp_model.specs.Calls.{start_txn, take_lock, read_at, write_at, prepare_parts, prepare_for}
use Rattle.vp_model.specs.Answers.{with_acknowledged}
use Rattle.vp_model.specs.Messages.{with_accepted, with_seen, holds_view, accept, on_accept, on_stale, with_heard, with_vote, with_new_doubt, with_ended, with_answer, grant, end_here}
use Rattle.vp_model.specs.Step.{step, with_monitor, fix, without_wait, probe_all, mark_calls, resend_one, known}
use Rattle.vp_laws.proofs.Lists.Members.{Has, has_first, has_more, has_none, has_one_is, has_cases, filter_has, find_has, map_has, both_true}
use Rattle.vp_laws.proofs.Lists.Views.{is_view_is, same_is}
use Rattle.vp_laws.proofs.Lists.Changes.{put_has, replace_has, writes_has, value_has}
use Rattle.vp_laws.proofs.Moves.Frames.{Ends, close-ends, decided-ends, decide-cases, judged, take-cases}
use Rattle.vp_laws.proofs.Moves.Table.{Comes, next_view, lent_at, Requests, Asks, Handled, Back, SendsBack, Table, AsksAgain}
use Rattle.vp_laws.proofs.Moves.Rows.{step-keeps}
use Rattle.vp_laws.proofs.Moves.LocalViews.{letter, Tidy}
use Rattle.vp_laws.proofs.Moves.Parts.{part_there, with_part_has, with_part_doubts, with_part_ended}
use Rattle.vp_laws.proofs.Table.Led.{Led}

-- the names of transactions, and of views, that stand in a message
abbrev pub txns_of : Owner → List TxnId
txns_of (owner.Txn txn) = txn ∷ []
txns_of owner.Refresh = []

abbrev pub names_of : TxnId → Obstacle → List TxnId × List ViewId
names_of t (obstacle.Held holder) = (t ∷ txns_of holder, [])
names_of t (obstacle.Barred inside total) = (t ∷ [], [])
names_of t (obstacle.OtherView None) = (t ∷ [], [])
names_of t (obstacle.OtherView (Some v)) = (t ∷ [], v ∷ [])

abbrev pub names_in : Message → List TxnId × List ViewId
names_in (message.Invite i) = ([], [])
names_in (message.Accept i) = ([], [])
names_in (message.Stale i w) = ([], [])
names_in (message.ViewCommit i ms) = ([], [])
names_in (message.ReadRequest t v n r) = (t ∷ [], v ∷ [])
names_in (message.ReadAnswer t n value) = (t ∷ [], [])
names_in (message.WriteRequest t v n r) = (t ∷ [], v ∷ [])
names_in (message.WriteAnswer t n) = (t ∷ [], [])
names_in (message.Refuse t n why) = names_of t why
names_in (message.Prepare t v n r w) = (t ∷ [], v ∷ [])
names_in (message.Vote t) = (t ∷ [], [])
names_in (message.Outcome t c) = (t ∷ [], [])
names_in (message.Ack t) = (t ∷ [], [])
names_in (message.Inquire t) = (t ∷ [], [])
names_in (message.RefreshRequest v r) = ([], v ∷ [])
names_in (message.RefreshAnswer v r stored) = ([], v ∷ stored.date ∷ [])
names_in (message.Probe v) = ([], v ∷ [])

module _ (N : TxnId → Type 0) (A : ViewId → Type 0) where
  abbrev pub OwnerNamed : Owner → Type 0
  OwnerNamed (owner.Txn txn) = N txn
  OwnerNamed owner.Refresh = Unit {0}

  abbrev pub Named : Message → Type 0
  Named m = AllByRecursion N (names_in m).0 × AllByRecursion A (names_in m).1

  pub record Names (s : SiteState) : Type 0 where
    pub held : (v : View) → s.held ≡ Some v → A v.id
    pub parts : (p : Part) → Has s.parts p → N p.txn × A p.view
    pub doubts : (d : Doubt) → Has s.doubts d → N d.txn × A d.view
    pub ended : (t : TxnId) → Has s.ended t → N t
    pub decisions : (d : Decision) → Has s.decisions d → N d.txn
    pub locks : (l : Lock) → Has s.locks l → OwnerNamed l.owner
    pub copies : (c : ℕ × Stored) → Has s.copies c → A c.1.date
    pub answers : (r : Refreshing) (a : ℕ × Stored) → Has s.refresh r → Has r.answers a → A a.1.date

  pub record Calls (o : Stepped) : Type 0 where
    pub names : Names o.site
    pub sent : (m : Sent) → Has o.effects.messages m → Named m.message

  -- lists of owners
  raised-owner : (rec : ℕ) (exclusive : Bool) (owner : Owner) (l : Lock) → (raised rec exclusive owner l).owner ≡ l.owner
  raised-owner rec exclusive owner l = grind arith

  along : (l : Lock) (o : Owner) → l.owner ≡ o → OwnerNamed o → OwnerNamed l.owner
  along l o e h = subst OwnerNamed (sym e) h

  pub lock_named : (rec : ℕ) (exclusive : Bool) (owner : Owner) (locks : List Lock) → OwnerNamed owner → ((l : Lock) → Has locks l → OwnerNamed l.owner) → (l : Lock) → Has (with_lock rec exclusive owner locks) l → OwnerNamed l.owner
  lock_named rec exclusive owner locks mine all l h = go (holds rec false owner locks) h
    where
      go : (b : Bool) → Has (cond b (map (raised rec exclusive owner) locks) (locks ++ (record { rec = rec; exclusive = exclusive; owner = owner }) ∷ [])) l → OwnerNamed l.owner
      go true q = let r = map_has (raised rec exclusive owner) locks l q in along l r.0.owner (sym (ap (λ (l : Lock). l.owner) r.2) ∙ raised-owner rec exclusive owner r.0) (all r.0 r.1)
      go false q = ⊎_elim (λ old. all l old) (λ new. along l owner (sym (ap (λ (l : Lock). l.owner) (has_one_is (record { rec = rec; exclusive = exclusive; owner = owner }) l new))) mine) (has_cases locks ((record { rec = rec; exclusive = exclusive; owner = owner }) ∷ []) l q)

  pub without_named : (owner : Owner) (locks : List Lock) → ((l : Lock) → Has locks l → OwnerNamed l.owner) → (l : Lock) → Has (without_owner owner locks) l → OwnerNamed l.owner
  without_named owner locks all l h = all l (filter_has (λ (lock : Lock). not (same_owner lock.owner owner)) locks l h).0

  least_from : (best : Option Owner) (locks : List Lock) (holder : Owner) → ((o : Owner) → best ≡ Some o → OwnerNamed o) → ((l : Lock) → Has locks l → OwnerNamed l.owner) → fold (λ (best : Option Owner) (lock : Lock). Some (lesser best lock.owner)) best locks ≡ Some holder → OwnerNamed holder
  least_from best [] holder mine all e = mine holder e
  least_from best (lock ∷ locks) holder mine all e =
      least_from (Some (lesser best lock.owner)) locks holder (λ o f. now best mine o f) (λ l h. all l (has_more lock locks l h)) e
    where
      chosen : (b : Bool) (other o : Owner) → OwnerNamed other → Some (cond b lock.owner other) ≡ Some o → OwnerNamed o
      chosen true other o h q = let same : lock.owner ≡ o = cc in subst OwnerNamed same (all lock (has_first lock locks))
      chosen false other o h q = let same : other ≡ o = cc in subst OwnerNamed same h

      now : (best : Option Owner) → ((o : Owner) → best ≡ Some o → OwnerNamed o) → (o : Owner) → Some (lesser best lock.owner) ≡ Some o → OwnerNamed o
      now None mine o f = let same : lock.owner ≡ o = cc in subst OwnerNamed same (all lock (has_first lock locks))
      now (Some other) mine o f = chosen (owner_before lock.owner other) other o (mine other refl) f

  least_named : (locks : List Lock) (holder : Owner) → ((l : Lock) → Has locks l → OwnerNamed l.owner) → least_owner locks ≡ Some holder → OwnerNamed holder
  least_named locks holder all e = least_from None locks holder (λ o f. absurd (let g = f in cc)) all e

  pub conflict_named : (rec : ℕ) (exclusive : Bool) (txn : TxnId) (locks : List Lock) (holder : Owner) → ((l : Lock) → Has locks l → OwnerNamed l.owner) → conflict rec exclusive txn locks ≡ Some holder → OwnerNamed holder
  conflict_named rec exclusive txn locks holder all e =
      least_named (conflicting rec exclusive (owner.Txn txn) locks) holder
      (λ l h. all l (filter_has (λ (lock : Lock). (lock.rec == rec) && (exclusive || lock.exclusive) && not (same_owner lock.owner (owner.Txn txn))) locks l h).0) e

  pub decision_named : (txn : TxnId) (waiting : List ℕ) (decisions : List Decision) → N txn → ((d : Decision) → Has decisions d → N d.txn) → (d : Decision) → Has (with_decision txn waiting decisions) d → N d.txn
  decision_named txn waiting decisions mine all d h = go (is_empty waiting) h
    where
      go : (b : Bool) → Has (cond b decisions (put_decision (record { txn = txn; waiting = waiting }) decisions)) d → N d.txn
      go true q = all d q
      go false q = ⊎_elim (λ (new : d ≡ (record { txn = txn; waiting = waiting })). rw new mine) (λ old. all d old) (put_has (λ (a : Decision) (b : Decision). same_txn a.txn b.txn) (λ (a : Decision) (b : Decision). txn_before a.txn b.txn) (record { txn = txn; waiting = waiting }) decisions d q)

  pub acknowledged_named : (txn : TxnId) (site : ℕ) (decisions : List Decision) → ((d : Decision) → Has decisions d → N d.txn) → (d : Decision) → Has (acknowledged txn site decisions) d → N d.txn
  acknowledged_named txn site decisions all d h =
      let f = (filter_has (λ (d : Decision). not (is_empty d.waiting)) _ d h).0 in
      let r = map_has (λ (d : Decision). cond (same_txn d.txn txn) (record { txn = d.txn; waiting = filter (λ q. not (q == site)) d.waiting }) d) decisions d f in
      rw (sym (ap (λ (d : Decision). d.txn) r.2) ∙ first_same (same_txn r.0.txn txn) r.0 (filter (λ q. not (q == site)) r.0.waiting)) (all r.0 r.1)
    where
      first_same : (b : Bool) (d : Decision) (rest : List ℕ) → (cond b (record { txn = d.txn; waiting = rest }) d).txn ≡ d.txn
      first_same true d rest = refl
      first_same false d rest = refl

  puts_named : (doubts : List Doubt) (txns : List TxnId) → ((d : Doubt) → Has doubts d → N d.txn) → ((t : TxnId) → Has txns t → N t) → (t : TxnId) → Has (for_each doubts (λ (d : Doubt). put_txn d.txn) txns) t → N t
  puts_named [] txns one all t h = all t h
  puts_named (d ∷ doubts) txns one all t h =
      puts_named doubts (put_txn d.txn txns) (λ e q. one e (has_more d doubts e q))
      (λ u q. ⊎_elim (λ (new : u ≡ d.txn). rw new (one d (has_first d doubts))) (λ old. all u old) (put_has same_txn txn_before d.txn txns u q)) t h

  pub known_named : (s : SiteState) → Names s → (t : TxnId) → Has (known s.participant) t → N t
  known_named s n t h =
      puts_named s.doubts (map (λ (part : Part). part.txn) s.parts) (λ d q. (n.doubts d q).0)
      (λ u q. let r = map_has (λ (part : Part). part.txn) s.parts u q in rw (← r.2) (n.parts r.0 r.1).0) t h

  module _ (catalogue : Catalogue) (x : SiteState) (given : Input) (tidy : Tidy x) (led : Led x) (names : Names x) (own : (t : Live) → Has x.live t → N t.txn) (promised : A x.promise) (arrived : (from : ℕ) (m : Message) → Comes given from m → Named m) where
    begins : Calls (begin_step x)
    begins = record { names = names; sent = λ m h. absurd (has_none m h) }

    -- the same lists but for what `now` says, and more messages
    more : (o e : Stepped) (ms : List Sent) → Names e.site → e.effects.messages ≡ o.effects.messages ++ ms → ((m : Sent) → Has ms m → Named m.message) → Calls o → Calls e
    more o e ms now same named l = record {
      names = now;
      sent = λ m h. ⊎_elim (λ old. l.sent m old) (λ new. named m new) (has_cases o.effects.messages ms m (rw same at h));
    }

    silent : (o e : Stepped) → Names e.site → e.effects.messages ≡ o.effects.messages → Calls o → Calls e
    silent o e now same l = more o e [] now (same ∙ sym (append-nil o.effects.messages)) (λ m h. absurd (has_none m h)) l

    letters_named : (from : ℕ) (message_to : ℕ → Message) (sites : List ℕ) → ((q : ℕ) → Named (message_to q)) → (m : Sent) → Has (letters from message_to sites) m → Named m.message
    letters_named from message_to sites all m h =
        let r = map_has (λ (q : ℕ). letter from q (message_to q)) sites m h in subst Named (ap (λ (m : Sent). m.message) r.2) (all r.0)

    letter_named : (from to : ℕ) (words : Message) → Named words → (m : Sent) → Has (letter from to words ∷ []) m → Named m.message
    letter_named from to words named m h = subst Named (ap (λ (m : Sent). m.message) (has_one_is (letter from to words) m h)) named

    one : (o : Stepped) (from to : ℕ) (words : Message) → Names o.site → Named words → o.effects.messages ≡ letter from to words ∷ [] → Calls o
    one o from to words now named same = more (begin_step x) o (letter from to words ∷ []) now same (letter_named from to words named) begins

    live_named : (t : Live) → Handled x t → N t.txn × A t.view
    live_named t n =
        let q = led.live n.was n.live in
        (subst N (sym (ap (λ (t : Live). t.txn) n.same)) (own n.was n.live), subst A (q.2 ∙ sym (ap (λ (t : Live). t.view) n.same)) (names.held q.0 q.1))

    here_named : (t : Live) → Has x.live t → N t.txn × A t.view
    here_named t h = live_named t (record { was = t; live = h; same = refl })

    -- as a request or a prepare of it names it
    asks_named : (t : Live) → Has x.live t → AllByRecursion N (t.txn ∷ []) × AllByRecursion A (t.view ∷ [])
    asks_named t h = let q = here_named t h in ((q.0, tt), (q.1, tt))

    -- other locks, the same other lists
    locks_now : (s : SiteState) (locks : List Lock) (c : CoordinatorState) → c.decisions ≡ s.decisions → ((l : Lock) → Has locks l → OwnerNamed l.owner) → Names s → Names (record s { here = record s.here { locks = locks }; coordinator = c })
    locks_now s locks c d all n = record { held = n.held; parts = n.parts; doubts = n.doubts; ended = n.ended; decisions = λ e h. n.decisions e (rw d at h); locks = all; copies = n.copies; answers = n.answers }

    same_names : (s a : SiteState) → s.held ≡ a.held → s.parts ≡ a.parts → s.doubts ≡ a.doubts → s.ended ≡ a.ended → s.decisions ≡ a.decisions → s.locks ≡ a.locks → s.copies ≡ a.copies → s.refresh ≡ a.refresh → Names a → Names s
    same_names s a v p d e c l k r n = record {
      held = λ w h. n.held w (sym v ∙ h);
      parts = λ q h. n.parts q (rw p at h);
      doubts = λ q h. n.doubts q (rw d at h);
      ended = λ q h. n.ended q (rw e at h);
      decisions = λ q h. n.decisions q (rw c at h);
      locks = λ q h. n.locks q (rw l at h);
      copies = λ q h. n.copies q (rw k at h);
      answers = λ q a h g. n.answers q a (rw r at h) g;
    }

    abbrev K : Lent → Type 0
    K = Back x Calls

    -- the same locks, copies and decisions
    plain : (l now : Lent) (ms : List Sent) → now.here ≡ l.here → now.decisions ≡ l.decisions → now.effects.messages ≡ l.effects.messages ++ ms → ((m : Sent) → Has ms m → Named m.message) → K l → K now
    plain l now ms h d same named q = more (put_back (begin_step x) l) (put_back (begin_step x) now) ms (same_names _ _ refl refl refl refl d (ap (λ (h : Here). h.locks) h) (ap (λ (h : Here). h.copies) h) refl q.names) same named q

    hushed : (l now : Lent) → now.here ≡ l.here → now.decisions ≡ l.decisions → now.effects.messages ≡ l.effects.messages → K l → K now
    hushed l now h d same q = plain l now [] h d (same ∙ sym (append-nil l.effects.messages)) (λ m h. absurd (has_none m h)) q

    ends : (t : Live) (why : Ending) (commit : Bool) (l now : Lent) → Handled x t → Ends x.id t why commit l now → K l → K now
    ends t why commit l now n e q =
        more (put_back (begin_step x) l) (put_back (begin_step x) now) (letters x.id (λ q. message.Outcome t.txn commit) t.parts)
        (subst (λ (h : Here). Names (record x { here = h; coordinator = now.coordinator })) (sym e.here)
        (locks_now (put_back (begin_step x) l).site (without_owner (owner.Txn t.txn) l.here.locks) now.coordinator (ap (λ (c : CoordinatorState). c.decisions) e.coordinator) (without_named (owner.Txn t.txn) l.here.locks q.names.locks) q.names)) e.messages
        (letters_named x.id (λ q. message.Outcome t.txn commit) t.parts (λ q. (((live_named t n).0, tt), tt))) q

    keeps_writes : (t : Live) → Handled x t → K (keep_writes catalogue x.id t (lent_at x))
    unfolding keep_writes
    keeps_writes t n = record {
      names = record {
        held = names.held;
        parts = names.parts;
        doubts = names.doubts;
        ended = names.ended;
        decisions = decision_named t.txn (writing_parts catalogue t) x.decisions (live_named t n).0 names.decisions;
        locks = names.locks;
        copies = λ c h. ⊎_elim (λ (e : c.1.date ≡ t.view). subst A (sym e) (live_named t n).1) (λ old. names.copies c old) (writes_has t.view (writes_held catalogue x.id (last_changes (entry_of t))) x.copies c h);
        answers = names.answers;
      };
      sent = λ m h. absurd (has_none m h);
    }

    drops : (o : Stepped) → Calls o → Calls (drop_view o)
    unfolding drop_view
    drops o l = silent o (drop_view o) (record {
      held = λ v h. cc;
      parts = λ p h. absurd (has_none p h);
      doubts = l.names.doubts;
      ended = λ t h. absurd (has_none t h);
      decisions = l.names.decisions;
      locks = λ k h. l.names.locks k (filter_has (outlasts o.site.participant) o.site.here.locks k h).0;
      copies = l.names.copies;
      answers = λ r a h k. absurd (has_none r h);
    }) refl l

    invites : (o : Stepped) → Calls o → Calls (start_inviting catalogue (next_view x) o)
    unfolding start_inviting
    invites o l = more o _ (letters o.site.id (λ q. message.Invite (next_view x)) (other_sites catalogue o.site.id)) (same_names _ o.site refl refl refl refl refl refl refl refl l.names) refl (letters_named o.site.id (λ q. message.Invite (next_view x)) (other_sites catalogue o.site.id) (λ q. (tt, tt))) l

    accepts : (from : ℕ) (id : ViewId) (o : Stepped) → Calls o → Calls (accept from id o)
    unfolding accept
    accepts from id o l = more o _ (letter o.site.id from (message.Accept id) ∷ []) (same_names _ o.site refl refl refl refl refl refl refl refl l.names) refl (letter_named o.site.id from (message.Accept id) (tt, tt)) l

    -- a view of the promised identifier is held
    joined : (v : View) (views : ViewState) → views.held ≡ Some v → v.id ≡ x.promise → Names (record x { views = views })
    joined v views h e = record {
      held = λ u g. let same : v ≡ u = cc in subst A (sym e ∙ ap (λ (v : View). v.id) same) promised;
      parts = names.parts;
      doubts = names.doubts;
      ended = names.ended;
      decisions = names.decisions;
      locks = names.locks;
      copies = names.copies;
      answers = names.answers;
    }

    holds_now : (id : ViewId) (members : List ℕ) → is_view x.waiting id ≡ true → Calls (hold (record { id = id; members = members }) (begin_step x))
    unfolding hold
    holds_now id members e = silent (begin_step x) _ (joined (record { id = id; members = members }) (with_view (record { id = id; members = members }) x.views) refl (tidy.waiting id (is_view_is x.waiting id e)).0) refl begins

    fixes : (view : View) → x.inviting ≡ Some (view.id, view.members) → Calls (fix view (begin_step x))
    unfolding fix hold
    fixes view e =
        more (begin_step x) _ (letters x.id (λ q. message.ViewCommit view.id view.members) (filter (λ q. not (q == x.id)) view.members)) (joined view (with_view view x.views) refl (tidy.inviting (view.id, view.members) e).0) refl
        (letters_named x.id (λ q. message.ViewCommit view.id view.members) (filter (λ q. not (q == x.id)) view.members) (λ q. (tt, tt))) begins

    starts_refresh : (view : View) (rec : ℕ) (o : Stepped) → o.site.held ≡ Some view → Calls o → Calls (start_refresh catalogue view rec o)
    unfolding start_refresh
    starts_refresh view rec o e l =
        more o _ (letters o.site.id (λ q. message.RefreshRequest view.id rec) (other_holders catalogue o.site rec))
        (record {
          held = l.names.held;
          parts = l.names.parts;
          doubts = l.names.doubts;
          ended = l.names.ended;
          decisions = l.names.decisions;
          locks = lock_named rec true owner.Refresh o.site.here.locks tt l.names.locks;
          copies = l.names.copies;
          answers = λ r a h k. ⊎_elim (λ (new : r ≡ record { rec = rec; answers = [] }). absurd (has_none a (rw new at k))) (λ old. l.names.answers r a old k)
              (put_has (λ (a : Refreshing) (b : Refreshing). a.rec == b.rec) (λ (a : Refreshing) (b : Refreshing). nat_lt a.rec b.rec) (record { rec = rec; answers = [] }) o.site.refresh r h);
        })
        refl (letters_named o.site.id (λ q. message.RefreshRequest view.id rec) (other_holders catalogue o.site rec) (λ q. (tt, (l.names.held view e, tt)))) l

    newest_named : (own : Stored) (answers : List (ℕ × Stored)) → A own.date → ((a : ℕ × Stored) → Has answers a → A a.1.date) → A (newest own answers).date
    newest_named own [] h all = h
    newest_named own (a ∷ answers) h all = newest_named (newer own a.1) answers (go (view_before own.date a.1.date)) (λ b q. all b (has_more a answers b q))
      where
        go : (b : Bool) → A (cond b a.1 own).date
        go true = all a (has_first a answers)
        go false = h

    takes_newer : (r : Refreshing) (own : Stored) (o : Stepped) → A (newest own r.answers).date → Calls o → Calls (judged catalogue r own o)
    takes_newer r own o up l = take-cases Calls catalogue r own o (record { names = taken; sent = l.sent }) l
        (record { names = record { held = l.names.held; parts = l.names.parts; doubts = l.names.doubts; ended = l.names.ended; decisions = l.names.decisions; locks = l.names.locks; copies = l.names.copies; answers = l.names.answers }; sent = l.sent })
      where
        best : Stored
        best = newest own r.answers

        taken : Names (record o.site { here = record o.site.here { copies = replace_at r.rec best o.site.here.copies } })
        taken = record {
          held = l.names.held;
          parts = l.names.parts;
          doubts = l.names.doubts;
          ended = l.names.ended;
          decisions = l.names.decisions;
          locks = l.names.locks;
          copies = λ c h. ⊎_elim (λ (e : c.1 ≡ best). subst A (sym (ap (λ (s : Stored). s.date) e)) up) (λ old. l.names.copies c old) (replace_has r.rec best o.site.here.copies c h);
          answers = l.names.answers;
        }

    ends_refresh : (rec : ℕ) (r : Refreshing) (own : Stored) (o : Stepped) → refreshing_of rec o.site.refresh ≡ Some r → value_at r.rec o.site.copies ≡ Some own → Calls o → Calls (end_refresh catalogue r own o)
    unfolding end_refresh unlist
    ends_refresh rec r own o e v l =
        let listed = find_has (λ (q : Refreshing). q.rec == rec) o.site.refresh r e in
        let c = value_has r.rec o.site.copies own v in
        let mine : A own.date = subst A (ap (λ (s : Stored). s.date) c.2) (l.names.copies c.0 c.1) in
        let best = newest_named own r.answers mine (λ a k. l.names.answers r a listed k) in
        let taken = takes_newer r own o best l in
        silent (judged catalogue r own o) _
        (record {
          held = taken.names.held;
          parts = taken.names.parts;
          doubts = taken.names.doubts;
          ended = taken.names.ended;
          decisions = taken.names.decisions;
          locks = λ k h. taken.names.locks k (filter_has (λ (lock : Lock). not ((lock.rec == r.rec) && same_owner lock.owner owner.Refresh)) _ k h).0;
          copies = taken.names.copies;
          answers = λ q a h k. taken.names.answers q a (filter_has (λ (other : Refreshing). not (other.rec == r.rec)) _ q h).0 k;
        })
        refl taken

    asked_named : (from : ℕ) (txn : TxnId) (view : ViewId) (number : ℕ) → Asks given from txn view number → N txn × A view
    asked_named from txn view number (Asks.reads rec c) = let q = arrived from (message.ReadRequest txn view number rec) c in (q.0.0, q.1.0)
    asked_named from txn view number (Asks.writes rec c) = let q = arrived from (message.WriteRequest txn view number rec) c in (q.0.0, q.1.0)
    asked_named from txn view number (Asks.prepares reads writes c) = let q = arrived from (message.Prepare txn view number reads writes) c in (q.0.0, q.1.0)

    other_named : (txn : TxnId) (number : ℕ) (o : Option View) → x.held ≡ o → N txn → Named (message.Refuse txn number (obstacle.OtherView (option_map (λ (v : View). v.id) o)))
    other_named txn number None e n = ((n, tt), tt)
    other_named txn number (Some v) e n = ((n, tt), (names.held v e, tt))

    holder_named : (txn : TxnId) (number : ℕ) (holder : Owner) → OwnerNamed holder → N txn → Named (message.Refuse txn number (obstacle.Held holder))
    holder_named txn number (owner.Txn t) h n = ((n, (h, tt)), tt)
    holder_named txn number owner.Refresh h n = ((n, tt), tt)

    grants : (from : ℕ) (txn : TxnId) (view : ViewId) (rec : ℕ) (exclusive : Bool) (words : Message) → N txn × A view → Named words → Calls (grant txn view rec exclusive words from (begin_step x))
    unfolding grant
    grants from txn view rec exclusive words n named =
        one _ x.id from words
        (record {
          held = names.held;
          parts = λ p h. ⊎_elim (λ (new : p ≡ record { txn = txn; view = view; voted = false }). (subst N (sym (ap (λ (p : Part). p.txn) new)) n.0, subst A (sym (ap (λ (p : Part). p.view) new)) n.1)) (λ old. names.parts p old) (with_part_has x.participant txn view p h);
          doubts = λ d h. names.doubts d (rw (with_part_doubts x.participant txn view) at h);
          ended = λ t h. names.ended t (rw (with_part_ended x.participant txn view) at h);
          decisions = names.decisions;
          locks = lock_named rec exclusive (owner.Txn txn) x.here.locks n.0 names.locks;
          copies = names.copies;
          answers = names.answers;
        })
        named refl

    votes_reading : (from : ℕ) (part : Part) → Has x.parts part → Calls (send (message.Vote part.txn) from (change_participant (with_vote part) (begin_step x)))
    votes_reading from part h =
        one _ x.id from (message.Vote part.txn)
        (record {
          held = names.held;
          parts = λ a q. ⊎_elim (λ (new : a ≡ record part { voted = true }). let n = names.parts part h in (subst N (sym (ap (λ (p : Part). p.txn) new)) n.0, subst A (sym (ap (λ (p : Part). p.view) new)) n.1)) (λ old. names.parts a old)
              (put_has (λ (a : Part) (b : Part). same_txn a.txn b.txn) (λ (a : Part) (b : Part). txn_before a.txn b.txn) (record part { voted = true }) x.parts a q);
          doubts = names.doubts;
          ended = names.ended;
          decisions = names.decisions;
          locks = names.locks;
          copies = names.copies;
          answers = names.answers;
        })
        (((names.parts part h).0, tt), tt) refl

    votes_writing : (from : ℕ) (part : Part) (writes : List (ℕ × Change)) → Has x.parts part → Calls (send (message.Vote part.txn) from (force (log_record.Yes part.txn part.view writes) (change_participant (with_new_doubt part writes) (begin_step x))))
    votes_writing from part writes h =
        one _ x.id from (message.Vote part.txn)
        (record {
          held = names.held;
          parts = λ a k. names.parts a (filter_has (λ (other : Part). not (same_txn other.txn part.txn)) x.parts a k).0;
          doubts = λ d k. ⊎_elim (λ (new : d ≡ (record { txn = part.txn; view = part.view; writes = writes })). let n = names.parts part h in (subst N (sym (ap (λ (d : Doubt). d.txn) new)) n.0, subst A (sym (ap (λ (d : Doubt). d.view) new)) n.1)) (λ old. names.doubts d old)
              (put_has (λ (a : Doubt) (b : Doubt). same_txn a.txn b.txn) (λ (a : Doubt) (b : Doubt). txn_before a.txn b.txn) (record { txn = part.txn; view = part.view; writes = writes }) x.doubts d k);
          ended = names.ended;
          decisions = names.decisions;
          locks = names.locks;
          copies = names.copies;
          answers = names.answers;
        })
        (((names.parts part h).0, tt), tt) refl

    ends_here : (from : ℕ) (txn : TxnId) (commit : Bool) → N txn → Calls (end_here from txn commit (doubt_of txn x.doubts) (begin_step x))
    unfolding end_here
    ends_here from txn commit n = go commit (doubt_of txn x.doubts) refl
      where
        now : (copies : List (ℕ × Stored)) → ((c : ℕ × Stored) → Has copies c → A c.1.date) → Names (record x { here = record x.here { locks = without_owner (owner.Txn txn) x.here.locks; copies = copies }; participant = with_ended (is_some x.held) txn x.participant })
        now copies dates = record {
          held = names.held;
          parts = λ a h. names.parts a (filter_has (λ (part : Part). not (same_txn part.txn txn)) x.parts a h).0;
          doubts = λ d h. names.doubts d (filter_has (λ (d : Doubt). not (same_txn d.txn txn)) x.doubts d h).0;
          ended = λ t h. ended_has (is_some x.held && not (has_txn x.ended txn)) t h;
          decisions = names.decisions;
          locks = without_named (owner.Txn txn) x.here.locks names.locks;
          copies = dates;
          answers = names.answers;
        }
          where
            ended_has : (b : Bool) (t : TxnId) → Has (cond b (x.ended ++ txn ∷ []) x.ended) t → N t
            ended_has true t h = ⊎_elim (λ old. names.ended t old) (λ new. subst N (has_one_is txn t new) n) (has_cases x.ended (txn ∷ []) t h)
            ended_has false t h = names.ended t h

        copied : (d : Doubt) → doubt_of txn x.doubts ≡ Some d → (c : ℕ × Stored) → Has (with_writes d.view d.writes x.copies) c → A c.1.date
        copied d e c h = ⊎_elim (λ (q : c.1.date ≡ d.view). subst A (sym q) (names.doubts d (find_has (λ (d : Doubt). same_txn d.txn txn) x.doubts d e)).1) (λ old. names.copies c old) (writes_has d.view d.writes x.copies c h)

        go : (commit : Bool) (doubt : Option Doubt) → doubt_of txn x.doubts ≡ doubt → Calls (end_here from txn commit doubt (begin_step x))
        go true None e = one _ x.id from (message.Ack txn) (now x.copies names.copies) ((n, tt), tt) refl
        go false None e = silent (begin_step x) _ (now x.copies names.copies) refl begins
        go true (Some d) e = one _ x.id from (message.Ack txn) (now (with_writes d.view d.writes x.copies) (copied d e)) ((n, tt), tt) refl
        go false (Some d) e = silent (begin_step x) _ (now x.copies names.copies) refl begins

    keeps_answer : (from rec : ℕ) (stored : Stored) → A stored.date → Calls (change_refresh (map (with_answer rec from stored)) (begin_step x))
    keeps_answer from rec stored named = silent (begin_step x) _ (record {
      held = names.held;
      parts = names.parts;
      doubts = names.doubts;
      ended = names.ended;
      decisions = names.decisions;
      locks = names.locks;
      copies = names.copies;
      answers = λ r a h k. let q = map_has (with_answer rec from stored) x.refresh r h in answered (q.0.rec == rec) q.0 r a q.1 q.2 k;
    }) refl begins
      where
        answered : (b : Bool) (q r : Refreshing) (a : ℕ × Stored) → Has x.refresh q → cond b (record q { answers = put_at from stored q.answers }) q ≡ r → Has r.answers a → A a.1.date
        answered false q r a h same k = names.answers q a h (rw (← same) at k)
        answered true q r a h same k =
            let z : Has (put_at from stored q.answers) a = rw (← same) at k in
            ⊎_elim (λ (new : a ≡ (from, stored)). subst A (sym (ap (λ (a : ℕ × Stored). a.1.date) new)) named) (λ old. names.answers q a h old) (put_has (λ (a : ℕ × Stored) (b : ℕ × Stored). a.0 == b.0) (λ (a : ℕ × Stored) (b : ℕ × Stored). nat_lt a.0 b.0) (from, stored) q.answers a z)

    writes_at : (t : Live) (p : Pending) (rec : ℕ) (sites : List ℕ) (l : Lent) → Has x.live t → K l → K (write_at x.id t p rec sites l)
    unfolding write_at
    writes_at t p rec sites l h q = plain l _ (letters x.id (λ q. message.WriteRequest t.txn t.view p.number rec) sites) refl refl refl (letters_named x.id (λ q. message.WriteRequest t.txn t.view p.number rec) sites (λ q. asks_named t h)) q

    resends : (d : Decision) (o : Stepped) → Has o.site.decisions d → Calls o → Calls (put_back o (resend_one o.site.id d (lent o)))
    unfolding resend_one
    resends d o h l = more o _ (letters o.site.id (λ q. message.Outcome d.txn true) d.waiting) l.names refl (letters_named o.site.id (λ q. message.Outcome d.txn true) d.waiting (λ q. ((l.names.decisions d h, tt), tt))) l

    takes_lock : (t : Live) (rec : ℕ) (exclusive : Bool) → Has x.live t → K (take_lock t.txn rec exclusive (lent_at x))
    unfolding take_lock
    takes_lock t rec exclusive h = silent (begin_step x) _ (locks_now x (with_lock rec exclusive (owner.Txn t.txn) x.here.locks) x.coordinator refl (lock_named rec exclusive (owner.Txn t.txn) x.here.locks (own t h) names.locks) names) refl begins

    views_now : (v : ViewState) → v.held ≡ x.held → Names (record x { views = v })
    views_now v e = same_names _ x e refl refl refl refl refl refl refl names

    coordinator_now : (c : CoordinatorState) → ((d : Decision) → Has c.decisions d → N d.txn) → Names (record x { coordinator = c })
    coordinator_now c all = record { held = names.held; parts = names.parts; doubts = names.doubts; ended = names.ended; decisions = all; locks = names.locks; copies = names.copies; answers = names.answers }

    view_of : (v : ViewId) → holds_view x v ≡ true → A v
    view_of v e = go x.held refl e
      where
        go : (o : Option View) → x.held ≡ o → is_view (option_map (λ (v : View). v.id) o) v ≡ true → A v
        go None h t = cc
        go (Some u) h t = subst A (same_is u.id v t) (names.held u h)

    requested : (from : ℕ) (txn : TxnId) (view : ViewId) (number rec : ℕ) (exclusive : Bool) → Requests given from txn view number rec exclusive → N txn
    requested from txn view number rec false (Requests.reads c) = (arrived from (message.ReadRequest txn view number rec) c).0.0
    requested from txn view number rec true (Requests.writes c) = (arrived from (message.WriteRequest txn view number rec) c).0.0

    back_named : (from : ℕ) (m : Message) → SendsBack x given from m → Named m
    back_named from _ (SendsBack.stale id c e) = (tt, tt)
    back_named from _ (SendsBack.accept_again id c e) = (tt, tt)
    back_named from _ (SendsBack.answer_refresh view rec stored c e d v) = let q = value_has rec x.copies stored v in (tt, (view_of view e, (subst A (ap (λ (s : Stored). s.date) q.2) (names.copies q.0 q.1), tt)))
    back_named from _ (SendsBack.refuse_view txn view number a e) = other_named txn number x.held refl (asked_named from txn view number a).0
    back_named from _ (SendsBack.refuse_lock txn view number rec exclusive holder r e n c) = holder_named txn number holder (conflict_named rec exclusive txn x.locks holder names.locks c) (requested from txn view number rec exclusive r)
    back_named from _ (SendsBack.refuse_bar txn view number rec exclusive bar r e n b) = ((requested from txn view number rec exclusive r, tt), tt)
    back_named from _ (SendsBack.doubt_again txn view number reads writes c e n d) = ((arrived from (message.Prepare txn view number reads writes) c).0, tt)
    back_named from _ (SendsBack.vote_again txn view number reads writes part c e n f v) = (((names.parts part (part_there txn x.parts part f)).0, tt), tt)
    back_named from _ (SendsBack.answer_inquiry txn c s n) = arrived from (message.Inquire txn) c

    again_named : (o : Stepped) → Names o.site → (to : ℕ) (m : Message) → AsksAgain catalogue x given o to m → Named m
    again_named o n to _ (AsksAgain.refresh view r e h v q) = (tt, (names.held view e, tt))
    again_named o n to _ (AsksAgain.inquire txn c h e) = ((known_named o.site n txn h, tt), tt)

    pub table : Table catalogue x given Calls
    unfolding on_accept on_stale start_txn read_at prepare_parts complete mark_calls
    table = record {
      sends_back = λ from m t. one _ x.id from m names (back_named from m t) refl;
      asks_again = λ o ms all p. more o _ ms p.names refl (λ m h. again_named o p.names m.to m.message (all m h).1) p;
      drop_view = λ l e z p. drops (put_back (begin_step x) l) p;
      start_inviting = λ o s left l. invites o l;
      accept = λ from id o c e left l. accepts from id o l;
      accepted = λ from id c. silent (begin_step x) (on_accept from id (begin_step x)) (views_now (with_accepted from id x.views) refl) refl begins;
      seen = λ from id promise c. silent (begin_step x) (on_stale promise (begin_step x)) (views_now (with_seen promise x.views) refl) refl begins;
      hold = λ from id members c e. holds_now id members (both_true _ _ e).0;
      heard = λ from view c e. silent (begin_step x) _ (views_now (with_heard from x.views) refl) refl begins;
      fix = λ view c e. fixes view e;
      without_wait = λ id c i w. silent (begin_step x) _ (views_now (without_wait x.views) refl) refl begins;
      probe = λ view c e. more (begin_step x) (probe_all catalogue view (begin_step x)) _ (views_now (with_monitor x.views) refl) refl (letters_named x.id (λ q. message.Probe view.id) (other_sites catalogue x.id) (λ q. (tt, (names.held view e, tt)))) begins;
      start_refresh = λ view rec o e h l. starts_refresh view rec o e.held l;
      end_refresh = λ rec r own o e a d v l. ends_refresh rec r own o e v l;
      keep_answer = λ from view rec stored r c e f g. keeps_answer from rec stored (arrived from (message.RefreshAnswer view rec stored) c).1.1.0;
      grant_read = λ from txn view number rec stored c e n v f u. let q = asked_named from txn view number (Asks.reads rec c) in grants from txn view rec false (message.ReadAnswer txn number stored.value) q ((q.0, tt), tt);
      grant_write = λ from txn view number rec stored c e n v f u. let q = asked_named from txn view number (Asks.writes rec c) in grants from txn view rec true (message.WriteAnswer txn number) q ((q.0, tt), tt);
      vote_reading = λ from txn view number reads writes part c e n d f v a w. votes_reading from part (part_there txn x.parts part f);
      vote_writing = λ from txn view number reads writes part c e n d f v a w. votes_writing from part writes (part_there txn x.parts part f);
      end_here = λ from txn commit c. ends_here from txn commit (arrived from (message.Outcome txn commit) c).0.0;
      coordinator = record {
        begin = λ port view e g u. hushed (lent_at x) _ refl refl refl begins;
        answers = λ words port why y. hushed (lent_at x) _ refl refl refl begins;
        take_lock = λ t rec exclusive stored h i a v c. takes_lock t rec exclusive h;
        complete = λ t p deed l h g y e q. hushed l _ refl refl refl q;
        read_at = λ t p rec q h n r a w c o y. plain (lent_at x) _ (letter x.id q (message.ReadRequest t.txn t.view p.number rec) ∷ []) refl refl refl (letter_named x.id q (message.ReadRequest t.txn t.view p.number rec) (asks_named t h)) begins;
        write_at = λ t p rec value l h n w a e o d y v q. writes_at t p rec (other_holders catalogue x rec) l h q;
        prepare_parts = λ t p h i g e. plain (lent_at x) _ (letters x.id (prepare_for catalogue t p) t.parts) refl refl refl (letters_named x.id (prepare_for catalogue t p) t.parts (λ q. asks_named t h)) begins;
        still_waits = λ t p from h e m f c. hushed (lent_at x) _ refl refl refl begins;
        decide = λ t n d. decide-cases K catalogue x.id t (lent_at x) (λ e. ends t Committed true _ _ n (decided-ends x.id t (lent_at x)) begins) (λ e. ends t Committed true _ _ n (decided-ends x.id t _) (keeps_writes t n));
        close = λ t why l n a z y q. ends t why false l _ n (close-ends x.id t why l) q;
        mark_calls = λ l c z q. hushed l _ refl refl refl q;
        acknowledge = λ from txn c w. silent (begin_step x) _ (coordinator_now (with_acknowledged txn from x.coordinator) (acknowledged_named txn from x.decisions names.decisions)) refl begins;
      };
      answers_inviting = λ port c s l. silent _ _ l.names refl l;
      resend_one = λ d o c h l. resends d o h l;
    }

    pub names-step : Calls (step catalogue x given)
    names-step = step-keeps catalogue x given Calls table begins
