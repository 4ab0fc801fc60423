-- A property of the coordinator's state and of the replies that survives the small moves is kept by a whole step.
use Rattle.std.proofs.Common.{◌≡◌, ◌∙◌, ◌++◌, sym, ℕ, ◌+◌, Bool, true, false, List, [], ◌∷◌, refl, arith, length, append-nil}
use Rattle.std.specs.Prelude.{Option, Some, None, is_some, filter, ◌==◌, nat_le, nat_lt, ◌&&◌, ◌||◌}
use Rattle.std.proofs.lemmas.Bool.{eqb-true}
use Rattle.std.proofs.lemmas.Bool.Decides.{nat_tests}
use Rattle.vp_model.specs.Types.{TxnId, Commit, Reply, Call, Answer, Message, Obstacle, Input, Pending, Live, Ending, Finished, Effects}
use Rattle.vp_base.specs.declared.site.Ending.TheVariants.{Committed, LockHeld, ViewChanged, TimedOut, Aborted, Inaccessible}
use Rattle.vp_model.specs.Types.answer
use Rattle.vp_model.specs.Types.call
use Rattle.vp_model.specs.Types.input
use Rattle.vp_model.specs.Types.message
use Rattle.vp_model.specs.Types.obstacle
use Rattle.vp_model.specs.Types.op
use Rattle.vp_model.specs.Words.{same_txn, has, first, value_at, is_empty}
use Rattle.vp_model.specs.Catalogue.{Catalogue, find_record}
use Rattle.vp_model.specs.Locks.{conflict}
use Rattle.vp_model.specs.Site.{CoordinatorState, SiteState, Lent, surroundings, lent_reply}
use Rattle.vp_model.specs.Transactions.{Deed, last_changes, entry_of, with_finished, with_pending_reply, live_of, finished_of, finish, close, close_all, keep_writes, decided, decide, complete}
use Rattle.vp_model.specs.Refresh.{is_open, other_holders}
use Rattle.vp_model.specs.Views.{abandon}
use Rattle.vp_model.specs.Calls.{handling, start_txn, begin_in, on_begin, with_record, take_lock, lock_here, answer_read, read, read_at, change_elsewhere, change, new_change, is_bad_table, is_too_large, short, change_asked, write_at, commit, prepare_parts, new_call, live_call, finished_call, handled, on_txn_call, own_call}
use Rattle.vp_model.specs.Answers.{with_missing, count_in, read_answered, on_read_answer, write_answered, on_write_answer, refused_by, on_refuse, voted, on_vote, on_ack, on_inquire, on_answer}
use Rattle.vp_model.specs.Told.{is_call}
use Rattle.vp_model.specs.Step.{is_marked_call, least_missing, time_out_calls, mark_calls}
use Rattle.vp_laws.specs.Answering.{answers}
use Rattle.vp_laws.specs.Votes.{is_commit}
use Rattle.vp_laws.proofs.Lists.Members.{Has, filter_has, has_first, has_more, find_has, find_true}
use Rattle.vp_laws.proofs.Moves.Frames.{close-commits, decided-ends, decided-commits, decide-cases}
use Rattle.vp_model.proofs.SameTxn.{same_txn-is}
use Rattle.vp_laws.proofs.Moves.Coordinator.{live_of-has, live_of-is, next_number, neither, nor, open_here}
use Rattle.vp_laws.proofs.Moves.Table.{Comes, Handled, Reads, Changes, May, Tries, record_of, remaining, IsLast, Locked, Completes, Decides, lent_at}
use Rattle.vp_laws.proofs.Moves.Reasons.{Called, IsCallOf, Operates, Takes, Awaits, Why, is_plain, Tells, last_reply, IsDone, IsDecided, Goes, Front}
use Rattle.vp_laws.proofs.Moves.Numbered.{Numbers, fits, turned, turned_txn}
use Rattle.vp_laws.proofs.Lists.Keeps.{by_option, by_some, by_test}
use Rattle.vp_laws.proofs.Moves.Calls.{reading, writing, waiting}

-- the end that is replied
reply-replies : (txn : TxnId) (why : Ending) (t : Live) (e : Effects) → t.txn ≡ txn → (with_pending_reply txn why t.pending e).replies ≡ e.replies ++ last_reply t why
reply-replies txn why t e same = rw (← same) (go t.pending)
  where
    go : (p : Option Pending) → (with_pending_reply t.txn why p e).replies ≡ e.replies ++ last_reply (record t { pending = p }) why
    go None = sym (append-nil e.replies)
    go (Some p) = refl

close-replies : (id : ℕ) (t : Live) (why : Ending) (l : Lent) → (close id t why l).effects.replies ≡ l.effects.replies ++ last_reply t why
unfolding close finish
close-replies id t why l = reply-replies t.txn why t _ refl

decided-replies : (id : ℕ) (t : Live) (l : Lent) → (decided id t l).effects.replies ≡ l.effects.replies ++ last_reply t Committed
unfolding decided finish
decided-replies id t l = reply-replies t.txn Committed t _ refl

close-coordinator : (id : ℕ) (t : Live) (why : Ending) (l : Lent) → (close id t why l).coordinator ≡ with_finished t why l.coordinator
unfolding close finish
close-coordinator id t why l = refl

-- the call is of the transaction that is handled
own_name : (own txn : TxnId) → own ≡ txn → (number : ℕ) (words : Call) → is_call txn number words ≡ true → is_call own number words ≡ true
own_name own txn e number words c = rw e c

module _ (catalogue : Catalogue) (x : SiteState) (given : Input) (after : SiteState) (G : CoordinatorState → List Reply → List Commit → Type 0) (k : Front catalogue x given after G) (h : G x.coordinator [] []) where
  abbrev Q : Lent → Type 0
  Q l = G l.coordinator l.effects.replies l.effects.commits

  told : (words : Answer) (port : ℕ) → Tells catalogue x given port words → Q (lent_reply words port (lent_at x))
  told words port t = k.tells words port t

  -- a plain answer, and one to the call of a number
  plain : (port : ℕ) (called : Call) → given ≡ input.Call port called → (words : Answer) → is_plain words ≡ true → answers called words ≡ true → Q (lent_reply words port (lent_at x))
  plain port called c words e is = told words port (Tells.plain words e port called c is)

  numbered : (t : Live) (p : Pending) → Called given t p → (words : Answer) → is_plain words ≡ true → Numbers t.txn p.number words → Q (lent_reply words p.port (lent_at x))
  numbered t p c words e n = plain p.port p.call c.comes words e (fits t.txn p.number words n p.call c.own)

  closing : (t : Live) (why : Ending) (l : Lent) → Handled x t → Why catalogue x given after t why → l.effects.commits ≡ [] → Q l → Q (close x.id t why l)
  closing t why l n w none q = rw (close-coordinator x.id t why l, close-replies x.id t why l, close-commits x.id t why l ∙ none) (k.close t why l.coordinator l.effects.replies n w (rw none at q))

  -- no commit is among them
  close_all-closed : (why : Live → Ending) (live : List Live) (l : Lent) → ((t : Live) → Has live t → Has x.live t × Why catalogue x given after t (why t)) → l.effects.commits ≡ [] → Q l → Q (close_all x.id why live l) × ((close_all x.id why live l).effects.commits ≡ [])
  close_all-closed why [] l all none q = (q, none)
  close_all-closed why (t ∷ live) l all none q =
      let now = all t (has_first t live) in
      close_all-closed why live (close x.id t (why t) l) (λ u m. all u (has_more t live u m)) (close-commits x.id t (why t) l ∙ none) (closing t (why t) l (record { was = t; live = now.0; same = refl }) now.1 none q)

  pub abandon-front : after.held ≡ None → Q (abandon x.id (lent_at x)) × ((abandon x.id (lent_at x)).effects.commits ≡ [])
  unfolding abandon
  abandon-front gone = close_all-closed (λ t. ViewChanged x.id t.view None) x.live (lent_at x) (λ t m. (m, Why.left m gone)) refl h

  pub time_out_calls-front : Q (time_out_calls x.id (lent_at x))
  unfolding time_out_calls mark_calls
  time_out_calls-front =
      let late = filter (λ (t : Live). is_marked_call t.pending) x.live in
      let r = close_all-closed (λ t. TimedOut (least_missing t.pending)) late (lent_at x) (λ t m. let q = (filter_has (λ (t : Live). is_marked_call t.pending) x.live t m).0 in (q, Why.timed_out (least_missing t.pending) q)) refl h in
      let l = close_all x.id (λ t. TimedOut (least_missing t.pending)) late (lent_at x) in
      rw r.1 (k.marks l.coordinator l.effects.replies (rw r.1 at r.0))

  on_begin-front : (port : ℕ) → given ≡ input.Call port call.Begin → Q (on_begin (surroundings x) port (lent_at x))
  unfolding on_begin begin_in start_txn
  on_begin-front port c =
      by_option Q _ _ _ (λ view e. by_test Q (nat_le 1024 (length x.live)) _ _ (λ full. plain port call.Begin c _ refl refl) (λ room. by_test Q _ _ _ (λ spent. plain port call.Begin c _ refl refl) (λ left. k.begin port view e c))) (λ none. plain port call.Begin c _ refl refl)

  decided_by : (t : Live) (l : Lent) → Handled x t → Decides catalogue x given t → IsDecided x given t → l.live ≡ x.live → l.finished ≡ x.finished → l.seq ≡ x.seq → l.effects.replies ≡ [] → l.effects.commits ≡ [] → Q (decided x.id t l)
  decided_by t l n d w v f s rs cs = rw ((decided-ends x.id t l).coordinator, decided-replies x.id t l, decided-commits x.id t l, rs, cs) (k.decide t l.coordinator n d w v f s)

  decide-front : (t : Live) → Handled x t → Decides catalogue x given t → IsDecided x given t → Q (decide catalogue x.id t (lent_at x))
  unfolding keep_writes
  decide-front t n d w = decide-cases Q catalogue x.id t (lent_at x)
      (λ e. decided_by t (lent_at x) n d w refl refl refl refl refl)
      (λ e. decided_by t (keep_writes catalogue x.id t (lent_at x)) n d w refl refl refl refl refl)

  -- the next call of a live transaction t
  module _ (t : Live) (p : Pending) (at : Takes x given t p) where
    here : Has x.live t
    here = at.live

    handled_now : Handled x (handling t p)
    handled_now = record { was = t; live = at.live; same = refl }

    closing-now : (why : Ending) → Why catalogue x given after (handling t p) why → Q (close x.id (handling t p) why (lent_at x))
    closing-now why w = closing (handling t p) why (lent_at x) handled_now w refl h

    lock_here-front : (name : List ℕ) (rec : ℕ) (exclusive : Bool) (rest : Lent → Lent) → Operates p.call name exclusive → find_record catalogue name ≡ Some rec → (conflict rec exclusive t.txn x.locks ≡ None → Q (rest (take_lock t.txn rec exclusive (lent_at x)))) → Q (lock_here x.id t p name rec exclusive rest (lent_at x))
    unfolding lock_here
    lock_here-front name rec exclusive rest o f n =
        by_option Q _ _ _ (λ holder e. closing-now (LockHeld name x.id holder) (Why.held_here t p name rec exclusive holder at refl o f e)) n

    completes : (deed : Deed) (l : Lent) → l.coordinator ≡ x.coordinator → l.effects.replies ≡ [] → l.effects.commits ≡ [] → Completes catalogue x given t p deed l → Q (complete t p deed l)
    unfolding complete
    completes deed l c rs cs done = rw (c, rs, cs) (k.complete t p deed l at.live (IsDone.at_once at) done)

    read-front : (name : List ℕ) (rec : ℕ) → Operates p.call name false → find_record catalogue name ≡ Some rec → Reads catalogue p rec → is_open x rec ≡ true → Q (read catalogue x.id x.held t p name rec (lent_at x))
    unfolding read take_lock read_at
    read-front name rec o f r a =
        by_option Q _ _ _ (λ value e. completes _ (lent_at x) refl refl refl (Completes.own_write rec value at.next r a e refl refl))
        (λ n. by_option Q _ _ _
        (λ stored e. lock_here-front name rec false (answer_read t p rec stored.value) o f (λ c. completes _ (take_lock t.txn rec false (lent_at x)) refl refl refl (Completes.own_copy rec stored at.next r a n e c refl refl)))
        (λ none. by_some Q (first (other_holders catalogue x rec)) (read_at x.id t p rec) (lent_at x) (λ q e. k.goes t (reading t p rec q) p at (Goes.reads rec q)) h))

    change_elsewhere-front : (rec : ℕ) (deed : Deed) (l : Lent) → l.coordinator ≡ x.coordinator → l.effects.replies ≡ [] → l.effects.commits ≡ [] → Changes catalogue p rec deed → May catalogue x t rec deed → value_at rec (last_changes (entry_of t)) ≡ None → Locked x t rec l → Q (change_elsewhere catalogue x.id x.held t p rec deed l)
    unfolding change_elsewhere write_at
    change_elsewhere-front rec deed l c rs cs w a n taken =
        by_test Q (is_empty (other_holders catalogue x rec)) _ _ (λ e. completes deed l c rs cs (Completes.change_alone rec at.next w a n e taken))
        (λ e. rw (c, rs, cs) (k.goes t (writing t p (other_holders catalogue x rec)) p at (Goes.writes (other_holders catalogue x rec))))

    change-front : (name : List ℕ) (asked : ℕ → Deed) (rec : ℕ) → Operates p.call name true → find_record catalogue name ≡ Some rec → Changes catalogue p rec (asked rec) → May catalogue x t rec (asked rec) → Q (change catalogue x.id x.held t p name asked rec (lent_at x))
    unfolding change take_lock
    change-front name asked rec o f w a =
        by_option Q _ _ _ (λ before e. completes (asked rec) (lent_at x) refl refl refl (Completes.change_again rec before at.next w a e refl))
        (λ n. by_option Q _ _ _
        (λ stored e. lock_here-front name rec true (change_elsewhere catalogue x.id x.held t p rec (asked rec)) o f (λ c. change_elsewhere-front rec (asked rec) (take_lock t.txn rec true (lent_at x)) refl refl refl w a n (Locked.locked stored e c refl)))
        (λ none. change_elsewhere-front rec (asked rec) (lent_at x) refl refl refl w a n (Locked.no_copy none refl)))

    with_record-front : (name : List ℕ) (exclusive : Bool) → Operates p.call name exclusive → (asked : ℕ → Deed) (use_record : ℕ → Lent → Lent) → ((rec : ℕ) → Tries p.call rec (asked rec)) → ((rec : ℕ) → find_record catalogue name ≡ Some rec → May catalogue x t rec (asked rec) → Q (use_record rec (lent_at x))) → Q (with_record catalogue x.held t p name asked use_record (lent_at x))
    unfolding with_record
    with_record-front name exclusive op asked use_record tries used = by_option Q _ _ _
        (λ rec e. by_test Q (is_bad_table catalogue (asked rec)) _ _ (λ bad. numbered t p at.called _ refl (turned t.txn p.number))
        (λ table. by_test Q (nat_le 64 (length t.answers) || is_too_large t (asked rec)) _ _ (λ many. numbered t p at.called _ refl (turned t.txn p.number))
        (λ fits. by_option Q _ (short catalogue x.held x.bars rec (asked rec)) _ (λ weights s. told _ _ (Tells.inaccessible t p name rec exclusive (asked rec) weights at op e (tries rec) (record { table = table; few = neither (nat_le 64 (length t.answers)) _ fits; fits = nor (nat_le 64 (length t.answers)) _ fits; by = s })))
        (λ enough. used rec e (record { table = table; fits = nor (nat_le 64 (length t.answers)) _ fits; enough = enough; usable = open_here catalogue x rec (asked rec) enough })))))
        (λ none. numbered t p at.called _ refl (turned t.txn p.number))

    new_change-front : (name : List ℕ) (asked : ℕ → Deed) → Operates p.call name true → ((rec : ℕ) → Tries p.call rec (asked rec)) → ((rec : ℕ) → find_record catalogue name ≡ Some rec → Changes catalogue p rec (asked rec)) → Q (new_change catalogue x.id x.held t p name asked (lent_at x))
    unfolding new_change
    new_change-front name asked o tries changes = with_record-front name true o asked _ tries (λ rec f a. change-front name asked rec o f (changes rec f) a)

    commit-front : is_commit p.call ≡ true → Q (commit catalogue x.id t p (lent_at x))
    unfolding commit prepare_parts
    commit-front c = by_test Q (is_empty t.parts) _ _ (λ e. decide-front (handling t p) handled_now (Decides.alone t p at.live at.next c e refl) (IsDecided.at_once t p at)) (λ e. k.goes t (waiting t p t.parts) p at (Goes.prepares t.parts))

    new_call-front : (words : Call) → p.call ≡ words → Q (new_call catalogue x.id x.held t p words (lent_at x))
    unfolding new_call
    new_call-front (call.Read txn number name) e = with_record-front name false (Operates.reads txn number e) (λ rec. Deed.operates (op.Read rec None)) _ (λ rec. Tries.reads txn number name e) (λ rec f a. read-front name rec (Operates.reads txn number e) f (record { txn = txn; number = number; name = name; words = e; found = f }) a.usable)
    new_call-front (call.Write txn number name value) e = new_change-front name (λ rec. Deed.operates (op.Write rec (Some value))) (Operates.writes txn number value e) (λ rec. Tries.writes txn number name value e) (λ rec f. record { asked = rw (e, f) refl; on = refl })
    new_call-front (call.Delete txn number name) e = new_change-front name (λ rec. Deed.operates (op.Write rec None)) (Operates.deletes txn number e) (λ rec. Tries.deletes txn number name e) (λ rec f. record { asked = rw (e, f) refl; on = refl })
    new_call-front (call.Weigh txn number name table) e = new_change-front name (λ rec. Deed.weighs rec table) (Operates.weighs txn number table e) (λ rec. Tries.weighs txn number name table e) (λ rec f. record { asked = rw (e, f) refl; on = refl })
    new_call-front (call.Commit txn number) e = commit-front (rw e refl)
    new_call-front (call.Abort txn number) e = closing-now Aborted (Why.aborted t p at refl)
    new_call-front call.Begin e = h
    new_call-front call.Regroup e = h

  live_call-front : (t : Live) (p : Pending) → Has x.live t → Called given t p → Q (live_call catalogue x.id x.held t p (lent_at x))
  unfolding live_call
  live_call-front t p here c =
      by_test Q (nat_le p.number (length t.answers)) _ _ (λ old. by_some Q _ (λ answer. lent_reply answer p.port) (lent_at x) (λ answer e. told answer p.port (Tells.again t p.number answer here e (record { port = p.port; words = p.call; comes = c.comes; own = c.own }))) h)
      (λ fresh. by_test Q (nat_lt (length t.answers + 1) p.number) _ _ (λ skipped. numbered t p c _ refl (turned_txn t.txn p.number))
      (λ fits. by_test Q (is_some t.pending) _ _ (λ busy. numbered t p c _ refl (turned t.txn p.number)) (λ idle. new_call-front t p (record { live = here; next = record { comes = c.comes; idle = idle; number = next_number p.number (length t.answers) fresh fits }; called = c }) p.call refl)))

  finished_call-front : (number : ℕ) (f : Finished) → Has x.finished f → (c : IsCallOf given f.txn number) → Q (finished_call c.port number f (lent_at x))
  unfolding finished_call
  finished_call-front number f here c =
      by_test Q (nat_le number (length f.answers)) _ _ (λ old. by_some Q _ (λ answer. lent_reply answer c.port) (lent_at x) (λ answer e. told answer c.port (Tells.finished_again f number answer here e c)) h)
      (λ more. told _ _ (Tells.ended f number here more c))

  finished_of-has : (txn : TxnId) (f : Finished) → finished_of txn x.finished ≡ Some f → Has x.finished f
  finished_of-has txn f e = find_has (λ (f : Finished). same_txn f.txn txn) x.finished f e

  finished_of-is : (txn : TxnId) (f : Finished) → finished_of txn x.finished ≡ Some f → f.txn ≡ txn
  finished_of-is txn f e = same_txn-is f.txn txn (find_true (λ (f : Finished). same_txn f.txn txn) x.finished f e)

  on_txn_call-front : (port : ℕ) (txn : TxnId) (number : ℕ) (words : Call) → given ≡ input.Call port words → is_call txn number words ≡ true → Q (on_txn_call catalogue x.id x.held port txn number words (lent_at x))
  unfolding on_txn_call
  on_txn_call-front port txn number words c own =
      by_option Q _ _ _ (λ t e. live_call-front t (handled port number words) (live_of-has txn x.live t e) (record { comes = c; own = own_name t.txn txn (live_of-is txn x.live t e) number words own }))
      (λ none. by_option Q (λ f. finished_call port number f (lent_at x)) (finished_of txn x.finished) (lent_reply (answer.Unknown txn) port (lent_at x)) (λ f e. finished_call-front number f (finished_of-has txn f e) (record { port = port; words = words; comes = c; own = own_name f.txn txn (finished_of-is txn f e) number words own })) (λ unknown. plain port words c _ refl (fits txn number (answer.Unknown txn) (turned_txn txn number) words own)))

  is_own : (txn : TxnId) (number : ℕ) → (same_txn txn txn && (number == number)) ≡ true
  is_own txn number = grind (arith, nat_tests)

  pub own_call-front : (port : ℕ) (words : Call) → given ≡ input.Call port words → Q (own_call catalogue port words (surroundings x) (lent_at x))
  unfolding own_call
  own_call-front port call.Begin c = on_begin-front port c
  own_call-front port call.Regroup c = h
  own_call-front port (call.Read txn number name) c = on_txn_call-front port txn number (call.Read txn number name) c (is_own txn number)
  own_call-front port (call.Write txn number name value) c = on_txn_call-front port txn number (call.Write txn number name value) c (is_own txn number)
  own_call-front port (call.Delete txn number name) c = on_txn_call-front port txn number (call.Delete txn number name) c (is_own txn number)
  own_call-front port (call.Weigh txn number name table) c = on_txn_call-front port txn number (call.Weigh txn number name table) c (is_own txn number)
  own_call-front port (call.Commit txn number) c = on_txn_call-front port txn number (call.Commit txn number) c (is_own txn number)
  own_call-front port (call.Abort txn number) c = on_txn_call-front port txn number (call.Abort txn number) c (is_own txn number)

  -- answers to this site's transactions
  with_missing-front : (txn : TxnId) (from : ℕ) (f : Live → Pending → Lent → Lent) → ((t : Live) (p : Pending) → Awaits x t p → t.txn ≡ txn → has p.missing from ≡ true → Q (f t p (lent_at x))) → Q (with_missing txn from f (lent_at x))
  unfolding with_missing
  with_missing-front txn from f each = by_some Q (live_of txn x.live) _ (lent_at x)
      (λ t e. by_some Q t.pending _ (lent_at x) (λ p g. by_test Q (has p.missing from) _ _ (λ m. each t p (record { live = live_of-has txn x.live t e; pending = g }) (live_of-is txn x.live t e) m) (λ no. h)) h) h

  count_in-front : (from : ℕ) (t : Live) (p : Pending) (done : Lent → Lent) → Awaits x t p → has p.missing from ≡ true → (IsLast t p from → Q (done (lent_at x))) → Q (count_in from t p done (lent_at x))
  count_in-front from t p done a m d = by_test Q (is_empty (remaining from p)) _ _ (λ last. d (record { pending = a.pending; missing = m; last = last })) (λ more. k.still t p (remaining from p) a)

  answers_last : (t : Live) (p : Pending) (deed : Deed) → Awaits x t p → Completes catalogue x given t p deed (lent_at x) → Q (complete t p deed (lent_at x))
  unfolding complete
  answers_last t p deed a done = k.complete t p deed (lent_at x) a.live (IsDone.at_last a) done

  read_answered-front : (from : ℕ) (txn : TxnId) (number : ℕ) (value : Option (List ℕ)) (t : Live) (p : Pending) (words : Call) → p.call ≡ words → Comes given from (message.ReadAnswer txn number value) → Awaits x t p → t.txn ≡ txn → has p.missing from ≡ true → Q (read_answered catalogue from number value t p words (lent_at x))
  read_answered-front from txn number value t p (call.Read called n name) e c a same m =
      by_test Q (p.number == number) _ _ (λ numbered.
      let came : Comes given from (message.ReadAnswer t.txn p.number value) = rw (same, eqb-true p.number number numbered) c in
      by_some Q (find_record catalogue name) _ (lent_at x) (λ rec found.
      let reads : Reads catalogue p rec = record { txn = called; number = n; name = name; words = e; found = found } in
      count_in-front from t p (answer_read t p rec value) a m (λ last. answers_last t p _ a (Completes.read_answered from rec value came last reads refl refl))) h)
      (λ other. h)
  read_answered-front from txn number value t p (call.Write called n name v) e c a same m = h
  read_answered-front from txn number value t p (call.Delete called n name) e c a same m = h
  read_answered-front from txn number value t p (call.Weigh called n name table) e c a same m = h
  read_answered-front from txn number value t p (call.Commit called n) e c a same m = h
  read_answered-front from txn number value t p (call.Abort called n) e c a same m = h
  read_answered-front from txn number value t p call.Begin e c a same m = h
  read_answered-front from txn number value t p call.Regroup e c a same m = h

  write_answered-front : (from : ℕ) (txn : TxnId) (number : ℕ) (t : Live) (p : Pending) → Comes given from (message.WriteAnswer txn number) → Awaits x t p → t.txn ≡ txn → has p.missing from ≡ true → Q (write_answered catalogue from number t p (lent_at x))
  write_answered-front from txn number t p c a same m =
      by_test Q (p.number == number) _ _ (λ numbered.
      let came : Comes given from (message.WriteAnswer t.txn p.number) = rw (same, eqb-true p.number number numbered) c in
      by_some Q (change_asked catalogue p.call) _ (lent_at x) (λ deed asked.
      count_in-front from t p (complete t p deed) a m (λ last. answers_last t p deed a (Completes.change_answered from (record_of deed) came last (record { asked = asked; on = refl }) refl))) h)
      (λ other. h)

  refused : (t : Live) (p : Pending) (why : Ending) → Awaits x t p → Why catalogue x given after t why → Q (close x.id t why (lent_at x))
  refused t p why a w = closing t why (lent_at x) (record { was = t; live = a.live; same = refl }) w refl h

  refused_by-front : (why : Obstacle) (words : Call) (from : ℕ) (t : Live) (p : Pending) → p.call ≡ words → Awaits x t p → Comes given from (message.Refuse t.txn p.number why) → Q (refused_by x.id why words from t (lent_at x))
  refused_by-front (obstacle.Held holder) (call.Read txn number name) from t p e a c = refused t p (LockHeld name from holder) a (Why.held_there p from name false holder a c (Operates.reads txn number e))
  refused_by-front (obstacle.Held holder) (call.Write txn number name value) from t p e a c = refused t p (LockHeld name from holder) a (Why.held_there p from name true holder a c (Operates.writes txn number value e))
  refused_by-front (obstacle.Held holder) (call.Delete txn number name) from t p e a c = refused t p (LockHeld name from holder) a (Why.held_there p from name true holder a c (Operates.deletes txn number e))
  refused_by-front (obstacle.Held holder) (call.Weigh txn number name table) from t p e a c = refused t p (LockHeld name from holder) a (Why.held_there p from name true holder a c (Operates.weighs txn number table e))
  refused_by-front (obstacle.Held holder) (call.Commit txn number) from t p e a c = h
  refused_by-front (obstacle.Held holder) (call.Abort txn number) from t p e a c = h
  refused_by-front (obstacle.Held holder) call.Begin from t p e a c = h
  refused_by-front (obstacle.Held holder) call.Regroup from t p e a c = h
  refused_by-front (obstacle.Barred inside total) (call.Read txn number name) from t p e a c = refused t p (Inaccessible name inside total) a (Why.barred_there p from name false inside total a c (Operates.reads txn number e))
  refused_by-front (obstacle.Barred inside total) (call.Write txn number name value) from t p e a c = refused t p (Inaccessible name inside total) a (Why.barred_there p from name true inside total a c (Operates.writes txn number value e))
  refused_by-front (obstacle.Barred inside total) (call.Delete txn number name) from t p e a c = refused t p (Inaccessible name inside total) a (Why.barred_there p from name true inside total a c (Operates.deletes txn number e))
  refused_by-front (obstacle.Barred inside total) (call.Weigh txn number name table) from t p e a c = refused t p (Inaccessible name inside total) a (Why.barred_there p from name true inside total a c (Operates.weighs txn number table e))
  refused_by-front (obstacle.Barred inside total) (call.Commit txn number) from t p e a c = h
  refused_by-front (obstacle.Barred inside total) (call.Abort txn number) from t p e a c = h
  refused_by-front (obstacle.Barred inside total) call.Begin from t p e a c = h
  refused_by-front (obstacle.Barred inside total) call.Regroup from t p e a c = h
  refused_by-front (obstacle.OtherView now) words from t p e a c = refused t p (ViewChanged from t.view now) a (Why.other_view p from now a c)

  on_refuse-front : (from : ℕ) (txn : TxnId) (number : ℕ) (why : Obstacle) → Comes given from (message.Refuse txn number why) → Q (on_refuse x.id from txn number why (lent_at x))
  unfolding on_refuse
  on_refuse-front from txn number why c = with_missing-front txn from _ (λ t p a same m. by_test Q (p.number == number) _ _ (λ e.
      let came : Comes given from (message.Refuse t.txn p.number why) = rw (same, eqb-true p.number number e) c in
      refused_by-front why p.call from t p refl a came) (λ e. h))

  voted-front : (from : ℕ) (txn : TxnId) (t : Live) (p : Pending) (words : Call) → p.call ≡ words → Comes given from (message.Vote txn) → Awaits x t p → t.txn ≡ txn → has p.missing from ≡ true → Q (voted catalogue x.id from t p words (lent_at x))
  voted-front from txn t p (call.Commit called n) e c a same m =
      let commit : is_commit p.call ≡ true = rw e refl in
      let came : Comes given from (message.Vote t.txn) = rw same c in
      count_in-front from t p (decide catalogue x.id t) a m (λ last. decide-front t (record { was = t; live = a.live; same = refl }) (Decides.voted p from a.live last came commit) (IsDecided.at_last t p a))
  voted-front from txn t p (call.Read called n name) e c a same m = h
  voted-front from txn t p (call.Write called n name value) e c a same m = h
  voted-front from txn t p (call.Delete called n name) e c a same m = h
  voted-front from txn t p (call.Weigh called n name table) e c a same m = h
  voted-front from txn t p (call.Abort called n) e c a same m = h
  voted-front from txn t p call.Begin e c a same m = h
  voted-front from txn t p call.Regroup e c a same m = h

  pub on_answer-front : (from : ℕ) (m : Message) → Comes given from m → Q (on_answer catalogue x.id from m (lent_at x))
  unfolding on_answer on_read_answer on_write_answer on_vote on_ack on_inquire
  on_answer-front from (message.ReadAnswer txn number value) c = with_missing-front txn from _ (λ t p a same m. read_answered-front from txn number value t p p.call refl c a same m)
  on_answer-front from (message.WriteAnswer txn number) c = with_missing-front txn from _ (λ t p a same m. write_answered-front from txn number t p c a same m)
  on_answer-front from (message.Refuse txn number why) c = on_refuse-front from txn number why c
  on_answer-front from (message.Vote txn) c = with_missing-front txn from _ (λ t p a same m. voted-front from txn t p p.call refl c a same m)
  on_answer-front from (message.Ack txn) c = by_test Q _ _ _ (λ e. k.acknowledge txn from) (λ e. h)
  on_answer-front from (message.Inquire txn) c = by_test Q _ _ _ (λ e. h) (λ e. h)
  on_answer-front from m c = h
