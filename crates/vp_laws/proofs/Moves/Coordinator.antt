-- The rows of the coordinator consist of its small moves, so they keep a property of its part that survives these.
use Rattle.std.proofs.Common.{◌≡◌, ◌∙◌, ℕ, zero, suc, ◌+◌, ◌-◌, ◌^◌, Bool, true, false, List, [], ◌∷◌, refl, arith, length, ap, sym, ⊎_elim}
use Rattle.std.specs.Prelude.{Option, Some, None, is_some, filter, slice_get, not, ◌==◌, ◌||◌, nat_le, nat_lt}
use Rattle.std.specs.List.{AllByRecursion}
use Rattle.std.proofs.lemmas.Bool.Decides.{nat_tests}
use Rattle.std.proofs.lemmas.Bool.{eqb-true}
use Rattle.vp_model.specs.Types.{TxnId, Stored, Call, Message, Obstacle, Input, Pending, Live, Ending, Finished, Sent}
use Rattle.vp_base.specs.declared.site.Ending.TheVariants.{LockHeld, ViewChanged, TimedOut, Aborted, Inaccessible}
use Rattle.vp_model.specs.Types.answer
use Rattle.vp_model.specs.Types.call
use Rattle.vp_model.specs.Types.input
use Rattle.vp_model.specs.Types.message
use Rattle.vp_model.specs.Types.obstacle
use Rattle.vp_model.specs.Types.op
use Rattle.vp_model.specs.Words.{same_txn, has, first, first_some, value_at, is_empty}
use Rattle.vp_model.specs.Catalogue.{Catalogue, find_record}
use Rattle.vp_model.specs.Locks.{conflict}
use Rattle.vp_model.specs.Site.{SiteState, Lent, surroundings, lent_reply, CoordinatorState, letters, lent_send}
use Rattle.vp_model.specs.Transactions.{Deed, last_changes, entry_of, live_of, finished_of, close, close_all, complete, decide}
use Rattle.vp_model.specs.Refresh.{is_open, members_in, other_holders}
use Rattle.vp_model.specs.Views.{abandon}
use Rattle.vp_model.specs.Calls.{handling, begin_in, on_begin, with_record, take_lock, lock_here, answer_read, read, read_at, change_elsewhere, change, new_change, is_bad_table, is_too_large, short, short_of_holders, change_asked, commit, new_call, live_call, finished_call, handled, on_txn_call, own_call}
use Rattle.vp_model.specs.Answers.{with_missing, count_in, read_answered, on_read_answer, write_answered, on_write_answer, refused_by, on_refuse, voted, on_vote, on_ack, on_inquire, on_answer, is_live}
use Rattle.vp_model.specs.Step.{is_marked_call, least_missing, time_out_calls}
use Rattle.vp_laws.proofs.Lists.Members.{Has, find_has, find_true, filter_has, has_first, has_more, has_none, has_cases, map_has}
use Rattle.vp_laws.proofs.Moves.Frames.{close-commits, close-ends}
use Rattle.vp_laws.proofs.Lists.Changes.{without_first_has}
use Rattle.vp_laws.proofs.Moves.LocalViews.{letter}
use Rattle.vp_laws.specs.Votes.{is_commit}
use Rattle.vp_laws.proofs.Moves.Table.{Closed, Comes, Handled, IsNext, Reads, Changes, May, Tries, record_of, Counts, remaining, IsLast, Locked, Completes, Decides, Replies, Answered, IsCallOf, Names, Says, Closes, is_abort, lent_at, OfCoordinator, SendsBack}
use Rattle.vp_laws.proofs.Lists.Keeps.{by_option, by_some, by_test}
use Rattle.vp_model.proofs.SameTxn.{same_txn-is}

first_has : (xs : List ℕ) (q : ℕ) → first xs ≡ Some q → Has xs q
first_has [] q e = cc
first_has (n ∷ ns) q e = let same : n ≡ q = cc in rw same (has_first q ns)

pub live_of-has : (txn : TxnId) (live : List Live) (t : Live) → live_of txn live ≡ Some t → Has live t
live_of-has txn live t e = find_has (λ (u : Live). same_txn u.txn txn) live t e

pub live_of-is : (txn : TxnId) (live : List Live) (t : Live) → live_of txn live ≡ Some t → t.txn ≡ txn
live_of-is txn live t e = same_txn-is t.txn txn (find_true (λ (u : Live). same_txn u.txn txn) live t e)

-- what is looked up by its place is there
pub slice_has : {X : Type 0} (xs : List X) (i : ℕ) (a : X) → slice_get xs i ≡ Some a → Has xs a
slice_has [] i a e = cc
slice_has (y ∷ ys) zero a e = let same : y ≡ a = cc in rw same (has_first a ys)
slice_has (y ∷ ys) (suc i) a e = has_more y ys a (slice_has ys i a e)

-- neither below nor above the next number
pub next_number : (n m : ℕ) → nat_le n m ≡ false → nat_lt (m + 1) n ≡ false → n ≡ m + 1
next_number n m a b = grind (arith, nat_tests, a, b)

-- neither test holds
pub neither : (a b : Bool) → (a || b) ≡ false → a ≡ false
neither true b e = e
neither false b e = refl

pub nor : (a b : Bool) → (a || b) ≡ false → b ≡ false
nor true b e = cc
nor false b e = e

-- not short for the first reason, so not for the next one
pub none_first : {X : Type 0} (a b : Option X) → first_some a b ≡ None → b ≡ None
none_first (Some y) b e = cc
none_first None b e = e

-- an open record has no bar
pub unbarred : (x : SiteState) (rec : ℕ) → is_open x rec ≡ true → value_at rec x.bars ≡ None
unbarred x rec opened = go (value_at rec x.bars) refl opened
  where
    go : (bar : Option (ℕ × ℕ)) → value_at rec x.bars ≡ bar → not (is_some bar) ≡ true → value_at rec x.bars ≡ None
    go None e o = e
    go (Some bar) e o = cc

pub open_here : (catalogue : Catalogue) (x : SiteState) (rec : ℕ) (deed : Deed) → short catalogue x.held x.bars rec deed ≡ None → is_open x rec ≡ true
open_here catalogue x rec deed e = usable (value_at rec x.bars) (short_of_holders catalogue rec (members_in x.held)) (none_first _ (first_some (value_at rec x.bars) (short_of_holders catalogue rec (members_in x.held))) e)
  where
    usable : (a b : Option (ℕ × ℕ)) → first_some a b ≡ None → not (is_some a) ≡ true
    usable None b e = refl
    usable (Some bar) b e = cc

module _ (catalogue : Catalogue) (x : SiteState) (given : Input) (Q : Lent → Type 0) (k : OfCoordinator catalogue x given Q) (h : Q (lent_at x)) where
  abbrev Closing : (Live → Ending) → Live → Type 0
  Closing why t = Handled x t × Closes x given t (why t)

  all_handled : (why : Live → Ending) (live : List Live) → ((t : Live) → Has live t → Has x.live t × Closes x given t (why t)) → AllByRecursion (Closing why) live
  all_handled why [] sub = tt
  all_handled why (t ∷ live) sub = let now = sub t (has_first t live) in ((record { was = t; live = now.0; same = refl }, now.1), all_handled why live (λ u q. sub u (has_more t live u q)))

  -- what closing leaves
  closed_one : (t : Live) (why : Ending) (l : Lent) → Closed x l → Closed x (close x.id t why l)
  closed_one t why l c =
      let e = close-ends x.id t why l in
      record {
        live = λ u h. c.live u (without_first_has (λ (u : Live). same_txn u.txn t.txn) l.live u (rw (ap (λ (c : CoordinatorState). c.live) e.coordinator) at h));
        commits = close-commits x.id t why l ∙ c.commits;
        messages = λ m h. ⊎_elim (λ old. c.messages m old)
            (λ new. let r = map_has (λ (q : ℕ). letter x.id q (message.Outcome t.txn false)) t.parts m new in (t.txn, sym (ap (λ (m : Sent). m.message) r.2)))
            (has_cases l.effects.messages (letters x.id (λ q. message.Outcome t.txn false) t.parts) m (rw e.messages at h));
      }

  closed_all : (why : Live → Ending) (live : List Live) (l : Lent) → Closed x l → Closed x (close_all x.id why live l)
  closed_all why [] l c = c
  closed_all why (t ∷ live) l c = closed_all why live (close x.id t (why t) l) (closed_one t (why t) l c)

  closed_none : Closed x (lent_at x)
  closed_none = record { live = λ t h. h; commits = refl; messages = λ m h. absurd (has_none m h) }

  close_all-kept : (why : Live → Ending) (live : List Live) (l : Lent) → AllByRecursion (Closing why) live → ((t : Live) → is_abort (why t) ≡ true) → l.effects.commits ≡ [] → Q l → Q (close_all x.id why live l)
  close_all-kept why [] l all abort n p = p
  close_all-kept why (t ∷ live) l all abort n p = close_all-kept why live (close x.id t (why t) l) all.1 abort (close-commits x.id t (why t) l ∙ n) (k.close t (why t) l all.0.0 (abort t) n all.0.1 p)

  pub abandon-closed : Closed x (abandon x.id (lent_at x))
  unfolding abandon
  abandon-closed = closed_all (λ t. ViewChanged x.id t.view None) x.live (lent_at x) closed_none

  pub abandon-kept : Q (abandon x.id (lent_at x))
  unfolding abandon
  abandon-kept = close_all-kept (λ t. ViewChanged x.id t.view None) x.live (lent_at x) (all_handled (λ t. ViewChanged x.id t.view None) x.live (λ t q. (q, Closes.left q))) (λ t. refl) refl h

  pub time_out_calls-kept : given ≡ input.Tick → Q (time_out_calls x.id (lent_at x))
  unfolding time_out_calls
  time_out_calls-kept c =
      let late = filter (λ (t : Live). is_marked_call t.pending) x.live in
      k.mark_calls _ c (closed_all (λ t. TimedOut (least_missing t.pending)) late (lent_at x) closed_none) (close_all-kept (λ t. TimedOut (least_missing t.pending)) late (lent_at x) (all_handled (λ t. TimedOut (least_missing t.pending)) late (λ t q. let z = filter_has (λ (t : Live). is_marked_call t.pending) x.live t q in (z.0, Closes.timed_out z.0 z.1))) (λ t. refl) refl h)

  on_begin-kept : (port : ℕ) → given ≡ input.Call port call.Begin → Q (on_begin (surroundings x) port (lent_at x))
  unfolding on_begin begin_in
  on_begin-kept port comes = by_option Q _ _ _
      (λ view e. by_test Q (nat_le 1024 (length x.live)) _ _ (λ many. k.answers _ port (Answered.replies (Replies.other refl)) (Says.full comes))
      (λ few. by_test Q (x.seq == 2 ^ 32 - 1) _ _ (λ spent. k.answers _ port (Answered.replies (Replies.other refl)) (Says.spent comes)) (λ left. k.begin port view e comes left)))
      (λ none. k.answers _ port (Answered.replies (Replies.other refl)) (Says.no_view comes))

  handled_by : (t : Live) (p : Pending) → Has x.live t → Handled x (handling t p)
  handled_by t p e = record { was = t; live = e; same = refl }

  handled_as : (t : Live) → Has x.live t → Handled x t
  handled_as t e = record { was = t; live = e; same = refl }

  -- the next call of a live transaction t
  module _ (t : Live) (p : Pending) (here : Has x.live t) (next : IsNext given t p) where
    closing-kept : (why : Ending) → is_abort why ≡ true → Closes x given (handling t p) why → Q (close x.id (handling t p) why (lent_at x))
    closing-kept why a c = k.close (handling t p) why (lent_at x) (handled_by t p here) a refl c h

    lock_here-kept : (name : List ℕ) (rec : ℕ) (exclusive : Bool) (stored : Stored) (rest : Lent → Lent) → Names p.call name → is_open x rec ≡ true → value_at rec x.copies ≡ Some stored → (conflict rec exclusive t.txn x.locks ≡ None → Q (take_lock t.txn rec exclusive (lent_at x)) → Q (rest (take_lock t.txn rec exclusive (lent_at x)))) → Q (lock_here x.id t p name rec exclusive rest (lent_at x))
    unfolding lock_here
    lock_here-kept name rec exclusive stored rest m a e n =
        by_option Q _ _ _ (λ holder f. closing-kept (LockHeld name x.id holder) refl (Closes.held_here t p name rec exclusive holder here next refl m f)) (λ c. n c (k.take_lock t rec exclusive stored here next.idle a e c))

    read-kept : (name : List ℕ) (rec : ℕ) → nat_le 64 (length t.answers) ≡ false → Names p.call name → Reads catalogue p rec → is_open x rec ≡ true → Q (read catalogue x.id x.held t p name rec (lent_at x))
    unfolding read take_lock
    read-kept name rec few m r a =
        by_option Q _ _ _ (λ value e. k.complete t p _ (lent_at x) here (Completes.own_write rec value next r a e refl refl) (λ i. few) refl h)
        (λ n. by_option Q _ _ _
        (λ stored e. lock_here-kept name rec false stored (answer_read t p rec stored.value) m a e (λ c q. k.complete t p _ (take_lock t.txn rec false (lent_at x)) here (Completes.own_copy rec stored next r a n e c refl refl) (λ i. few) refl q))
        (λ none. by_some Q (first (other_holders catalogue x rec)) (read_at x.id t p rec) (lent_at x) (λ q e. k.read_at t p rec q here next r a n none (first_has _ q e) few) h))

    change_elsewhere-kept : (rec : ℕ) (deed : Deed) (l : Lent) → nat_le 64 (length t.answers) ≡ false → Changes catalogue p rec deed → May catalogue x t rec deed → value_at rec (last_changes (entry_of t)) ≡ None → Locked x t rec l → l.live ≡ x.live → Q l → Q (change_elsewhere catalogue x.id x.held t p rec deed l)
    unfolding change_elsewhere
    change_elsewhere-kept rec deed l few w a n taken live q =
        by_test Q (is_empty (other_holders catalogue x rec)) _ _ (λ e. k.complete t p deed l here (Completes.change_alone rec next w a n e taken) (λ i. few) live q)
        (λ e. k.write_at t p rec deed l here next w a n e taken few live q)

    change-kept : (name : List ℕ) (asked : ℕ → Deed) (rec : ℕ) → nat_le 64 (length t.answers) ≡ false → Names p.call name → Changes catalogue p rec (asked rec) → May catalogue x t rec (asked rec) → Q (change catalogue x.id x.held t p name asked rec (lent_at x))
    unfolding change take_lock
    change-kept name asked rec few m w a =
        by_option Q _ _ _ (λ before e. k.complete t p _ (lent_at x) here (Completes.change_again rec before next w a e refl) (λ i. few) refl h)
        (λ n. by_option Q _ _ _
        (λ stored e. lock_here-kept name rec true stored (change_elsewhere catalogue x.id x.held t p rec (asked rec)) m a.usable e (λ c q. change_elsewhere-kept rec (asked rec) (take_lock t.txn rec true (lent_at x)) few w a n (Locked.locked stored e c refl) refl q))
        (λ none. change_elsewhere-kept rec (asked rec) (lent_at x) few w a n (Locked.no_copy none refl) refl h))

    with_record-kept : (name : List ℕ) (asked : ℕ → Deed) (use_record : ℕ → Lent → Lent) → Names p.call name → ((rec : ℕ) → Tries p.call rec (asked rec)) → ((rec : ℕ) → find_record catalogue name ≡ Some rec → nat_le 64 (length t.answers) ≡ false → May catalogue x t rec (asked rec) → Q (use_record rec (lent_at x))) → Q (with_record catalogue x.held t p name asked use_record (lent_at x))
    unfolding with_record
    with_record-kept name asked use_record m tries used = by_option Q _ _ _
        (λ rec e. by_test Q (is_bad_table catalogue (asked rec)) _ _ (λ bad. k.answers _ _ (Answered.replies (Replies.other refl)) (Says.bad_table t p.call p.number next.comes here next.number))
        (λ table. by_test Q (nat_le 64 (length t.answers) || is_too_large t (asked rec)) _ _ (λ many. k.answers _ _ (Answered.replies (Replies.other refl)) (Says.many t p.call p.number next.comes here next.number))
        (λ fits. by_option Q _ (short catalogue x.held x.bars rec (asked rec)) _ (λ weights s. k.answers _ _ (Answered.unable t p name weights.0 weights.1 here next refl) (Says.inaccessible t p.call p.number name rec (asked rec) weights next.comes here next.number m e (tries rec) s))
        (λ enough. used rec e (neither _ _ fits) (record { table = table; fits = nor (nat_le 64 (length t.answers)) _ fits; enough = enough; usable = open_here catalogue x rec (asked rec) enough })))))
        (λ none. k.answers _ _ (Answered.replies (Replies.other refl)) (Says.no_record t p.call p.number next.comes here next.number))

    new_change-kept : (name : List ℕ) (asked : ℕ → Deed) → Names p.call name → ((rec : ℕ) → Tries p.call rec (asked rec)) → ((rec : ℕ) → find_record catalogue name ≡ Some rec → Changes catalogue p rec (asked rec)) → Q (new_change catalogue x.id x.held t p name asked (lent_at x))
    unfolding new_change
    new_change-kept name asked m tries changes = with_record-kept name asked _ m tries (λ rec f few a. change-kept name asked rec few m (changes rec f) a)

    commit-kept : is_commit p.call ≡ true → Q (commit catalogue x.id t p (lent_at x))
    unfolding commit
    commit-kept c = by_test Q (is_empty t.parts) _ _ (λ e. k.decide (handling t p) (handled_by t p here) (Decides.alone t p here next c e refl)) (λ e. k.prepare_parts t p here next c e)

    new_call-kept : (words : Call) → p.call ≡ words → Q (new_call catalogue x.id x.held t p words (lent_at x))
    unfolding new_call
    new_call-kept (call.Read txn number name) e =
        let m : Names p.call name = Names.reads txn number e in
        with_record-kept name (λ rec. Deed.operates (op.Read rec None)) _ m (λ rec. Tries.reads txn number name e) (λ rec f few a. read-kept name rec few m (record { txn = txn; number = number; name = name; words = e; found = f }) a.usable)
    new_call-kept (call.Write txn number name value) e = new_change-kept name (λ rec. Deed.operates (op.Write rec (Some value))) (Names.writes txn number value e) (λ rec. Tries.writes txn number name value e) (λ rec f. record { asked = rw (e, f) refl; on = refl })
    new_call-kept (call.Delete txn number name) e = new_change-kept name (λ rec. Deed.operates (op.Write rec None)) (Names.deletes txn number e) (λ rec. Tries.deletes txn number name e) (λ rec f. record { asked = rw (e, f) refl; on = refl })
    new_call-kept (call.Weigh txn number name table) e = new_change-kept name (λ rec. Deed.weighs rec table) (Names.weighs txn number table e) (λ rec. Tries.weighs txn number name table e) (λ rec f. record { asked = rw (e, f) refl; on = refl })
    new_call-kept (call.Commit txn number) e = commit-kept (rw e refl)
    new_call-kept (call.Abort txn number) e = closing-kept Aborted refl (Closes.aborted t p here next refl)
    new_call-kept call.Begin e = h
    new_call-kept call.Regroup e = h

  live_call-kept : (t : Live) (p : Pending) → given ≡ input.Call p.port p.call → Has x.live t → Q (live_call catalogue x.id x.held t p (lent_at x))
  unfolding live_call
  live_call-kept t p comes here =
      by_test Q (nat_le p.number (length t.answers)) _ _ (λ old. by_some Q _ (λ answer. lent_reply answer p.port) (lent_at x) (λ answer e. let q = slice_has t.answers (p.number - 1) answer e in k.answers answer p.port (Answered.replies (Replies.kept t here q)) (Says.again t p.call answer comes here q)) h)
      (λ fresh. by_test Q (nat_lt (length t.answers + 1) p.number) _ _ (λ skipped. k.answers _ _ (Answered.replies (Replies.other refl)) (Says.skipped t p.call comes here))
      (λ fits. by_test Q (is_some t.pending) _ _ (λ busy. k.answers _ _ (Answered.replies (Replies.other refl)) (Says.busy t p.call p.number comes here (next_number p.number (length t.answers) fresh fits))) (λ idle. new_call-kept t p here (record { comes = comes; idle = idle; number = next_number p.number (length t.answers) fresh fits }) p.call refl)))

  finished_call-kept : (port : ℕ) (words : Call) (txn : TxnId) (number : ℕ) (f : Finished) → given ≡ input.Call port words → IsCallOf words txn number → Has x.finished f → Q (finished_call port number f (lent_at x))
  unfolding finished_call
  finished_call-kept port words txn number f comes own here = by_test Q (nat_le number (length f.answers)) _ _
      (λ old. by_some Q _ (λ answer. lent_reply answer port) (lent_at x) (λ answer e. let q = slice_has f.answers (number - 1) answer e in k.answers answer port (Answered.replies (Replies.kept_end f here q)) (Says.again_ended f words answer comes here q)) h)
      (λ more. k.answers _ port (Answered.replies (Replies.over f number here refl)) (Says.over f words txn number comes own here))

  on_txn_call-kept : (port : ℕ) (txn : TxnId) (number : ℕ) (words : Call) → given ≡ input.Call port words → IsCallOf words txn number → Q (on_txn_call catalogue x.id x.held port txn number words (lent_at x))
  unfolding on_txn_call
  on_txn_call-kept port txn number words comes own =
      by_option Q _ _ _ (λ t e. live_call-kept t (handled port number words) comes (live_of-has txn x.live t e)) (λ none. by_option Q (λ f. finished_call port number f (lent_at x)) (finished_of txn x.finished) (lent_reply (answer.Unknown txn) port (lent_at x)) (λ f e. finished_call-kept port words txn number f comes own (find_has (λ (t : Finished). same_txn t.txn txn) x.finished f e)) (λ unknown. k.answers (answer.Unknown txn) port (Answered.replies (Replies.other refl)) (Says.unknown words txn number comes own)))

  pub own_call-kept : (port : ℕ) (words : Call) → given ≡ input.Call port words → Q (own_call catalogue port words (surroundings x) (lent_at x))
  unfolding own_call
  own_call-kept port call.Begin comes = on_begin-kept port comes
  own_call-kept port call.Regroup comes = h
  own_call-kept port (call.Read txn number name) comes = on_txn_call-kept port txn number (call.Read txn number name) comes (IsCallOf.reads txn number name)
  own_call-kept port (call.Write txn number name value) comes = on_txn_call-kept port txn number (call.Write txn number name value) comes (IsCallOf.writes txn number name value)
  own_call-kept port (call.Delete txn number name) comes = on_txn_call-kept port txn number (call.Delete txn number name) comes (IsCallOf.deletes txn number name)
  own_call-kept port (call.Weigh txn number name table) comes = on_txn_call-kept port txn number (call.Weigh txn number name table) comes (IsCallOf.weighs txn number name table)
  own_call-kept port (call.Commit txn number) comes = on_txn_call-kept port txn number (call.Commit txn number) comes (IsCallOf.commits txn number)
  own_call-kept port (call.Abort txn number) comes = on_txn_call-kept port txn number (call.Abort txn number) comes (IsCallOf.aborts txn number)

  -- answers to this site's transactions
  with_missing-kept : (txn : TxnId) (from : ℕ) (f : Live → Pending → Lent → Lent) → ((t : Live) (p : Pending) → Has x.live t → t.txn ≡ txn → t.pending ≡ Some p → has p.missing from ≡ true → Q (f t p (lent_at x))) → Q (with_missing txn from f (lent_at x))
  unfolding with_missing
  with_missing-kept txn from f each = by_some Q (live_of txn x.live) _ (lent_at x)
      (λ t e. by_some Q t.pending _ (lent_at x) (λ p g. by_test Q (has p.missing from) _ _ (λ m. each t p (live_of-has txn x.live t e) (live_of-is txn x.live t e) g m) (λ no. h)) h) h

  count_in-kept : (from : ℕ) (t : Live) (p : Pending) (done : Lent → Lent) → Has x.live t → t.pending ≡ Some p → has p.missing from ≡ true → Counts catalogue given t p from → (IsLast t p from → Q (done (lent_at x))) → Q (count_in from t p done (lent_at x))
  count_in-kept from t p done here e m c d = by_test Q (is_empty (remaining from p)) _ _ (λ last. d (record { pending = e; missing = m; last = last })) (λ more. k.still_waits t p from here e m more c)

  -- a call is pending
  is_pending : {A : Type 0} (t : Live) (p : Pending) → t.pending ≡ Some p → is_some t.pending ≡ false → A
  is_pending t p f i = let z : is_some t.pending ≡ true = rw f refl in cc

  read_came : (from : ℕ) (t u : TxnId) (n m : ℕ) (value : Option (List ℕ)) → Comes given from (message.ReadAnswer t n value) → u ≡ t → m ≡ n → Comes given from (message.ReadAnswer u m value)
  read_came from t u n m value c e f = rw (e, f) c

  write_came : (from : ℕ) (t u : TxnId) (n m : ℕ) → Comes given from (message.WriteAnswer t n) → u ≡ t → m ≡ n → Comes given from (message.WriteAnswer u m)
  write_came from t u n m c e f = rw (e, f) c

  vote_came : (from : ℕ) (t u : TxnId) → Comes given from (message.Vote t) → u ≡ t → Comes given from (message.Vote u)
  vote_came from t u c e = rw e c

  read_answered-kept : (from : ℕ) (txn : TxnId) (number : ℕ) (value : Option (List ℕ)) (t : Live) (p : Pending) (words : Call) → p.call ≡ words → Comes given from (message.ReadAnswer txn number value) → Has x.live t → t.txn ≡ txn → t.pending ≡ Some p → has p.missing from ≡ true → Q (read_answered catalogue from number value t p words (lent_at x))
  read_answered-kept from txn number value t p (call.Read called n name) e c here same f m =
      by_test Q (p.number == number) _ _ (λ numbered.
      let came : Comes given from (message.ReadAnswer t.txn p.number value) = read_came from txn t.txn number p.number value c same (eqb-true p.number number numbered) in
      by_some Q (find_record catalogue name) _ (lent_at x) (λ rec found.
      let reads : Reads catalogue p rec = record { txn = called; number = n; name = name; words = e; found = found } in
      count_in-kept from t p (answer_read t p rec value) here f m (Counts.read rec value came reads) (λ last. k.complete t p _ (lent_at x) here (Completes.read_answered from rec value came last reads refl refl) (is_pending t p f) refl h)) h)
      (λ other. h)
  read_answered-kept from txn number value t p (call.Write called n name v) e c here same f m = h
  read_answered-kept from txn number value t p (call.Delete called n name) e c here same f m = h
  read_answered-kept from txn number value t p (call.Weigh called n name table) e c here same f m = h
  read_answered-kept from txn number value t p (call.Commit called n) e c here same f m = h
  read_answered-kept from txn number value t p (call.Abort called n) e c here same f m = h
  read_answered-kept from txn number value t p call.Begin e c here same f m = h
  read_answered-kept from txn number value t p call.Regroup e c here same f m = h

  on_read_answer-kept : (from : ℕ) (txn : TxnId) (number : ℕ) (value : Option (List ℕ)) → Comes given from (message.ReadAnswer txn number value) → Q (on_read_answer catalogue from txn number value (lent_at x))
  unfolding on_read_answer
  on_read_answer-kept from txn number value c = with_missing-kept txn from _ (λ t p here same f m. read_answered-kept from txn number value t p p.call refl c here same f m)

  write_answered-kept : (from : ℕ) (txn : TxnId) (number : ℕ) (t : Live) (p : Pending) → Comes given from (message.WriteAnswer txn number) → Has x.live t → t.txn ≡ txn → t.pending ≡ Some p → has p.missing from ≡ true → Q (write_answered catalogue from number t p (lent_at x))
  write_answered-kept from txn number t p c here same f m =
      by_test Q (p.number == number) _ _ (λ numbered.
      let came : Comes given from (message.WriteAnswer t.txn p.number) = write_came from txn t.txn number p.number c same (eqb-true p.number number numbered) in
      by_some Q (change_asked catalogue p.call) _ (lent_at x) (λ deed asked.
      let changes : Changes catalogue p (record_of deed) deed = record { asked = asked; on = refl } in
      count_in-kept from t p (complete t p deed) here f m (Counts.changed (record_of deed) deed came changes) (λ last. k.complete t p deed (lent_at x) here (Completes.change_answered from (record_of deed) came last changes refl) (is_pending t p f) refl h)) h)
      (λ other. h)

  on_write_answer-kept : (from : ℕ) (txn : TxnId) (number : ℕ) → Comes given from (message.WriteAnswer txn number) → Q (on_write_answer catalogue from txn number (lent_at x))
  unfolding on_write_answer
  on_write_answer-kept from txn number c = with_missing-kept txn from _ (λ t p here same f m. write_answered-kept from txn number t p c here same f m)

  refused_by-kept : (why : Obstacle) (words : Call) (from : ℕ) (t : Live) (p : Pending) (txn : TxnId) (number : ℕ) → t.pending ≡ Some p → p.call ≡ words → Comes given from (message.Refuse txn number why) → Has x.live t → Q (refused_by x.id why words from t (lent_at x))
  refused_by-kept (obstacle.Held holder) (call.Read txn number name) from t p u n f e c here = k.close t (LockHeld name from holder) (lent_at x) (handled_as t here) refl refl (Closes.held_there p u n from name holder here f (Names.reads txn number e) c) h
  refused_by-kept (obstacle.Held holder) (call.Write txn number name value) from t p u n f e c here = k.close t (LockHeld name from holder) (lent_at x) (handled_as t here) refl refl (Closes.held_there p u n from name holder here f (Names.writes txn number value e) c) h
  refused_by-kept (obstacle.Held holder) (call.Delete txn number name) from t p u n f e c here = k.close t (LockHeld name from holder) (lent_at x) (handled_as t here) refl refl (Closes.held_there p u n from name holder here f (Names.deletes txn number e) c) h
  refused_by-kept (obstacle.Held holder) (call.Weigh txn number name table) from t p u n f e c here = k.close t (LockHeld name from holder) (lent_at x) (handled_as t here) refl refl (Closes.held_there p u n from name holder here f (Names.weighs txn number table e) c) h
  refused_by-kept (obstacle.Held holder) (call.Commit txn number) from t p u n f e c here = h
  refused_by-kept (obstacle.Held holder) (call.Abort txn number) from t p u n f e c here = h
  refused_by-kept (obstacle.Held holder) call.Begin from t p u n f e c here = h
  refused_by-kept (obstacle.Held holder) call.Regroup from t p u n f e c here = h
  refused_by-kept (obstacle.Barred inside total) (call.Read txn number name) from t p u n f e c here = k.close t (Inaccessible name inside total) (lent_at x) (handled_as t here) refl refl (Closes.barred_there p u n from name inside total here f (Names.reads txn number e) c) h
  refused_by-kept (obstacle.Barred inside total) (call.Write txn number name value) from t p u n f e c here = k.close t (Inaccessible name inside total) (lent_at x) (handled_as t here) refl refl (Closes.barred_there p u n from name inside total here f (Names.writes txn number value e) c) h
  refused_by-kept (obstacle.Barred inside total) (call.Delete txn number name) from t p u n f e c here = k.close t (Inaccessible name inside total) (lent_at x) (handled_as t here) refl refl (Closes.barred_there p u n from name inside total here f (Names.deletes txn number e) c) h
  refused_by-kept (obstacle.Barred inside total) (call.Weigh txn number name table) from t p u n f e c here = k.close t (Inaccessible name inside total) (lent_at x) (handled_as t here) refl refl (Closes.barred_there p u n from name inside total here f (Names.weighs txn number table e) c) h
  refused_by-kept (obstacle.Barred inside total) (call.Commit txn number) from t p u n f e c here = h
  refused_by-kept (obstacle.Barred inside total) (call.Abort txn number) from t p u n f e c here = h
  refused_by-kept (obstacle.Barred inside total) call.Begin from t p u n f e c here = h
  refused_by-kept (obstacle.Barred inside total) call.Regroup from t p u n f e c here = h
  refused_by-kept (obstacle.OtherView now) words from t p u n f e c here = k.close t (ViewChanged from t.view now) (lent_at x) (handled_as t here) refl refl (Closes.other_view u n from now here c) h

  on_refuse-kept : (from : ℕ) (txn : TxnId) (number : ℕ) (why : Obstacle) → Comes given from (message.Refuse txn number why) → Q (on_refuse x.id from txn number why (lent_at x))
  unfolding on_refuse
  on_refuse-kept from txn number why c = with_missing-kept txn from _ (λ t p here same f m. by_test Q (p.number == number) _ _ (λ e. refused_by-kept why p.call from t p txn number f refl c here) (λ e. h))

  voted-kept : (from : ℕ) (txn : TxnId) (t : Live) (p : Pending) (words : Call) → p.call ≡ words → Comes given from (message.Vote txn) → Has x.live t → t.txn ≡ txn → t.pending ≡ Some p → has p.missing from ≡ true → Q (voted catalogue x.id from t p words (lent_at x))
  voted-kept from txn t p (call.Commit called n) e c here same f m =
      let commit : is_commit p.call ≡ true = rw e refl in
      let came : Comes given from (message.Vote t.txn) = vote_came from txn t.txn c same in
      count_in-kept from t p (decide catalogue x.id t) here f m (Counts.voted came commit) (λ last. k.decide t (handled_as t here) (Decides.voted p from here last came commit))
  voted-kept from txn t p (call.Read called n name) e c here same f m = h
  voted-kept from txn t p (call.Write called n name value) e c here same f m = h
  voted-kept from txn t p (call.Delete called n name) e c here same f m = h
  voted-kept from txn t p (call.Weigh called n name table) e c here same f m = h
  voted-kept from txn t p (call.Abort called n) e c here same f m = h
  voted-kept from txn t p call.Begin e c here same f m = h
  voted-kept from txn t p call.Regroup e c here same f m = h

  on_vote-kept : (from : ℕ) (txn : TxnId) → Comes given from (message.Vote txn) → Q (on_vote catalogue x.id from txn (lent_at x))
  unfolding on_vote
  on_vote-kept from txn c = with_missing-kept txn from _ (λ t p here same f m. voted-kept from txn t p p.call refl c here same f m)

  on_ack-kept : (from : ℕ) (txn : TxnId) → Comes given from (message.Ack txn) → Q (on_ack from txn (lent_at x))
  unfolding on_ack
  on_ack-kept from txn c = by_test Q _ _ _ (λ e. k.acknowledge from txn c e) (λ e. h)

  on_inquire-kept : (from : ℕ) (txn : TxnId) → Comes given from (message.Inquire txn) → ((m : Message) → SendsBack x given from m → Q (lent_send x.id m from (lent_at x))) → Q (on_inquire x.id from txn (lent_at x))
  unfolding on_inquire
  on_inquire-kept from txn c back =
      let answered = λ (s : (txn.site == x.id) ≡ true) (n : is_live txn x.live ≡ false). back _ (SendsBack.answer_inquiry txn c s n) in
      grind (arith, nat_tests, answered, h)

  pub on_answer-kept : (from : ℕ) (m : Message) → Comes given from m → ((m : Message) → SendsBack x given from m → Q (lent_send x.id m from (lent_at x))) → Q (on_answer catalogue x.id from m (lent_at x))
  unfolding on_answer
  on_answer-kept from (message.ReadAnswer txn number value) c back = on_read_answer-kept from txn number value c
  on_answer-kept from (message.WriteAnswer txn number) c back = on_write_answer-kept from txn number c
  on_answer-kept from (message.Refuse txn number why) c back = on_refuse-kept from txn number why c
  on_answer-kept from (message.Vote txn) c back = on_vote-kept from txn c
  on_answer-kept from (message.Ack txn) c back = on_ack-kept from txn c
  on_answer-kept from (message.Inquire txn) c back = on_inquire-kept from txn c back
  on_answer-kept from m c back = h
