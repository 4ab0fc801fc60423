-- A step that refuses a call before it is done changes nothing: no other move gives such a reply.
use Rattle.std.proofs.Common.{length, ◌≡◌, ◌∙◌, ap, subst, ℕ, Bool, true, false, List, [], ◌∷◌, ◌++◌, refl, arith}
use Rattle.std.specs.Prelude.{◌||◌, nat_le, not, Option, Some, None}
use Rattle.std.specs.List.{Contains, list_any}
use Rattle.vp_model.specs.Types.{Change, TxnId, View, Stored, Owner, Call, Answer, Reply, Input, Pending, Live, Ending, Finished, Refreshing, Doubt}
use Rattle.vp_base.specs.declared.site.Ending.TheVariants.{Inaccessible, Committed, Aborted, LockHeld, ViewChanged, TimedOut}
use Rattle.vp_model.specs.Types.answer
use Rattle.vp_model.specs.Types.op
use Rattle.vp_model.specs.Types.call
use Rattle.vp_model.specs.Types.input
use Rattle.vp_model.specs.Words.{value_at, first, is_empty}
use Rattle.vp_model.specs.Catalogue.{find_record, Catalogue}
use Rattle.vp_model.specs.Durable.{doubt_of}
use Rattle.vp_model.specs.Locks.{conflict}
use Rattle.vp_model.specs.Site.{SiteState, Lent, Stepped, begin_step, lent_reply, surroundings, put_back}
use Rattle.vp_model.specs.Transactions.{Deed, deed_answer, last_changes, entry_of, last_writes, answer_of, with_pending_reply, finish, close, close_all, keep_writes, decided, decide, complete}
use Rattle.vp_model.specs.Refresh.{other_holders, unlist, end_refresh, start_refresh}
use Rattle.vp_model.specs.Views.{abandon, drop_view, leave, start_inviting, invite, is_spent, highest, hold}
use Rattle.vp_model.specs.Calls.{handling, start_txn, begin_in, on_begin, with_record, take_lock, lock_here, answer_read, read, read_at, change_elsewhere, change, new_change, is_bad_table, is_too_large, short, write_at, prepare_parts, commit, new_call, live_call, finished_call, on_txn_call, own_call, on_regroup, on_call}
use Rattle.vp_model.specs.Messages.{accept, on_accept, on_stale, grant, end_here}
use Rattle.vp_model.specs.Step.{fix, mark_calls, ask_again, resend_one, inquire, on_input, step}
use Rattle.vp_laws.specs.Refusals.{is_message, is_not_done, RefusalsChangeNothing}
use Rattle.vp_laws.proofs.Lists.Members.{has_of, has_one_is, any_false, either_false}
use Rattle.vp_laws.proofs.Moves.Frames.{decide-cases, take-cases}
use Rattle.vp_laws.proofs.Moves.Table.{Closes, next_name, lent_at, Completes, Says, OfCoordinator, Back, Table}
use Rattle.vp_laws.proofs.Moves.Rows.{step-keeps}
use Rattle.vp_laws.proofs.Lists.Keeps.{by_option, by_some, by_test}

abbrev refuses : Input → Reply → Bool
refuses given r = is_not_done given r.answer

-- none of the replies refuses a call before it is done
abbrev Done : Input → List Reply → Type 0
Done given rs = list_any (refuses given) rs ≡ false

done_more : (given : Input) (rs : List Reply) (r : Reply) → Done given rs → refuses given r ≡ false → Done given (rs ++ r ∷ [])
done_more given [] r h e = rw e refl
done_more given (q ∷ rs) r h e = let z = either_false (refuses given q) (list_any (refuses given) rs) h in rw z.0 (done_more given rs r z.1 e)

-- an end that no call is refused by before it is done
abbrev is_late : Input → Ending → Bool
is_late given (Inaccessible name inside total) = is_message given
is_late given _ = true

end_is_done : (given : Input) (txn : TxnId) (number : ℕ) (why : Ending) → is_late given why ≡ true → is_not_done given (answer_of txn number why) ≡ false
end_is_done given txn number Committed e = refl
end_is_done given txn number Aborted e = refl
end_is_done given txn number (LockHeld name at owner) e = refl
end_is_done given txn number (ViewChanged at held now) e = refl
end_is_done given txn number (TimedOut at) e = refl
end_is_done given txn number (Inaccessible name inside total) e = ap not e

deed_is_done : (given : Input) (txn : TxnId) (number : ℕ) (deed : Deed) → is_not_done given (deed_answer txn number deed) ≡ false
deed_is_done given txn number (Deed.operates (op.Read rec None)) = refl
deed_is_done given txn number (Deed.operates (op.Read rec (Some value))) = refl
deed_is_done given txn number (Deed.operates (op.Write rec None)) = refl
deed_is_done given txn number (Deed.operates (op.Write rec (Some value))) = refl
deed_is_done given txn number (Deed.weighs rec table) = refl

-- no transaction is closed so here
closes_late : (x : SiteState) (given : Input) (t : Live) (why : Ending) → Closes x given t why → is_late given why ≡ true
closes_late x given t _ (Closes.aborted was p h n e) = refl
closes_late x given t _ (Closes.held_here was p name rec exclusive holder h n e m c) = refl
closes_late x given t _ (Closes.held_there p txn number from name holder h e m c) = refl
closes_late x given t _ (Closes.other_view txn number from now h c) = refl
closes_late x given t _ (Closes.barred_there p txn number from name inside total h e m c) = rw c refl
closes_late x given t _ (Closes.left h) = refl
closes_late x given t _ (Closes.timed_out h m) = refl

-- the end of a transaction
finish_done : (given : Input) (t : Live) (why : Ending) (l : Lent) → is_late given why ≡ true → Done given l.effects.replies → Done given (finish t why l).effects.replies
unfolding finish
finish_done given t why l late h = go t.pending
  where
    go : (p : Option Pending) → Done given (with_pending_reply t.txn why p l.effects).replies
    go None = h
    go (Some p) = done_more given l.effects.replies _ h (end_is_done given t.txn p.number why late)

close_done : (given : Input) (id : ℕ) (t : Live) (why : Ending) (l : Lent) → is_late given why ≡ true → Done given l.effects.replies → Done given (close id t why l).effects.replies
unfolding close
close_done given id t why l late h = finish_done given t why _ late h

close_all_done : (given : Input) (id : ℕ) (why : Live → Ending) (live : List Live) (l : Lent) → ((t : Live) → is_late given (why t) ≡ true) → Done given l.effects.replies → Done given (close_all id why live l).effects.replies
close_all_done given id why [] l late h = h
close_all_done given id why (t ∷ live) l late h = close_all_done given id why live (close id t (why t) l) late (close_done given id t (why t) l (late t) h)

decided_done : (given : Input) (id : ℕ) (t : Live) (l : Lent) → Done given l.effects.replies → Done given (decided id t l).effects.replies
unfolding decided
decided_done given id t l h = finish_done given t Committed _ refl h

module _ (catalogue : Catalogue) (x : SiteState) (given : Input) where
  abbrev DoneBy : Lent → Type 0
  DoneBy l = Done given l.effects.replies

  decide_done : (t : Live) → DoneBy (decide catalogue x.id t (lent_at x))
  unfolding keep_writes
  decide_done t = decide-cases DoneBy catalogue x.id t (lent_at x) (λ none. decided_done given x.id t _ refl) (λ some. decided_done given x.id t _ refl)

  -- what a call on a transaction, or one that begins one, can come to
  record ComesTo (Q : Lent → Type 0) : Type 0 where
    only : (words : Answer) (port : ℕ) → Q (lent_reply words port (lent_at x))
    nothing : Q (lent_at x)
    begins : (port : ℕ) (view : View) → Q (start_txn (next_name x) port view.id (lent_at x))
    ends : (t : Live) (why : Ending) → is_late given why ≡ true → Q (close x.id t why (lent_at x))
    completes : (t : Live) (p : Pending) (deed : Deed) (l : Lent) → l.effects.replies ≡ [] → Q (complete t p deed l)
    reads : (t : Live) (p : Pending) (rec q : ℕ) → Q (read_at x.id t p rec q (lent_at x))
    writes : (t : Live) (p : Pending) (rec : ℕ) (sites : List ℕ) (l : Lent) → l.effects.replies ≡ [] → Q (write_at x.id t p rec sites l)
    prepares : (t : Live) (p : Pending) → Q (prepare_parts catalogue x.id t p (lent_at x))
    decides : (t : Live) → Q (decide catalogue x.id t (lent_at x))

  module _ (Q : Lent → Type 0) (k : ComesTo Q) where
    of_begin : (port : ℕ) → Q (on_begin (surroundings x) port (lent_at x))
    unfolding on_begin begin_in
    of_begin port = grind (arith, k.only, k.begins)

    module _ (t : Live) (p : Pending) where
      of_lock : (name : List ℕ) (rec : ℕ) (exclusive : Bool) (rest : Lent → Lent) → Q (rest (take_lock t.txn rec exclusive (lent_at x))) → Q (lock_here x.id t p name rec exclusive rest (lent_at x))
      unfolding lock_here
      of_lock name rec exclusive rest h = by_option Q (λ (holder : Owner). close x.id (handling t p) (LockHeld name x.id holder) (lent_at x)) (conflict rec exclusive t.txn x.locks) _ (λ holder e. k.ends (handling t p) (LockHeld name x.id holder) refl) (λ free. h)

      locked_replies : (rec : ℕ) (exclusive : Bool) → (take_lock t.txn rec exclusive (lent_at x)).effects.replies ≡ []
      unfolding take_lock
      locked_replies rec exclusive = refl

      of_read : (name : List ℕ) (rec : ℕ) → Q (read catalogue x.id x.held t p name rec (lent_at x))
      unfolding read
      of_read name rec = by_option Q (λ (value : Option (List ℕ)). answer_read t p rec value (lent_at x)) (value_at rec (last_writes t.ops)) _ (λ value e. k.completes t p _ (lent_at x) refl)
          (λ n. by_option Q (λ (stored : Stored). lock_here x.id t p name rec false (answer_read t p rec stored.value) (lent_at x)) (value_at rec x.copies) _
          (λ stored e. of_lock name rec false (answer_read t p rec stored.value) (k.completes t p _ (take_lock t.txn rec false (lent_at x)) (locked_replies rec false)))
          (λ none. by_some Q (first (other_holders catalogue x rec)) (read_at x.id t p rec) (lent_at x) (λ q e. k.reads t p rec q) k.nothing))

      of_elsewhere : (rec : ℕ) (deed : Deed) (l : Lent) → l.effects.replies ≡ [] → Q (change_elsewhere catalogue x.id x.held t p rec deed l)
      unfolding change_elsewhere
      of_elsewhere rec deed l none = by_test Q (is_empty (other_holders catalogue x rec)) (complete t p deed l) (write_at x.id t p rec (other_holders catalogue x rec) l) (λ e. k.completes t p deed l none) (λ e. k.writes t p rec _ l none)

      of_change : (name : List ℕ) (asked : ℕ → Deed) (rec : ℕ) → Q (change catalogue x.id x.held t p name asked rec (lent_at x))
      unfolding change
      of_change name asked rec = by_option Q (λ (before : Change). complete t p (asked rec) (lent_at x)) (value_at rec (last_changes (entry_of t))) _ (λ before e. k.completes t p (asked rec) (lent_at x) refl)
          (λ n. by_option Q (λ (stored : Stored). lock_here x.id t p name rec true (change_elsewhere catalogue x.id x.held t p rec (asked rec)) (lent_at x)) (value_at rec x.copies) _
          (λ stored e. of_lock name rec true (change_elsewhere catalogue x.id x.held t p rec (asked rec)) (of_elsewhere rec (asked rec) (take_lock t.txn rec true (lent_at x)) (locked_replies rec true)))
          (λ none. of_elsewhere rec (asked rec) (lent_at x) refl))

      of_record : (name : List ℕ) (asked : ℕ → Deed) (use_record : ℕ → Lent → Lent) → ((rec : ℕ) → Q (use_record rec (lent_at x))) → Q (with_record catalogue x.held t p name asked use_record (lent_at x))
      unfolding with_record
      of_record name asked use_record used = by_option Q _ (find_record catalogue name) _
          (λ rec e. by_test Q (is_bad_table catalogue (asked rec)) _ _ (λ bad. k.only _ _)
          (λ table. by_test Q (nat_le 64 (length t.answers) || is_too_large t (asked rec)) _ _ (λ many. k.only _ _)
          (λ fits. by_option Q _ (short catalogue x.held x.bars rec (asked rec)) _ (λ weights s. k.only _ _) (λ enough. used rec))))
          (λ none. k.only _ _)

      of_new_change : (name : List ℕ) (asked : ℕ → Deed) → Q (new_change catalogue x.id x.held t p name asked (lent_at x))
      unfolding new_change
      of_new_change name asked = of_record name asked _ (of_change name asked)

      of_commit : Q (commit catalogue x.id t p (lent_at x))
      unfolding commit
      of_commit = by_test Q (is_empty t.parts) (decide catalogue x.id (handling t p) (lent_at x)) (prepare_parts catalogue x.id t p (lent_at x)) (λ e. k.decides (handling t p)) (λ e. k.prepares t p)

      of_next : (words : Call) → Q (new_call catalogue x.id x.held t p words (lent_at x))
      unfolding new_call
      of_next (call.Read txn number name) = of_record name (λ rec. Deed.operates (op.Read rec None)) _ (of_read name)
      of_next (call.Write txn number name value) = of_new_change name (λ rec. Deed.operates (op.Write rec (Some value)))
      of_next (call.Delete txn number name) = of_new_change name (λ rec. Deed.operates (op.Write rec None))
      of_next (call.Weigh txn number name table) = of_new_change name (λ rec. Deed.weighs rec table)
      of_next (call.Commit txn number) = of_commit
      of_next (call.Abort txn number) = k.ends (handling t p) Aborted refl
      of_next call.Begin = k.nothing
      of_next call.Regroup = k.nothing

      of_live : Q (live_call catalogue x.id x.held t p (lent_at x))
      unfolding live_call
      of_live = grind (arith, k.only, k.nothing, of_next)

    of_finished : (port number : ℕ) (f : Finished) → Q (finished_call port number f (lent_at x))
    unfolding finished_call
    of_finished port number f = grind (arith, k.only, k.nothing)

    of_txn : (port : ℕ) (txn : TxnId) (number : ℕ) (words : Call) → Q (on_txn_call catalogue x.id x.held port txn number words (lent_at x))
    unfolding on_txn_call
    of_txn port txn number words = grind (arith, k.only, of_live, of_finished)

    of_call : (port : ℕ) (words : Call) → Q (own_call catalogue port words (surroundings x) (lent_at x))
    unfolding own_call
    of_call port call.Begin = of_begin port
    of_call port call.Regroup = k.nothing
    of_call port (call.Read txn number name) = of_txn port txn number (call.Read txn number name)
    of_call port (call.Write txn number name value) = of_txn port txn number (call.Write txn number name value)
    of_call port (call.Delete txn number name) = of_txn port txn number (call.Delete txn number name)
    of_call port (call.Weigh txn number name table) = of_txn port txn number (call.Weigh txn number name table)
    of_call port (call.Commit txn number) = of_txn port txn number (call.Commit txn number)
    of_call port (call.Abort txn number) = of_txn port txn number (call.Abort txn number)

  -- a call is answered and nothing else is done, or no reply refuses it
  data Answers (l : Lent) : Type 0 where
    only : (words : Answer) (port : ℕ) → l ≡ lent_reply words port (lent_at x) → Answers l
    done : DoneBy l → Answers l

  completes : (t : Live) (p : Pending) (deed : Deed) (l : Lent) → l.effects.replies ≡ [] → DoneBy (complete t p deed l)
  unfolding complete
  completes t p deed l none = rw (none, deed_is_done given t.txn p.number deed) refl

  asks : (t : Live) (p : Pending) (rec : ℕ) (sites : List ℕ) (l : Lent) → l.effects.replies ≡ [] → DoneBy (write_at x.id t p rec sites l)
  unfolding write_at
  asks t p rec sites l none = rw none refl

  come_to : ComesTo Answers
  unfolding start_txn read_at prepare_parts
  come_to = record {
    only = λ words port. Answers.only words port refl;
    nothing = Answers.done refl;
    begins = λ port view. Answers.done refl;
    ends = λ t why late. Answers.done (close_done given x.id t why (lent_at x) late refl);
    completes = λ t p deed l none. Answers.done (completes t p deed l none);
    reads = λ t p rec q. Answers.done refl;
    writes = λ t p rec sites l none. Answers.done (asks t p rec sites l none);
    prepares = λ t p. Answers.done refl;
    decides = λ t. Answers.done (decide_done t);
  }

  answered : (port : ℕ) (words : Call) → Answers (own_call catalogue port words (surroundings x) (lent_at x))
  answered port words = of_call Answers come_to port words

  invites : Done given (invite catalogue (begin_step x)).effects.replies
  unfolding invite leave abandon drop_view start_inviting
  invites = by_test (λ (o : Stepped). Done given o.effects.replies) (is_spent x.views) _ _ (λ spent. refl) (λ left. close_all_done given x.id (λ t. ViewChanged x.id t.view None) x.live (lent_at x) (λ t. refl) refl)

  abbrev only_this : Reply → Stepped
  only_this r = record { site = x; effects = record { records = []; commits = []; messages = []; replies = r ∷ [] } }

  -- the whole step
  data Steps (o : Stepped) : Type 0 where
    only : (words : Answer) (port : ℕ) → o ≡ only_this (record { to = port; answer = words }) → Steps o
    done : Done given o.effects.replies → Steps o

  whole : (l : Lent) → Answers l → Steps (put_back (begin_step x) l)
  whole l (Answers.only words port e) = Steps.only words port (ap (put_back (begin_step x)) e)
  whole l (Answers.done h) = Steps.done h

  regroups : (port : ℕ) → Steps (on_regroup catalogue port (begin_step x))
  unfolding on_regroup
  regroups port = by_test Steps (is_spent x.views) _ _ (λ spent. Steps.only (answer.Spent (highest x.views)) port refl) (λ left. Steps.done (done_more given (invite catalogue (begin_step x)).effects.replies _ invites refl))

  called : (port : ℕ) (words : Call) → Steps (on_call catalogue port words (begin_step x))
  unfolding on_call
  called port call.Begin = whole _ (answered port call.Begin)
  called port call.Regroup = regroups port
  called port (call.Read txn number name) = whole _ (answered port (call.Read txn number name))
  called port (call.Write txn number name value) = whole _ (answered port (call.Write txn number name value))
  called port (call.Delete txn number name) = whole _ (answered port (call.Delete txn number name))
  called port (call.Weigh txn number name table) = whole _ (answered port (call.Weigh txn number name table))
  called port (call.Commit txn number) = whole _ (answered port (call.Commit txn number))
  called port (call.Abort txn number) = whole _ (answered port (call.Abort txn number))

-- what is no call is not answered so
module _ (catalogue : Catalogue) (x : SiteState) (given : Input) (none : (port : ℕ) (words : Call) → given ≡ input.Call port words → ⊥) where
  abbrev P : Stepped → Type 0
  P o = Done given o.effects.replies

  ends_refresh : (r : Refreshing) (own : Stored) (o : Stepped) → P o → P (end_refresh catalogue r own o)
  unfolding end_refresh unlist
  ends_refresh r own o p = take-cases P catalogue r own o p p p

  ends_here : (from : ℕ) (txn : TxnId) (commit : Bool) (doubt : Option Doubt) → P (end_here from txn commit doubt (begin_step x))
  unfolding end_here
  ends_here from txn true None = refl
  ends_here from txn false None = refl
  ends_here from txn true (Some d) = refl
  ends_here from txn false (Some d) = refl

  completed : (t : Live) (p : Pending) (deed : Deed) (l : Lent) → Completes catalogue x given t p deed l → Done given (complete t p deed l).effects.replies
  unfolding complete
  completed t p deed l (Completes.own_write rec value next r a v e g) = absurd (none p.port p.call next.comes)
  completed t p deed l (Completes.own_copy rec stored next r a v c free e g) = absurd (none p.port p.call next.comes)
  completed t p deed l (Completes.change_again rec before next r a v g) = absurd (none p.port p.call next.comes)
  completed t p deed l (Completes.change_alone rec next r a v none_else g) = absurd (none p.port p.call next.comes)
  completed t p deed l (Completes.read_answered from rec value c last r e g) = rw (g, deed_is_done given t.txn p.number deed) refl
  completed t p deed l (Completes.change_answered from rec c last r g) = rw (g, deed_is_done given t.txn p.number deed) refl

  moves : OfCoordinator catalogue x given (Back x P)
  unfolding take_lock read_at write_at prepare_parts mark_calls
  moves = record {
    begin = λ port view e g u. absurd (none port call.Begin g);
    answers = λ words port why says. absurd (by_call says);
    take_lock = λ t rec exclusive stored h i a v c. refl;
    complete = λ t p deed l h g y e r. completed t p deed l g;
    read_at = λ t p rec q h n r a w c o y. refl;
    write_at = λ t p rec value l h n w a e o d y v r. r;
    prepare_parts = λ t p h i g e. refl;
    still_waits = λ t p from h e m f c. refl;
    decide = λ t n d. decide_done catalogue x given t;
    close = λ t why l n a z y r. close_done given x.id t why l (closes_late x given t why y) r;
    mark_calls = λ l c z r. r;
    acknowledge = λ from txn c w. refl;
  }
    where
      by_call : {words : Answer} {port : ℕ} → Says catalogue x given port words → ⊥
      by_call (Says.views_spent c) = none _ _ c
      by_call (Says.no_view c) = none _ _ c
      by_call (Says.full c) = none _ _ c
      by_call (Says.spent c) = none _ _ c
      by_call (Says.no_record t words number c h n) = none _ _ c
      by_call (Says.many t words number c h n) = none _ _ c
      by_call (Says.busy t words number c h n) = none _ _ c
      by_call (Says.skipped t words c h) = none _ _ c
      by_call (Says.bad_table t words number c h n) = none _ _ c
      by_call (Says.inaccessible t words number name rec deed weights c h n m f i s) = none _ _ c
      by_call (Says.again t words said c h k) = none _ _ c
      by_call (Says.again_ended f words said c h k) = none _ _ c
      by_call (Says.over f words txn number c o h) = none _ _ c
      by_call (Says.unknown words txn number c o) = none _ _ c

  table : Table catalogue x given P
  unfolding on_accept on_stale grant drop_view start_inviting accept hold fix ask_again start_refresh resend_one inquire
  table = record {
    sends_back = λ from m t. refl;
    asks_again = λ o ms all p. p;
    drop_view = λ l e z p. p;
    start_inviting = λ o s left p. p;
    accept = λ from id o c e left p. p;
    accepted = λ from id c. refl;
    seen = λ from id promise c. refl;
    hold = λ from id members c e. refl;
    heard = λ from view c e. refl;
    fix = λ view c e. refl;
    without_wait = λ id c i w. refl;
    probe = λ view c e. refl;
    answers_inviting = λ port c s p. absurd (none port call.Regroup c);
    start_refresh = λ view rec o e h p. p;
    end_refresh = λ rec r own o e a d v p. ends_refresh r own o p;
    keep_answer = λ from view rec stored r c e f g. refl;
    grant_read = λ from txn view number rec stored c e n v f u. refl;
    grant_write = λ from txn view number rec stored c e n v f u. refl;
    vote_reading = λ from txn view number reads writes part c e n d f v a w. refl;
    vote_writing = λ from txn view number reads writes part c e n d f v a w. refl;
    end_here = λ from txn commit c. ends_here from txn commit (doubt_of txn x.doubts);
    coordinator = moves;
    resend_one = λ d o c h p. p;
  }

  no_refusal : Done given (step catalogue x given).effects.replies
  no_refusal = step-keeps catalogue x given P table refl

steps : (catalogue : Catalogue) (x : SiteState) (given : Input) → Steps catalogue x given (step catalogue x given)
unfolding step on_input
steps catalogue x (input.Call port words) = called catalogue x (input.Call port words) port words
steps catalogue x (input.Message from m) = Steps.done (no_refusal catalogue x (input.Message from m) (λ port words e. cc))
steps catalogue x input.Tick = Steps.done (no_refusal catalogue x input.Tick (λ port words e. cc))
steps catalogue x input.Probe = Steps.done (no_refusal catalogue x input.Probe (λ port words e. cc))

pub refusals_change_nothing : RefusalsChangeNothing
refusals_change_nothing catalogue x given r there refused = go (step catalogue x given) (steps catalogue x given) there
  where
    go : (o : Stepped) → Steps catalogue x given o → Contains o.effects.replies r → o ≡ only_this catalogue x given r
    go o (Steps.only words port e) h =
        let same : (record { to = port; answer = words }) ≡ r = has_one_is _ r (has_of _ r (subst (λ (o : Stepped). Contains o.effects.replies r) e h)) in
        e ∙ ap (only_this catalogue x given) same
    go o (Steps.done d) h = absurd (let z = any_false (refuses given) o.effects.replies d r (has_of _ r h) in cc)
