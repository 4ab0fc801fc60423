-- The table in small moves: what a property of a step's state has to survive, so that the whole step keeps it.
use Rattle.std.proofs.Common.{◌≡◌, ◌⊎◌, ℕ, ◌+◌, ◌-◌, ◌^◌, Bool, true, false, List, [], map, length}
use Rattle.std.specs.Prelude.{Option, Some, None, is_some, filter, nat_le, ◌==◌, ◌&&◌, not}
use Rattle.vp_model.specs.Types.{Change, ViewId, TxnId, View, Stored, Owner, Answer, Call, Message, Sent, Input, Part, Refreshing, Pending, Live, Ending, Finished, Decision}
use Rattle.vp_base.specs.declared.site.Ending.TheVariants.{Committed, Aborted, LockHeld, ViewChanged, TimedOut, Inaccessible}
use Rattle.vp_model.specs.Types.answer
use Rattle.vp_model.specs.Types.call
use Rattle.vp_model.specs.Types.log_record
use Rattle.vp_model.specs.Types.input
use Rattle.vp_model.specs.Types.message
use Rattle.vp_model.specs.Types.obstacle
use Rattle.vp_model.specs.Types.op
use Rattle.vp_model.specs.Words.{view_before, is_view, has, has_txn, is_empty, value_at, keys}
use Rattle.vp_model.specs.Catalogue.{Catalogue, Table as Weights, find_record}
use Rattle.vp_model.specs.Durable.{doubt_of}
use Rattle.vp_model.specs.Locks.{conflict}
use Rattle.vp_model.specs.Site.{SiteState, Lent, Stepped, begin_step, force, send, reply, change_views, change_participant, change_refresh, surroundings, lent, put_back, lent_force, lent_reply, lent_coordinator, with_sent}
use Rattle.vp_laws.specs.Entries.{record_in}
use Rattle.vp_model.specs.Transactions.{Deed, last_changes, entry_of, last_writes, answer_of, close, decide, complete, wait_for}
use Rattle.vp_model.specs.Refresh.{is_open, other_holders, is_doubtful, refreshing_of, unanswered, end_refresh, start_refresh}
use Rattle.vp_model.specs.Views.{part_of, has_doubt, without_view, without_parts, highest, is_spent, drop_view, start_inviting, invite, hold}
use Rattle.vp_model.specs.Calls.{change_asked, is_bad_table, is_too_large, short, next_txn, start_txn, handling, take_lock, read_at, write_at, prepare_parts}
use Rattle.vp_model.specs.Step.{is_marked_call, least_missing, fix, without_wait, probe_all, mark_calls, resend_one, known}
use Rattle.vp_model.specs.Answers.{waits_for, with_acknowledged, is_live, is_decided}
use Rattle.vp_model.specs.Messages.{holds_view, accept, on_accept, on_stale, with_heard, held_id, grant, has_all_locks, with_vote, with_new_doubt, end_here, with_answer}
use Rattle.vp_laws.specs.Votes.{is_commit}
use Rattle.vp_laws.proofs.Lists.Members.{Has}

abbrev pub Comes : Input → ℕ → Message → Type 0
Comes given from m = given ≡ input.Message from m

-- the identifier that a site invites to next
abbrev pub next_view : SiteState → ViewId
next_view x = record { number = highest x.views + 1; site = x.id }

-- the name that a site gives next
abbrev pub next_name : SiteState → TxnId
next_name x = next_txn (surroundings x) x.coordinator

-- the coordinator's part as the step began
abbrev pub lent_at : SiteState → Lent
lent_at x = lent (begin_step x)

-- the site has just left its view
pub record Left (x : SiteState) (o : Stepped) : Type 0 where
  pub id : o.site.id ≡ x.id
  pub life : o.site.life ≡ x.life
  pub views : o.site.views ≡ without_view x.views
  pub bars : o.site.bars ≡ []
  pub participant : o.site.participant ≡ without_parts x.participant
  pub copies : o.site.copies ≡ x.copies
  pub live : o.site.live ≡ []
  pub refresh : o.site.refresh ≡ []
  pub seq : o.site.seq ≡ x.seq
  pub decisions : o.site.decisions ≡ x.decisions

-- the site has just joined the view, which it waited for or invited to
pub record Joined (x : SiteState) (view : View) (o : Stepped) : Type 0 where
  pub held : o.site.held ≡ Some view
  pub origin : (x.waiting ≡ Some view.id) ⊎ (x.inviting ≡ Some (view.id, view.members))
  pub participant : o.site.participant ≡ x.participant
  pub bars : o.site.bars ≡ x.bars
  pub live : o.site.live ≡ x.live

-- a request for a lock, shared or exclusive, and any message that names the view of its transaction
pub data Requests (given : Input) (from : ℕ) (txn : TxnId) (view : ViewId) (number rec : ℕ) : Bool → Type 0 where
  reads : Comes given from (message.ReadRequest txn view number rec) → Requests given from txn view number rec false
  writes : Comes given from (message.WriteRequest txn view number rec) → Requests given from txn view number rec true

pub data Asks (given : Input) (from : ℕ) (txn : TxnId) (view : ViewId) (number : ℕ) : Type 0 where
  reads : (rec : ℕ) → Comes given from (message.ReadRequest txn view number rec) → Asks given from txn view number
  writes : (rec : ℕ) → Comes given from (message.WriteRequest txn view number rec) → Asks given from txn view number
  prepares : (reads : List ℕ) (writes : List (ℕ × Change)) → Comes given from (message.Prepare txn view number reads writes) → Asks given from txn view number

-- a live transaction as the step began, whatever call of it is handled
pub record Handled (x : SiteState) (t : Live) : Type 0 where
  pub was : Live
  pub live : Has x.live was
  pub same : t ≡ record was { pending = t.pending }

-- no call is pending, or one that is not a commit
abbrev pub IsOperating : Live → Type 0
IsOperating t = (is_some t.pending ≡ false) ⊎ ((p : Pending) × (t.pending ≡ Some p) × (is_commit p.call ≡ false))

-- the call came, it is the next one of the transaction, and none is pending
pub record IsNext (given : Input) (t : Live) (p : Pending) : Type 0 where
  pub comes : given ≡ input.Call p.port p.call
  pub idle : is_some t.pending ≡ false
  pub number : p.number ≡ length t.answers + 1

-- the call reads this record, or writes this value to it
pub record Reads (catalogue : Catalogue) (p : Pending) (rec : ℕ) : Type 0 where
  pub txn : TxnId
  pub number : ℕ
  pub name : List ℕ
  pub words : p.call ≡ call.Read txn number name
  pub found : find_record catalogue name ≡ Some rec

-- the record of what a call asks to change
abbrev pub record_of : Deed → ℕ
record_of (Deed.operates operation) = record_in operation
record_of (Deed.weighs rec table) = rec

-- the call changes this: it writes or deletes the record, or gives it a table
pub record Changes (catalogue : Catalogue) (p : Pending) (rec : ℕ) (deed : Deed) : Type 0 where
  pub asked : change_asked catalogue p.call ≡ Some deed
  pub on : record_of deed ≡ rec

-- the message that came is what the pending call waits for from that site
pub data Counts (catalogue : Catalogue) (given : Input) (t : Live) (p : Pending) (from : ℕ) : Type 0 where
  read : (rec : ℕ) (value : Option (List ℕ)) → Comes given from (message.ReadAnswer t.txn p.number value) → Reads catalogue p rec → Counts catalogue given t p from
  changed : (rec : ℕ) (deed : Deed) → Comes given from (message.WriteAnswer t.txn p.number) → Changes catalogue p rec deed → Counts catalogue given t p from
  voted : Comes given from (message.Vote t.txn) → is_commit p.call ≡ true → Counts catalogue given t p from

abbrev pub remaining : ℕ → Pending → List ℕ
remaining from p = filter (λ q. not (q == from)) p.missing

-- the pending call waits for the site alone
pub record IsLast (t : Live) (p : Pending) (from : ℕ) : Type 0 where
  pub pending : t.pending ≡ Some p
  pub missing : has p.missing from ≡ true
  pub last : is_empty (remaining from p) ≡ true

-- the lock on the copy here has been taken, where there is a copy
pub data Locked (x : SiteState) (t : Live) (rec : ℕ) (l : Lent) : Type 0 where
  no_copy : value_at rec x.copies ≡ None → l ≡ lent_at x → Locked x t rec l
  locked : (stored : Stored) → value_at rec x.copies ≡ Some stored → conflict rec true t.txn x.locks ≡ None → l ≡ take_lock t.txn rec true (lent_at x) → Locked x t rec l

-- a change has passed the tests before its row: its table is the record's, it isn't too large, there is enough weight by its own table, and no bar here
pub record May (catalogue : Catalogue) (x : SiteState) (t : Live) (rec : ℕ) (deed : Deed) : Type 0 where
  pub table : is_bad_table catalogue deed ≡ false
  pub fits : is_too_large t deed ≡ false
  pub enough : short catalogue x.held x.bars rec deed ≡ None
  pub usable : is_open x rec ≡ true

-- how a call is done: what it does, and the coordinator's part so far
pub data Completes (catalogue : Catalogue) (x : SiteState) (given : Input) (t : Live) (p : Pending) (deed : Deed) (l : Lent) : Type 0 where
  own_write : (rec : ℕ) (value : Option (List ℕ)) → IsNext given t p → Reads catalogue p rec → is_open x rec ≡ true → value_at rec (last_writes t.ops) ≡ Some value → deed ≡ Deed.operates (op.Read rec value) → l ≡ lent_at x → Completes catalogue x given t p deed l
  own_copy : (rec : ℕ) (stored : Stored) → IsNext given t p → Reads catalogue p rec → is_open x rec ≡ true → value_at rec (last_writes t.ops) ≡ None → value_at rec x.copies ≡ Some stored → conflict rec false t.txn x.locks ≡ None → deed ≡ Deed.operates (op.Read rec stored.value) → l ≡ take_lock t.txn rec false (lent_at x) → Completes catalogue x given t p deed l
  change_again : (rec : ℕ) (before : Change) → IsNext given t p → Changes catalogue p rec deed → May catalogue x t rec deed → value_at rec (last_changes (entry_of t)) ≡ Some before → l ≡ lent_at x → Completes catalogue x given t p deed l
  change_alone : (rec : ℕ) → IsNext given t p → Changes catalogue p rec deed → May catalogue x t rec deed → value_at rec (last_changes (entry_of t)) ≡ None → is_empty (other_holders catalogue x rec) ≡ true → Locked x t rec l → Completes catalogue x given t p deed l
  read_answered : (from rec : ℕ) (value : Option (List ℕ)) → Comes given from (message.ReadAnswer t.txn p.number value) → IsLast t p from → Reads catalogue p rec → deed ≡ Deed.operates (op.Read rec value) → l ≡ lent_at x → Completes catalogue x given t p deed l
  change_answered : (from rec : ℕ) → Comes given from (message.WriteAnswer t.txn p.number) → IsLast t p from → Changes catalogue p rec deed → l ≡ lent_at x → Completes catalogue x given t p deed l

-- why a transaction commits: its commit is called and it has no part, or the last vote comes. Which transaction is decided is the last argument
pub data Decides (catalogue : Catalogue) (x : SiteState) (given : Input) (t : Live) : Type 0 where
  alone : (was : Live) (p : Pending) → Has x.live was → IsNext given was p → is_commit p.call ≡ true → is_empty was.parts ≡ true → t ≡ handling was p → Decides catalogue x given t
  voted : (p : Pending) (from : ℕ) → Has x.live t → IsLast t p from → Comes given from (message.Vote t.txn) → is_commit p.call ≡ true → Decides catalogue x given t

abbrev pub is_abort : Ending → Bool
is_abort Committed = false
is_abort Aborted = true
is_abort (LockHeld name at owner) = true
is_abort (ViewChanged at held now) = true
is_abort (TimedOut at) = true
is_abort (Inaccessible name inside total) = true

-- so far transactions have only been closed
pub record Closed (x : SiteState) (l : Lent) : Type 0 where
  pub live : (t : Live) → Has l.live t → Has x.live t
  pub commits : l.effects.commits ≡ []
  pub messages : (m : Sent) → Has l.effects.messages m → (txn : TxnId) × (m.message ≡ message.Outcome txn false)

-- an answer that says how a transaction ended
abbrev pub is_end : Answer → Bool
is_end (answer.Committed txn number) = true
is_end (answer.Aborted txn number) = true
is_end (answer.LockHeld txn number name at owner) = true
is_end (answer.ViewChanged txn number at held now) = true
is_end (answer.TimedOut txn number at) = true
is_end (answer.Inaccessible txn number name inside total) = true
is_end words = false

-- a reply that changes nothing: no end, an answer that was kept, or the end of a finished transaction
pub data Replies (x : SiteState) (words : Answer) : Type 0 where
  other : is_end words ≡ false → Replies x words
  kept : (t : Live) → Has x.live t → Has t.answers words → Replies x words
  kept_end : (f : Finished) → Has x.finished f → Has f.answers words → Replies x words
  over : (f : Finished) (number : ℕ) → Has x.finished f → answer_of f.txn number f.ending ≡ words → Replies x words

-- or it refuses the next call of a live transaction, as there isn't enough weight
pub data Answered (x : SiteState) (given : Input) (words : Answer) : Type 0 where
  replies : Replies x words → Answered x given words
  unable : (t : Live) (p : Pending) (name : List ℕ) (inside total : ℕ) → Has x.live t → IsNext given t p → answer.Inaccessible t.txn p.number name inside total ≡ words → Answered x given words

-- the call is of this transaction and has this number
pub data IsCallOf : Call → TxnId → ℕ → Type 0 where
  reads : (txn : TxnId) (number : ℕ) (name : List ℕ) → IsCallOf (call.Read txn number name) txn number
  writes : (txn : TxnId) (number : ℕ) (name value : List ℕ) → IsCallOf (call.Write txn number name value) txn number
  deletes : (txn : TxnId) (number : ℕ) (name : List ℕ) → IsCallOf (call.Delete txn number name) txn number
  weighs : (txn : TxnId) (number : ℕ) (name : List ℕ) (table : Weights) → IsCallOf (call.Weigh txn number name table) txn number
  commits : (txn : TxnId) (number : ℕ) → IsCallOf (call.Commit txn number) txn number
  aborts : (txn : TxnId) (number : ℕ) → IsCallOf (call.Abort txn number) txn number

-- the call names this record
pub data Names (words : Call) (name : List ℕ) : Type 0 where
  reads : (txn : TxnId) (number : ℕ) → words ≡ call.Read txn number name → Names words name
  writes : (txn : TxnId) (number : ℕ) (value : List ℕ) → words ≡ call.Write txn number name value → Names words name
  deletes : (txn : TxnId) (number : ℕ) → words ≡ call.Delete txn number name → Names words name
  weighs : (txn : TxnId) (number : ℕ) (table : Weights) → words ≡ call.Weigh txn number name table → Names words name

-- what a call on a record would do, as far as its tests ask: a read's content isn't known
pub data Tries (words : Call) (rec : ℕ) : Deed → Type 0 where
  reads : (txn : TxnId) (number : ℕ) (name : List ℕ) → words ≡ call.Read txn number name → Tries words rec (Deed.operates (op.Read rec None))
  writes : (txn : TxnId) (number : ℕ) (name value : List ℕ) → words ≡ call.Write txn number name value → Tries words rec (Deed.operates (op.Write rec (Some value)))
  deletes : (txn : TxnId) (number : ℕ) (name : List ℕ) → words ≡ call.Delete txn number name → Tries words rec (Deed.operates (op.Write rec None))
  weighs : (txn : TxnId) (number : ℕ) (name : List ℕ) (table : Weights) → words ≡ call.Weigh txn number name table → Tries words rec (Deed.weighs rec table)

-- what a call that came is told, where nothing changes
pub data Says (catalogue : Catalogue) (x : SiteState) (given : Input) (port : ℕ) : Answer → Type 0 where
  views_spent : given ≡ input.Call port call.Regroup → Says catalogue x given port (answer.Spent (highest x.views))
  no_view : given ≡ input.Call port call.Begin → Says catalogue x given port (answer.NoView x.promise)
  full : given ≡ input.Call port call.Begin → Says catalogue x given port answer.TooManyLive
  spent : given ≡ input.Call port call.Begin → Says catalogue x given port (answer.Spent (2 ^ 32 - 1))
  no_record : (t : Live) (words : Call) (number : ℕ) → given ≡ input.Call port words → Has x.live t → number ≡ length t.answers + 1 → Says catalogue x given port (answer.NoRecord t.txn number)
  many : (t : Live) (words : Call) (number : ℕ) → given ≡ input.Call port words → Has x.live t → number ≡ length t.answers + 1 → Says catalogue x given port (answer.TooManyOps t.txn number)
  busy : (t : Live) (words : Call) (number : ℕ) → given ≡ input.Call port words → Has x.live t → number ≡ length t.answers + 1 → Says catalogue x given port (answer.Busy t.txn number)
  skipped : (t : Live) (words : Call) → given ≡ input.Call port words → Has x.live t → Says catalogue x given port (answer.Skipped t.txn (length t.answers + 1))
  bad_table : (t : Live) (words : Call) (number : ℕ) → given ≡ input.Call port words → Has x.live t → number ≡ length t.answers + 1 → Says catalogue x given port (answer.BadTable t.txn number)
  inaccessible : (t : Live) (words : Call) (number : ℕ) (name : List ℕ) (rec : ℕ) (deed : Deed) (weights : ℕ × ℕ) → given ≡ input.Call port words → Has x.live t → number ≡ length t.answers + 1 → Names words name → find_record catalogue name ≡ Some rec → Tries words rec deed → short catalogue x.held x.bars rec deed ≡ Some weights → Says catalogue x given port (answer.Inaccessible t.txn number name weights.0 weights.1)
  again : (t : Live) (words : Call) (said : Answer) → given ≡ input.Call port words → Has x.live t → Has t.answers said → Says catalogue x given port said
  again_ended : (f : Finished) (words : Call) (said : Answer) → given ≡ input.Call port words → Has x.finished f → Has f.answers said → Says catalogue x given port said
  over : (f : Finished) (words : Call) (txn : TxnId) (number : ℕ) → given ≡ input.Call port words → IsCallOf words txn number → Has x.finished f → Says catalogue x given port (answer_of f.txn number f.ending)
  unknown : (words : Call) (txn : TxnId) (number : ℕ) → given ≡ input.Call port words → IsCallOf words txn number → Says catalogue x given port (answer.Unknown txn)

-- why a transaction is closed
pub data Closes (x : SiteState) (given : Input) (t : Live) : Ending → Type 0 where
  aborted : (was : Live) (p : Pending) → Has x.live was → IsNext given was p → t ≡ handling was p → Closes x given t Aborted
  held_here : (was : Live) (p : Pending) (name : List ℕ) (rec : ℕ) (exclusive : Bool) (holder : Owner) → Has x.live was → IsNext given was p → t ≡ handling was p → Names p.call name → conflict rec exclusive was.txn x.locks ≡ Some holder → Closes x given t (LockHeld name x.id holder)
  held_there : (p : Pending) (txn : TxnId) (number from : ℕ) (name : List ℕ) (holder : Owner) → Has x.live t → t.pending ≡ Some p → Names p.call name → Comes given from (message.Refuse txn number (obstacle.Held holder)) → Closes x given t (LockHeld name from holder)
  other_view : (txn : TxnId) (number from : ℕ) (now : Option ViewId) → Has x.live t → Comes given from (message.Refuse txn number (obstacle.OtherView now)) → Closes x given t (ViewChanged from t.view now)
  barred_there : (p : Pending) (txn : TxnId) (number from : ℕ) (name : List ℕ) (inside total : ℕ) → Has x.live t → t.pending ≡ Some p → Names p.call name → Comes given from (message.Refuse txn number (obstacle.Barred inside total)) → Closes x given t (Inaccessible name inside total)
  left : Has x.live t → Closes x given t (ViewChanged x.id t.view None)
  timed_out : Has x.live t → is_marked_call t.pending ≡ true → Closes x given t (TimedOut (least_missing t.pending))

-- Q speaks of what the coordinator has done so far, in a step from x for the input `given`
pub record OfCoordinator (catalogue : Catalogue) (x : SiteState) (given : Input) (Q : Lent → Type 0) : Type 0 where
  pub begin : (port : ℕ) (view : View) → x.held ≡ Some view → given ≡ input.Call port call.Begin → (x.seq == 2 ^ 32 - 1) ≡ false → Q (start_txn (next_name x) port view.id (lent_at x))
  pub answers : (words : Answer) (port : ℕ) → Answered x given words → Says catalogue x given port words → Q (lent_reply words port (lent_at x))
  pub take_lock : (t : Live) (rec : ℕ) (exclusive : Bool) (stored : Stored) → Has x.live t → is_some t.pending ≡ false → is_open x rec ≡ true → value_at rec x.copies ≡ Some stored → conflict rec exclusive t.txn x.locks ≡ None → Q (take_lock t.txn rec exclusive (lent_at x))
  pub complete : (t : Live) (p : Pending) (deed : Deed) (l : Lent) → Has x.live t → Completes catalogue x given t p deed l → (is_some t.pending ≡ false → nat_le 64 (length t.answers) ≡ false) → l.live ≡ x.live → Q l → Q (complete t p deed l)
  pub read_at : (t : Live) (p : Pending) (rec q : ℕ) → Has x.live t → IsNext given t p → Reads catalogue p rec → is_open x rec ≡ true → value_at rec (last_writes t.ops) ≡ None → value_at rec x.copies ≡ None → Has (other_holders catalogue x rec) q → nat_le 64 (length t.answers) ≡ false → Q (read_at x.id t p rec q (lent_at x))
  pub write_at : (t : Live) (p : Pending) (rec : ℕ) (deed : Deed) (l : Lent) → Has x.live t → IsNext given t p → Changes catalogue p rec deed → May catalogue x t rec deed → value_at rec (last_changes (entry_of t)) ≡ None → is_empty (other_holders catalogue x rec) ≡ false → Locked x t rec l → nat_le 64 (length t.answers) ≡ false → l.live ≡ x.live → Q l → Q (write_at x.id t p rec (other_holders catalogue x rec) l)
  pub prepare_parts : (t : Live) (p : Pending) → Has x.live t → IsNext given t p → is_commit p.call ≡ true → is_empty t.parts ≡ false → Q (prepare_parts catalogue x.id t p (lent_at x))
  pub still_waits : (t : Live) (p : Pending) (from : ℕ) → Has x.live t → t.pending ≡ Some p → has p.missing from ≡ true → is_empty (remaining from p) ≡ false → Counts catalogue given t p from → Q (wait_for t p (remaining from p) (lent_at x))
  pub decide : (t : Live) → Handled x t → Decides catalogue x given t → Q (decide catalogue x.id t (lent_at x))
  pub close : (t : Live) (why : Ending) (l : Lent) → Handled x t → is_abort why ≡ true → l.effects.commits ≡ [] → Closes x given t why → Q l → Q (close x.id t why l)
  pub mark_calls : (l : Lent) → given ≡ input.Tick → Closed x l → Q l → Q (mark_calls l)
  pub acknowledge : (from : ℕ) (txn : TxnId) → Comes given from (message.Ack txn) → waits_for txn from x.decisions ≡ true → Q (lent_coordinator (with_acknowledged txn from) (lent_force (log_record.Acked txn from) (lent_at x)))

-- a message that goes back to the site that sent one and says how things stand here: nothing else is done
pub data SendsBack (x : SiteState) (given : Input) (from : ℕ) : Message → Type 0 where
  stale : (id : ViewId) → Comes given from (message.Invite id) → view_before id x.promise ≡ true → SendsBack x given from (message.Stale id x.promise)
  accept_again : (id : ViewId) → Comes given from (message.Invite id) → is_view x.waiting id ≡ true → SendsBack x given from (message.Accept id)
  answer_refresh : (view : ViewId) (rec : ℕ) (stored : Stored) → Comes given from (message.RefreshRequest view rec) → holds_view x view ≡ true → is_doubtful x rec ≡ false → value_at rec x.copies ≡ Some stored → SendsBack x given from (message.RefreshAnswer view rec stored)
  refuse_view : (txn : TxnId) (view : ViewId) (number : ℕ) → Asks given from txn view number → holds_view x view ≡ false → SendsBack x given from (message.Refuse txn number (obstacle.OtherView (held_id x)))
  refuse_lock : (txn : TxnId) (view : ViewId) (number rec : ℕ) (exclusive : Bool) (holder : Owner) → Requests given from txn view number rec exclusive → holds_view x view ≡ true → has_txn x.ended txn ≡ false → conflict rec exclusive txn x.locks ≡ Some holder → SendsBack x given from (message.Refuse txn number (obstacle.Held holder))
  refuse_bar : (txn : TxnId) (view : ViewId) (number rec : ℕ) (exclusive : Bool) (bar : ℕ × ℕ) → Requests given from txn view number rec exclusive → holds_view x view ≡ true → has_txn x.ended txn ≡ false → value_at rec x.bars ≡ Some bar → SendsBack x given from (message.Refuse txn number (obstacle.Barred bar.0 bar.1))
  doubt_again : (txn : TxnId) (view : ViewId) (number : ℕ) (reads : List ℕ) (writes : List (ℕ × Change)) → Comes given from (message.Prepare txn view number reads writes) → holds_view x view ≡ true → has_txn x.ended txn ≡ false → has_doubt txn x.doubts ≡ true → SendsBack x given from (message.Vote txn)
  vote_again : (txn : TxnId) (view : ViewId) (number : ℕ) (reads : List ℕ) (writes : List (ℕ × Change)) (part : Part) → Comes given from (message.Prepare txn view number reads writes) → holds_view x view ≡ true → has_txn x.ended txn ≡ false → part_of txn x.parts ≡ Some part → part.voted ≡ true → SendsBack x given from (message.Vote part.txn)
  answer_inquiry : (txn : TxnId) → Comes given from (message.Inquire txn) → (txn.site == x.id) ≡ true → is_live txn x.live ≡ false → SendsBack x given from (message.Outcome txn (is_decided txn x.decisions))

asks_came : (given : Input) (from : ℕ) (txn : TxnId) (view : ViewId) (number : ℕ) → Asks given from txn view number → (m : Message) × Comes given from m
asks_came given from txn view number (Asks.reads rec c) = (_, c)
asks_came given from txn view number (Asks.writes rec c) = (_, c)
asks_came given from txn view number (Asks.prepares rs ws c) = (_, c)

requests_came : (given : Input) (from : ℕ) (txn : TxnId) (view : ViewId) (number rec : ℕ) (exclusive : Bool) → Requests given from txn view number rec exclusive → (m : Message) × Comes given from m
requests_came given from txn view number rec _ (Requests.reads c) = (_, c)
requests_came given from txn view number rec _ (Requests.writes c) = (_, c)

-- the message that it answers
pub sent_back_for : (x : SiteState) (given : Input) (from : ℕ) (m : Message) → SendsBack x given from m → (asked : Message) × Comes given from asked
sent_back_for x given from _ (SendsBack.stale id c e) = (_, c)
sent_back_for x given from _ (SendsBack.accept_again id c e) = (_, c)
sent_back_for x given from _ (SendsBack.answer_refresh view rec stored c e d v) = (_, c)
sent_back_for x given from _ (SendsBack.refuse_view txn view number a e) = asks_came given from txn view number a
sent_back_for x given from _ (SendsBack.refuse_lock txn view number rec exclusive holder r e n c) = requests_came given from txn view number rec exclusive r
sent_back_for x given from _ (SendsBack.refuse_bar txn view number rec exclusive bar r e n b) = requests_came given from txn view number rec exclusive r
sent_back_for x given from _ (SendsBack.doubt_again txn view number rs ws c e n d) = (_, c)
sent_back_for x given from _ (SendsBack.vote_again txn view number rs ws part c e n f v) = (_, c)
sent_back_for x given from _ (SendsBack.answer_inquiry txn c s n) = (_, c)

-- a message with which a tick asks the site `to` again, whatever it did before
pub data AsksAgain (catalogue : Catalogue) (x : SiteState) (given : Input) (o : Stepped) (to : ℕ) : Message → Type 0 where
  refresh : (view : View) (r : Refreshing) → x.held ≡ Some view → Has x.refresh r → o.site.views ≡ x.views → Has (unanswered catalogue o.site r) to → AsksAgain catalogue x given o to (message.RefreshRequest view.id r.rec)
  inquire : (txn : TxnId) → given ≡ input.Tick → Has (known o.site.participant) txn → txn.site ≡ to → AsksAgain catalogue x given o to (message.Inquire txn)

-- what P says of the coordinator's part, all else being as the step began
abbrev pub Back : SiteState → (Stepped → Type 0) → Lent → Type 0
Back x P l = P (put_back (begin_step x) l)

-- P speaks of the site and what it has given so far, in a step from x for the input `given`
pub record Table (catalogue : Catalogue) (x : SiteState) (given : Input) (P : Stepped → Type 0) : Type 0 where
  -- what is only told to the site that sent a message
  pub sends_back : (from : ℕ) (m : Message) → SendsBack x given from m → P (send m from (begin_step x))
  -- what a tick asks others again
  pub asks_again : (o : Stepped) (ms : List Sent) → ((m : Sent) → Has ms m → (m.from ≡ o.site.id) × AsksAgain catalogue x given o m.to m.message) → P o → P (record o { effects = with_sent ms o.effects })
  -- views
  pub drop_view : (l : Lent) → l.live ≡ [] → Closed x l → Back x P l → P (drop_view (put_back (begin_step x) l))
  pub start_inviting : (o : Stepped) → is_spent x.views ≡ false → Left x o → P o → P (start_inviting catalogue (next_view x) o)
  pub accept : (from : ℕ) (id : ViewId) (o : Stepped) → Comes given from (message.Invite id) → view_before x.promise id ≡ true → Left x o → P o → P (accept from id o)
  pub accepted : (from : ℕ) (id : ViewId) → Comes given from (message.Accept id) → P (on_accept from id (begin_step x))
  pub seen : (from : ℕ) (id promise : ViewId) → Comes given from (message.Stale id promise) → P (on_stale promise (begin_step x))
  pub hold : (from : ℕ) (id : ViewId) (members : List ℕ) → Comes given from (message.ViewCommit id members) → (is_view x.waiting id && has members x.id) ≡ true → P (hold (record { id = id; members = members }) (begin_step x))
  pub heard : (from : ℕ) (view : ViewId) → Comes given from (message.Probe view) → is_some x.held ≡ true → P (change_views (with_heard from) (begin_step x))
  pub fix : (view : View) → given ≡ input.Tick → x.inviting ≡ Some (view.id, view.members) → P (fix view (begin_step x))
  pub without_wait : (id : ViewId) → given ≡ input.Tick → x.inviting ≡ None → x.waiting ≡ Some id → P (change_views without_wait (begin_step x))
  pub probe : (view : View) → given ≡ input.Probe → x.held ≡ Some view → P (probe_all catalogue view (begin_step x))
  pub answers_inviting : (port : ℕ) → given ≡ input.Call port call.Regroup → is_spent x.views ≡ false → P (invite catalogue (begin_step x)) → P (reply (answer.Inviting (next_view x)) port (invite catalogue (begin_step x)))
  -- refresh
  pub start_refresh : (view : View) (rec : ℕ) (o : Stepped) → Joined x view o → Has (keys o.site.copies) rec → P o → P (start_refresh catalogue view rec o)
  pub end_refresh : (rec : ℕ) (r : Refreshing) (own : Stored) (o : Stepped) → refreshing_of rec o.site.refresh ≡ Some r → is_empty (unanswered catalogue o.site r) ≡ true → is_doubtful o.site r.rec ≡ false → value_at r.rec o.site.copies ≡ Some own → P o → P (end_refresh catalogue r own o)
  pub keep_answer : (from : ℕ) (view : ViewId) (rec : ℕ) (stored : Stored) (r : Refreshing) → Comes given from (message.RefreshAnswer view rec stored) → holds_view x view ≡ true → refreshing_of rec x.refresh ≡ Some r → has (unanswered catalogue x r) from ≡ true → P (change_refresh (map (with_answer rec from stored)) (begin_step x))
  -- parts of other sites' transactions
  pub grant_read : (from : ℕ) (txn : TxnId) (view : ViewId) (number rec : ℕ) (stored : Stored) → Comes given from (message.ReadRequest txn view number rec) → holds_view x view ≡ true → has_txn x.ended txn ≡ false → value_at rec x.copies ≡ Some stored → conflict rec false txn x.locks ≡ None → is_open x rec ≡ true → P (grant txn view rec false (message.ReadAnswer txn number stored.value) from (begin_step x))
  pub grant_write : (from : ℕ) (txn : TxnId) (view : ViewId) (number rec : ℕ) (stored : Stored) → Comes given from (message.WriteRequest txn view number rec) → holds_view x view ≡ true → has_txn x.ended txn ≡ false → value_at rec x.copies ≡ Some stored → conflict rec true txn x.locks ≡ None → is_open x rec ≡ true → P (grant txn view rec true (message.WriteAnswer txn number) from (begin_step x))
  pub vote_reading : (from : ℕ) (txn : TxnId) (view : ViewId) (number : ℕ) (reads : List ℕ) (writes : List (ℕ × Change)) (part : Part) → Comes given from (message.Prepare txn view number reads writes) → holds_view x view ≡ true → has_txn x.ended txn ≡ false → has_doubt txn x.doubts ≡ false → part_of txn x.parts ≡ Some part → part.voted ≡ false → has_all_locks x.locks part.txn reads writes ≡ true → is_empty writes ≡ true → P (send (message.Vote part.txn) from (change_participant (with_vote part) (begin_step x)))
  pub vote_writing : (from : ℕ) (txn : TxnId) (view : ViewId) (number : ℕ) (reads : List ℕ) (writes : List (ℕ × Change)) (part : Part) → Comes given from (message.Prepare txn view number reads writes) → holds_view x view ≡ true → has_txn x.ended txn ≡ false → has_doubt txn x.doubts ≡ false → part_of txn x.parts ≡ Some part → part.voted ≡ false → has_all_locks x.locks part.txn reads writes ≡ true → is_empty writes ≡ false → P (send (message.Vote part.txn) from (force (log_record.Yes part.txn part.view writes) (change_participant (with_new_doubt part writes) (begin_step x))))
  pub end_here : (from : ℕ) (txn : TxnId) (commit : Bool) → Comes given from (message.Outcome txn commit) → P (end_here from txn commit (doubt_of txn x.doubts) (begin_step x))
  -- this site's transactions
  pub coordinator : OfCoordinator catalogue x given (Back x P)
  pub resend_one : (d : Decision) (o : Stepped) → given ≡ input.Tick → Has o.site.decisions d → P o → P (put_back o (resend_one o.site.id d (lent o)))
