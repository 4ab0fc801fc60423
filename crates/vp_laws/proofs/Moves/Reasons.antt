-- What clients see of a step, in small moves: why a transaction is closed, what a call is answered, and what a property of the
-- coordinator's state and of the replies has to survive so that the whole step keeps it.
use Rattle.std.proofs.Common.{◌≡◌, ◌++◌, ℕ, Bool, true, false, List, [], ◌∷◌, map, length}
use Rattle.std.specs.Prelude.{Some, None, Option, option_map, option_to_list, nat_le}
use Rattle.vp_model.specs.Types.{ViewId, TxnId, View, Owner, Call, Answer, Reply, Commit, Input, Pending, Live, Ending, Finished}
use Rattle.vp_base.specs.declared.site.Ending.TheVariants.{Committed, Aborted, LockHeld, ViewChanged, TimedOut, Inaccessible}
use Rattle.vp_model.specs.Types.answer
use Rattle.vp_model.specs.Types.call
use Rattle.vp_model.specs.Types.input
use Rattle.vp_model.specs.Types.message
use Rattle.vp_model.specs.Types.obstacle
use Rattle.vp_model.specs.Catalogue.{Catalogue, Table as Weights, find_record}
use Rattle.vp_model.specs.Locks.{conflict}
use Rattle.vp_model.specs.Site.{CoordinatorState, SiteState, Lent}
use Rattle.vp_model.specs.Transactions.{Deed, deed_answer, entry_of, answer_of, put_live, with_finished}
use Rattle.vp_model.specs.Calls.{short, is_bad_table, is_too_large, begun, with_begun, handling, kept_answer}
use Rattle.vp_model.specs.Answers.{with_acknowledged}
use Rattle.vp_model.specs.Step.{mark}
use Rattle.vp_model.specs.Told.{is_call}
use Rattle.vp_laws.specs.Answering.{answers}
use Rattle.vp_laws.proofs.Lists.Members.{Has}
use Rattle.vp_laws.proofs.Moves.Table.{Comes, next_view, next_name, Handled, IsNext, Tries, Completes, Decides}
use Rattle.vp_laws.proofs.Moves.Calls.{waiting, done, reading, writing}

-- the input is this call of the transaction
pub record Called (given : Input) (t : Live) (p : Pending) : Type 0 where
  pub comes : given ≡ input.Call p.port p.call
  pub own : is_call t.txn p.number p.call ≡ true

-- the input is a call of this transaction and number
pub record IsCallOf (given : Input) (txn : TxnId) (number : ℕ) : Type 0 where
  pub port : ℕ
  pub words : Call
  pub comes : given ≡ input.Call port words
  pub own : is_call txn number words ≡ true

-- the call reads or changes a record of this name
pub data Operates (words : Call) (name : List ℕ) : Bool → Type 0 where
  reads : (txn : TxnId) (number : ℕ) → words ≡ call.Read txn number name → Operates words name false
  writes : (txn : TxnId) (number : ℕ) (value : List ℕ) → words ≡ call.Write txn number name value → Operates words name true
  deletes : (txn : TxnId) (number : ℕ) → words ≡ call.Delete txn number name → Operates words name true
  weighs : (txn : TxnId) (number : ℕ) (table : Weights) → words ≡ call.Weigh txn number name table → Operates words name true

-- a call that is handled, as the transaction's next
pub record Takes (x : SiteState) (given : Input) (was : Live) (p : Pending) : Type 0 where
  pub live : Has x.live was
  pub next : IsNext given was p
  pub called : Called given was p

-- the call that a message is for
pub record Awaits (x : SiteState) (t : Live) (p : Pending) : Type 0 where
  pub live : Has x.live t
  pub pending : t.pending ≡ Some p

-- why a transaction of the site x is closed in a step that leaves it as `after`
pub data Why (catalogue : Catalogue) (x : SiteState) (given : Input) (after : SiteState) (t : Live) : Ending → Type 0 where
  aborted : (was : Live) (p : Pending) → Takes x given was p → t ≡ handling was p → Why catalogue x given after t Aborted
  held_here : (was : Live) (p : Pending) (name : List ℕ) (rec : ℕ) (exclusive : Bool) (holder : Owner) → Takes x given was p → t ≡ handling was p → Operates p.call name exclusive → find_record catalogue name ≡ Some rec → conflict rec exclusive was.txn x.locks ≡ Some holder → Why catalogue x given after t (LockHeld name x.id holder)
  held_there : (p : Pending) (from : ℕ) (name : List ℕ) (exclusive : Bool) (holder : Owner) → Awaits x t p → Comes given from (message.Refuse t.txn p.number (obstacle.Held holder)) → Operates p.call name exclusive → Why catalogue x given after t (LockHeld name from holder)
  other_view : (p : Pending) (from : ℕ) (now : Option ViewId) → Awaits x t p → Comes given from (message.Refuse t.txn p.number (obstacle.OtherView now)) → Why catalogue x given after t (ViewChanged from t.view now)
  barred_there : (p : Pending) (from : ℕ) (name : List ℕ) (exclusive : Bool) (inside total : ℕ) → Awaits x t p → Comes given from (message.Refuse t.txn p.number (obstacle.Barred inside total)) → Operates p.call name exclusive → Why catalogue x given after t (Inaccessible name inside total)
  left : Has x.live t → after.held ≡ None → Why catalogue x given after t (ViewChanged x.id t.view None)
  timed_out : (missing : ℕ) → Has x.live t → Why catalogue x given after t (TimedOut missing)

-- an answer that speaks of no operation, of no end and of no weights
abbrev pub is_plain : Answer → Bool
is_plain (answer.Inviting view) = true
is_plain (answer.NoView promise) = true
is_plain (answer.Unknown txn) = true
is_plain (answer.Skipped txn expected) = true
is_plain (answer.Busy txn number) = true
is_plain (answer.NoRecord txn number) = true
is_plain (answer.TooManyOps txn number) = true
is_plain (answer.BadTable txn number) = true
is_plain (answer.Spent number) = true
is_plain answer.TooManyLive = true
is_plain _ = false

-- why a call that nothing else refuses may not use its record: its weights
pub record Unable (catalogue : Catalogue) (x : SiteState) (t : Live) (rec : ℕ) (deed : Deed) (weights : ℕ × ℕ) : Type 0 where
  pub table : is_bad_table catalogue deed ≡ false
  pub few : nat_le 64 (length t.answers) ≡ false
  pub fits : is_too_large t deed ≡ false
  pub by : short catalogue x.held x.bars rec deed ≡ Some weights

-- what the call from this port is told that changes nothing
pub data Tells (catalogue : Catalogue) (x : SiteState) (given : Input) : ℕ → Answer → Type 0 where
  plain : (words : Answer) → is_plain words ≡ true → (port : ℕ) (called : Call) → given ≡ input.Call port called → answers called words ≡ true → Tells catalogue x given port words
  inaccessible : (t : Live) (p : Pending) (name : List ℕ) (rec : ℕ) (exclusive : Bool) (deed : Deed) (weights : ℕ × ℕ) → Takes x given t p → Operates p.call name exclusive → find_record catalogue name ≡ Some rec → Tries p.call rec deed → Unable catalogue x t rec deed weights → Tells catalogue x given p.port (answer.Inaccessible t.txn p.number name weights.0 weights.1)
  again : (t : Live) (number : ℕ) (words : Answer) → Has x.live t → kept_answer number t.answers ≡ Some words → (c : IsCallOf given t.txn number) → Tells catalogue x given c.port words
  finished_again : (f : Finished) (number : ℕ) (words : Answer) → Has x.finished f → kept_answer number f.answers ≡ Some words → (c : IsCallOf given f.txn number) → Tells catalogue x given c.port words
  ended : (f : Finished) (number : ℕ) → Has x.finished f → nat_le number (length f.answers) ≡ false → (c : IsCallOf given f.txn number) → Tells catalogue x given c.port (answer_of f.txn number f.ending)

abbrev pub told_to : ℕ → Answer → Reply
told_to port words = record { to = port; answer = words }

-- the pending call is told the end
abbrev pub last_reply : Live → Ending → List Reply
last_reply t why = option_to_list (option_map (λ p. told_to p.port (answer_of t.txn p.number why)) t.pending)

-- how the answer to an operation comes: at once, or by the last of the sites that were asked
pub data IsDone (x : SiteState) (given : Input) (t : Live) (p : Pending) : Type 0 where
  at_once : Takes x given t p → IsDone x given t p
  at_last : Awaits x t p → IsDone x given t p

-- how a commit is decided, likewise
pub data IsDecided (x : SiteState) (given : Input) : Live → Type 0 where
  at_once : (was : Live) (p : Pending) → Takes x given was p → IsDecided x given (handling was p)
  at_last : (t : Live) (p : Pending) → Awaits x t p → IsDecided x given t

-- the call goes on: other sites are asked
pub data Goes (t : Live) (p : Pending) : Live → Type 0 where
  reads : (rec q : ℕ) → Goes t p (reading t p rec q)
  writes : (sites : List ℕ) → Goes t p (writing t p sites)
  prepares : (sites : List ℕ) → Goes t p (waiting t p sites)

-- G speaks of the coordinator's state, of the replies and of the entries so far
pub record Front (catalogue : Catalogue) (x : SiteState) (given : Input) (after : SiteState) (G : CoordinatorState → List Reply → List Commit → Type 0) : Type 0 where
  pub begin : (port : ℕ) (view : View) → x.held ≡ Some view → given ≡ input.Call port call.Begin → G (with_begun (begun (next_name x) view.id) x.coordinator) (told_to port (answer.Begun (next_name x) view.id) ∷ []) []
  pub tells : (words : Answer) (port : ℕ) → Tells catalogue x given port words → G x.coordinator (told_to port words ∷ []) []
  pub complete : (t : Live) (p : Pending) (deed : Deed) (l : Lent) → Has x.live t → IsDone x given t p → Completes catalogue x given t p deed l → G (put_live (done t p deed) x.coordinator) (told_to p.port (deed_answer t.txn p.number deed) ∷ []) []
  pub goes : (t u : Live) (p : Pending) → Takes x given t p → Goes t p u → G (put_live u x.coordinator) [] []
  pub still : (t : Live) (p : Pending) (sites : List ℕ) → Awaits x t p → G (put_live (waiting t p sites) x.coordinator) [] []
  pub decide : (t : Live) (c : CoordinatorState) → Handled x t → Decides catalogue x given t → IsDecided x given t → c.live ≡ x.live → c.finished ≡ x.finished → c.seq ≡ x.seq → G (with_finished t Committed c) (last_reply t Committed) ((entry_of t) ∷ [])
  pub close : (t : Live) (why : Ending) (c : CoordinatorState) (rs : List Reply) → Handled x t → Why catalogue x given after t why → G c rs [] → G (with_finished t why c) (rs ++ last_reply t why) []
  pub marks : (c : CoordinatorState) (rs : List Reply) → G c rs [] → G (record c { live = map mark c.live }) rs []
  pub acknowledge : (txn : TxnId) (from : ℕ) → G (with_acknowledged txn from x.coordinator) [] []
  pub inviting : (c : CoordinatorState) (rs : List Reply) (port : ℕ) → given ≡ input.Call port call.Regroup → G c rs [] → G c (rs ++ told_to port (answer.Inviting (next_view x)) ∷ []) []
