-- Definitions for worked schedules and their lines.
pub mod FirstRun
pub mod TwoOfThree
pub mod ExactlyHalf
pub mod HeldLock
pub mod Repeats
pub mod LostVote
pub mod ViewChangeBeforeVote
pub mod LateCommit
pub mod OldViewReadsOn
pub mod RepeatedViewCommit
pub mod CrashAfterDecision
pub mod CrashBeforeDecision
pub mod ForgottenDecision
pub mod TwoInviters
pub mod OtherRefusals
pub mod TooManyOps
pub mod TooManyLive
pub mod LongRun
pub mod RefusedAfterEnd
pub mod FalseClaims
pub mod Monitor
pub mod EarlyInquiry
pub mod NoEvents
pub mod LastNumbers
pub mod ManyFinished
pub mod Limited
pub mod OwnCopy
pub mod Barred
pub mod Weighed
pub mod OwnTable
pub mod Chain
pub mod BadTable
pub mod Absent
pub mod MovedEntry
use Rattle.std.specs.Prelude.{ℕ, List, [], None}
use Rattle.vp_model.specs.Types.puts
use Rattle.vp_model.specs.Types.{ViewId, TxnId, Change, Op, Commit, Message, Sent, Answer, Reply, Event, Shown, Line}
use Rattle.vp_model.specs.Catalogue.{RecordEntry}

-- the identifier whose text is number@site
abbrev pub view : ℕ → ℕ → ViewId
view number site = record { number = number; site = site }

abbrev pub txn : ℕ → ℕ → ℕ → TxnId
txn site life seq = record { site = site; life = life; seq = seq }

abbrev pub sent : ℕ → ℕ → Message → Sent
sent from to message = record { from = from; to = to; message = message }

-- in a replay the client's port is 0
abbrev pub reply : Answer → Reply
reply answer = record { to = 0; answer = answer }

abbrev pub committed : TxnId → ViewId → List Op → Commit
committed txn view ops = record { txn = txn; view = view; ops = ops; tables = [] }

abbrev pub line : ℕ → Event → Shown → ℕ × Line
line number event shown = (number, record { event = event; shown = shown })

-- a value is put
abbrev pub value : List ℕ → Change
value v = record { put = puts.Value v; table = None }

-- a record of the catalogue
abbrev pub stored : List ℕ → List ℕ → List (ℕ × ℕ) → RecordEntry
stored name start weights = record { name = name; start = start; weights = weights }
