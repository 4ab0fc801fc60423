-- A worked cluster of two sites: a commit, a kill within the turn that decides it, and what the network repeats.
use Rattle.std.specs.Prelude.{ℕ, List, [], ◌∷◌, Some, None, true, codes}
use Rattle.vp_model.specs.Types.{LogRecord, ViewId, TxnId, Change, Call, Commit, Message}
use Rattle.vp_model.specs.Types.call
use Rattle.vp_model.specs.Types.log_record
use Rattle.vp_model.specs.Types.message
use Rattle.vp_model.specs.Types.op
use Rattle.vp_model.specs.Words.{opening}
use Rattle.vp_model.specs.Worked.{value}
use Rattle.vp_outside.specs.declared.datagram.Datagram.{Datagram}
use Rattle.vp_wire.specs.declared.frame.Body.TheVariants as body
use Rattle.vp_wire.specs.Grammar.{frame_of}
use Rattle.vp_runs.specs.Turns.{datagram_to}
use Rattle.vp_runs.specs.Asking.{call_frame}
use Rattle.vp_runs.specs.Worked.{both, txn, datagram_of_call}
use Rattle.vp_network.specs.Cluster.{Happening}

-- a message as it comes: from its sender's port
abbrev pub from_one : Message → Datagram
from_one m = datagram_to 7001 (frame_of 1 2 (body.Message m))

abbrev pub from_two : Message → Datagram
from_two m = datagram_to 7002 (frame_of 2 1 (body.Message m))

abbrev pub writes : List (ℕ × Change)
writes = (0, value (codes "11")) ∷ []

-- a client writes x at site 1, and commits; site 2 votes
abbrev pub prepared_run : List Happening
prepared_run =
    Happening.Starts 1 both.sites
    ∷ Happening.Starts 2 both.sites
    ∷ Happening.Comes 1 (datagram_of_call call.Begin)
    ∷ Happening.Comes 1 (datagram_of_call (call.Write (txn 1) 1 (codes "x") (codes "11")))
    ∷ Happening.Comes 2 (from_one (message.WriteRequest (txn 1) opening 1 0))
    ∷ Happening.Comes 1 (from_two (message.WriteAnswer (txn 1) 1))
    ∷ Happening.Comes 1 (datagram_of_call (call.Commit (txn 1) 2))
    ∷ Happening.Comes 2 (from_one (message.Prepare (txn 1) opening 2 [] writes))
    ∷ []

abbrev pub decided_log : List (List LogRecord)
decided_log = (log_record.Start 1 ∷ []) ∷ (log_record.Commit (txn 1) opening writes (2 ∷ []) ∷ []) ∷ []

-- Site 1 is killed as it decides: the decision is in its log, and the outcome was handed over, but not the answer. It starts again, at
-- another port; the outcome comes twice, and site 2 is killed after it.
abbrev pub killed_run : List Happening
killed_run =
    Happening.Breaks 1 (from_two (message.Vote (txn 1))) decided_log 1
    ∷ Happening.Starts 1 ((1, 7003) ∷ (2, 7002) ∷ [])
    ∷ Happening.Comes 2 (from_one (message.Outcome (txn 1) true))
    ∷ Happening.Comes 2 (from_one (message.Outcome (txn 1) true))
    ∷ Happening.Dies 2 ended
    ∷ []
  where
    ended : List (List LogRecord)
    ended = (log_record.Start 1 ∷ []) ∷ (log_record.Yes (txn 1) opening writes ∷ []) ∷ (log_record.Outcome (txn 1) true ∷ []) ∷ []

abbrev pub run_commits : List Commit
run_commits = record { txn = txn 1; view = opening; ops = op.Write 0 (Some (codes "11")) ∷ []; tables = [] } ∷ []

-- ---- forged messages

abbrev pub txn_two : TxnId
txn_two = record { site = 2; life = 1; seq = 1 }

abbrev pub at_two : Call → Datagram
at_two words = datagram_to 7100 (call_frame 2 words)

-- Site 2 has never been asked for its lock and its vote, whatever comes to site 1; then a client reads x there.
abbrev pub forged_run : List Happening
forged_run =
    Happening.Starts 1 both.sites
    ∷ Happening.Starts 2 both.sites
    ∷ Happening.Comes 1 (datagram_of_call call.Begin)
    ∷ Happening.Comes 1 (datagram_of_call (call.Write (txn 1) 1 (codes "x") (codes "11")))
    ∷ Happening.Comes 1 (from_two (message.WriteAnswer (txn 1) 1))
    ∷ Happening.Comes 1 (datagram_of_call (call.Commit (txn 1) 2))
    ∷ Happening.Comes 1 (from_two (message.Vote (txn 1)))
    ∷ Happening.Comes 2 (at_two call.Begin)
    ∷ Happening.Comes 2 (at_two (call.Read txn_two 1 (codes "x")))
    ∷ Happening.Comes 2 (at_two (call.Commit txn_two 2))
    ∷ []

-- ---- a log that forgets

abbrev pub view : ViewId
view = record { number = 1; site = 1 }

abbrev pub next_life : TxnId
next_life = record { site = 1; life = 2; seq = 1 }

-- The log of site 1 is left without its decision, which was answered; it starts again, forms a view, finds its own copy as new as the
-- other one, and a client reads x there.
abbrev pub forgotten_run : List Happening
forgotten_run =
    Happening.Comes 1 (from_two (message.Vote (txn 1)))
    ∷ Happening.Comes 2 (from_one (message.Outcome (txn 1) true))
    ∷ Happening.Dies 1 ((log_record.Start 1 ∷ []) ∷ [])
    ∷ Happening.Starts 1 both.sites
    ∷ Happening.Comes 1 (datagram_of_call call.Regroup)
    ∷ Happening.Comes 2 (from_one (message.Invite view))
    ∷ Happening.Comes 1 (from_two (message.Accept view))
    ∷ Happening.Comes 1 (datagram_to 7100 (frame_of 0 1 body.Tick))
    ∷ Happening.Comes 2 (from_one (message.ViewCommit view (1 ∷ 2 ∷ [])))
    ∷ Happening.Comes 2 (from_one (message.RefreshRequest view 0))
    ∷ Happening.Comes 1 (from_two (message.RefreshAnswer view 0 (record { value = Some (codes "11"); table = None; date = opening })))
    ∷ Happening.Comes 1 (datagram_of_call call.Begin)
    ∷ Happening.Comes 1 (datagram_of_call (call.Read next_life 1 (codes "x")))
    ∷ Happening.Comes 1 (datagram_of_call (call.Commit next_life 2))
    ∷ []
