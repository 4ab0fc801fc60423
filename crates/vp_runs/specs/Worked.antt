-- Worked runs: what comes to a node or a client, and what the result is.
use Rattle.std.specs.Prelude.{ℕ, List, [], ◌∷◌, codes}
use Rattle.vp_model.specs.Types.{LogRecord, TxnId, Call, Answer}
use Rattle.vp_model.specs.Types.answer
use Rattle.vp_model.specs.Types.call
use Rattle.vp_model.specs.Types.log_record
use Rattle.vp_model.specs.Types.message
use Rattle.vp_model.specs.Catalogue.{Catalogue, RecordEntry}
use Rattle.vp_model.specs.Words.{opening}
use Rattle.vp_model.specs.Worked.{value}
use Rattle.vp_outside.specs.declared.datagram.Datagram.{Datagram}
use Rattle.vp_wire.specs.declared.frame.Body.TheVariants as body
use Rattle.vp_wire.specs.Grammar.{frame_of}
use Rattle.vp_runs.specs.Turns.{datagram_to}
use Rattle.vp_runs.specs.Asking.{call_frame}

abbrev pub x : List (ℕ × ℕ) → RecordEntry
x weights = record { name = codes "x"; start = codes "10"; weights = weights }

abbrev pub alone : Catalogue
alone = record { sites = (1, 7001) ∷ []; records = x ((1, 1) ∷ []) ∷ [] }

abbrev pub both : Catalogue
both = record { sites = (1, 7001) ∷ (2, 7002) ∷ []; records = x ((1, 1) ∷ (2, 1) ∷ []) ∷ [] }

abbrev pub txn : ℕ → TxnId
txn seq = record { site = 1; life = 1; seq = seq }

-- a call from a client
abbrev pub datagram_of_call : Call → Datagram
datagram_of_call words = datagram_to 7100 (call_frame 1 words)

-- ---- bytes

-- a client begins a transaction
abbrev pub begin : Datagram
begin = record { port = 7100; bytes = 86 ∷ 2 ∷ 32 ∷ 0 ∷ 1 ∷ 1 ∷ [] }

-- A call of another site, a vote that isn't from its sender's port, and bytes that are no frame, of the first version all; then the end,
-- and what comes too late.
abbrev pub passed_over : List Datagram
passed_over =
    record { port = 7100; bytes = 86 ∷ 1 ∷ 32 ∷ 0 ∷ 2 ∷ 1 ∷ [] }
    ∷ record { port = 7100; bytes = 86 ∷ 1 ∷ 11 ∷ 1 ∷ 1 ∷ 1 ∷ 0 ∷ 0 ∷ 0 ∷ 1 ∷ 0 ∷ 0 ∷ 0 ∷ 1 ∷ [] }
    ∷ record { port = 7100; bytes = 86 ∷ 1 ∷ 37 ∷ [] }
    ∷ record { port = 7100; bytes = 86 ∷ 1 ∷ 36 ∷ 0 ∷ 1 ∷ [] }
    ∷ begin
    ∷ []

-- ---- a commit of two sites

-- a client writes a record that another site holds too, and commits; that site grants its lock, and votes
abbrev pub commit : List Datagram
commit =
    datagram_of_call call.Begin
    ∷ datagram_of_call (call.Write (txn 1) 1 (codes "x") (codes "11"))
    ∷ datagram_to 7002 (frame_of 2 1 (body.Message (message.WriteAnswer (txn 1) 1)))
    ∷ datagram_of_call (call.Commit (txn 1) 2)
    ∷ datagram_to 7002 (frame_of 2 1 (body.Message (message.Vote (txn 1))))
    ∷ []

-- the decision waits for the other site
abbrev pub committed_log : List (List LogRecord)
committed_log = (log_record.Start 1 ∷ []) ∷ (log_record.Commit (txn 1) opening ((0, value (codes "11")) ∷ []) (2 ∷ []) ∷ []) ∷ []

-- ---- an answer

abbrev pub datagram_of_reply : ℕ → Answer → Datagram
datagram_of_reply port answer = datagram_to port (frame_of 1 0 (body.Reply answer))

-- none of these is the answer to the commit: they are of another transaction, with another number, or from another port
abbrev pub others : List Datagram
others = datagram_of_reply 7001 (answer.Committed (txn 2) 2) ∷ datagram_of_reply 7001 (answer.Written (txn 1) 1) ∷ datagram_of_reply 7002 (answer.Committed (txn 1) 2) ∷ []
