-- Worked sessions: what their lines ask however they are cut, and what is answered.
use Rattle.std.specs.Prelude.{◌≡◌, ℕ, List, [], ◌∷◌, ◌++◌, replicate, codes, Some}
use Rattle.vp_model.specs.Types.{Answer, TxnId}
use Rattle.vp_model.specs.Types.answer
use Rattle.vp_model.specs.Types.call
use Rattle.vp_model.specs.Words.{opening}
use Rattle.vp_outside.specs.Links.{LinkState}
use Rattle.vp_outside.specs.declared.datagram.Datagram.{Datagram}
use Rattle.vp_runs.specs.Turns.{reply_datagram}
use Rattle.vp_gateway.specs.declared.asked.LineRequest.{LineRequest}
use Rattle.vp_gateway.specs.declared.asked.LineRequest.TheVariants as asked
use Rattle.vp_gateway.specs.Lines.{all_lines, whole_lines}
use Rattle.vp_gateway.specs.Sessions.{IsSession}

-- two calls, and a line that is none
abbrev pub session : List ℕ
session = codes "begin\n1.1.1 1 read x\nfoo\n"

abbrev pub txn : TxnId
txn = record { site = 1; life = 1; seq = 1 }

abbrev pub begin : LineRequest
begin = asked.Call call.Begin

abbrev pub call_of_read : LineRequest
call_of_read = asked.Call (call.Read txn 1 (codes "x"))

abbrev pub all : List LineRequest
all = begin ∷ call_of_read ∷ asked.Bad 1 ∷ []

-- what is asked once each of these pieces has come after the bytes before
abbrev pub asked_after : List ℕ → List (List ℕ) → List (List LineRequest)
asked_after before [] = []
asked_after before (piece ∷ pieces) = let bytes = before ++ piece in whole_lines bytes ∷ asked_after bytes pieces

-- so many bytes that begin no call
abbrev pub many : ℕ → List ℕ
many count = replicate count 97

-- a reply of site 1
abbrev pub reply : Answer → Datagram
reply a = reply_datagram 1 (record { to = 7001; answer = a })

-- the replies to the two calls
abbrev pub replies : List Datagram
replies = reply (answer.Begun txn opening) ∷ reply (answer.Value txn 1 (codes "10")) ∷ []

-- Of a link that has these datagrams left, the lines of these bytes are answered with this text alone, if one datagram is waited for.
abbrev pub IsAnsweredBy : List Datagram → List ℕ → List ℕ → Type 0
IsAnsweredBy left bytes text = (old new : LinkState) (said : List ℕ) → old.left ≡ Some left → IsSession 7001 1 1 (all_lines bytes) said old new → said ≡ text
