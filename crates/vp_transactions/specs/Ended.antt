-- The answer to a call of a transaction that has ended.
use Rattle.std.specs.Prelude.{ℕ, nat_le, if◌then◌else◌, length, Option, Some, None}
use Rattle.vp_model.specs.Types.{TxnId, Answer, Finished}
use Rattle.vp_model.specs.Types.answer
use Rattle.vp_model.specs.Transactions.{answer_of}
use Rattle.vp_model.specs.Calls.{kept_answer}

-- the answer that a call gets by the end of its transaction
abbrev pub answer_of_finished : ℕ → Finished → Option Answer
answer_of_finished number f = if nat_le number (length f.answers) then kept_answer number f.answers else Some (answer_of f.txn number f.ending)

abbrev pub answer_after : TxnId → ℕ → Option Finished → Option Answer
answer_after txn number None = Some (answer.Unknown txn)
answer_after txn number (Some f) = answer_of_finished number f
