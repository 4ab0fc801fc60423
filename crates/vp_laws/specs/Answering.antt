-- Which answers answer a call.
use Rattle.std.specs.Prelude.{ℕ, Bool, true, false, ◌==◌, ◌&&◌}
use Rattle.vp_model.specs.Types.{TxnId, Answer, Call}
use Rattle.vp_model.specs.Types.answer
use Rattle.vp_model.specs.Types.call
use Rattle.vp_model.specs.Words.{same_txn}

abbrev pub is_of : TxnId → ℕ → TxnId → ℕ → Bool
is_of txn number t n = same_txn t txn && (n == number)

-- an answer to the call with this number on the transaction; one that has no number, or the expected one, is recognized by the
-- transaction
abbrev pub answers_numbered : TxnId → ℕ → Answer → Bool
answers_numbered txn number (answer.Value t n value) = is_of txn number t n
answers_numbered txn number (answer.Written t n) = is_of txn number t n
answers_numbered txn number (answer.Committed t n) = is_of txn number t n
answers_numbered txn number (answer.Aborted t n) = is_of txn number t n
answers_numbered txn number (answer.Unknown t) = same_txn t txn
answers_numbered txn number (answer.Skipped t expected) = same_txn t txn
answers_numbered txn number (answer.Busy t n) = is_of txn number t n
answers_numbered txn number (answer.NoRecord t n) = is_of txn number t n
answers_numbered txn number (answer.TooManyOps t n) = is_of txn number t n
answers_numbered txn number (answer.Inaccessible t n name inside total) = is_of txn number t n
answers_numbered txn number (answer.LockHeld t n name at owner) = is_of txn number t n
answers_numbered txn number (answer.ViewChanged t n at held now) = is_of txn number t n
answers_numbered txn number (answer.TimedOut t n at) = is_of txn number t n
answers_numbered txn number (answer.Absent t n) = is_of txn number t n
answers_numbered txn number (answer.Deleted t n) = is_of txn number t n
answers_numbered txn number (answer.Weighed t n) = is_of txn number t n
answers_numbered txn number (answer.BadTable t n) = is_of txn number t n
answers_numbered txn number _ = false

abbrev pub answers_begin : Answer → Bool
answers_begin (answer.Begun txn view) = true
answers_begin (answer.NoView promise) = true
answers_begin answer.TooManyLive = true
answers_begin (answer.Spent number) = true
answers_begin _ = false

abbrev pub answers_regroup : Answer → Bool
answers_regroup (answer.Inviting view) = true
answers_regroup (answer.Spent number) = true
answers_regroup _ = false

abbrev pub answers : Call → Answer → Bool
answers call.Begin a = answers_begin a
answers call.Regroup a = answers_regroup a
answers (call.Read txn number name) a = answers_numbered txn number a
answers (call.Write txn number name value) a = answers_numbered txn number a
answers (call.Commit txn number) a = answers_numbered txn number a
answers (call.Abort txn number) a = answers_numbered txn number a
answers (call.Delete txn number name) a = answers_numbered txn number a
answers (call.Weigh txn number name table) a = answers_numbered txn number a
