-- The texts of answers to clients.
use Rattle.std.specs.Prelude.{ℕ, List, ◌∷◌, ◌++◌, codes}
use Rattle.std.specs.Fmt.{decimal}
use Rattle.vp_model.specs.Types.{TxnId, Answer}
use Rattle.vp_model.specs.Types.answer
use Rattle.vp_model.specs.Texts.Fields.{view_text, held_text, txn_text, owner_text, call_name_text}

-- a word, a transaction and a number
abbrev pub numbered_text : List ℕ → TxnId → ℕ → List ℕ
numbered_text word txn number = word ++ call_name_text txn number

abbrev pub answer_text : Answer → List ℕ
answer_text (answer.Begun txn view) = codes "begun " ++ (txn_text txn ++ 32 ∷ view_text view)
answer_text (answer.Value txn number value) = numbered_text (codes "value ") txn number ++ 32 ∷ value
answer_text (answer.Written txn number) = numbered_text (codes "written ") txn number
answer_text (answer.Absent txn number) = numbered_text (codes "absent ") txn number
answer_text (answer.Deleted txn number) = numbered_text (codes "deleted ") txn number
answer_text (answer.Weighed txn number) = numbered_text (codes "weighed ") txn number
answer_text (answer.BadTable txn number) = numbered_text (codes "badtable ") txn number
answer_text (answer.Committed txn number) = numbered_text (codes "committed ") txn number
answer_text (answer.Aborted txn number) = numbered_text (codes "aborted ") txn number
answer_text (answer.Inviting view) = codes "inviting " ++ view_text view
answer_text (answer.NoView promise) = codes "noview " ++ view_text promise
answer_text (answer.Unknown txn) = codes "unknown " ++ txn_text txn
answer_text (answer.Skipped txn expected) = codes "skipped " ++ (txn_text txn ++ (codes " expected " ++ decimal expected))
answer_text (answer.Busy txn number) = numbered_text (codes "busy ") txn number
answer_text (answer.NoRecord txn number) = numbered_text (codes "norecord ") txn number
answer_text (answer.TooManyOps txn number) = numbered_text (codes "toomanyops ") txn number
answer_text (answer.Inaccessible txn number name inside total) =
    numbered_text (codes "inaccessible ") txn number ++ 32 ∷ (name ++ 32 ∷ (decimal inside ++ (codes " of " ++ decimal total)))
answer_text (answer.LockHeld txn number name at owner) =
    numbered_text (codes "lockheld ") txn number ++ 32 ∷ (name ++ (codes " at " ++ (decimal at ++ (codes " by " ++ owner_text owner))))
answer_text (answer.ViewChanged txn number at held now) =
    numbered_text (codes "viewchanged ") txn number
    ++ (codes " at " ++ (decimal at ++ (codes " held " ++ (view_text held ++ (codes " now " ++ held_text now)))))
answer_text (answer.TimedOut txn number at) = numbered_text (codes "timedout ") txn number ++ (codes " at " ++ decimal at)
answer_text (answer.Spent number) = codes "spent " ++ decimal number
answer_text answer.TooManyLive = codes "toomanylive 1024"
