-- The calls of a script, and what their answers tell it.
use Rattle.std.specs.Prelude.{◌≡◌, ℕ, ◌+◌, Bool, true, false, List, [], ◌∷◌, Option, Some, None, option_map}
use Rattle.vp_model.specs.Types.{TxnId, Op, Answer, Call}
use Rattle.vp_model.specs.Types.op
use Rattle.vp_model.specs.Types.call
use Rattle.vp_model.specs.Types.answer
use Rattle.vp_client.specs.Conversations.{Exchange}
use Rattle.vp_proc.specs.Scripts.{Script}

-- what is asked next, under this number: a read, a write, the commit or the abort
abbrev pub next_call : TxnId → ℕ → Script → Call
next_call txn number (Script.reads rec name go) = call.Read txn number name
next_call txn number (Script.writes rec name value more) = call.Write txn number name value
next_call txn number (Script.gives n) = call.Commit txn number
next_call txn number (Script.stops end) = call.Abort txn number

-- ---- answers

abbrev pub begun_in : Answer → Option TxnId
begun_in (answer.Begun txn view) = Some txn
begun_in a = None

-- the content that a read is told
abbrev pub content_in : Answer → Option (Option (List ℕ))
content_in (answer.Value txn number value) = Some (Some value)
content_in (answer.Absent txn number) = Some None
content_in a = None

abbrev pub is_written : Answer → Bool
is_written (answer.Written txn number) = true
is_written a = false

abbrev pub is_committed : Answer → Bool
is_committed (answer.Committed txn number) = true
is_committed a = false

-- It ended the transaction: no call follows.
abbrev pub is_end : Answer → Bool
is_end (answer.LockHeld txn number name at owner) = true
is_end (answer.ViewChanged txn number at held now) = true
is_end (answer.TimedOut txn number at) = true
is_end a = false

-- the operation that an answer tells, and what is left of the script after it; none if it tells none
abbrev pub told : Script → Answer → Option (Op × Script)
told (Script.reads rec name go) a = option_map (λ content. (op.Read rec content, go content)) (content_in a)
told (Script.writes rec name value more) (answer.Written txn number) = Some (op.Write rec (Some value), more)
told script a = None

-- It is not what was asked for. Whatever an abort is answered is no refusal.
abbrev pub Refuses : Script → Answer → Type 0
Refuses (Script.reads rec name go) a = content_in a ≡ None
Refuses (Script.writes rec name value more) a = is_written a ≡ false
Refuses (Script.gives n) a = is_committed a ≡ false
Refuses (Script.stops end) a = ⊥

-- These exchanges of the transaction, numbered from this one on, told these operations of the script, and this is left of it.
abbrev pub Tells : TxnId → ℕ → Script → List Exchange → List Op → Script → Type 0
Tells txn number script [] ops left = (ops ≡ []) × (left ≡ script)
Tells txn number script (x ∷ more) ops left =
    (a : Answer) × (x ≡ (next_call txn number script, Some a)) × (operation : Op) × (after : Script) × (told script a ≡ Some (operation, after))
    × (later : List Op) × (ops ≡ operation ∷ later) × Tells txn (number + 1) after more later left
