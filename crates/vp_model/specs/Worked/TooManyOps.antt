-- One transaction reads 64 times; its 65th operation is refused, and it commits with that number.
use Rattle.std.specs.Prelude.{ℕ, zero, suc, ◌+◌, List, [], ◌∷◌, ◌++◌, map, codes, Some}
use Rattle.vp_model.specs.Types.{Call, Line}
use Rattle.vp_model.specs.Types.answer
use Rattle.vp_model.specs.Types.op
use Rattle.vp_model.specs.Types.call
use Rattle.vp_model.specs.Types.event
use Rattle.vp_model.specs.Types.shown
use Rattle.vp_model.specs.World.{Schedule}
use Rattle.vp_model.specs.Worked.{view, txn, reply, committed, line, stored}

-- a given count of numbers, from n on
abbrev pub numbers_from : ℕ → ℕ → List ℕ
numbers_from n zero = []
numbers_from n (suc count) = n ∷ numbers_from (n + 1) count

abbrev pub read_call : ℕ → Call
read_call number = call.Read (txn 1 1 1) number (codes "x")

abbrev pub schedule : Schedule
schedule = record {
  catalogue = record { sites = ((1, 7001) ∷ []); records = (stored (codes "x") (codes "10") ((1, 1) ∷ []) ∷ []) };
  events =
      event.Call 1 call.Begin
      ∷ map (λ n. event.Call 1 (read_call n)) (numbers_from 1 65)
      ++ event.Call 1 (call.Commit (txn 1 1 1) 65)
      ∷ [];
}

-- the lines of the refused operation and of the commit
abbrev pub last_lines : List (ℕ × Line)
last_lines =
    line 66 (event.Call 1 (read_call 65)) (shown.Step [] 1 [] (reply (answer.TooManyOps (txn 1 1 1) 65) ∷ []))
    ∷ line 67 (event.Call 1 (call.Commit (txn 1 1 1) 65))
    (shown.Step
    (committed (txn 1 1 1) (view 0 0) (map (λ n. op.Read 0 (Some (codes "10"))) (numbers_from 1 64)) ∷ [])
    1
    []
    (reply (answer.Committed (txn 1 1 1) 65) ∷ []))
    ∷ []
