-- A worked schedule: a transaction of a higher view, and its entry in another view.
use Rattle.std.specs.Prelude.{Some, [], ◌∷◌, ◌++◌, codes}
use Rattle.vp_model.specs.Types.{Commit}
use Rattle.vp_model.specs.Types.op
use Rattle.vp_model.specs.Types.call
use Rattle.vp_model.specs.Types.event
use Rattle.vp_model.specs.World.{Schedule}
use Rattle.vp_model.specs.Worked.{view, txn, committed, stored}

-- the site makes a view of its own, and writes x there
abbrev pub uncommitted : Schedule
uncommitted = record {
  catalogue = record { sites = (1, 7001) ∷ []; records = stored (codes "x") (codes "10") ((1, 1) ∷ []) ∷ [] };
  events =
      event.Call 1 call.Regroup
      ∷ event.Tick 1
      ∷ event.Call 1 call.Begin
      ∷ event.Call 1 (call.Write (txn 1 1 1) 1 (codes "x") (codes "11"))
      ∷ [];
}

abbrev pub schedule : Schedule
schedule = record uncommitted { events = uncommitted.events ++ event.Call 1 (call.Commit (txn 1 1 1) 2) ∷ [] }

abbrev pub entry : Commit
entry = committed (txn 1 1 1) (view 1 1) (op.Write 0 (Some (codes "11")) ∷ [])

-- the same in the opening view, in which it would be serial too
abbrev pub moved : Commit
moved = record entry { view = view 0 0 }
