-- A long schedule of three sites, which crash and change their views, and what they commit.
use Rattle.std.specs.Prelude.{List, [], ◌∷◌, codes, Some}
use Rattle.vp_model.specs.Types.{TxnId, ViewId, Commit}
use Rattle.vp_model.specs.Types.op
use Rattle.vp_model.specs.Types.call
use Rattle.vp_model.specs.Types.event
use Rattle.vp_model.specs.Catalogue.{Catalogue}
use Rattle.vp_model.specs.World.{Schedule}
use Rattle.vp_model.specs.Worked.{view, txn, committed, stored}

abbrev catalogue : Catalogue
catalogue =
    record {
      sites = (1, 7001) ∷ (2, 7002) ∷ (3, 7003) ∷ [];
      records = stored (codes "x") (codes "10") ((1, 1) ∷ (2, 1) ∷ (3, 1) ∷ []) ∷ stored (codes "y") (codes "5") ((2, 1) ∷ []) ∷ [];
    }

abbrev pub schedule : Schedule
schedule = record {
  catalogue = catalogue;
  events =
      event.Call 1 call.Begin
      ∷ event.Call 1 (call.Write (txn 1 1 1) 1 (codes "x") (codes "11"))
      ∷ event.Flow 4
      ∷ event.Call 1 (call.Commit (txn 1 1 1) 2)
      ∷ event.Deliver 5
      ∷ event.Deliver 6
      ∷ event.Call 2 call.Regroup
      ∷ event.Deliver 10
      ∷ event.Deliver 11
      ∷ event.Tick 2
      ∷ event.Deliver 12
      ∷ event.Deliver 13
      ∷ event.Call 2 call.Begin
      ∷ event.Call 2 (call.Read (txn 2 1 1) 1 (codes "y"))
      ∷ event.Call 2 (call.Commit (txn 2 1 1) 2)
      ∷ event.Call 2 call.Begin
      ∷ event.Call 2 (call.Read (txn 2 1 2) 1 (codes "x"))
      ∷ event.Deliver 7
      ∷ event.Deliver 8
      ∷ event.Deliver 16
      ∷ event.Deliver 17
      ∷ event.Tick 2
      ∷ event.Deliver 20
      ∷ event.Deliver 21
      ∷ event.Call 2 call.Begin
      ∷ event.Call 2 (call.Read (txn 2 1 3) 1 (codes "x"))
      ∷ event.Call 2 (call.Commit (txn 2 1 3) 2)
      ∷ event.Call 3 call.Begin
      ∷ event.Call 3 (call.Write (txn 3 1 1) 1 (codes "x") (codes "68"))
      ∷ event.Flow 6
      ∷ event.Call 3 (call.Read (txn 3 1 1) 2 (codes "x"))
      ∷ event.Flow 12
      ∷ event.Call 3 (call.Commit (txn 3 1 1) 3)
      ∷ event.Flow 12
      ∷ event.Call 2 call.Regroup
      ∷ event.Flow 12
      ∷ event.Tick 2
      ∷ event.Flow 16
      ∷ event.Call 1 call.Begin
      ∷ event.Call 1 (call.Write (txn 1 1 2) 1 (codes "x") (codes "21"))
      ∷ event.Flow 8
      ∷ event.Call 1 (call.Read (txn 1 1 2) 2 (codes "y"))
      ∷ event.Flow 8
      ∷ event.Call 1 (call.Commit (txn 1 1 2) 3)
      ∷ event.Flow 4
      ∷ event.Call 1 call.Begin
      ∷ event.Call 1 (call.Write (txn 1 1 3) 1 (codes "y") (codes "97"))
      ∷ event.Flow 8
      ∷ event.Call 1 (call.Read (txn 1 1 3) 2 (codes "x"))
      ∷ event.Flow 6
      ∷ event.Call 1 (call.Commit (txn 1 1 3) 3)
      ∷ event.Flow 12
      ∷ event.Call 2 call.Begin
      ∷ event.Call 2 (call.Read (txn 2 1 4) 1 (codes "x"))
      ∷ event.Flow 12
      ∷ event.Call 2 (call.Write (txn 2 1 4) 2 (codes "x") (codes "3"))
      ∷ event.Flow 12
      ∷ event.Call 2 (call.Commit (txn 2 1 4) 3)
      ∷ event.Flow 2
      ∷ event.Call 3 call.Begin
      ∷ event.Call 3 (call.Write (txn 3 1 2) 1 (codes "x") (codes "58"))
      ∷ event.Flow 6
      ∷ event.Call 3 (call.Commit (txn 3 1 2) 2)
      ∷ event.Flow 2
      ∷ event.Call 2 call.Begin
      ∷ event.Call 2 (call.Write (txn 2 1 5) 1 (codes "x") (codes "71"))
      ∷ event.Flow 12
      ∷ event.Call 2 (call.Commit (txn 2 1 5) 2)
      ∷ event.Flow 12
      ∷ event.Call 3 call.Begin
      ∷ event.Call 3 (call.Write (txn 3 1 3) 1 (codes "y") (codes "25"))
      ∷ event.Flow 6
      ∷ event.Call 3 (call.Commit (txn 3 1 3) 2)
      ∷ event.Flow 2
      ∷ event.Crash 2
      ∷ event.Call 1 call.Begin
      ∷ event.Call 1 (call.Read (txn 1 1 4) 1 (codes "x"))
      ∷ event.Flow 12
      ∷ event.Call 1 (call.Commit (txn 1 1 4) 2)
      ∷ event.Flow 12
      ∷ event.Restart 2
      ∷ event.Call 2 call.Regroup
      ∷ event.Flow 12
      ∷ event.Tick 2
      ∷ event.Flow 20
      ∷ event.Call 3 call.Begin
      ∷ event.Call 3 (call.Write (txn 3 1 4) 1 (codes "x") (codes "36"))
      ∷ event.Flow 12
      ∷ event.Call 3 (call.Commit (txn 3 1 4) 2)
      ∷ event.Flow 12
      ∷ event.Crash 3
      ∷ event.Call 1 call.Begin
      ∷ event.Call 1 (call.Write (txn 1 1 5) 1 (codes "y") (codes "32"))
      ∷ event.Flow 6
      ∷ event.Call 1 (call.Write (txn 1 1 5) 2 (codes "x") (codes "83"))
      ∷ event.Flow 8
      ∷ event.Call 1 (call.Commit (txn 1 1 5) 3)
      ∷ event.Flow 12
      ∷ event.Restart 3
      ∷ event.Call 3 call.Regroup
      ∷ event.Flow 4
      ∷ event.Tick 3
      ∷ event.Flow 20
      ∷ event.Call 3 call.Begin
      ∷ event.Call 3 (call.Read (txn 3 2 1) 1 (codes "x"))
      ∷ event.Flow 6
      ∷ event.Call 3 (call.Write (txn 3 2 1) 2 (codes "x") (codes "16"))
      ∷ event.Flow 8
      ∷ event.Call 3 (call.Commit (txn 3 2 1) 3)
      ∷ event.Flow 3
      ∷ [];
}

-- the transactions with their views, by moment of commit
abbrev pub commits : List (TxnId × ViewId)
commits =
    (txn 2 1 1, view 1 2)
    ∷ (txn 1 1 1, view 0 0)
    ∷ (txn 2 1 3, view 1 2)
    ∷ (txn 1 1 2, view 2 2)
    ∷ (txn 1 1 3, view 2 2)
    ∷ (txn 2 1 4, view 2 2)
    ∷ (txn 2 1 5, view 2 2)
    ∷ (txn 3 1 3, view 2 2)
    ∷ (txn 1 1 4, view 2 2)
    ∷ (txn 3 1 4, view 3 2)
    ∷ []

-- the entries, by view and then by moment of commit
abbrev pub history : List Commit
history =
    committed (txn 1 1 1) (view 0 0) (op.Write 0 (Some (codes "11")) ∷ [])
    ∷ committed (txn 2 1 1) (view 1 2) (op.Read 1 (Some (codes "5")) ∷ [])
    ∷ committed (txn 2 1 3) (view 1 2) (op.Read 0 (Some (codes "11")) ∷ [])
    ∷ committed (txn 1 1 2) (view 2 2) (op.Write 0 (Some (codes "21")) ∷ op.Read 1 (Some (codes "5")) ∷ [])
    ∷ committed (txn 1 1 3) (view 2 2) (op.Write 1 (Some (codes "97")) ∷ op.Read 0 (Some (codes "21")) ∷ [])
    ∷ committed (txn 2 1 4) (view 2 2) (op.Read 0 (Some (codes "21")) ∷ op.Write 0 (Some (codes "3")) ∷ [])
    ∷ committed (txn 2 1 5) (view 2 2) (op.Write 0 (Some (codes "71")) ∷ [])
    ∷ committed (txn 3 1 3) (view 2 2) (op.Write 1 (Some (codes "25")) ∷ [])
    ∷ committed (txn 1 1 4) (view 2 2) (op.Read 0 (Some (codes "71")) ∷ [])
    ∷ committed (txn 3 1 4) (view 3 2) (op.Write 0 (Some (codes "36")) ∷ [])
    ∷ []
