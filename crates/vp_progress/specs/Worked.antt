-- Worked recoveries: a site is in doubt about a write, and its coordinator is down and cut off; and three sites crash in doubt.
use Rattle.std.specs.Prelude.{◌≡◌, ℕ, List, [], ◌∷◌, codes, map, Option, None, Some, option_map}
use Rattle.vp_model.specs.Types.{TxnId, View, Stored, Lock, Part, Refreshing, Live, Doubt, Event}
use Rattle.vp_model.specs.Types.call
use Rattle.vp_model.specs.Types.event
use Rattle.vp_model.specs.Catalogue.{sites_of}
use Rattle.vp_model.specs.World.{Place, Schedule}
use Rattle.vp_model.specs.Worked.{txn, view, stored}
use Rattle.vp_progress.specs.Going.{goes_on, EachPasses, mends}
use Rattle.vp_progress.specs.Progress.{world_of}
use Rattle.vp_progress.specs.Recovery.{Course, recovery as recovery_of}

abbrev pub in_doubt : Schedule
in_doubt = record {
  catalogue = record { sites = ((1, 7001) ∷ (2, 7002) ∷ []); records = (stored (codes "x") (codes "10") ((1, 1) ∷ (2, 1) ∷ []) ∷ []) };
  events =
      event.Call 1 call.Begin
      ∷ event.Call 1 (call.Write (txn 1 1 1) 1 (codes "x") (codes "11"))
      ∷ event.Deliver 1
      ∷ event.Deliver 2
      ∷ event.Call 1 (call.Commit (txn 1 1 1) 2)
      ∷ event.Deliver 3
      ∷ event.Cut 1 2
      ∷ event.Crash 1
      ∷ [];
}

-- The pair is healed and both start; site 1 invites, site 2 accepts, the view is fixed and joined; the doubt is asked about and ended;
-- each copy is asked for and refreshed.
abbrev pub recovery : List Event
recovery =
    event.Heal 1 2 ∷ event.Restart 1 ∷ event.Restart 2
    ∷ event.Call 1 call.Regroup ∷ event.Deliver 5 ∷ event.Deliver 6 ∷ event.Tick 1 ∷ event.Deliver 7
    ∷ event.Tick 1 ∷ event.Tick 2 ∷ event.Deliver 12 ∷ event.Deliver 13
    ∷ event.Tick 1 ∷ event.Tick 2 ∷ event.Deliver 14 ∷ event.Deliver 15 ∷ event.Deliver 16 ∷ event.Deliver 17
    ∷ []

-- what is in progress at a site, if it is up
abbrev pub going_on : Place → Option (Option View × List Lock × List Refreshing × List Live × List Part × List Doubt)
going_on place = option_map (λ x. (x.held, x.locks, x.refresh, x.live, x.parts, x.doubts)) place.up

-- the transactions about which a site is in doubt, whether it is up or down
abbrev pub doubted_txns : Place → List TxnId
doubted_txns place = map (λ (d : Doubt). d.txn) place.durable.doubts

abbrev pub both : View
both = record { id = view 1 1; members = 1 ∷ 2 ∷ [] }

abbrev pub IsInDoubt : Type 0
IsInDoubt = map doubted_txns (world_of in_doubt).places ≡ [] ∷ (txn 1 1 1 ∷ []) ∷ []

abbrev pub IsMending : Type 0
IsMending = EachPasses in_doubt.catalogue (mends (sites_of in_doubt.catalogue)) (world_of in_doubt) recovery

abbrev pub IsMended : Type 0
IsMended = map going_on (world_of (goes_on in_doubt recovery)).places ≡ Some (Some both, [], [], [], [], []) ∷ Some (Some both, [], [], [], [], []) ∷ []

-- ---- three sites

-- a write at three sites is prepared and decided, its outcome is told to no one yet, and all crash
abbrev pub three_in_doubt : Schedule
three_in_doubt = record {
  catalogue = record { sites = ((1, 7001) ∷ (2, 7002) ∷ (3, 7003) ∷ []); records = (stored (codes "x") (codes "10") ((1, 1) ∷ (2, 1) ∷ (3, 1) ∷ []) ∷ []) };
  events =
      event.Call 1 call.Begin
      ∷ event.Call 1 (call.Write (txn 1 1 1) 1 (codes "x") (codes "11"))
      ∷ event.Deliver 1 ∷ event.Deliver 2 ∷ event.Deliver 3 ∷ event.Deliver 4
      ∷ event.Call 1 (call.Commit (txn 1 1 1) 2)
      ∷ event.Deliver 5 ∷ event.Deliver 6 ∷ event.Deliver 7 ∷ event.Deliver 8
      ∷ event.Crash 1 ∷ event.Crash 2 ∷ event.Crash 3
      ∷ [];
}

-- what the procedure makes of it
abbrev pub three_recovered : Course
three_recovered = recovery_of three_in_doubt.catalogue (world_of three_in_doubt)

abbrev pub all_three : View
all_three = record { id = view 1 1; members = 1 ∷ 2 ∷ 3 ∷ [] }

-- the contents of a site's copies
abbrev pub contents_at : Place → List (Option (List ℕ))
contents_at place = map (λ (c : ℕ × Stored). c.1.value) place.durable.copies

abbrev pub AreInDoubt : Type 0
AreInDoubt = map doubted_txns (world_of three_in_doubt).places ≡ [] ∷ (txn 1 1 1 ∷ []) ∷ (txn 1 1 1 ∷ []) ∷ []

abbrev pub AreDown : Type 0
AreDown = map going_on (world_of three_in_doubt).places ≡ None ∷ None ∷ None ∷ []

abbrev pub AreMending : Type 0
AreMending = EachPasses three_in_doubt.catalogue (mends (sites_of three_in_doubt.catalogue)) (world_of three_in_doubt) three_recovered.events

abbrev pub AreMended : Type 0
AreMended = map going_on three_recovered.world.places ≡ Some (Some all_three, [], [], [], [], []) ∷ Some (Some all_three, [], [], [], [], []) ∷ Some (Some all_three, [], [], [], [], []) ∷ []

-- the write that had committed is at each of them
abbrev pub HaveValue : Type 0
HaveValue = map contents_at three_recovered.world.places ≡ (Some (codes "11") ∷ []) ∷ (Some (codes "11") ∷ []) ∷ (Some (codes "11") ∷ []) ∷ []
