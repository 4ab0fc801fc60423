-- Site 2 probes, so its probe is heard; site 3 was not heard since the last probes of site 1, which then invites to a new view.
use Rattle.std.specs.Prelude.{ℕ, List, [], ◌∷◌, codes}
use Rattle.vp_model.specs.Types.{Line}
use Rattle.vp_model.specs.Types.message
use Rattle.vp_model.specs.Types.event
use Rattle.vp_model.specs.Types.shown
use Rattle.vp_model.specs.World.{Schedule}
use Rattle.vp_model.specs.Worked.{view, sent, line, stored}

abbrev pub schedule : Schedule
schedule = record {
  catalogue =
      record { sites = ((1, 7001) ∷ (2, 7002) ∷ (3, 7003) ∷ []); records = (stored (codes "x") (codes "10") ((1, 1) ∷ (2, 1) ∷ (3, 1) ∷ []) ∷ []) };
  events = event.Probe 1 ∷ event.Deliver 1 ∷ event.Probe 2 ∷ event.Deliver 3 ∷ event.Probe 1 ∷ [];
}

abbrev pub lines : List (ℕ × Line)
lines =
    line 1 (event.Probe 1) (shown.Step [] 1 (sent 1 2 (message.Probe (view 0 0)) ∷ sent 1 3 (message.Probe (view 0 0)) ∷ []) [])
    ∷ line 2 (event.Deliver 1) (shown.Step [] 3 [] [])
    ∷ line 3 (event.Probe 2) (shown.Step [] 3 (sent 2 1 (message.Probe (view 0 0)) ∷ sent 2 3 (message.Probe (view 0 0)) ∷ []) [])
    ∷ line 4 (event.Deliver 3) (shown.Step [] 5 [] [])
    ∷ line 5 (event.Probe 1) (shown.Step [] 5 (sent 1 2 (message.Invite (view 1 1)) ∷ sent 1 3 (message.Invite (view 1 1)) ∷ []) [])
    ∷ []
