-- What recordings ask of each site: its turns over its lives, and what a turn's frame is to it.
use Rattle.std.specs.Prelude.{ℕ, ◌+◌, ◌==◌, ◌&&◌, Bool, not, if◌then◌else◌, List, [], ◌∷◌, ◌++◌, length, map, Result, Ok, Err}
use Rattle.vp_model.specs.Words.{is_empty}
use Rattle.vp_wire.specs.declared.frame.Frame.{Frame}
use Rattle.vp_wire.specs.declared.frame.Body.{Body}
use Rattle.vp_wire.specs.declared.frame.Body.TheVariants as body
use Rattle.vp_wire.specs.Decoded.{read_frame}
use Rattle.vp_runs.specs.Arrivals.{arrival_in}
use Rattle.vp_runs.specs.declared.arrival.Arrival.{Arrival}
use Rattle.vp_runs.specs.declared.arrival.Arrival.TheVariants.{Bad, Stray, Stops}
use Rattle.vp_recording.specs.declared.recording.Recording.{Recording}
use Rattle.vp_recording.specs.declared.recording.Turn.{Turn}

-- ---- the turns of a site

-- a turn that a site has to take: in which life, as which of its turns, counted from 1, and whether it may have only the first of its datagrams
pub record Due : Type 0 where
  pub life : ℕ
  pub number : ℕ
  pub turn : Turn
  pub short : Bool

-- the turns of a life from that number on; the last one of a life whose end isn't recorded may be short
abbrev pub dues_in : ℕ → Bool → ℕ → List Turn → List Due
dues_in life ended number [] = []
dues_in life ended number (turn ∷ turns) =
    record { life = life; number = number; turn = turn; short = not ended && is_empty turns } ∷ dues_in life ended (number + 1) turns

abbrev pub dues_from : ℕ → ℕ → List Recording → List Due
dues_from site number [] = []
dues_from site number (r ∷ recordings) =
    if r.site == site
    then dues_in r.life r.ended number r.turns ++ dues_from site (number + length r.turns) recordings
    else dues_from site number recordings

-- the turns of a site, over its lives. A life without turns asks nothing
abbrev pub dues_of : ℕ → List Recording → List Due
dues_of site recordings = dues_from site 1 recordings

-- the frames that are recorded as handed over in the turn
abbrev pub outs_of : Due → List (List ℕ)
outs_of d = map (λ out. out.bytes) d.turn.outs

-- ---- what a frame is

-- a frame that stops its node; else what the frame is to the site, to which calls come from port 0
abbrev pub asks_body : ℕ → Frame → Body → Arrival
asks_body site frame body.Stop = Stops
asks_body site frame b = if frame.to == site then arrival_in 0 frame.from b else Stray

abbrev pub asks_of : ℕ → Result Frame ℕ → Arrival
asks_of site (Ok frame) = asks_body site frame frame.body
asks_of site (Err at) = Bad at

unfoldable pub asks : ℕ → List ℕ → Arrival
asks site bytes = asks_of site (read_frame bytes)
