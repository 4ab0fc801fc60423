-- Crashes and restarts, and the event of a turn, as the definition of a merge does them.
use Rattle.std.specs.Prelude.{◌≡◌, ⊤, ℕ, Bool, List, [], Option, Result, Ok, Err}
use Rattle.vp_model.specs.Types.{Event}
use Rattle.vp_model.specs.Limits.{world_limits}
use Rattle.vp_world.specs.Limits.{limit_of}
use Rattle.vp_fitting.specs.Merged.{done_from, restarts_then, tells, events_in}
use Rattle.vp_merge.specs.Numbers.{IsIndex, HaveSame}
use Rattle.vp_merge.specs.declared.numbers.FrameNumbers.{FrameNumbers}
use Rattle.vp_merge.specs.Played.{IsPlayed, done_at}
use Rattle.vp_merge.specs.declared.fault.MergeFault.{MergeFault}
use Rattle.vp_merge.specs.declared.fault.MergeFault.TheVariants as faults
use Rattle.vp_merge.specs.declared.played.Played.{Played}

-- The site crashed and started again so many times, and whatever follows goes on from there.
pub record Lives (site lives : ℕ) (old new : Played) : Type 0 where
  pub played : IsPlayed new
  pub catalogue : new.world.catalogue ≡ old.world.catalogue
  pub sent : new.world.world.sent ≡ old.world.world.sent
  pub on : (own : List Event) (made : List (List ℕ)) →
      done_from world_limits old.world.catalogue site (restarts_then site lives own) (done_at old made) ≡ done_from world_limits old.world.catalogue site own (done_at new made)

abbrev pub StartsLives : ℕ → ℕ → Played → Result Played MergeFault → Type 0
StartsLives site lives old (Ok new) = Lives site lives old new
StartsLives site lives old (Err (faults.Limit what limit)) =
    ((own : List Event) (made : List (List ℕ)) → done_from world_limits old.world.catalogue site (restarts_then site lives own) (done_at old made) ≡ Err what) × (limit ≡ limit_of what)
StartsLives site lives old (Err (faults.Unsent s turn)) = ⊥
StartsLives site lives old (Err (faults.Differs s turn)) = ⊥
StartsLives site lives old (Err faults.NoMemory) = ⊤

-- The event was done, if there is one, and its frames were compared with what is recorded.
pub record Takes (site : ℕ) (event : Option Event) (short : Bool) (outs : List (List ℕ)) (old new : Played) (told : Bool) (before after : FrameNumbers) : Type 0 where
  pub played : IsPlayed new
  pub catalogue : new.world.catalogue ≡ old.world.catalogue
  pub made : List (List ℕ)
  pub on : done_from world_limits old.world.catalogue site (events_in event) (done_at old []) ≡ Ok (done_at new made)
  pub told_is : told ≡ tells short outs made
  pub index : IsIndex before old.world.world.sent → IsIndex after new.world.world.sent
  pub same : HaveSame before after

abbrev pub TakesEvent : ℕ → Option Event → Bool → List (List ℕ) → Played → Result (Played × Bool) MergeFault → FrameNumbers → FrameNumbers → Type 0
TakesEvent site event short outs old (Ok r) before after = Takes site event short outs old r.0 r.1 before after
TakesEvent site event short outs old (Err (faults.Limit what limit)) before after =
    (done_from world_limits old.world.catalogue site (events_in event) (done_at old []) ≡ Err what) × (limit ≡ limit_of what)
TakesEvent site event short outs old (Err (faults.Unsent s turn)) before after = ⊥
TakesEvent site event short outs old (Err (faults.Differs s turn)) before after = ⊥
TakesEvent site event short outs old (Err faults.NoMemory) before after = ⊤
