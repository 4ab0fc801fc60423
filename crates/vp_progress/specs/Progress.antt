-- No schedule is stuck: a whole world can be reached again.
use Rattle.std.specs.Prelude.{◌≡◌, ◌<◌, ◌^◌, ◌-◌, List, length}
use Rattle.vp_model.specs.Types.{Event}
use Rattle.vp_model.specs.Catalogue.{sites_of}
use Rattle.vp_model.specs.World.{WorldState, Schedule, run_of, moments_of, journal_of}
use Rattle.vp_progress.specs.Going.{goes_on, EachPasses, AreFresh, mends}
use Rattle.vp_progress.specs.Whole.{AreUnspent, IsWhole}

-- the world in which the schedule ends
abbrev pub world_of : Schedule → WorldState
world_of s = (run_of s).world

-- Events that mend lead to a whole world, and commit nothing more. No message is needed that was sent before.
pub record CanBeWhole (s : Schedule) : Type 0 where
  pub more : List Event
  pub mending : EachPasses s.catalogue (mends (sites_of s.catalogue)) (world_of s) more
  pub fresh : AreFresh (world_of s) more
  pub whole : IsWhole s.catalogue (world_of (goes_on s more))
  pub journal : journal_of (goes_on s more) ≡ journal_of s

-- Every schedule that spends no number can be mended, over any catalogue.
abbrev pub SchedulesCanMend : Type 0
SchedulesCanMend = (s : Schedule) → AreUnspent (sites_of s.catalogue) (world_of s) → CanBeWhole s

-- A run of fewer steps than there are lives spends none.
abbrev pub ShortSchedulesCanMend : Type 0
ShortSchedulesCanMend = (s : Schedule) → length (moments_of s) < 2 ^ 32 - 2 → CanBeWhole s
