-- What the replay of a schedule prints.
use Rattle.std.specs.Prelude.{◌≡◌, ℕ, List, ◌++◌, Some, None}
use Rattle.vp_model.specs.Types.{Counted}
use Rattle.vp_model.specs.World.{Schedule}
use Rattle.vp_model.specs.Limits.{world_limits, limit_reached, trace_text_within}
use Rattle.vp_model.specs.Texts.Trace.{trace_text}
use Rattle.vp_model.specs.Texts.History.{history_text}
use Rattle.vp_timely.specs.Sound.{IsSound}
pub use Rattle.vp_refusals.specs.PlayAnswers.{IsPlayed, Tells, IsRefused, IsPlayAnswer}
use Rattle.vp_status.specs.Refused.{limit_text}
use Rattle.vp_status.specs.declared.status.Status.{Status}
use Rattle.vp_status.specs.declared.status.Status.TheVariants as status
use Rattle.vp_world.specs.declared.end.WorldEnd.{WorldEnd}
use Rattle.vp_world.specs.declared.end.WorldEnd.TheVariants as ends
pub use Rattle.vp_world.specs.Limits.{limit_of}

-- No limit is reached, what is printed is the schedule's trace and then its history, and the schedule is sound.
pub record IsDone (s : Schedule) (text : List ℕ) : Type 0 where
  pub whole : limit_reached world_limits s ≡ None
  pub printed : text ≡ trace_text s ++ history_text s
  pub sound : IsSound s

-- A limit of the world ends the schedule: what is printed is the trace of the steps before, and the limit.
pub record IsLimited (s : Schedule) (text : List ℕ) : Type 0 where
  pub counted : Counted
  pub reached : limit_reached world_limits s ≡ Some counted
  pub printed : text ≡ trace_text_within world_limits s ++ limit_text (limit_of counted)

-- the text of `replay` for a schedule, at each status
abbrev pub Gives : Schedule → Status → List ℕ → Type 0
Gives s status.Done text = IsDone s text
Gives s status.Limit text = IsLimited s text
Gives s _ text = ⊥

-- the status and the text where a limit of the world ended a run of which this text was printed before
abbrev pub StopsAt : WorldEnd → List ℕ → Status → List ℕ → Type 0
StopsAt (ends.Limit what limit) before status.Limit text = text ≡ before ++ limit_text limit
StopsAt _ before _ text = ⊥

-- the text that is defined for an input of `replay` at each status
abbrev pub IsReplayAnswer : List ℕ → Status → List ℕ → Type 0
IsReplayAnswer bytes end text = IsPlayAnswer Gives bytes end text
