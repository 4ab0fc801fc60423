-- What `logs` prints of a schedule.
use Rattle.std.specs.Prelude.{◌≡◌, ℕ, List, [], ◌∷◌, ◌++◌, codes, Some, None}
use Rattle.std.specs.Fmt.{decimal}
use Rattle.std.specs.List.{flat_map}
use Rattle.hex.specs.Hex.{encode_lower}
use Rattle.vp_model.specs.Types.{Counted}
use Rattle.vp_model.specs.World.{Schedule}
use Rattle.vp_model.specs.Limits.{world_limits, limit_reached}
use Rattle.vp_cluster.specs.Ran.{AreLogs}
use Rattle.vp_status.specs.Refused.{limit_text}
use Rattle.vp_status.specs.declared.status.Status.{Status}
use Rattle.vp_status.specs.declared.status.Status.TheVariants as status
use Rattle.vp_world.specs.Limits.{limit_of}
use Rattle.vp_replay.specs.Replayed.{IsPlayAnswer}

-- ---- the lines

-- a site, and the two halves of its log
abbrev pub SiteLog : Type 0
SiteLog = ℕ × List ℕ × List ℕ

-- a half in lower-case hexadecimal, and `-` for an empty one
abbrev pub half_text : List ℕ → List ℕ
half_text [] = codes "-"
half_text (byte ∷ bytes) = encode_lower (byte ∷ bytes)

abbrev pub log_line : SiteLog → List ℕ
log_line log = codes "log " ++ (decimal log.0 ++ 32 ∷ (half_text log.1 ++ 32 ∷ (half_text log.2 ++ 10 ∷ [])))

-- ---- the logs

-- No limit is reached, and what is printed is the lines of these logs.
pub record IsLogged (s : Schedule) (text : List ℕ) : Type 0 where
  pub whole : limit_reached world_limits s ≡ None
  pub logs : List SiteLog
  pub logs_are : AreLogs s logs
  pub printed : text ≡ flat_map log_line logs

-- A limit of the world ends the schedule: what is printed is that limit alone.
pub record IsStopped (s : Schedule) (text : List ℕ) : Type 0 where
  pub counted : Counted
  pub reached : limit_reached world_limits s ≡ Some counted
  pub printed : text ≡ limit_text (limit_of counted)

-- the text of `logs` for a schedule, at each status
abbrev pub Leaves : Schedule → Status → List ℕ → Type 0
Leaves s status.Done text = IsLogged s text
Leaves s status.Limit text = IsStopped s text
Leaves s _ text = ⊥

-- The text that is defined for an input of `logs` at each status; no other status is possible.
abbrev pub IsLogsAnswer : List ℕ → Status → List ℕ → Type 0
IsLogsAnswer bytes end text = IsPlayAnswer Leaves bytes end text
