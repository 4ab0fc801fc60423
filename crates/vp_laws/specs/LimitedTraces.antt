-- What a limit on the steps and messages of a run leaves of a trace.
use Rattle.std.specs.Prelude.{◌≡◌, ℕ, List, ◌++◌, None}
use Rattle.vp_model.specs.Types.{Line}
use Rattle.vp_model.specs.World.{Schedule}
use Rattle.vp_model.specs.Texts.Trace.{printed_lines}
use Rattle.vp_model.specs.Limits.{Limits, limit_reached, lines_within}
use Rattle.vp_model.specs.Generated.{made, made_within, limit_made}

-- under any limits
pub record LimitsCutTraces : Type 0 where
  -- what is left are the first lines
  pub front : (limits : Limits) (s : Schedule) → (rest : List (ℕ × Line)) × (printed_lines s ≡ lines_within limits s ++ rest)
  -- all of them where no limit is reached
  pub whole : (limits : Limits) (s : Schedule) → limit_reached limits s ≡ None → lines_within limits s ≡ printed_lines s
  -- and a generated schedule is whole too
  pub generated : (limits : Limits) (seed count : ℕ) → limit_made limits seed count ≡ None → made_within limits seed count ≡ made seed count
