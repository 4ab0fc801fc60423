use Rattle.std.proofs.Common.{◌≤◌}
use Rattle.std.specs.Prelude.{◌-◌}
use Rattle.vp_schedule.specs.TableReading.{table_at}
use Rattle.vp_schedule.proofs.Tables.{Left}
use Rattle.vp_schedule.proofs.table_reading.parse_shares.Given as goal

abbrev pub invariant-loop-cursor : goal.invariant-loop-cursor
invariant-loop-cursor l = Left l.shares.items l.above l.cursor (table_at l.fn.cursor) × (l.above ≤ 16)

abbrev pub decreases-loop-cursor : goal.decreases-loop-cursor
decreases-loop-cursor l = 16 - l.above
