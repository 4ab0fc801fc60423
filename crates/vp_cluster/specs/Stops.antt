-- Whether a stop within an append leaves the batch in the log.
use Rattle.std.specs.Prelude.{◌≡◌, ℕ, nat_lt, Bool, if◌then◌else◌, List, length}
use Rattle.vp_model.specs.Types.{LogRecord}
use Rattle.vp_outside.specs.Disk.{Halves}
use Rattle.vp_stable.specs.Halves.{HaveBatches}
use Rattle.vp_cluster.specs.declared.stopping.Stop.{Stop}

-- The third call opens the gate of the batch, and the fourth syncs that. What isn't synced is left if the stop is late.
abbrev pub is_kept : Stop → Bool
is_kept stop = if stop.late then nat_lt 2 stop.calls else nat_lt 3 stop.calls

-- the log has so many batches
abbrev pub HasSoMany : ℕ → Halves → Type 0
HasSoMany count log = (batches : List (List LogRecord)) → HaveBatches batches log → count ≡ length batches
