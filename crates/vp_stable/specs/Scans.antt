-- What is read from the bytes of a half.
use Rattle.std.specs.Prelude.{◌≡◌, ℕ, ◌≤◌, List, [], length, Result, Ok, Err}
use Rattle.vp_outside.specs.Disk.{Halves, half_of}
use Rattle.vp_stable.specs.Log.{IsLog, IsBadLog}
use Rattle.vp_stable.specs.Halves.{IsCurrent, second_gate}
use Rattle.vp_stable.specs.declared.batches.Scan.{Scan}
use Rattle.vp_stable.specs.declared.fault.LogFault.{LogFault}
use Rattle.vp_stable.specs.declared.fault.LogFault.TheVariants as faults

-- The bytes are a log with these batches and with its gates at those places; 0 or 1 bytes have no batches, and their gate is at the
-- first place.
pub record IsScan (scan : Scan) (bytes : List ℕ) : Type 0 where
  pub short : length bytes ≤ 1 → (scan.gate ≡ 0) × (scan.batches ≡ [])
  pub is_log : 2 ≤ length bytes → IsLog scan.gate scan.batches bytes
  pub second : scan.second ≡ second_gate scan.batches

abbrev pub Scanned : ℕ → List ℕ → Result Scan LogFault → Type 0
Scanned half bytes (Ok scan) = IsScan scan bytes
Scanned half bytes (Err (faults.BadLog bad at)) = (bad ≡ half) × IsBadLog at bytes
Scanned half bytes (Err faults.DiskFault) = ⊥
Scanned half bytes (Err faults.NoMemory) = Unit {0}

-- These are the bytes of the current half.
pub record IsRead (half : ℕ) (bytes : List ℕ) (log : Halves) : Type 0 where
  pub current : IsCurrent half log
  pub is : bytes ≡ half_of half log
