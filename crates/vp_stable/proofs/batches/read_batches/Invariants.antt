-- The bytes before the gate are the batches, each after an open gate.
use Rattle.std.proofs.Common.{◌≡◌, ◌-◌, ◌<◌, ◌≤◌, ◌++◌, length, drop}
use Rattle.std.specs.List.{AllByRecursion}
use Rattle.vp_stable.specs.Log.{CanStand, open_batches}
use Rattle.vp_stable.specs.Halves.{second_gate}
use Rattle.vp_stable.proofs.batches.read_batches.Given as goal

abbrev pub invariant-loop-scan : goal.invariant-loop-scan
invariant-loop-scan l = record {
  within : l.scan.gate < length l.bytes;
  is : l.bytes ≡ open_batches l.scan.batches ++ drop l.scan.gate l.bytes;
  place : l.scan.gate ≡ length (open_batches l.scan.batches);
  can : AllByRecursion CanStand l.scan.batches;
  second : l.scan.second ≡ second_gate l.scan.batches;
  before : l.scan.second ≤ l.scan.gate;
}

abbrev pub decreases-loop-scan : goal.decreases-loop-scan
decreases-loop-scan l = length l.bytes - l.scan.gate
