-- The bytes before `at` are handed over, and nothing failed.
use Rattle.std.proofs.Common.{length, take, ◌-◌, ◌≡◌, ◌≤◌}
use Rattle.std.specs.Io.KnownBytes.{Appends}
use Rattle.vp_outside.proofs.sink.write_all.Given as goal

abbrev pub invariant-loop-at : goal.invariant-loop-at
invariant-loop-at g l = record {
  within : l.at ≤ length l.bytes;
  handed : Appends (g.K.Sink.state l.fn.sink).held (g.K.Sink.state l.sink).held (take l.at l.bytes);
  counted : (g.K.Sink.state l.sink).faults ≡ (g.K.Sink.state l.fn.sink).faults;
}

abbrev pub decreases-loop-at : goal.decreases-loop-at
decreases-loop-at g l = length l.bytes - l.at
