-- The bytes before `at` are those of the half, and nothing failed.
use Rattle.std.proofs.Common.{◌≡◌, ◌-◌, ◌≤◌, length, take}
use Rattle.std.specs.Prelude.{IfSome}
use Rattle.vp_outside.specs.Disk.{half_of, log_of}
use Rattle.vp_stable.specs.Moments.{Quiet}
use Rattle.vp_stable.proofs.half.fill.Given as goal

abbrev pub invariant-loop-at : goal.invariant-loop-at
invariant-loop-at g l = record {
  within : l.at ≤ length l.buf;
  told : IfSome (log_of (g.D.Disk.state l.fn.disk)) (λ log. (l.at ≤ length (half_of l.fn.half log)) × (take l.at l.buf ≡ take l.at (half_of l.fn.half log)));
  quiet : Quiet (g.D.Disk.state l.fn.disk) (g.D.Disk.state l.disk);
  counted : (g.D.Disk.state l.disk).faults ≡ (g.D.Disk.state l.fn.disk).faults;
}

abbrev pub decreases-loop-at : goal.decreases-loop-at
decreases-loop-at g l = length l.buf - l.at
