-- What is in `bytes` was taken, and nothing failed.
use Rattle.std.proofs.Common.{◌+◌, ◌-◌, ◌≡◌, vec_len}
use Rattle.vp_outside.specs.Input.{Took}
use Rattle.vp_outside.proofs.source.read_to_end.Given as goal

abbrev pub invariant-loop-buf : goal.invariant-loop-buf
invariant-loop-buf g l = record {
  taken : Took l.bytes.items (g.S.Source.state l.fn.source) (g.S.Source.state l.source);
  counted : (g.S.Source.state l.source).faults ≡ (g.S.Source.state l.fn.source).faults;
}

abbrev pub decreases-loop-buf : goal.decreases-loop-buf
decreases-loop-buf g l = l.limit + 1 - vec_len l.bytes
