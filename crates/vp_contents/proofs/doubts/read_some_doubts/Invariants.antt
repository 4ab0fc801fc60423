use Rattle.std.proofs.Common.{◌≤◌, ◌≡◌, ◌+◌, IfSome}
use Rattle.vp_text.proofs.Repeats.{with_front}
use Rattle.vp_base.specs.Identifiers.{IsTxn}
use Rattle.vp_contents.specs.Doubts.{doubt_at}
use Rattle.vp_bytes.specs.Ranges.{last_rank, next_rank, rank}
use Rattle.vp_bytes.specs.Reading.{run_at}
use Rattle.vp_contents.proofs.doubts.read_some_doubts.Given as goal

abbrev pub invariant-loop-left : goal.invariant-loop-left
invariant-loop-left l = (l.left ≤ l.count) × IfSome l.last IsTxn × (next_rank l.last + l.left ≤ last_rank + 1) × (with_front l.doubts (run_at (λ doubt. rank doubt.txn) (doubt_at l.version) l.left (next_rank l.last) l.cursor) ≡ run_at (λ doubt. rank doubt.txn) (doubt_at l.version) l.count 0 l.fn.cursor)

abbrev pub decreases-loop-left : goal.decreases-loop-left
decreases-loop-left l = l.left
