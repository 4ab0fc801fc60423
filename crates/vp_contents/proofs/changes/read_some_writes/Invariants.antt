use Rattle.std.proofs.Common.{◌≤◌, ◌≡◌, ◌+◌}
use Rattle.vp_text.proofs.Repeats.{with_front}
use Rattle.vp_bytes.specs.Reading.{run_at}
use Rattle.vp_contents.specs.Changes.{write_at}
use Rattle.vp_contents.proofs.changes.read_some_writes.Given as goal

abbrev pub invariant-loop-left : goal.invariant-loop-left
invariant-loop-left l = (l.left ≤ l.count) × (l.least + l.left ≤ 256) × (with_front l.writes (run_at (λ write. write.0) (write_at l.version) l.left l.least l.cursor) ≡ run_at (λ write. write.0) (write_at l.version) l.count 0 l.fn.cursor)

abbrev pub decreases-loop-left : goal.decreases-loop-left
decreases-loop-left l = l.left
