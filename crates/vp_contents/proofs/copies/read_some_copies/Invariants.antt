use Rattle.std.proofs.Common.{◌≤◌, ◌≡◌, ◌+◌}
use Rattle.vp_text.proofs.Repeats.{with_front}
use Rattle.vp_bytes.specs.Reading.{run_at}
use Rattle.vp_contents.specs.Copies.{copy_at}
use Rattle.vp_contents.proofs.copies.read_some_copies.Given as goal

abbrev pub invariant-loop-left : goal.invariant-loop-left
invariant-loop-left l = (l.left ≤ l.count) × (l.least + l.left ≤ 256) × (with_front l.copies (run_at (λ copy. copy.0) (copy_at l.version) l.left l.least l.cursor) ≡ run_at (λ copy. copy.0) (copy_at l.version) l.count 0 l.fn.cursor)

abbrev pub decreases-loop-left : goal.decreases-loop-left
decreases-loop-left l = l.left
