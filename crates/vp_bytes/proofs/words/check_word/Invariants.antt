use Rattle.std.proofs.Common.{◌-◌, ◌≤◌, drop, length, take, ◌≡◌}
use Rattle.vp_text.proofs.Repeats.{with_front}
use Rattle.vp_bytes.specs.Reading.{word_run_at}
use Rattle.vp_bytes.proofs.words.check_word.Given as goal

abbrev pub invariant-loop-good : goal.invariant-loop-good
invariant-loop-good l = (l.good ≤ l.count) × (l.good ≤ length l.bytes) × (with_front (take l.good l.bytes) (word_run_at l.class (l.count - l.good) (drop l.good l.bytes)) ≡ word_run_at l.class l.count l.bytes)

abbrev pub decreases-loop-good : goal.decreases-loop-good
decreases-loop-good l = l.count - l.good
