use Rattle.std.proofs.Common.{◌≡◌, ◌≤◌, ◌-◌, length, take, drop}
use Rattle.vp_text.specs.Reading.{scan, word_step, word_done, word_at}
use Rattle.vp_text.specs.Classes.{has, most}
use Rattle.vp_text.proofs.cursor.Cursor.word.Given as goal

abbrev pub invariant-loop-count : goal.invariant-loop-count
invariant-loop-count l = (l.count ≤ length l.self-inside.rest.now) × (scan (word_step (has l.class) (most l.class)) word_done (take l.count l.self-inside.rest.now) (drop l.count l.self-inside.rest.now) ≡ word_at (has l.class) (most l.class) l.self-inside.rest.now)

abbrev pub decreases-loop-count : goal.decreases-loop-count
decreases-loop-count l = length l.self-inside.rest.now - l.count
