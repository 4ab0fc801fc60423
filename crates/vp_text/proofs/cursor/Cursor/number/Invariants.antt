use Rattle.std.proofs.Common.{◌≡◌, length}
use Rattle.vp_text.specs.Reading.{scan, number_step, number_done, number_at}
use Rattle.vp_text.proofs.cursor.Cursor.number.Given as goal

abbrev pub invariant-loop-byte : goal.invariant-loop-byte
invariant-loop-byte l = scan (number_step l.least l.most) (number_done l.least l.most) l.number l.self-inside.rest.now ≡ number_at l.least l.most l.fn.self

abbrev pub decreases-loop-byte : goal.decreases-loop-byte
decreases-loop-byte l = length l.self-inside.rest.now
