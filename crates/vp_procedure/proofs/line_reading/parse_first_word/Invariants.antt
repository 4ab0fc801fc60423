use Rattle.std.proofs.Common.{◌≡◌, ◌≤◌, filter, length, take}
use Rattle.vp_procedure.specs.LineReading.{may_begin}
use Rattle.vp_procedure.proofs.line_reading.parse_first_word.Given as goal

abbrev pub invariant-loop-keyword : goal.invariant-loop-keyword
invariant-loop-keyword l = (l.count ≤ l.keyword-index) × (length l.allowed ≡ 8) × (take l.count l.allowed ≡ filter (may_begin l.draft) (take l.keyword-index l.words))
