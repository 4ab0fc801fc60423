use Rattle.std.proofs.Common.{◌≡◌, ◌≤◌, drop, length, Err}
use Rattle.vp_text.specs.Reading.{either}
use Rattle.vp_procedure.specs.Keywords.{keyword_at}
use Rattle.vp_procedure.proofs.keyword.parse_keyword.Given as goal

abbrev pub invariant-loop-keyword : goal.invariant-loop-keyword
invariant-loop-keyword l = (l.fault.left ≤ length l.cursor) × (l.cursor ≡ l.fn.cursor) × (either (Err l.fault.left) (keyword_at (drop l.keyword-index l.keywords) l.cursor) ≡ keyword_at l.keywords l.fn.cursor)
