use Rattle.std.proofs.Common.{◌≡◌, drop}
use Rattle.vp_text.specs.Reading.{literal_at}
use Rattle.vp_text.proofs.cursor.Cursor.literal.Given as goal

abbrev pub invariant-loop-expected : goal.invariant-loop-expected
invariant-loop-expected l = literal_at (drop l.expected-index l.text) l.self-inside.rest.now ≡ literal_at l.text l.fn.self
