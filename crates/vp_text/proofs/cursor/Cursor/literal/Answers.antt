use Rattle.std.proofs.Common.{sym, ap, ◌∙◌}
use Rattle.vp_text.specs.Reading.{literal_at}
use Rattle.vp_text.proofs.Loops.{literal_turn, literal_ends, literal_differs, literal_all}
use Rattle.vp_text.proofs.cursor.Cursor.literal.Goals as goal
use Rattle.vp_text.proofs.cursor.Cursor.literal.Goals.{in_default-via-in-Some+else-byte-expected, in_default-via-in_default}

pub loop-expected-init : goal.loop-expected-init
loop-expected-init c = ap (literal_at c.args.text.now) c.self.view_is

pub returns-in_default-clause-read : goal.returns-in_default-clause-read
returns-in_default-clause-read c =
    sym c.loop-expected.invariant ∙ elim c.in_default.branch [
      | in_default-via-in-Some+else-byte-expected w ↦ literal_differs c.args.text.now c.loop-expected.expected-index c.loop-expected.self-inside.rest.now w.in-Some.byte.now w.in-Some.rest.now c.loop-expected-test.true w.in-Some.ensures.cases.0 w.if-byte-expected.false
      | in_default-via-in_default w ↦ literal_ends c.args.text.now c.loop-expected.expected-index c.loop-expected.self-inside.rest.now c.loop-expected-test.true w.in_default.ensures.cases
    ]

pub loop-expected-preserved : goal.loop-expected-preserved
loop-expected-preserved c = sym (literal_turn c.args.text.now c.loop-expected.expected-index c.loop-expected.self-inside.rest.now c.in-Some.byte.now c.in-Some.rest.now c.loop-expected-test.true c.in-Some.ensures.cases.0 c.if-byte-expected.true) ∙ c.loop-expected.invariant

pub returns-clause-read : goal.returns-clause-read
returns-clause-read c = sym c.loop-expected.invariant ∙ literal_all c.args.text.now c.loop-expected.expected-index c.loop-expected.self-inside.rest.now c.loop-expected-test.false
