use Rattle.std.proofs.Common.{sym, ◌∙◌}
use Rattle.vp_words.proofs.Hyphens.{loop_done, loop_ends, loop_goes, loop_met}
use Rattle.vp_words.proofs.words.has_hyphen.Goals as goal

pub returns-then-eq : goal.returns-then-eq
returns-then-eq c = loop_ends c.args.texts.now c.loop-text.text-index _ c.loop-text.invariant c.loop-text-test.true (sym c.eq.ensures ∙ c.if-eq.true)

pub returns-then-eq-2 : goal.returns-then-eq-2
returns-then-eq-2 c =
    loop_met c.args.texts.now c.loop-text.text-index _ c.loop-text.invariant c.loop-text-test.true (sym c.eq.ensures ∙ c.if-eq.false) (sym c.eq-in-loop-text.ensures ∙ c.if-eq-2.true)

pub loop-text-preserved : goal.loop-text-preserved
loop-text-preserved c =
    loop_goes c.args.texts.now c.loop-text.text-index _ c.loop-text.invariant c.loop-text-test.true (sym c.eq.ensures ∙ c.if-eq.false) (sym c.eq-in-loop-text.ensures ∙ c.if-eq-2.false)

pub returns : goal.returns
returns c = loop_done c.args.texts.now c.loop-text.text-index c.loop-text.invariant c.loop-text-test.false
