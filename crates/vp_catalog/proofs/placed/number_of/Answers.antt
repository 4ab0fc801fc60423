use Rattle.std.proofs.Common.{◌≡◌, ◌∙◌, true, false, eqb, sym}
use Rattle.vp_model.specs.Words.{value_at}
use Rattle.vp_catalog.proofs.Onward.{rest_says, end_says}
use Rattle.vp_catalog.proofs.placed.number_of.Goals as goal

pub returns-then-eq : goal.returns-then-eq
returns-then-eq c =
    let yes : eqb c.entry-item.result.0 c.args.site ≡ true = sym c.eq.ensures ∙ c.if-eq.true in
    rw yes at (rest_says (value_at c.args.site) c.args.numbers.now c.loop-entry.entry-index c.entry-item.result c.loop-entry-test.true c.entry-item.is c.loop-entry.invariant)

pub loop-entry-preserved : goal.loop-entry-preserved
loop-entry-preserved c =
    let no : eqb c.entry-item.result.0 c.args.site ≡ false = sym c.eq.ensures ∙ c.if-eq.false in
    rw no at (rest_says (value_at c.args.site) c.args.numbers.now c.loop-entry.entry-index c.entry-item.result c.loop-entry-test.true c.entry-item.is c.loop-entry.invariant)

pub returns : goal.returns
returns c = end_says (value_at c.args.site) c.args.numbers.now c.loop-entry.entry-index c.loop-entry-test.false c.loop-entry.invariant
