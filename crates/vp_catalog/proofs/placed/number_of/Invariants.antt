use Rattle.std.proofs.Common.{◌≡◌, drop}
use Rattle.vp_model.specs.Words.{value_at}
use Rattle.vp_catalog.proofs.placed.number_of.Given as goal

abbrev pub invariant-loop-entry : goal.invariant-loop-entry
invariant-loop-entry l = value_at l.site (drop l.entry-index l.numbers) ≡ value_at l.site l.numbers
