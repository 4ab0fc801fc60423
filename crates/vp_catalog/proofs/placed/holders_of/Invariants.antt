use Rattle.std.proofs.Common.{◌≡◌, take}
use Rattle.vp_model.specs.Words.{keys}
use Rattle.vp_catalog.proofs.placed.holders_of.Given as goal

abbrev pub invariant-loop-weight : goal.invariant-loop-weight
invariant-loop-weight l = l.holders ≡ keys (take l.weight-index l.weights)
