use Rattle.std.proofs.Common.{◌≡◌, ◌++◌, take}
use Rattle.std.specs.List.{flat_map}
use Rattle.vp_model.specs.Texts.Fields.{weight_text}
use Rattle.vp_catalog.proofs.printing.print_weights.Given as goal

abbrev pub invariant-loop-weight : goal.invariant-loop-weight
invariant-loop-weight l = l.out.items ≡ l.fn.out.items ++ flat_map weight_text (take l.weight-index l.weights)
