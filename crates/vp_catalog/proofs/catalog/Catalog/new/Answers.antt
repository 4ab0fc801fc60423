use Rattle.std.proofs.Common.{rules}
use Rattle.vp_catalog.proofs.Steps.{empty}
use Rattle.vp_catalog.proofs.catalog.Catalog.new.Goals as goal

pub invariant_of-result : goal.invariant_of-result
invariant_of-result c = (search rules, search rules, rw (c.new-2.ensures.items, c.new-3.ensures.items) empty)
