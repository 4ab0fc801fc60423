use Rattle.std.proofs.Common.{◌≡◌, map, take}
use Rattle.vp_catalog.proofs.catalog.Catalog.names.Given as goal

abbrev pub invariant-loop-placed : goal.invariant-loop-placed
invariant-loop-placed l = l.names ≡ map (λ entry. entry.name) (take l.placed-index l.placed-items)
