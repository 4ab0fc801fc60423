use Rattle.std.proofs.Common.{◌≡◌, map, take}
use Rattle.vp_catalog.proofs.catalog.Catalog.starts.Given as goal

abbrev pub invariant-loop-placed : goal.invariant-loop-placed
invariant-loop-placed l = l.values.items ≡ map (λ entry. entry.start) (take l.placed-index l.placed-items)
