use Rattle.std.proofs.Common.{◌≡◌, take}
use Rattle.vp_catalog.proofs.catalog.copy_records.Given as goal

abbrev pub invariant-loop-placed : goal.invariant-loop-placed
invariant-loop-placed l = l.copies.items ≡ take l.placed-index l.records
