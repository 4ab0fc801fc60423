use Rattle.std.proofs.Common.{◌≡◌, drop}
use Rattle.vp_catalog.specs.EntryReading.{some_above}
use Rattle.vp_catalog.proofs.reading.has_above.Given as goal

abbrev pub invariant-loop-site : goal.invariant-loop-site
invariant-loop-site l = some_above (drop l.site-index l.sites) l.above ≡ some_above l.sites l.above
