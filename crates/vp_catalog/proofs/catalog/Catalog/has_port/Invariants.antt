use Rattle.std.proofs.Common.{◌≡◌, drop}
use Rattle.std.specs.List.{list_any}
use Rattle.std.specs.Prelude.{◌==◌}
use Rattle.vp_catalog.proofs.catalog.Catalog.has_port.Given as goal

abbrev pub invariant-loop-entry : goal.invariant-loop-entry
invariant-loop-entry l = list_any (λ s. s.1 == l.port) (drop l.entry-index l.entry-items) ≡ list_any (λ s. s.1 == l.port) l.entry-items
