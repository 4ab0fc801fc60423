use Rattle.std.proofs.Common.{◌≡◌, drop}
use Rattle.vp_base.specs.Reading.{starts_any}
use Rattle.std.specs.Prelude.{map}
use Rattle.vp_procedure.specs.Procedures.{names_of}
use Rattle.vp_procedure.proofs.statement_reading.some_starts.Given as goal

abbrev pub invariant-loop-placed : goal.invariant-loop-placed
invariant-loop-placed l = starts_any (map (λ entry. entry.name) (drop l.placed-index l.catalog.records)) l.prefix ≡ starts_any (names_of l.catalog) l.prefix
