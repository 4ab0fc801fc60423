use Rattle.std.proofs.Common.{◌≡◌, ◌+◌, drop}
use Rattle.std.specs.Prelude.{map, option_map}
use Rattle.vp_base.specs.Reading.{place_of}
use Rattle.vp_procedure.specs.Procedures.{names_of}
use Rattle.vp_procedure.proofs.statement_reading.place.Given as goal

abbrev pub invariant-loop-place : goal.invariant-loop-place
invariant-loop-place l = option_map (λ i. l.place + i) (place_of (map (λ entry. entry.name) (drop l.place l.catalog.records)) l.word) ≡ place_of (names_of l.catalog) l.word
