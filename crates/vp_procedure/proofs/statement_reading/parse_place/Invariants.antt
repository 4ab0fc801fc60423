use Rattle.std.proofs.Common.{◌≡◌, ◌≤◌, ◌-◌, length, take, drop}
use Rattle.vp_text.specs.Reading.{scan}
use Rattle.vp_base.specs.Reading.{place_step, place_of, among_at}
use Rattle.vp_procedure.specs.Procedures.{names_of}
use Rattle.vp_procedure.proofs.statement_reading.parse_place.Given as goal

abbrev pub invariant-loop-count : goal.invariant-loop-count
invariant-loop-count l =
    (l.count ≤ length l.bytes) × (scan (place_step (names_of l.catalog)) (place_of (names_of l.catalog)) (take l.count l.bytes) (drop l.count l.bytes) ≡ among_at (names_of l.catalog) l.bytes)

abbrev pub decreases-loop-count : goal.decreases-loop-count
decreases-loop-count l = length l.bytes - l.count
