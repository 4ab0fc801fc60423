use Rattle.std.proofs.Common.{◌≡◌, ◌≤◌, ◌-◌, length, take, drop}
use Rattle.vp_text.specs.Reading.{scan}
use Rattle.vp_base.specs.Reading.{place_step, place_of, among_at}
use Rattle.vp_base.proofs.places.parse_place.Given as goal

abbrev pub invariant-loop-count : goal.invariant-loop-count
invariant-loop-count l = (l.count ≤ length l.bytes) × (scan (place_step l.names) (place_of l.names) (take l.count l.bytes) (drop l.count l.bytes) ≡ among_at l.names l.bytes)

abbrev pub decreases-loop-count : goal.decreases-loop-count
decreases-loop-count l = length l.bytes - l.count
