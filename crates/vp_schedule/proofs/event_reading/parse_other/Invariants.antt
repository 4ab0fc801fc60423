use Rattle.std.proofs.Common.{◌≡◌, ◌≤◌, take}
use Rattle.vp_schedule.specs.EventReading.{other_sites}
use Rattle.vp_schedule.proofs.event_reading.parse_other.Given as goal

abbrev pub invariant-loop-other : goal.invariant-loop-other
invariant-loop-other l = (l.count ≤ l.other-index) × (take l.count l.others ≡ other_sites (take l.other-index l.sites) l.site)
