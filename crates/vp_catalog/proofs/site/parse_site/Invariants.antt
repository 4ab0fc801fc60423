use Rattle.std.proofs.Common.{◌≡◌, ◌≤◌, ◌-◌, length, take, drop}
use Rattle.vp_text.specs.Reading.{scan}
use Rattle.vp_base.specs.Reading.{place_step, place_of, among_at}
use Rattle.vp_catalog.specs.Sites.{site_texts}
use Rattle.vp_catalog.proofs.site.parse_site.Given as goal

abbrev pub invariant-loop-count : goal.invariant-loop-count
invariant-loop-count l = (l.count ≤ length l.bytes) × (scan (place_step (site_texts l.sites l.above)) (place_of (site_texts l.sites l.above)) (take l.count l.bytes) (drop l.count l.bytes) ≡ among_at (site_texts l.sites l.above) l.bytes)

abbrev pub decreases-loop-count : goal.decreases-loop-count
decreases-loop-count l = length l.bytes - l.count
