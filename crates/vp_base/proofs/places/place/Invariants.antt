use Rattle.std.proofs.Common.{◌≡◌, ◌+◌, drop}
use Rattle.std.specs.Prelude.{option_map}
use Rattle.vp_base.specs.Reading.{place_of}
use Rattle.vp_base.proofs.places.place.Given as goal

abbrev pub invariant-loop-place : goal.invariant-loop-place
invariant-loop-place l = option_map (λ i. l.place + i) (place_of (drop l.place l.names) l.word) ≡ place_of l.names l.word
