use Rattle.std.proofs.Common.{◌≡◌, drop}
use Rattle.vp_base.specs.Reading.{starts_any}
use Rattle.vp_base.proofs.places.some_starts.Given as goal

abbrev pub invariant-loop-name : goal.invariant-loop-name
invariant-loop-name l = starts_any (drop l.name-index l.names) l.prefix ≡ starts_any l.names l.prefix
