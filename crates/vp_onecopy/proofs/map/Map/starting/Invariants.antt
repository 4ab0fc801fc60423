use Rattle.std.proofs.Common.{◌≡◌, Some, map, take}
use Rattle.vp_onecopy.proofs.map.Map.starting.Given as goal

abbrev pub invariant-loop-value : goal.invariant-loop-value
invariant-loop-value l = l.contents.items ≡ map Some (take l.value-index l.values)
