use Rattle.std.proofs.Common.{◌≡◌}
use Rattle.vp_world.specs.Heads.{head_of, least_below}
use Rattle.vp_world.proofs.state.State.flowing.Given as goal

abbrev pub invariant-loop-pair : goal.invariant-loop-pair
invariant-loop-pair l = l.least ≡ least_below (head_of l.self) l.pair
