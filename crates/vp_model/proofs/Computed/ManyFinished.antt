use Rattle.std.proofs.Common.{◌≡◌, refl, drop}
use Rattle.vp_model.specs.World.{numbered_lines}
use Rattle.vp_model.specs.Worked.ManyFinished.{schedule, last_lines}
use Rattle.vp_model.proofs.Computed.{computes}

pub first_is_forgotten : drop 2050 (numbered_lines schedule) ≡ last_lines
unfolding computes
first_is_forgotten = refl
