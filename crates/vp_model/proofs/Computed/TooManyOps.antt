use Rattle.std.proofs.Common.{◌≡◌, refl, drop}
use Rattle.vp_model.specs.World.{numbered_lines}
use Rattle.vp_model.specs.Worked.TooManyOps.{schedule, last_lines}
use Rattle.vp_model.proofs.Computed.{computes}

pub too_many_operations : drop 65 (numbered_lines schedule) ≡ last_lines
unfolding computes
too_many_operations = refl
