use Rattle.std.proofs.Common.{◌≡◌, refl}
use Rattle.vp_model.specs.World.{numbered_lines}
use Rattle.vp_model.specs.Worked.Monitor.{schedule, lines}
use Rattle.vp_model.proofs.Computed.{computes}

pub monitored : numbered_lines schedule ≡ lines
unfolding computes
monitored = refl
