use Rattle.std.proofs.Common.{◌≡◌, refl}
use Rattle.vp_model.specs.World.{numbered_lines}
use Rattle.vp_model.specs.Worked.EarlyInquiry.{schedule, lines}
use Rattle.vp_model.proofs.Computed.{computes}

pub asked_early : numbered_lines schedule ≡ lines
unfolding computes
asked_early = refl
