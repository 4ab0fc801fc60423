use Rattle.vp_laws.proofs.Told.FairTold.{refusals_justified}
use Rattle.vp_laws.proofs.claims.refusals_are_justified.Goals as goal

pub returns : goal.returns
returns c = refusals_justified
