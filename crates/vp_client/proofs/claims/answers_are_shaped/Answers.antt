use Rattle.vp_client.proofs.Shaped as shaped
use Rattle.vp_client.proofs.claims.answers_are_shaped.Goals as goal

pub returns : goal.returns
returns c = shaped.answers_are_shaped
