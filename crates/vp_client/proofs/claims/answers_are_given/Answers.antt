use Rattle.vp_client.proofs.Given as given
use Rattle.vp_client.proofs.claims.answers_are_given.Goals as goal

pub returns : goal.returns
returns c = given.answers_are_given
