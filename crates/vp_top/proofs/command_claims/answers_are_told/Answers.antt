use Rattle.vp_top.proofs.Calm as calm
use Rattle.vp_top.proofs.command_claims.answers_are_told.Goals as goal

pub returns : goal.returns
returns c = calm.answers_are_told c.answers_are_given.ensures
