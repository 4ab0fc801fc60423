use Rattle.vp_top.proofs.Calm as calm
use Rattle.vp_top.proofs.command_claims.signals_are_done.Goals as goal

pub returns : goal.returns
returns c = calm.signals_are_done
