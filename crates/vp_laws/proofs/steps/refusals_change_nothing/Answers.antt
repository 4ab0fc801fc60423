use Rattle.vp_laws.proofs.Table.Refused.{refusals_change_nothing}
use Rattle.vp_laws.proofs.steps.refusals_change_nothing.Goals as goal

pub returns : goal.returns
returns c = refusals_change_nothing
