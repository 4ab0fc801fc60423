use Rattle.vp_model.proofs.FalseClaims.{bar_by_a_lost_table-apart}
use Rattle.vp_model.proofs.worked.bar_by_a_lost_table.Goals as goal

pub returns : goal.returns
returns c = bar_by_a_lost_table-apart
