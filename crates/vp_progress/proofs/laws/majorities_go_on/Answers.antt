use Rattle.vp_progress.proofs.Exactly.{only_majorities}
use Rattle.vp_progress.proofs.Majority.{go_on}
use Rattle.vp_progress.proofs.laws.majorities_go_on.Goals as goal

pub returns-clause-serve : goal.returns-clause-serve
returns-clause-serve c = go_on

pub returns-clause-only : goal.returns-clause-only
returns-clause-only c = only_majorities
