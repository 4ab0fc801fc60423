use Rattle.vp_catalog.proofs.Majorities.{majorities_share, accessible_share}
use Rattle.vp_catalog.proofs.majority.majorities_share_a_holder.Goals as goal

pub returns-clause-any : goal.returns-clause-any
returns-clause-any c = majorities_share

pub returns-clause-accessible : goal.returns-clause-accessible
returns-clause-accessible c = accessible_share
