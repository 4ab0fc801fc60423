use Rattle.vp_progress.proofs.Serving.Served.{served}
use Rattle.vp_progress.proofs.Serving.Among.{served_among}
use Rattle.vp_progress.proofs.laws.clients_are_served.Goals as goal

pub returns-clause-whole : goal.returns-clause-whole
returns-clause-whole c s q x wishes catalogue whole here up left fits named gives = served s q catalogue whole here x wishes up left fits named gives

pub returns-clause-together : goal.returns-clause-together
returns-clause-together c s sites q x wishes together here up left few free gives = served_among s sites q together here x wishes up left few free gives
