use Rattle.vp_model.specs.Catalogue.{sites_of}
use Rattle.vp_progress.proofs.Mended.{can_be_whole}
use Rattle.vp_progress.proofs.Counted.{unspent}
use Rattle.vp_progress.proofs.laws.schedules_can_mend.Goals as goal

pub returns-clause-unspent : goal.returns-clause-unspent
returns-clause-unspent c = can_be_whole

pub returns-clause-short : goal.returns-clause-short
returns-clause-short c s few = can_be_whole s (unspent s (sites_of s.catalogue) few)
