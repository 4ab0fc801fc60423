use Rattle.std.proofs.Common.{refl}
use Rattle.vp_model.proofs.Computed.{computes}
use Rattle.vp_model.specs.Catalogue.{sites_of}
use Rattle.vp_progress.specs.Going.{mends}
use Rattle.vp_progress.specs.Progress.{world_of}
use Rattle.vp_progress.specs.Worked.{three_in_doubt, three_recovered}
use Rattle.vp_progress.proofs.Passing.{each_passes}
use Rattle.vp_progress.proofs.worked.three_recover.Goals as goal

pub returns-clause-before : goal.returns-clause-before
unfolding computes
returns-clause-before c = refl

pub returns-clause-down : goal.returns-clause-down
unfolding computes
returns-clause-down c = refl

pub returns-clause-mending : goal.returns-clause-mending
unfolding computes
returns-clause-mending c = each_passes three_in_doubt.catalogue (mends (sites_of three_in_doubt.catalogue)) (world_of three_in_doubt) three_recovered.events refl

pub returns-clause-after : goal.returns-clause-after
unfolding computes
returns-clause-after c = refl

pub returns-clause-kept : goal.returns-clause-kept
unfolding computes
returns-clause-kept c = refl
