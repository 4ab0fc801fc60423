use Rattle.std.proofs.Common.{refl}
use Rattle.vp_model.proofs.Computed.{computes}
use Rattle.vp_progress.proofs.worked.a_doubt_is_mended.Goals as goal

pub returns-clause-before : goal.returns-clause-before
unfolding computes
returns-clause-before c = refl

pub returns-clause-mending : goal.returns-clause-mending
unfolding computes
returns-clause-mending c = (refl, (refl, (refl, (refl, (refl, (refl, (refl, (refl, (refl, (refl, (refl, (refl, (refl, (refl, (refl, (refl, (refl, (refl, tt))))))))))))))))))

pub returns-clause-after : goal.returns-clause-after
unfolding computes
returns-clause-after c = refl
