use Rattle.std.proofs.Common.{◌≡◌, refl}
use Rattle.std.specs.Prelude.{flat_map}
use Rattle.vp_model.specs.World.{lines_of}
use Rattle.vp_model.specs.Told.{answers_in}
use Rattle.vp_model.specs.Headline.{CopiesAreTrue, EndsAreTrue, RefusalsAreJustified}
use Rattle.vp_model.specs.Worked.Barred.{schedule, answers}
use Rattle.vp_model.proofs.Computed.{computes}

pub barred : flat_map answers_in (lines_of schedule) ≡ answers
unfolding computes
barred = refl

pub barred-copies : CopiesAreTrue schedule
unfolding computes
barred-copies = refl

pub barred-refusals : RefusalsAreJustified schedule
unfolding computes
barred-refusals = refl

pub barred-ends : EndsAreTrue schedule
unfolding computes
barred-ends = refl
