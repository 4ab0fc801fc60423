use Rattle.std.proofs.Common.{◌≡◌, refl}
use Rattle.std.specs.Prelude.{flat_map}
use Rattle.vp_model.specs.World.{lines_of}
use Rattle.vp_model.specs.Told.{answers_in}
use Rattle.vp_model.specs.Headline.{CopiesAreTrue, RefusalsAreJustified}
use Rattle.vp_model.specs.Worked.OwnCopy.{schedule, answers}
use Rattle.vp_model.proofs.Computed.{computes}

pub own_copy : flat_map answers_in (lines_of schedule) ≡ answers
unfolding computes
own_copy = refl

pub own_copy-copies : CopiesAreTrue schedule
unfolding computes
own_copy-copies = refl

pub own_copy-refusals : RefusalsAreJustified schedule
unfolding computes
own_copy-refusals = refl
