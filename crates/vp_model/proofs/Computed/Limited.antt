use Rattle.std.proofs.Common.{◌≡◌, refl}
use Rattle.std.specs.Prelude.{◌++◌, Some, None}
use Rattle.vp_model.specs.Types.counted
use Rattle.vp_model.specs.Limits.{limit_reached, lines_within, lines_within_from}
use Rattle.vp_model.specs.Texts.Trace.{printed_from, printed_lines}
use Rattle.vp_model.specs.Worked.Limited.{schedule, at_most, no_delivery, first_delivery}
use Rattle.vp_model.proofs.Computed.{computes}

pub five_steps : limit_reached (at_most 5 2) schedule ≡ None
unfolding computes
five_steps = refl

pub five_steps-lines : lines_within (at_most 5 2) schedule ≡ printed_lines schedule
unfolding computes lines_within_from printed_from
five_steps-lines = refl

pub three_steps : limit_reached (at_most 3 2) schedule ≡ Some counted.Steps
unfolding computes
three_steps = refl

pub three_steps-lines : lines_within (at_most 3 2) schedule ≡ no_delivery ++ first_delivery
unfolding computes lines_within_from
three_steps-lines = refl

pub one_message : limit_reached (at_most 3 1) schedule ≡ Some counted.Messages
unfolding computes
one_message = refl

pub one_message-lines : lines_within (at_most 3 1) schedule ≡ no_delivery
unfolding computes lines_within_from
one_message-lines = refl

pub both : limit_reached (at_most 2 1) schedule ≡ Some counted.Steps
unfolding computes
both = refl
