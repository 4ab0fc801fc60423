use Rattle.std.proofs.Common.{◌∙◌}
use Rattle.vp_recording.proofs.Digits.{value_is}
use Rattle.vp_recording.proofs.hex_reading.digit_value.Goals as goal

pub returns : goal.returns
returns c = c.value_in.ensures ∙ value_is c.args.digit c.ranges.digit.fits c.requires
