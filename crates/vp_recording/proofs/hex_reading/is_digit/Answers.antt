use Rattle.std.proofs.Common.{◌∙◌, ap}
use Rattle.std.specs.Prelude.{nat_lt}
use Rattle.vp_recording.proofs.Digits.{value_tells}
use Rattle.vp_recording.proofs.hex_reading.is_digit.Goals as goal

pub returns : goal.returns
returns c = ap (λ v. nat_lt v 16) c.value_in.ensures ∙ value_tells c.args.byte c.ranges.byte.fits
