use Rattle.std.proofs.Common.{arith}
use Rattle.std.proofs.lemmas.Grind.{common_steps}
use Rattle.vp_text.proofs.Printing.{all_of}
use Rattle.vp_wire.proofs.calls.put_call_fields.Goals as goal

pub returns-in-Begin : goal.returns-in-Begin
returns-in-Begin c =
    all_of _ _ _ (grind (arith, common_steps))

pub returns-in-Begin-2 : goal.returns-in-Begin-2
returns-in-Begin-2 c =
    all_of _ _ _ (grind (arith, common_steps))
