use Rattle.std.proofs.Common.{arith}
use Rattle.std.proofs.lemmas.Grind.{common_steps}
use Rattle.vp_text.proofs.Printing.{all_of}
use Rattle.vp_wire.proofs.writing.put_fields.Goals as goal

pub returns-in-Tick : goal.returns-in-Tick
returns-in-Tick c =
    all_of _ _ _ (grind (arith, common_steps))

pub returns-in-Tick-2 : goal.returns-in-Tick-2
returns-in-Tick-2 c =
    all_of _ _ _ (grind (arith, common_steps))

pub returns-in-Tick-3 : goal.returns-in-Tick-3
returns-in-Tick-3 c =
    all_of _ _ _ (grind (arith, common_steps))
