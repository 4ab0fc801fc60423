use Rattle.std.proofs.Common.{arith}
use Rattle.std.proofs.lemmas.Grind.{common_steps}
use Rattle.vp_text.proofs.Printing.{all_of}
use Rattle.vp_wire.proofs.answers.put_answer_fields.Goals as goal

pub returns-in-TooManyLive : goal.returns-in-TooManyLive
returns-in-TooManyLive c =
    all_of _ _ _ (grind (arith, common_steps))
