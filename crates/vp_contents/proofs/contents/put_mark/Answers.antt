use Rattle.std.proofs.Common.{arith}
use Rattle.std.proofs.lemmas.Grind.{common_steps}
use Rattle.vp_text.proofs.Printing.{all_of}
use Rattle.vp_contents.proofs.contents.put_mark.Goals as goal

pub returns-in-First : goal.returns-in-First
returns-in-First g c = all_of _ _ _ (grind (arith, common_steps))
