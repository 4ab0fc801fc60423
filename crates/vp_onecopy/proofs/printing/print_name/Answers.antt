use Rattle.std.proofs.Common.{refl, arith}
use Rattle.std.proofs.lemmas.Grind.{common_steps}
use Rattle.vp_text.proofs.Printing.{begun_none}
use Rattle.vp_onecopy.proofs.printing.print_name.Goals as goal

pub returns-in-None : goal.returns-in-None
returns-in-None c = record {
  whole = grind (arith, common_steps);
  begun = begun_none _ _ _ refl;
}
