use Rattle.std.proofs.Common.{rules, arith}
use Rattle.std.specs.Prelude.{codes}
use Rattle.vp_text.proofs.Printing.{begun_then, printing}
use Rattle.vp_onecopy.proofs.printing.print_start.Goals as goal

pub returns-in_err-print-2 : goal.returns-in_err-print-2
returns-in_err-print-2 c = record {
  whole = search rules;
  begun = begun_then _ (codes "start ") _ _ (grind (arith, printing));
}
