use Rattle.std.proofs.Common.{rules, arith}
use Rattle.std.specs.Prelude.{codes}
use Rattle.vp_text.proofs.Printing.{begun_then, printing}
use Rattle.vp_onecopy.proofs.printing.print_commit.Goals as goal

pub returns-in_err-print : goal.returns-in_err-print
returns-in_err-print c = record {
  whole = search rules;
  begun = begun_then _ (codes "commit ") _ _ (grind (arith, printing));
}

pub returns-in_err-push : goal.returns-in_err-push
returns-in_err-push c = record {
  whole = search rules;
  begun = begun_then _ (codes "commit ") _ _ (grind (arith, printing));
}

pub returns-in_err-print-2 : goal.returns-in_err-print-2
returns-in_err-print-2 c = record {
  whole = search rules;
  begun = begun_then _ (codes "commit ") _ _ (grind (arith, printing));
}

pub returns-in_err-print_ops : goal.returns-in_err-print_ops
returns-in_err-print_ops c = record {
  whole = search rules;
  begun = begun_then _ (codes "commit ") _ _ (grind (arith, printing));
}

pub returns-in_err-push-2 : goal.returns-in_err-push-2
returns-in_err-push-2 c = record {
  whole = search rules;
  begun = begun_then _ (codes "commit ") _ _ (grind (arith, printing));
}
