use Rattle.std.proofs.Common.{rules, arith}
use Rattle.std.specs.Prelude.{codes}
use Rattle.std.specs.List.{flat_map}
use Rattle.vp_model.specs.Texts.History.{commit_text, starts_text}
use Rattle.vp_text.proofs.Printing.{begun_then, printing}
use Rattle.vp_onecopy.proofs.printing.print_history.Goals as goal

pub returns-in_err-print_end-clause-text : goal.returns-in_err-print_end-clause-text
returns-in_err-print_end-clause-text c =
    let history = c.args.history.now in
    record {
      whole = search rules;
      begun = begun_then _ (codes "history\n") _ _ (begun_then _ (starts_text history.names history.start) _ _ (begun_then _ (flat_map (commit_text history.names) history.commits) _ _ (grind (arith, printing))));
    }
