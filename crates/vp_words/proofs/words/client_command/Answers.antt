use Rattle.std.proofs.Common.{◌∙◌, sym, ap, subst, option_map, List, ℕ}
use Rattle.clap.specs.Words.{found_of, rows_of}
use Rattle.vp_schedule.specs.Grammar.{IsCallText}
use Rattle.vp_words.proofs.Calls.{called_none, called_some}
use Rattle.vp_words.proofs.words.client_command.Goals as goal

pub returns-in-Ok-clause-command : goal.returns-in-Ok-clause-command
returns-in-Ok-clause-command c =
    let operands = sym (ap (option_map (λ o. (o.0, o.1, o.2, o.3.now))) c.in-Some.is) ∙ c.client_operands.ensures in
    called_some (rows_of (found_of c.args.matches.now)) _ operands c.in-Ok.call (subst (λ (word : List ℕ). IsCallText c.in-Ok.call word) c.as_bytes.ensures.value c.in-Ok.ensures)

pub returns-in-Err-BadName-clause-command : goal.returns-in-Err-BadName-clause-command
returns-in-Err-BadName-clause-command c =
    let operands = sym (ap (option_map (λ o. (o.0, o.1, o.2, o.3.now))) c.in-Some.is) ∙ c.client_operands.ensures in
    let refused = rw c.in-Err-BadName.field-0-is at c.in-Err-BadName.ensures in
    called_none (rows_of (found_of c.args.matches.now)) _ operands (λ call h. refused.none call (subst (λ (word : List ℕ). IsCallText call word) (sym c.as_bytes.ensures.value) h))
