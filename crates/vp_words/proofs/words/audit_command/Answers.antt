use Rattle.std.proofs.Common.{◌∙◌, sym, ap, map, option_map}
use Rattle.clap.specs.Words.{found_of}
use Rattle.vp_words.specs.declared.words.Command.TheVariants as commands
use Rattle.vp_words.proofs.Pairs.{audited_by}
use Rattle.vp_words.proofs.words.audit_command.Goals as goal

pub returns-in_default-clause-command : goal.returns-in_default-clause-command
returns-in_default-clause-command c =
    audited_by (found_of c.args.matches.now) _ (sym (ap (option_map (λ s. map (λ v. v.now) s.now)) c.in_default.is) ∙ c.get_strs.ensures)

pub returns-in_default-2-clause-command : goal.returns-in_default-2-clause-command
returns-in_default-2-clause-command c =
    ap (option_map commands.Audit) (sym c.in_default-2.is ∙ c.in_ok-logs.ensures)
    ∙ audited_by (found_of c.args.matches.now) _ (sym (ap (option_map (λ s. map (λ v. v.now) s.now)) c.in-Some.is) ∙ c.get_strs.ensures)

pub returns-clause-command : goal.returns-clause-command
returns-clause-command c =
    ap (option_map commands.Audit) (sym c.in-Some-2.is ∙ c.in_ok-logs.ensures)
    ∙ audited_by (found_of c.args.matches.now) _ (sym (ap (option_map (λ s. map (λ v. v.now) s.now)) c.in-Some.is) ∙ c.get_strs.ensures)
