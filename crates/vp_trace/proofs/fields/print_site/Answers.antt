use Rattle.std.specs.Fmt.{decimal}
use Rattle.vp_text.proofs.Printing.{all_or_none}
use Rattle.vp_catalog.proofs.Printed.{following, none_of}
use Rattle.vp_trace.proofs.fields.print_site.Goals as goal

pub returns-in_err-print_word : goal.returns-in_err-print_word
returns-in_err-print_word c = none_of _ _ _ _ c.from_residual.ensures.0 c.in_err-print_word.ensures.err

pub returns : goal.returns
returns c = following _ _ c.args.word.now _ _ _ c.in_ok-print_word.ensures.ok (all_or_none _ _ (decimal c.args.site) _ c.print.ensures.ok c.print.ensures.err)
