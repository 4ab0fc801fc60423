use Rattle.std.specs.Prelude.{codes}
use Rattle.vp_model.specs.Catalogue.{name_of}
use Rattle.vp_catalog.proofs.Printed.{following, none_of, within}
use Rattle.vp_trace.proofs.messages.print_table.Goals as goal

pub returns-in_err-print_word : goal.returns-in_err-print_word
returns-in_err-print_word c = none_of _ _ _ _ c.from_residual.ensures.0 c.in_err-print_word.ensures.err

pub returns-in_err-print_record : goal.returns-in_err-print_record
returns-in_err-print_record c = following _ _ (codes " t ") _ _ _ c.in_ok-print_word.ensures.ok (within _ _ (name_of c.args.catalog.now c.args.rec) _ _ c.from_residual-in_err-print_record.ensures.0 c.print_record.ensures.begun)

pub returns : goal.returns
returns c = following _ _ (codes " t ") _ _ _ c.in_ok-print_word.ensures.ok (following _ _ (name_of c.args.catalog.now c.args.rec) _ _ _ c.in_ok-print_record.ensures.whole c.print_weights.ensures)
