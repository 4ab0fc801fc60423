use Rattle.vp_model.specs.Texts.Messages.{request_text}
use Rattle.vp_catalog.proofs.Printed.{following, within}
use Rattle.vp_trace.proofs.messages.print_lock_request.Goals as goal

pub returns-in_err-print_request : goal.returns-in_err-print_request
returns-in_err-print_request c = within _ _ (request_text c.args.word.now c.args.txn.now c.args.view.now c.args.number) _ _ c.from_residual.ensures.0 c.print_request.ensures.begun

pub returns : goal.returns
returns c = following _ _ (request_text c.args.word.now c.args.txn.now c.args.view.now c.args.number) _ _ _ c.in_ok-print_request.ensures.whole c.print_record_after.ensures
