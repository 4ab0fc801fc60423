use Rattle.std.specs.Prelude.{codes, flat_map}
use Rattle.vp_model.specs.Texts.Messages.{read_text, write_text, request_text}
use Rattle.vp_catalog.proofs.Printed.{following, within}
use Rattle.vp_trace.proofs.messages.print_prepare.Goals as goal

pub returns-in_err-print_request : goal.returns-in_err-print_request
returns-in_err-print_request c = within _ _ (request_text (codes "prepare ") c.args.txn.now c.args.view.now c.args.number) _ _ c.from_residual.ensures.0 c.print_request.ensures.begun

pub returns-in_err-print_reads : goal.returns-in_err-print_reads
returns-in_err-print_reads c = following _ _ (request_text (codes "prepare ") c.args.txn.now c.args.view.now c.args.number) _ _ _ c.in_ok-print_request.ensures.whole (within _ _ (flat_map (read_text c.args.catalog.now) c.args.reads.now) _ _ c.from_residual-in_err-print_reads.ensures.0 c.print_reads.ensures.begun)

pub returns-in_err-print_writes : goal.returns-in_err-print_writes
returns-in_err-print_writes c = following _ _ (request_text (codes "prepare ") c.args.txn.now c.args.view.now c.args.number) _ _ _ c.in_ok-print_request.ensures.whole (following _ _ (flat_map (read_text c.args.catalog.now) c.args.reads.now) _ _ _ c.in_ok-print_reads.ensures.whole (within _ _ (flat_map (write_text c.args.catalog.now) c.args.writes.now) _ _ c.from_residual-in_err-print_writes.ensures.0 c.print_writes.ensures.begun))

pub returns : goal.returns
returns c = following _ _ (request_text (codes "prepare ") c.args.txn.now c.args.view.now c.args.number) _ _ _ c.in_ok-print_request.ensures.whole (following _ _ (flat_map (read_text c.args.catalog.now) c.args.reads.now) _ _ _ c.in_ok-print_reads.ensures.whole (following _ _ (flat_map (write_text c.args.catalog.now) c.args.writes.now) _ _ _ c.in_ok-print_writes.ensures.whole c.print_tables.ensures))
