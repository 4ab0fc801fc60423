use Rattle.vp_text.proofs.Printing.{begun_err}
use Rattle.vp_model.specs.Texts.Trace.{reply_line}
use Rattle.vp_catalog.proofs.Printed.{all_items, item_begun, item_after}
use Rattle.vp_trace.proofs.trace.print_replies.Goals as goal

pub loop-reply-preserved : goal.loop-reply-preserved
loop-reply-preserved c = item_after reply_line c.args.replies.now c.loop-reply.reply-index c.reply-item.result _ _ _ c.loop-reply-test.true c.reply-item.is c.loop-reply.invariant c.in_ok-print_reply.ensures.whole

pub returns-in_err-print_reply : goal.returns-in_err-print_reply
returns-in_err-print_reply c = item_begun reply_line c.args.replies.now c.loop-reply.reply-index _ c.reply-item.result _ _ _ c.loop-reply-test.true c.reply-item.is c.loop-reply.invariant c.from_residual.ensures.0 (begun_err _ _ _ _ c.from_residual.ensures.0 c.print_reply.ensures.begun)

pub returns : goal.returns
returns c = all_items reply_line c.args.replies.now c.loop-reply.reply-index _ _ c.loop-reply-test.false c.loop-reply.invariant
