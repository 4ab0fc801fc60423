use Rattle.std.proofs.Common.{◌≡◌, true, rules, arith}
use Rattle.vp_replay.specs.Summary.{begins, commits, refuses}
use Rattle.vp_replay.proofs.Counting.{count_fits}
use Rattle.vp_replay.proofs.soaking.count.Goals as goal

pub overflow_add-counts : goal.overflow_add-counts
overflow_add-counts c =
    let fits = count_fits begins c.args.replies.now c.loop-reply.reply-index c.loop-reply.counts.begun c.reply-item.result (search rules) c.loop-reply.invariant.begun (search rules) (search rules) (search rules) in
    omega (arith, fits)

pub overflow_add-counts-in-Committed : goal.overflow_add-counts-in-Committed
overflow_add-counts-in-Committed c =
    let fits = count_fits commits c.args.replies.now c.loop-reply.reply-index c.loop-reply.counts.committed c.reply-item.result (search rules) c.loop-reply.invariant.committed (search rules) (search rules) (search rules) in
    omega (arith, fits)

pub overflow_add-counts-then-is_refusal : goal.overflow_add-counts-then-is_refusal
overflow_add-counts-then-is_refusal c =
    let is : refuses c.reply-item.result.answer ≡ true = (let a = c.in_default.answer-is in let e = c.is_refusal.ensures in let t = c.if-is_refusal.true in cc) in
    let fits = count_fits refuses c.args.replies.now c.loop-reply.reply-index c.loop-reply.counts.refused c.reply-item.result (search rules) c.loop-reply.invariant.refused (search rules) (search rules) is in
    omega (arith, fits)
