use Rattle.std.proofs.Common.{◌≡◌, ◌∙◌, Some, ap, sym}
use Rattle.vp_mail.specs.Posted.{Posted, message_in}
use Rattle.vp_mail.proofs.Queued.{delivered_queued, first_set}
use Rattle.vp_mail.proofs.mail.Mail.deliver.Goals as goal

pub invariant_of-self-2 : goal.invariant_of-self-2
invariant_of-self-2 c =
    let at : message_in c.args.k c.self.inside.sent.items ≡ Some c.in-Some.sent.now = ap (λ (m : Posted). message_in c.args.k m.sent) c.self.view_is ∙ sym c.message.ensures ∙ cc in (
      delivered_queued c.self.inside.queues.items c.self.inside.sent.items c.self.inside.delivered.items c.self.invariant.0 c.in-Some.sent.now c.pair_of-pair.result (rw (← c.from.ensures, ← c.to.ensures) c.pair_of-pair.ensures.pair) c.pair_of-pair.ensures.within c.index_mut-queue.result.now c.index_mut-queue.ensures.value c.args.k at c.take.new.self c.push.new.self.items c.take.ensures c.in_ok-push.ensures.items,
      first_set c.self.inside.queues.items c.self.inside.firsts.items c.pair_of-pair.result c.take.new.self c.first.result c.self.invariant.1 c.first.ensures,
    )
