use Rattle.std.proofs.Common.{rules, ◌≡◌, ◌<◌, length, false, is_none, subst, sym}
use Rattle.vp_mail.specs.Posted.{Posted}
use Rattle.vp_mail.proofs.Queued.{queue_below, post_queued, first_set, first_stays}
use Rattle.vp_mail.proofs.mail.Mail.post.Goals as goal

pub post-requires-clause-last : goal.post-requires-clause-last
post-requires-clause-last c =
    queue_below c.self.inside.queues.items c.self.inside.sent.items c.self.inside.delivered.items c.self.invariant.0 c.args.message c.pair_of-pair.result c.pair_of-pair.ensures.pair c.pair_of-pair.ensures.within c.index_mut-queue.result.now c.index_mut-queue.ensures.value

pub invariant_of-self-then-is_none : goal.invariant_of-self-then-is_none
invariant_of-self-then-is_none c =
    let room : length c.self.inside.sent.items < 2000000 = subst (λ (m : Posted). length m.sent < 2000000) (sym c.self.view_is) c.requires in (
      post_queued c.self.inside.queues.items c.self.inside.sent.items c.self.inside.delivered.items c.self.invariant.0 c.args.message c.pair_of-pair.result c.pair_of-pair.ensures.pair c.pair_of-pair.ensures.within c.index_mut-queue.result.now c.index_mut-queue.ensures.value c.pair_of-pair.ensures.sites room c.post.new.sent.items c.post.new.queue c.in_ok-post.ensures.sent c.in_ok-post.ensures.queue,
      first_set c.self.inside.queues.items c.self.inside.firsts.items c.pair_of-pair.result c.post.new.queue c.first.result c.self.invariant.1 c.first.ensures,
    )

pub invariant_of-self-else-is_none : goal.invariant_of-self-else-is_none
invariant_of-self-else-is_none c =
    let room : length c.self.inside.sent.items < 2000000 = subst (λ (m : Posted). length m.sent < 2000000) (sym c.self.view_is) c.requires in
    let some : is_none c.index.result.now ≡ false = search rules in (
      post_queued c.self.inside.queues.items c.self.inside.sent.items c.self.inside.delivered.items c.self.invariant.0 c.args.message c.pair_of-pair.result c.pair_of-pair.ensures.pair c.pair_of-pair.ensures.within c.index_mut-queue.result.now c.index_mut-queue.ensures.value c.pair_of-pair.ensures.sites room c.post.new.sent.items c.post.new.queue c.in_ok-post.ensures.sent c.in_ok-post.ensures.queue,
      first_stays c.self.inside.queues.items c.self.inside.sent.items c.self.inside.delivered.items c.self.invariant.0 c.args.message c.pair_of-pair.result c.pair_of-pair.ensures.pair c.pair_of-pair.ensures.within c.index_mut-queue.result.now c.index_mut-queue.ensures.value c.self.inside.firsts.items c.index.result.now _ c.post.new.queue c.self.invariant.1 c.index.ensures some c.in_ok-post.ensures.queue,
    )
