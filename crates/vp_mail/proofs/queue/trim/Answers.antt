use Rattle.std.proofs.Common.{rules, ◌≡◌, ◌∙◌, true, IfSome}
use Rattle.vp_mail.proofs.Marked.{first_leaves, last_leaves, first_stays}
use Rattle.vp_mail.proofs.queue.trim.Goals as goal

pub loop-messages-preserved : goal.loop-messages-preserved
loop-messages-preserved c =
    let marked : IfSome c.pop_front.result (λ m. m.delivered ≡ true) = search rules in
    let out = first_leaves c.pop_front.result c.pop_front.new.self.items c.loop-messages.messages.items c.pop_front.ensures.items marked c.loop-messages.invariant.1 in
    (out.0 ∙ c.loop-messages.invariant.0, out.1)

pub loop-messages-2-preserved : goal.loop-messages-2-preserved
loop-messages-2-preserved c =
    let marked : IfSome c.pop_back.result (λ m. m.delivered ≡ true) = search rules in
    let out = last_leaves c.pop_back.result c.pop_back.new.self.items c.loop-messages-2.messages.items c.pop_back.ensures.items marked c.loop-messages-2.invariant.1 in (
      out.0 ∙ c.loop-messages-2.invariant.0,
      out.1,
      first_stays c.pop_back.result c.pop_back.new.self.items c.loop-messages-2.messages.items c.pop_back.ensures.items c.loop-messages-2.invariant.2,
    )
