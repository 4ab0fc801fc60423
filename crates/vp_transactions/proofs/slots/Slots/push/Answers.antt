use Rattle.vp_transactions.proofs.Kept.{pushed, pushed_items}
use Rattle.vp_transactions.proofs.slots.Slots.push.Goals as goal

pub invariant_of-self-2 : goal.invariant_of-self-2
invariant_of-self-2 g c =
    let made = c.in_ok-key.ensures in
    rw (c.push_back_reserved.ensures.items, c.reserve.ensures.items) (pushed c.self.inside.items _ _ _ made.updates made.was_vacant c.self.inside.keys.items c.self.invariant made.len)

pub returns-clause-ok : goal.returns-clause-ok
returns-clause-ok g c =
    let made = c.in_ok-key.ensures in
    rw (← c.self.view_is, c.push_back_reserved.ensures.items, c.reserve.ensures.items) (pushed_items c.self.inside.items _ _ _ made.updates made.was_vacant c.self.inside.keys.items c.self.invariant)
