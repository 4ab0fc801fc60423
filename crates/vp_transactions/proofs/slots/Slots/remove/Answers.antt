use Rattle.std.proofs.Common.{refl, sym, ◌∙◌}
use Rattle.vp_transactions.proofs.Kept.{item_is, read_at, none_at, remove_none, removed, removed_items, past_all}
use Rattle.vp_transactions.proofs.slots.Slots.remove.Goals as goal

pub returns-in_err-key-clause-taken : goal.returns-in_err-key-clause-taken
returns-in_err-key-clause-taken g c =
    let past = past_all c.self.inside.keys.items _ c.args.place c.self.inside.keys.ok.0 c.in_err-key.ensures.variant.1 in
    rw (← c.self.view_is, c.from_residual.ensures) (sym (none_at c.self.inside.items c.self.inside.keys.items c.args.place past c.self.invariant))

pub returns-in_err-key-clause-rest : goal.returns-in_err-key-clause-rest
returns-in_err-key-clause-rest g c =
    let past = past_all c.self.inside.keys.items _ c.args.place c.self.inside.keys.ok.0 c.in_err-key.ensures.variant.1 in
    rw (← c.self.view_is, c.in_err-key.ensures.unchanged) (sym (remove_none c.self.inside.items c.self.inside.keys.items c.args.place past c.self.invariant))

pub invariant_of-self-2 : goal.invariant_of-self-2
invariant_of-self-2 g c =
    let there = read_at c.self.inside.keys.items _ c.args.place c.in_ok-key.key c.self.inside.keys.ok.0 (c.in_ok-key.ensures.variant.0 refl) c.in_ok-key.ensures.value in
    rw c.in_ok-key.ensures.items (removed c.self.inside.items _ c.in_ok-key.key _ c.remove-2.ensures.updates c.self.inside.keys.items c.args.place there c.self.invariant c.remove-2.ensures.len)

pub returns-clause-taken : goal.returns-clause-taken
returns-clause-taken g c =
    let there = read_at c.self.inside.keys.items _ c.args.place c.in_ok-key.key c.self.inside.keys.ok.0 (c.in_ok-key.ensures.variant.0 refl) c.in_ok-key.ensures.value in
    rw (← c.self.view_is) (sym (item_is c.self.inside.items c.self.inside.keys.items c.args.place c.in_ok-key.key there c.self.invariant ∙ c.remove-2.ensures.value))

pub returns-clause-rest : goal.returns-clause-rest
returns-clause-rest g c =
    let there = read_at c.self.inside.keys.items _ c.args.place c.in_ok-key.key c.self.inside.keys.ok.0 (c.in_ok-key.ensures.variant.0 refl) c.in_ok-key.ensures.value in
    rw (← c.self.view_is, c.in_ok-key.ensures.items) (removed_items c.self.inside.items _ c.in_ok-key.key _ c.remove-2.ensures.updates c.self.inside.keys.items c.args.place there c.self.invariant)
