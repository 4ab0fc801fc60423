use Rattle.std.proofs.Common.{refl, ◌∙◌}
use Rattle.vp_transactions.proofs.Kept.{item_is, key_is_used, key_there, place_within, replaced, replaced_items, written, written_len}
use Rattle.vp_transactions.proofs.slots.Slots.item_mut.Goals as goal

pub index-key-requires : goal.index-key-requires
index-key-requires g c =
    place_within c.self.inside.items c.self.inside.keys.items c.self.inside.keys.len c.args.place c.args.self.now c.self.inside.keys.ok.0 c.self.view_is c.self.invariant c.requires

pub index_mut-requires : goal.index_mut-requires
index_mut-requires g c =
    key_is_used c.self.inside.items c.self.inside.keys.items c.self.inside.keys.len c.args.place c.args.self.now c.self.inside.keys.ok.0 c.self.view_is c.self.invariant c.requires c.index-key.result.now c.index-key.ensures

pub invariant_of-self-lent : goal.invariant_of-self-lent
invariant_of-self-lent g c =
    let used = key_is_used c.self.inside.items c.self.inside.keys.items c.self.inside.keys.len c.args.place c.args.self.now c.self.inside.keys.ok.0 c.self.view_is c.self.invariant c.requires c.index-key.result.now c.index-key.ensures in
    λ w. replaced c.self.inside.items _ c.index-key.result.now w (written c.self.inside.items c.index-key.result.now w used) c.self.inside.keys.items c.self.invariant (written_len c.self.inside.items c.index-key.result.now w used)

pub returns : goal.returns
returns g c =
    let there = key_there c.self.inside.items c.self.inside.keys.items c.self.inside.keys.len c.args.place c.args.self.now c.self.inside.keys.ok.0 c.self.view_is c.self.invariant c.requires c.index-key.result.now c.index-key.ensures in
    let used = key_is_used c.self.inside.items c.self.inside.keys.items c.self.inside.keys.len c.args.place c.args.self.now c.self.inside.keys.ok.0 c.self.view_is c.self.invariant c.requires c.index-key.result.now c.index-key.ensures in (
      (refl, λ w. rw (← c.self.view_is) (replaced_items c.self.inside.items _ c.index-key.result.now w (written c.self.inside.items c.index-key.result.now w used) c.self.inside.keys.items c.args.place there c.self.invariant)),
      record {
        writes_back = tt;
        value = rw (← c.self.view_is) (item_is c.self.inside.items c.self.inside.keys.items c.args.place c.index-key.result.now there c.self.invariant ∙ c.index_mut.ensures.value);
      },
    )
