use Rattle.std.proofs.Common.{◌≡◌, ◌∙◌, ◌||◌, not, map, filter, fold, is_some, if◌then◌else◌, rules, sym, ap, ap₂, subst}
use Rattle.std.specs.Vec.{with_items}
use Rattle.std.proofs.lemmas.List.{with_items_is, places}
use Rattle.vp_model.specs.Types.{Lock}
use Rattle.vp_model.specs.Words.{same_owner}
use Rattle.vp_locks.specs.Index.{places_of, owned_by, IsRecIndex, IsOwnerIndex}
use Rattle.vp_locks.specs.Keys.{OwnerKey, owner_key, key_eq}
use Rattle.vp_locks.specs.Places.{present_locks, lock_at, revise_slot, if_kept}
use Rattle.vp_locks.specs.Staying.{stays}
use Rattle.vp_locks.proofs.InSlots.{revised_where}
use Rattle.vp_locks.proofs.Indexes.{index_kept, key_apart, owner_revised, owner_swept}
use Rattle.vp_locks.proofs.Locks.sweep.Goals as goal

whole : (c : goal.After-keep_taken) → (with_items c.self.inside.slots c.sweep.new.slots).items ≡ c.sweep.new.slots
whole c = with_items_is c.self.inside.slots c.sweep.new.slots (search (rules, places))

swept_slots : (c : goal.After-keep_taken) → c.sweep.new.slots ≡ map (revised_where (λ lock. owned_by lock (owner_key c.args.owner.now)) (if_kept (stays c.args.staying))) c.self.inside.slots.items
swept_slots c =
    let lists = c.self.inside.by_owner.lists in
    let f = if_kept (stays c.args.staying) in
    c.sweep.ensures.slots ∙ ap (λ xs. fold (revise_slot f) xs c.of.result.now) c.deref_mut.ensures.value
    ∙ ap (fold (revise_slot f) c.self.inside.slots.items) (c.of.ensures ∙ ap (places_of key_eq lists) c.owner_key.ensures)
    ∙ owner_revised lists c.self.inside.slots.items c.self.invariant.1 c.args.owner.now f

pub invariant_of-self : goal.invariant_of-self
invariant_of-self c =
    let slots = c.self.inside.slots.items in
    let lists = c.self.inside.by_owner.lists in
    let new = c.keep_taken.new.self.lists in
    let own = owner_key c.args.owner.now in
    let kept : (q : OwnerKey) → places_of key_eq new q ≡ (if key_eq own q then filter (λ p. is_some (lock_at (map (revised_where (λ lock. owned_by lock own) (if_kept (stays c.args.staying))) slots) p)) (places_of key_eq lists q) else places_of key_eq lists q) = λ q. c.keep_taken.ensures q ∙ ap₂ (λ k xs. if key_eq k q then filter (λ p. is_some (lock_at xs p)) (places_of key_eq lists q) else places_of key_eq lists q) c.owner_key-2.ensures (c.deref.ensures.value ∙ whole c ∙ swept_slots c) in
    subst (λ xs. IsRecIndex c.sweep.new.by_rec xs × IsOwnerIndex new xs) (sym (whole c)) (
      c.sweep.ensures.index,
      subst (IsOwnerIndex new) (sym (swept_slots c)) (index_kept key_eq owned_by lists slots c.self.invariant.1 new own (stays c.args.staying) (λ lock q. key_apart (owner_key lock.owner) own q) kept),
    )

pub returns : goal.returns
returns c =
    ap present_locks (whole c ∙ swept_slots c) ∙ owner_swept c.self.inside.by_owner.lists c.self.inside.slots.items c.self.invariant.1 c.args.owner.now (stays c.args.staying)
    ∙ ap (filter (λ (lock : Lock). not (same_owner lock.owner c.args.owner.now) || stays c.args.staying lock)) c.self.view_is
