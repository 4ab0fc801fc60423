use Rattle.std.proofs.Common.{◌≡◌, ◌∙◌, ◌==◌, not, filter, if◌then◌else◌, sym, ap, subst}
use Rattle.vp_locks.specs.Index.{places_of, owned_by, IsOwnerIndex}
use Rattle.vp_locks.specs.Keys.{OwnerKey, owner_key, key_eq}
use Rattle.vp_locks.proofs.InSlots.{swept_none, swept_some, swept_more}
use Rattle.vp_locks.proofs.Indexes.{index_without}
use Rattle.vp_locks.proofs.slots.sweep_all.Goals.{in-Some, in_default}
use Rattle.vp_locks.proofs.slots.sweep_all.Goals as goal

pub loop-place-preserved : goal.loop-place-preserved
loop-place-preserved g c =
    let keeps = g.K.Keeps.keeps c.args.kept.now in
    let slots = c.loop-place.slots in
    let place = c.loop-place.place in
    let lists = c.loop-place.by_owner.lists in (
      c.sweep_at.ensures.slots ∙ swept_more keeps c.args.slots.now slots place c.loop-place-test.true c.loop-place.auto.slots c.loop-place.invariant.0,
      c.sweep_at.ensures.index,
      elim c.match-sweep_at.branch [
        | in-Some w ↦
            let some = swept_some keeps slots place w.in-Some.owner (sym c.sweep_at.ensures.owner ∙ w.in-Some.is) in
            let new = w.forget.new.self.lists in
            let forgot : (q : OwnerKey) → places_of key_eq new q ≡ (if key_eq (owner_key some.0.owner) q then filter (λ p. not (p == place)) (places_of key_eq lists q) else places_of key_eq lists q) = λ q. w.forget.ensures q ∙ ap (λ k. if key_eq k q then filter (λ p. not (p == place)) (places_of key_eq lists q) else places_of key_eq lists q) (w.owner_key.ensures ∙ ap owner_key (sym some.2)) in
            subst (λ b. IsOwnerIndex b.lists c.sweep_at.new.slots) (sym w.by_owner-is)
            (subst (IsOwnerIndex new) (sym (c.sweep_at.ensures.slots ∙ some.3)) (index_without key_eq owned_by lists slots c.loop-place.invariant.2 new place some.0 some.1 forgot))
        | in_default w ↦
            subst (λ b. IsOwnerIndex b.lists c.sweep_at.new.slots) (sym w.by_owner-is)
            (subst (IsOwnerIndex lists) (sym (c.sweep_at.ensures.slots ∙ swept_none keeps slots place (sym c.sweep_at.ensures.owner ∙ w.in_default.is))) c.loop-place.invariant.2)
      ],
    )
