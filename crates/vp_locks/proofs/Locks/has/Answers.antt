use Rattle.std.proofs.Common.{◌≡◌, ◌∙◌, ◌&&◌, ℕ, Bool, true, false, nat_eq, refl, sym, ap, ap₂, subst}
use Rattle.std.specs.BTreeSet.{BTreeSet, contains}
use Rattle.std.specs.Bool.{OnFalse, OnTrue}
use Rattle.std.specs.List.{filter_map, list_any}
use Rattle.vp_model.specs.Types.{Lock}
use Rattle.vp_model.specs.Locks.{holds}
use Rattle.vp_model.specs.Words.{same_owner}
use Rattle.vp_locks.specs.Index.{AreHolders, exclusive_on, places_of}
use Rattle.vp_locks.specs.Keys.{Holder, holder_cmp, owner_key}
use Rattle.vp_locks.specs.Places.{lock_at, present_locks}
use Rattle.vp_locks.proofs.Asked.{exclusive_held, holds_it, holds_not}
use Rattle.vp_locks.proofs.Locks.has.Goals as goal

pub returns-then-exclusive : goal.returns-then-exclusive
returns-then-exclusive c =
    let rec = c.args.rec in
    let owner = c.args.owner.now in
    let p = c.self.inside.by_rec in
    c.is_among.ensures
    ∙ ap₂ (λ slots ks. list_any (λ (lock : Lock). exclusive_on lock rec && same_owner lock.owner owner) (filter_map (lock_at slots) ks)) c.deref.ensures.value (c.of-places.ensures ∙ ap (places_of nat_eq p.exclusive.lists) c.get.ensures.value)
    ∙ exclusive_held rec owner p.exclusive.lists c.self.inside.slots.items c.self.invariant.0.1
    ∙ ap₂ (λ b ls. holds rec b owner ls) (sym c.if-exclusive.true) c.self.view_is

pub returns-else-exclusive : goal.returns-else-exclusive
returns-else-exclusive c = by c.has.result refl ∙ ap₂ (λ b ls. holds c.args.rec b c.args.owner.now ls) (sym c.if-exclusive.false) c.self.view_is
  where
    set : BTreeSet Holder
    set = c.self.inside.by_rec.holders.set

    index : AreHolders set c.self.inside.slots.items
    index = c.self.invariant.0.0

    at : (place : ℕ) → contains holder_cmp set (c.get-else-exclusive.result, c.owner_key.result, place) ≡ contains holder_cmp set (c.args.rec, owner_key c.args.owner.now, place)
    at place = ap₂ (λ r k. contains holder_cmp set (r, k, place)) c.get-else-exclusive.ensures.value c.owner_key.ensures

    by : (b : Bool) → c.has.result ≡ b → c.has.result ≡ holds c.args.rec false c.args.owner.now (present_locks c.self.inside.slots.items)
    by true e =
        let found = subst (λ b. OnTrue b ((place : ℕ) × (contains holder_cmp set (c.get-else-exclusive.result, c.owner_key.result, place) ≡ true))) e c.has.ensures.found in
        e ∙ sym (holds_it c.args.rec c.args.owner.now set c.self.inside.slots.items index found.0 (sym (at found.0) ∙ found.1))
    by false e =
        let absent = subst (λ b. OnFalse b ((place : ℕ) → contains holder_cmp set (c.get-else-exclusive.result, c.owner_key.result, place) ≡ false)) e c.has.ensures.absent in
        e ∙ sym (holds_not c.args.rec c.args.owner.now set c.self.inside.slots.items index (λ place. sym (at place) ∙ absent place))
