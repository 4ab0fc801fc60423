use Rattle.std.proofs.Common.{◌≡◌, ◌∙◌, ◌&&◌, not, filter, nat_eq, ℕ, true, option_copied, option_map, sym, ap, ap₂, subst}
use Rattle.std.specs.BTreeSet.{contains}
use Rattle.std.specs.List.{filter_map}
use Rattle.vp_model.specs.Types.{Lock}
use Rattle.vp_model.specs.Locks.{least_owner, conflicting}
use Rattle.vp_model.specs.Words.{same_owner}
use Rattle.vp_locks.specs.Holders.{IsLeastOther}
use Rattle.vp_locks.specs.Index.{exclusive_on, places_of}
use Rattle.vp_locks.specs.Keys.{OwnerKey, holder_cmp, key_eq, owner_key}
use Rattle.vp_locks.specs.Places.{lock_at}
use Rattle.vp_locks.proofs.Asked.{exclusive_least, least_there, none_other}
use Rattle.vp_locks.proofs.Locks.blocker.Goals as goal

pub returns-in_err-place : goal.returns-in_err-place
returns-in_err-place c =
    let rec = c.args.rec in
    let owner = c.args.owner.now in
    let set = c.self.inside.by_rec.holders.set in
    let none = subst (λ r. (key : OwnerKey) (place : ℕ) → contains holder_cmp set (r, key, place) ≡ true → key_eq key (owner_key owner) ≡ true) c.get.ensures.value
    (subst (λ k. (key : OwnerKey) (place : ℕ) → contains holder_cmp set (c.get.result, key, place) ≡ true → key_eq key k ≡ true) c.owner_key.ensures c.in_err-place.ensures.none) in
    c.from_residual.ensures ∙ sym (none_other rec owner set c.self.inside.slots.items c.self.invariant.0.0 none)
    ∙ ap₂ (λ b ls. least_owner (conflicting rec b owner ls)) (sym c.if-exclusive.true) c.self.view_is

pub returns-in_err-lock_at : goal.returns-in_err-lock_at
returns-in_err-lock_at c =
    let rec = c.args.rec in
    let owner = c.args.owner.now in
    let set = c.self.inside.by_rec.holders.set in
    let slots = c.self.inside.slots.items in
    let least = subst (λ r. IsLeastOther r (owner_key owner) set c.in_ok-place.place) c.get.ensures.value (subst (λ k. IsLeastOther c.get.result k set c.in_ok-place.place) c.owner_key.ensures c.in_ok-place.ensures.least) in
    let there = least_there rec owner set slots c.self.invariant.0.0 c.in_ok-place.place least in
    let none = sym (ap option_copied c.in_err-lock_at.was) ∙ c.lock_at.ensures.lock ∙ ap (λ xs. lock_at xs c.in_ok-place.place) c.deref.ensures.value ∙ there.1 in
    absurd (cc none)

pub returns-in_ok-lock_at : goal.returns-in_ok-lock_at
returns-in_ok-lock_at c =
    let rec = c.args.rec in
    let owner = c.args.owner.now in
    let set = c.self.inside.by_rec.holders.set in
    let slots = c.self.inside.slots.items in
    let least = subst (λ r. IsLeastOther r (owner_key owner) set c.in_ok-place.place) c.get.ensures.value (subst (λ k. IsLeastOther c.get.result k set c.in_ok-place.place) c.owner_key.ensures c.in_ok-place.ensures.least) in
    let there = least_there rec owner set slots c.self.invariant.0.0 c.in_ok-place.place least in
    let at = sym (ap option_copied c.in_ok-lock_at.was) ∙ c.lock_at.ensures.lock ∙ ap (λ xs. lock_at xs c.in_ok-place.place) c.deref.ensures.value ∙ there.1 in
    ap (option_map (λ (lock : Lock). lock.owner)) at ∙ sym there.2 ∙ ap₂ (λ b ls. least_owner (conflicting rec b owner ls)) (sym c.if-exclusive.true) c.self.view_is

pub returns-else-exclusive : goal.returns-else-exclusive
returns-else-exclusive c =
    let rec = c.args.rec in
    let owner = c.args.owner.now in
    let p = c.self.inside.by_rec in
    c.least_exclusive.ensures
    ∙ ap₂ (λ slots ks. least_owner (filter (λ (lock : Lock). exclusive_on lock rec && not (same_owner lock.owner owner)) (filter_map (lock_at slots) ks))) c.deref-else-exclusive.ensures.value (c.of-places.ensures ∙ ap (places_of nat_eq p.exclusive.lists) c.get-else-exclusive.ensures.value)
    ∙ exclusive_least rec owner p.exclusive.lists c.self.inside.slots.items c.self.invariant.0.1
    ∙ ap₂ (λ b ls. least_owner (conflicting rec b owner ls)) (sym c.if-exclusive.false) c.self.view_is
