use Rattle.std.proofs.Common.{◌≡◌, ◌∙◌, ◌==◌, ◌&&◌, ◌<◌, ◌^◌, ℕ, List, Option, Some, true, map, fold, nat_eq, rules, sym, ap, ap₂, subst, arith}
use Rattle.std.specs.BTreeSet.{BTreeSet}
use Rattle.std.specs.List.{list_any}
use Rattle.std.specs.Vec.{with_items}
use Rattle.std.proofs.lemmas.Bool.Decides.{nat_tests}
use Rattle.std.proofs.lemmas.List.{with_items_is, places}
use Rattle.vp_model.specs.Types.{Lock}
use Rattle.vp_model.specs.Locks.{raised}
use Rattle.vp_model.specs.Words.{same_owner}
use Rattle.vp_locks.specs.declared.holders.Holders.{Holders}
use Rattle.vp_locks.specs.Index.{places_of, on_rec, owned_by, AreHolders, IsRecIndex, IsOwnerIndex}
use Rattle.vp_locks.specs.Holders.{places_between}
use Rattle.vp_locks.specs.Keys.{Holder, key_eq, owner_key}
use Rattle.vp_locks.specs.Places.{present_locks, revise_slot, lock_at, passes}
use Rattle.vp_locks.proofs.Indexes.{all_raised, index_changed, present_raised, raise, raised_owner, raised_there}
use Rattle.vp_locks.proofs.Held.{has_its_place, holders_raised, is_within, listed_raised, listed_still}
use Rattle.vp_locks.proofs.Locks.raise.Goals as goal

module _ (c : goal.After-drop-places-2) where
  abbrev set : BTreeSet Holder
  set = c.self.inside.by_rec.holders.set

  abbrev slots : List (Option Lock)
  slots = c.self.inside.slots.items

  places_are : c.in_ok-places.places.items ≡ places_between c.args.rec (owner_key c.args.owner.now) set
  places_are = c.in_ok-places.ensures ∙ ap₂ (λ rec key. places_between rec key set) c.get.ensures.value c.owner_key.ensures

  -- each lock of the owner on the record is at one of the places
  has_place : (place : ℕ) (lock : Lock) → lock_at slots place ≡ Some lock → ((lock.rec == c.args.rec) && same_owner lock.owner c.args.owner.now) ≡ true → list_any (λ k. k == place) c.in_ok-places.places.items ≡ true
  has_place place lock at own =
      let within = is_within slots place lock at in
      let fits : place < 2 ^ 64 = omega (arith, within, c.self.inside.slots.ok.0, c.self.inside.slots.small) in
      ap (list_any (λ k. k == place)) places_are ∙ has_its_place set slots c.self.invariant.0.0 c.args.rec c.args.owner.now place lock fits at own

  raised_slots : (with_items c.self.inside.slots c.raise.new.slots).items ≡ all_raised c.args.rec c.args.owner.now slots
  raised_slots =
      with_items_is c.self.inside.slots c.raise.new.slots (search (rules, places)) ∙ c.raise.ensures
      ∙ ap₂ (fold (revise_slot (raise c.args.rec c.args.owner.now))) c.deref_mut.ensures.value c.deref-3.ensures.value
      ∙ raised_there c.args.rec c.args.owner.now c.in_ok-places.places.items slots (λ place lock at shared. has_place place lock at (grind (arith, nat_tests, shared)))

pub invariant_of-self : goal.invariant_of-self
invariant_of-self c =
    let old = c.self.inside.by_rec in
    let new = c.note_exclusive.new.self in (
      (
        subst (λ (h : Holders). AreHolders h.set c.self.inside.slots.items) (sym c.note_exclusive.ensures.holders) c.self.invariant.0.0,
        listed_still old.exclusive.lists new.exclusive.lists c.self.inside.slots.items c.self.invariant.0.1 c.note_exclusive.ensures.kept,
      ),
      c.self.invariant.1,
    )

pub invariant_of-self-2 : goal.invariant_of-self-2
invariant_of-self-2 c =
    let old = c.self.inside.by_rec in
    let new = c.note_exclusive.new.self in
    let owners = c.self.inside.by_owner.lists in
    let rec = c.args.rec in
    let owner = c.args.owner.now in
    let noted : (place : ℕ) (lock : Lock) → lock_at (slots c) place ≡ Some lock → ((lock.rec == rec) && same_owner lock.owner owner) ≡ true → list_any (λ k. k == place) (places_of nat_eq new.exclusive.lists rec) ≡ true =
    λ place lock at own. c.in_ok-note_exclusive.ensures.noted place (ap (list_any (λ k. k == place)) c.deref-2.ensures.value ∙ has_place c place lock at own)
    (ap (λ xs. passes (λ (lock : Lock). on_rec lock rec) (lock_at xs place)) c.deref.ensures.value ∙ ap (passes (λ (lock : Lock). on_rec lock rec)) at ∙ grind (arith, nat_tests, own)) in
    subst (λ xs. IsRecIndex new xs × IsOwnerIndex owners xs) (sym (raised_slots c)) (
      (
        subst (λ (h : Holders). AreHolders h.set (all_raised rec owner (slots c))) (sym c.note_exclusive.ensures.holders) (holders_raised old.holders.set (slots c) c.self.invariant.0.0 rec owner),
        listed_raised old.exclusive.lists new.exclusive.lists (slots c) c.self.invariant.0.1 c.note_exclusive.ensures.kept rec owner noted,
      ),
      index_changed key_eq owned_by owners (slots c) c.self.invariant.1 (λ _. true) (raised rec true owner) (raised_owner rec owner),
    )

pub returns : goal.returns
returns c =
    ap present_locks (raised_slots c) ∙ present_raised c.args.rec c.args.owner.now c.self.inside.slots.items
    ∙ ap (map (raised c.args.rec true c.args.owner.now)) c.self.view_is
