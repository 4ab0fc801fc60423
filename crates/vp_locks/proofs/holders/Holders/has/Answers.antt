use Rattle.std.proofs.Common.{◌≡◌, ◌∙◌, ap, sym, ℕ, true, false, Bool}
use Rattle.std.proofs.lemmas.Bool.{false_from_ne_true}
use Rattle.std.specs.BTreeSet.{BTreeSet, contains}
use Rattle.std.specs.Bool.{OnTrue, OnFalse}
use Rattle.std.specs.Ordering.{is_lt}
use Rattle.std.specs.declared.ops.Bound.TheVariants.{Included}
use Rattle.vp_locks.specs.Keys.{Holder, OwnerKey, holder_cmp, key_cmp, key_eq}
use Rattle.vp_locks.specs.Holders.{IsFirstFrom}
use Rattle.vp_locks.proofs.Ordered.{first_of_owner, is_above, is_not_below, owner_not_above, same_key_is}
use Rattle.vp_locks.proofs.holders.Holders.has.Goals as goal

module _ (set : BTreeSet Holder) (rec : ℕ) (owner : OwnerKey) (first : Holder) (lowest : IsFirstFrom (Included (rec, owner, 0)) set first) where
  found : (answer : Bool) → first.0 ≡ rec → answer ≡ key_eq first.1 owner → OnTrue answer ((place : ℕ) × (contains holder_cmp set (rec, owner, place) ≡ true))
  found false on e = tt
  found true on e =
      let own = same_key_is first.1 owner (sym e) in
      (first.2, (λ i. contains holder_cmp set (sym on i, sym own i, first.2)) ∙ lowest.1)

  absent : (answer : Bool) → first.0 ≡ rec → answer ≡ key_eq first.1 owner → OnFalse answer ((place : ℕ) → contains holder_cmp set (rec, owner, place) ≡ false)
  absent false on e = λ place. false_from_ne_true _ (λ here.
      let above = is_above owner first.1 (sym e) (owner_not_above (rec, owner, 0) first lowest.0 (sym on)) in
      let none : is_lt (key_cmp owner first.1) ≡ false = is_not_below first.1 owner (owner_not_above first (rec, owner, place) (lowest.2 (rec, owner, place) (first_of_owner rec owner place) here) on) in
      let no : true ≡ false = sym (ap is_lt above) ∙ none in
      absurd (cc))
  absent true on e = tt

pub returns-then-first-rec-clause-found : goal.returns-then-first-rec-clause-found
returns-then-first-rec-clause-found c = found c.args.self.now.set c.args.rec c.args.owner c.in-Some.first c.in-Some.ensures.first c.eq.result c.if-first-rec.true c.eq.ensures

pub returns-then-first-rec-clause-absent : goal.returns-then-first-rec-clause-absent
returns-then-first-rec-clause-absent c = absent c.args.self.now.set c.args.rec c.args.owner c.in-Some.first c.in-Some.ensures.first c.eq.result c.if-first-rec.true c.eq.ensures
