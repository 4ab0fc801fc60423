use Rattle.std.proofs.Common.{◌≡◌, ◌∙◌, refl, ap, sym, subst, ℕ, ◌≤◌, ◌==◌, Bool, true, false, IfNone, IfSome, arith}
use Rattle.std.proofs.lemmas.Bool.{eqb-false, eqb-true, true_from_ne_false}
use Rattle.std.specs.Bool.{then_some}
use Rattle.std.specs.BTreeMap.Range.{IsLeBy, IsLtBy}
use Rattle.std.specs.BTreeSet.{BTreeSet, contains}
use Rattle.std.specs.Ordering.{is_gt}
use Rattle.std.specs.declared.ops.Bound.TheVariants.{Included, Excluded}
use Rattle.vp_locks.specs.Keys.{Holder, OwnerKey, holder_cmp, key_cmp, key_eq}
use Rattle.vp_locks.specs.Holders.{HasNoneFrom, IsFirstFrom, IsLeastOther}
use Rattle.vp_locks.proofs.Ordered.{first_on_rec, is_above, is_not_below, is_not_same, later_owner, of_later_owner, owner_not_above, rec_not_above, same_key_is}
use Rattle.vp_locks.proofs.holders.Holders.least_other.Goals as goal
use Rattle.vp_locks.proofs.holders.Holders.least_other.Goals.{then-first-rec+then-eq+in_ok-first-2, else-first-rec, else-first-rec-via-then-first-rec+else-eq, else-first-rec-via-else-first-rec}

module _ (set : BTreeSet Holder) (rec : ℕ) (owner : OwnerKey) where
  -- on the record it is another's, and each other's lock on the record is no lower
  record IsFirstOther (first : Holder) : Type 0 where
    here : contains holder_cmp set first ≡ true
    is_other : first.0 ≡ rec → key_eq first.1 owner ≡ false
    least : (key : OwnerKey) (place : ℕ) → contains holder_cmp set (rec, key, place) ≡ true → key_eq key owner ≡ false → (first.0 ≡ rec) × IsLeBy key_cmp first.1 key

  -- the locks on the record are the owner's
  abbrev AreOwners : Type 0
  AreOwners = (key : OwnerKey) (place : ℕ) → contains holder_cmp set (rec, key, place) ≡ true → key_eq key owner ≡ true

  is_least : (first : Holder) → IsFirstOther first → (on : Bool) → (first.0 == rec) ≡ on → IfSome (then_some on first.2) (IsLeastOther rec owner set)
  is_least first found false e = tt
  is_least first found true e =
      let on = eqb-true first.0 rec e in
      record {
        key = first.1;
        here = (λ i. contains holder_cmp set (sym on i, first.1, first.2)) ∙ found.here;
        is_other = found.is_other on;
        least = λ key place here other. is_not_below first.1 key (found.least key place here other).1;
      }

  has_none : (first : Holder) → IsFirstOther first → (on : Bool) → (first.0 == rec) ≡ on → IfNone (then_some on first.2) AreOwners
  has_none first found false e = λ key place here. true_from_ne_false _ (λ other. eqb-false first.0 rec e (found.least key place here other).0)
  has_none first found true e = tt

  module _ (first : Holder) (lowest : IsFirstFrom (Included (rec, (0, 0, 0, 0), 0)) set first) where
    is_before : (key : OwnerKey) (place : ℕ) → contains holder_cmp set (rec, key, place) ≡ true → (first.0 ≡ rec) × IsLeBy key_cmp first.1 key
    is_before key place here =
        let before = lowest.2 (rec, key, place) (first_on_rec rec key place) here in
        let not_later : first.0 ≤ rec = rec_not_above first (rec, key, place) before in
        let not_earlier : rec ≤ first.0 = rec_not_above (rec, (0, 0, 0, 0), 0) first lowest.0 in
        let on : first.0 ≡ rec = omega arith in
        (on, owner_not_above first (rec, key, place) before on)

    -- the first one is another's
    at_first : (first.0 ≡ rec → key_eq first.1 owner ≡ false) → IsFirstOther first
    at_first other = record { here = lowest.1; is_other = other; least = λ key place here _. is_before key place here }

    -- the first one is the owner's, so each other's comes after its last place
    module _ (own : key_eq first.1 owner ≡ true) (last : ℕ) where
      others_later : (key : OwnerKey) (place : ℕ) → contains holder_cmp set (rec, key, place) ≡ true → key_eq key owner ≡ false → IsLtBy holder_cmp (rec, owner, last) (rec, key, place)
      others_later key place here other =
          later_owner rec owner key last place (is_above owner key other (subst (λ k. IsLeBy key_cmp k key) (same_key_is first.1 owner own) (is_before key place here).1))

      none_later : HasNoneFrom (Excluded (rec, owner, last)) set → AreOwners
      none_later none key place here = true_from_ne_false _ (λ other. let absent = none (rec, key, place) (others_later key place here other) in absurd (cc))

      at_next : (next : Holder) → IsFirstFrom (Excluded (rec, owner, last)) set next → next.2 ≤ last → IsFirstOther next
      at_next next lowest_later within = record {
        here = lowest_later.1;
        is_other = λ on. is_not_same owner next.1 (of_later_owner (rec, owner, last) next (sym on) within lowest_later.0);
        least = λ key place here other.
            let before = lowest_later.2 (rec, key, place) (others_later key place here other) here in
            let not_later : next.0 ≤ rec = rec_not_above next (rec, key, place) before in
            let not_earlier : rec ≤ next.0 = rec_not_above (rec, owner, last) next (ap is_gt lowest_later.0) in
            let on : next.0 ≡ rec = omega arith in
            (on, owner_not_above next (rec, key, place) before on);
      }

pub returns-in_err-first-2-clause-none : goal.returns-in_err-first-2-clause-none
returns-in_err-first-2-clause-none c =
    subst (λ place. IfNone place (AreOwners c.args.self.now.set c.args.rec c.args.owner)) (sym c.from_residual-in_err-first-2.ensures)
    (none_later c.args.self.now.set c.args.rec c.args.owner c.in_ok-first.first c.in_ok-first.ensures.first (sym c.if-eq.ensures) 18446744073709551615 c.in_err-first-2.ensures.none)

found : (c : goal.After-then_some) → IsFirstOther c.args.self.now.set c.args.rec c.args.owner c.if-first-rec.first
found c =
    let set = c.args.self.now.set in
    let first = c.in_ok-first.first in
    let lowest = c.in_ok-first.ensures.first in
    elim c.if-first-rec.branch [
      | then-first-rec+then-eq+in_ok-first-2 w ↦
          subst (IsFirstOther set c.args.rec c.args.owner) (sym w.first-is)
          (at_next set c.args.rec c.args.owner first lowest (sym w.if-eq.ensures) 18446744073709551615 w.in_ok-first-2.first w.in_ok-first-2.ensures.first (omega arith))
      | else-first-rec w ↦
          subst (IsFirstOther set c.args.rec c.args.owner) (sym w.first-is)
          (at_first set c.args.rec c.args.owner first lowest (λ on. elim w.else-first-rec.branch [
            | else-first-rec-via-then-first-rec+else-eq v ↦ sym v.if-eq.ensures
            | else-first-rec-via-else-first-rec v ↦ absurd (v.if-first-rec.false on)
          ]))
    ]

pub returns-clause-least : goal.returns-clause-least
returns-clause-least c =
    subst (λ place. IfSome place (IsLeastOther c.args.rec c.args.owner c.args.self.now.set)) (sym c.then_some.ensures)
    (is_least c.args.self.now.set c.args.rec c.args.owner c.if-first-rec.first (found c) (c.if-first-rec.first.0 == c.args.rec) refl)

pub returns-clause-none : goal.returns-clause-none
returns-clause-none c =
    subst (λ place. IfNone place (AreOwners c.args.self.now.set c.args.rec c.args.owner)) (sym c.then_some.ensures)
    (has_none c.args.self.now.set c.args.rec c.args.owner c.if-first-rec.first (found c) (c.if-first-rec.first.0 == c.args.rec) refl)
