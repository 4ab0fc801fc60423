-- A transaction that is put back in its place, or removed for good.
use Rattle.std.proofs.Common.{◌≡◌, Bool, true, List, [], ◌∷◌, find, Option, Some, None, IfSome, sym, subst, refl, arith}
use Rattle.std.specs.Option.{option_map_or}
use Rattle.std.proofs.lemmas.Bool.Decides.{nat_tests}
use Rattle.vp_model.specs.Types.{TxnId, Live}
use Rattle.vp_model.specs.Words.{same_txn, change_first, without_first}
use Rattle.vp_model.proofs.SameTxn.{same_txn-self}
use Rattle.vp_tables.proofs.Keyed.{changed_none}

module _ {A : Type 0} (test : A → Bool) (x : A) (h : test x ≡ true) where
  pub put_again : (y : A) (xs : List A) → change_first test (λ u. y) (change_first test (λ u. x) xs) ≡ change_first test (λ u. y) xs
  put_again y [] = refl
  put_again y (z ∷ zs) = let rest = put_again y zs in grind (arith, nat_tests, h, rest)

  pub take_again : (xs : List A) → without_first test (change_first test (λ u. x) xs) ≡ without_first test xs
  take_again [] = refl
  take_again (z ∷ zs) = let rest = take_again zs in grind (arith, nat_tests, h, rest)

-- an item that is found is put where it is
put_found : {A : Type 0} (test : A → Bool) (t : A) (xs : List A) → Some t ≡ find test xs → change_first test (λ u. t) xs ≡ xs
put_found test t [] h = refl
put_found test t (z ∷ zs) h = let rest = put_found test t zs in grind (arith, nat_tests, h, rest)

-- what was taken out goes back, and the list is as it was
pub back : (txn : TxnId) (h : Live) (xs ys : List Live) (r : Option Live) → h.txn ≡ txn → ys ≡ change_first (λ u. same_txn u.txn txn) (λ u. h) xs → r ≡ find (λ u. same_txn u.txn txn) xs → IfSome r (λ t. t.txn ≡ txn) → option_map_or (λ t. change_first (λ u. same_txn u.txn t.txn) (λ u. t) ys) r ys ≡ xs
back txn h xs ys None e y f n = rw y (changed_none (λ u. same_txn u.txn txn) (λ u. h) xs (sym f))
back txn h xs ys (Some t) e y f n =
    let core : change_first (λ u. same_txn u.txn txn) (λ u. t) ys ≡ xs = rw (y, put_again (λ u. same_txn u.txn txn) h (rw e (same_txn-self txn)) t xs) (put_found (λ u. same_txn u.txn txn) t xs f) in
    subst (λ x. change_first (λ u. same_txn u.txn x) (λ u. t) ys ≡ xs) (sym n) core

-- the same for a transaction: it is put back in its place, or removed for good
pub put_live_again : (t u : Live) (xs : List Live) → u.txn ≡ t.txn → change_first (λ v. same_txn v.txn t.txn) (λ v. u) (change_first (λ v. same_txn v.txn t.txn) (λ v. t) xs) ≡ change_first (λ v. same_txn v.txn t.txn) (λ v. u) xs
put_live_again t u xs e = put_again (λ v. same_txn v.txn t.txn) t (same_txn-self t.txn) u xs

pub drop_live_again : (t : Live) (xs : List Live) → without_first (λ v. same_txn v.txn t.txn) (change_first (λ v. same_txn v.txn t.txn) (λ v. t) xs) ≡ without_first (λ v. same_txn v.txn t.txn) xs
drop_live_again t xs = take_again (λ v. same_txn v.txn t.txn) t (same_txn-self t.txn) xs

pub ruleset hands = (put_live_again, drop_live_again)
