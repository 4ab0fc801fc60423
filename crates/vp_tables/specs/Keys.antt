-- Items by the keys of their transactions.
use Rattle.std.specs.Prelude.{◌≡◌, ℕ, true, List, [], ◌∷◌, ⊤}
use Rattle.std.specs.List.{AllByRecursion}
use Rattle.std.specs.Ordering.{nat_cmp, ordering_then}
use Rattle.std.specs.declared.cmp.Ordering.{Ordering}
use Rattle.vp_base.specs.Order.{txn_before}
use Rattle.vp_base.specs.declared.ids.TxnId.{TxnId}

-- the numbers of a transaction, in the order in which they are compared
abbrev pub key_of : TxnId → ℕ × ℕ × ℕ
key_of t = (t.site, t.life, t.seq)

-- the order of keys
abbrev pub key_cmp : ℕ × ℕ × ℕ → ℕ × ℕ × ℕ → Ordering
key_cmp x y = ordering_then (ordering_then (nat_cmp x.0 y.0) (nat_cmp x.1 y.1)) (nat_cmp x.2 y.2)

-- each item has the key of its transaction
abbrev pub AreKeyed : {T : Type 0} → (T → TxnId) → List ((ℕ × ℕ × ℕ) × T) → Type 0
AreKeyed txn entries = AllByRecursion (λ e. e.0 ≡ key_of (txn e.1)) entries

-- the transaction of each item comes before those of all items after it
abbrev pub AreAscending : {T : Type 0} → (T → TxnId) → List T → Type 0
AreAscending txn [] = ⊤
AreAscending txn (item ∷ items) = AllByRecursion (λ other. txn_before (txn item) (txn other) ≡ true) items × AreAscending txn items
