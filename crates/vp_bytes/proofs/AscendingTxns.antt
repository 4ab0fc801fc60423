-- Items that each begin with a transaction, and ascend by it.
use Rattle.std.proofs.Common.{◌≡◌, ℕ, suc, ◌+◌, ◌-◌, ◌≤◌, true, List, ◌++◌, Result, sym, subst, arith}
use Rattle.vp_text.specs.Reading.{◌>>=◌}
use Rattle.vp_text.proofs.Exact.{Exact, IsOne, Made, exact_as, one_value}
use Rattle.vp_base.specs.Identifiers.{IsTxn}
use Rattle.vp_base.specs.Order.{txn_before}
use Rattle.vp_base.specs.declared.ids.TxnId.{TxnId}
use Rattle.vp_bytes.specs.Fields.{Spelled, txn_bytes}
use Rattle.vp_bytes.specs.Ranges.{IsTxnBetween, IsTxnBetweenBytes, rank, txn_of_rank, last_rank, ascending_txn_at}
use Rattle.vp_bytes.proofs.Ascending.{Item, Ascends}
use Rattle.vp_bytes.proofs.Free.{IsFree, free_as, made_free}
use Rattle.vp_bytes.proofs.Identifiers.{txn_exact, txn_free}
use Rattle.vp_bytes.proofs.Pairs.{pair_bytes, PairAllowed, then_field, pair_free}
use Rattle.vp_bytes.proofs.Ranks.{before_rank, rank_before, rank_last, ranks_range, ranks_between, between_ranks}
use Rattle.vp_bytes.proofs.TxnsBetween.{txn_between_exact, txn_between_free}

pub ascending_txn_exact : (n least : ℕ) → least + n ≤ last_rank → Exact (IsTxnBetweenBytes (txn_of_rank least) (txn_of_rank (last_rank - n))) (ascending_txn_at n least)
ascending_txn_exact n least room = txn_between_exact (txn_of_rank least) (txn_of_rank (last_rank - n)) (ranks_range n least room)

module _ {X B : Type 0} (txn : X → TxnId) (rest : X → B) (make : TxnId → B → X) (bytes : B → List ℕ) (Rest : B → Type 0) (Allowed : X → Type 0) (read : TxnId → List ℕ → Result (X × List ℕ) ℕ) where
  -- What must hold of the items: each is its transaction and then the rest, which is read exactly.
  pub record Begun : Type 0 where
    pub exact : (t : TxnId) → Exact (Made (Spelled bytes Rest) (make t)) (read t)
    pub one : IsOne (Spelled bytes Rest)
    pub free : IsFree (Spelled bytes Rest)
    pub made : (x : X) → x ≡ make (txn x) (rest x)
    pub txn_of : (t : TxnId) (b : B) → txn (make t b) ≡ t
    pub rest_of : (t : TxnId) (b : B) → rest (make t b) ≡ b
    pub to : (x : X) → Allowed x → IsTxn (txn x) × Rest (rest x)
    pub from : (x : X) → IsTxn (txn x) → Rest (rest x) → Allowed x

  abbrev pub item_bytes : X → List ℕ
  item_bytes x = txn_bytes (txn x) ++ bytes (rest x)

  abbrev pub item_key : X → ℕ
  item_key x = rank (txn x)

  abbrev pub TxnBefore : X → X → Type 0
  TxnBefore x y = txn_before (txn x) (txn y) ≡ true

  abbrev pub item_at : ℕ → ℕ → List ℕ → Result (X × List ℕ) ℕ
  item_at n least bytes = ascending_txn_at n least bytes >>= λ t. read t.0 t.1

  abbrev ItemOf : ℕ → ℕ → X → List ℕ → Type 0
  ItemOf = Item item_key last_rank item_bytes Allowed TxnBefore item_at

  abbrev Parts : ℕ → ℕ → X → List ℕ → Type 0
  Parts n least = Made (Spelled (pair_bytes txn_bytes bytes) (PairAllowed (IsTxnBetween (txn_of_rank least) (txn_of_rank (last_rank - n))) Rest)) (λ pair. make pair.0 pair.1)

  parts_to : Begun → (n least : ℕ) → least + n ≤ last_rank → (x : X) (t : List ℕ) → Parts n least x t → ItemOf n least x t
  parts_to w n least room x t h =
      let u = h.from.0 in
      let b = h.from.1 in
      let ranks = ranks_between n least u room h.spelled.allowed.0 in
      let txn_is = w.txn_of u b in
      let rest_is = w.rest_of u b in
      subst (λ (x : X). ItemOf n least x t) (sym h.is) (record {
        is = rw (txn_is, rest_is) h.spelled.is;
        allowed = ((rw txn_is ranks.0), (rw txn_is ranks.1), w.from (make u b) (rw txn_is h.spelled.allowed.0.0) (rw rest_is h.spelled.allowed.1));
      })

  parts_from : Begun → (n least : ℕ) → least + n ≤ last_rank → (x : X) (t : List ℕ) → ItemOf n least x t → Parts n least x t
  parts_from w n least room x t h =
      let a = w.to x h.allowed.2 in
      record { from = (txn x, rest x); spelled = record { is = h.is; allowed = (between_ranks n least (txn x) room a.0 h.allowed.0 h.allowed.1, a.1) }; is = w.made x }

  item_exact : Begun → (n least : ℕ) → least + suc n ≤ suc last_rank → Exact (ItemOf n least) (item_at n least)
  item_exact w n least room =
      let fits : least + n ≤ last_rank = omega (arith, room) in
      exact_as (parts_to w n least fits) (parts_from w n least fits) (then_field make (txn_between_free (txn_of_rank least) (txn_of_rank (last_rank - n))) (ascending_txn_exact n least fits) w.exact)

  pair_from : Begun → (x : X) (t : List ℕ) → Spelled item_bytes Allowed x t → Made (Spelled (pair_bytes txn_bytes bytes) (PairAllowed IsTxn Rest)) (λ pair. make pair.0 pair.1) x t
  pair_from w x t h = record { from = (txn x, rest x); spelled = record { is = h.is; allowed = w.to x h.allowed }; is = w.made x }

  pub txns_ascend : Begun → Ascends item_key last_rank item_bytes Allowed TxnBefore item_at
  txns_ascend w = record {
    exact = item_exact w;
    free = free_as (pair_from w) (made_free (pair_free (one_value txn_exact) txn_free w.free));
    short = λ x h. rank_last (txn x) (w.to x h).0;
    before = λ x y h k lt. rank_before (txn x) (txn y) (w.to x h).0 (w.to y k).0 lt;
    above = λ x y h k before. before_rank (txn x) (txn y) (w.to x h).0 (w.to y k).0 before;
  }
