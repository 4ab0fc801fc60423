-- A transaction after which no decision comes, and a decision that comes after that one.
use Rattle.std.proofs.Common.{◌≡◌, true, false, List, [], ◌∷◌, ◌++◌, ap, refl, arith}
use Rattle.std.proofs.lemmas.Bool.Decides.{nat_tests}
use Rattle.vp_model.specs.Types.{TxnId, Decision}
use Rattle.vp_model.specs.Words.{same_txn, txn_before}
use Rattle.vp_model.specs.Durable.{put_decision}
use Rattle.vp_records.specs.Decided.{IsHighest}

-- a transaction that is not after h isn't one that is after h
no_same : (h t u : TxnId) → txn_before h t ≡ true → txn_before h u ≡ false → same_txn t u ≡ false
no_same h t u b n = grind (arith, nat_tests, b, n)

not_before : (h t u : TxnId) → txn_before h t ≡ true → txn_before h u ≡ false → txn_before t u ≡ false
not_before h t u b n = grind (arith, nat_tests, b, n)

not_itself : (t : TxnId) → txn_before t t ≡ false
not_itself t = grind (arith, nat_tests)

-- a decision that comes after all others
pub put_last : (h : TxnId) (d : Decision) (ds : List Decision) → IsHighest h ds → txn_before h d.txn ≡ true → put_decision d ds ≡ ds ++ d ∷ []
put_last h d [] a b = refl
put_last h d (e ∷ ds) a b = rw (no_same h d.txn e.txn b a.0, not_before h d.txn e.txn b a.0) (ap (λ es. e ∷ es) (put_last h d ds a.1 b))

pub highest_last : (h : TxnId) (d : Decision) (ds : List Decision) → IsHighest h ds → txn_before h d.txn ≡ true → IsHighest d.txn (ds ++ d ∷ [])
highest_last h d [] a b = (not_itself d.txn, tt)
highest_last h d (e ∷ ds) a b = (not_before h d.txn e.txn b a.0, highest_last h d ds a.1 b)
