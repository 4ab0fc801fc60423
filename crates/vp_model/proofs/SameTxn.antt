-- What follows from the test whether two transactions are the same.
use Rattle.std.proofs.Common.{◌≡◌, ◌≢◌, true, false, arith}
use Rattle.std.specs.Prelude.{not}
use Rattle.std.proofs.lemmas.Bool.Decides.{nat_tests}
use Rattle.vp_model.specs.Types.{TxnId}
use Rattle.vp_model.specs.Words.{same_txn}

pub same_txn-is : (t u : TxnId) → same_txn t u ≡ true → t ≡ u
same_txn-is t u e = grind (arith, nat_tests, e)

pub same_txn-self : (t : TxnId) → same_txn t t ≡ true
same_txn-self t = grind (arith, nat_tests)

pub same_txn-other : (t u : TxnId) → t ≢ u → same_txn t u ≡ false
same_txn-other t u n = grind (arith, nat_tests, n)

pub same_txn-turned : (t u : TxnId) → same_txn t u ≡ false → same_txn u t ≡ false
same_txn-turned t u e = grind (arith, nat_tests, e)

pub same_txn-clash : (t u : TxnId) → not (same_txn t u) ≡ true → t ≢ u
same_txn-clash t u e q = grind (arith, nat_tests, e, q)

pub same_txn-not : (t u : TxnId) → same_txn t u ≡ false → t ≢ u
same_txn-not t u e q = grind (arith, nat_tests, e, q)
