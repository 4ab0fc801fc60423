-- An item that is found by a transaction belongs to it.
use Rattle.std.proofs.Common.{◌≡◌, ℕ, List, get_or, Some}
use Rattle.std.specs.List.{position}
use Rattle.std.proofs.lemmas.List.Quantifiers.{position-Some}
use Rattle.vp_model.specs.Types.{TxnId}
use Rattle.vp_model.specs.Words.{same_txn}
use Rattle.vp_model.proofs.SameTxn.{same_txn-is}
use Rattle.vp_lists.proofs.Found.{find_none, find_some, others_some}

pub named : {A : Type 0} (txn : A → TxnId) (name : TxnId) (items : List A) (i : ℕ) (d : A) → position (λ t. same_txn (txn t) name) items ≡ Some i → txn (get_or items i d) ≡ name
named txn name items i d h = same_txn-is _ name (position-Some (λ t. same_txn (txn t) name) items i d h).1

pub ruleset taking = (find_none, find_some, others_some, named)
