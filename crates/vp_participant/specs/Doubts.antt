-- The transactions in doubt: what they write.
use Rattle.std.specs.Prelude.{◌≡◌, ℕ, Bool, List, Option, option_map}
use Rattle.std.specs.List.{list_any}
use Rattle.vp_model.specs.Types.{ViewId, TxnId, Change, Doubt}
use Rattle.vp_model.specs.Words.{has, has_txn, keys}
use Rattle.vp_model.specs.Durable.{doubt_of}
use Rattle.vp_model.specs.Views.{has_doubt}

-- some transaction in doubt writes the record
abbrev pub is_written : List Doubt → ℕ → Bool
is_written doubts rec = list_any (λ (d : Doubt). has (keys d.writes) rec) doubts

-- the view and the writes of the transaction, where it is in doubt
abbrev pub doubt_ended : TxnId → List Doubt → Option (ViewId × List (ℕ × Change))
doubt_ended txn doubts = option_map (λ (d : Doubt). (d.view, d.writes)) (doubt_of txn doubts)

-- the names are those of the transactions in doubt
abbrev pub AreNamed : List TxnId → List Doubt → Type 0
AreNamed names doubts = (txn : TxnId) → has_txn names txn ≡ has_doubt txn doubts
