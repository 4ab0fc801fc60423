-- Transactions in doubt, by version, each with its view and its changes; lists of them ascend by transaction.
use Rattle.std.specs.Prelude.{◌≡◌, ℕ, ◌<◌, ◌^◌, List, ◌++◌, length, flat_map, true, All, AllPairs, Result, Ok}
use Rattle.vp_text.specs.Reading.{◌>>=◌}
use Rattle.vp_base.specs.Identifiers.{IsTxn, IsView}
use Rattle.vp_base.specs.Order.{txn_before}
use Rattle.vp_base.specs.declared.entry.Doubt.{Doubt}
use Rattle.vp_bytes.specs.Fields.{Spelled, number_bytes, txn_bytes, view_bytes}
use Rattle.vp_bytes.specs.Ranges.{ascending_txn_at, rank}
use Rattle.vp_bytes.specs.Reading.{run_at, u64_at, view_at}
use Rattle.vp_contents.specs.Changes.{writes_bytes, IsWrites, writes_at}
use Rattle.vp_contents.specs.declared.version.Version.{Version}

-- ---- their bytes

-- a transaction in doubt, its view and its changes
abbrev pub doubt_bytes : Version → Doubt → List ℕ
doubt_bytes version doubt = txn_bytes doubt.txn ++ (view_bytes doubt.view ++ writes_bytes version doubt.writes)

abbrev pub doubts_bytes : Version → List Doubt → List ℕ
doubts_bytes version doubts = number_bytes 8 (length doubts) ++ flat_map (doubt_bytes version) doubts

abbrev pub IsDoubt : Version → Doubt → Type 0
IsDoubt version doubt = IsTxn doubt.txn × IsView doubt.view × IsWrites version doubt.writes

-- as many as a number of 64 bits counts, ascending by transaction
abbrev pub IsDoubts : Version → List Doubt → Type 0
IsDoubts version doubts = (length doubts < 2 ^ 64) × All (IsDoubt version) doubts × AllPairs (λ before after. txn_before before.txn after.txn ≡ true) doubts

abbrev pub IsDoubtsBytes : Version → List Doubt → List ℕ → Type 0
IsDoubtsBytes version = Spelled (doubts_bytes version) (IsDoubts version)

-- ---- reading them

-- a transaction in doubt that has this rank or more and leaves room for n others above it, with its view and its changes
unfoldable pub doubt_at : Version → ℕ → ℕ → List ℕ → Result (Doubt × List ℕ) ℕ
doubt_at version n least bytes = do
  txn ← ascending_txn_at n least bytes
  view ← view_at txn.1
  writes ← writes_at version view.1
  Ok (record { txn = txn.0; view = view.0; writes = writes.0 }, writes.1)

-- a count, and as many transactions in doubt, ascending
unfoldable pub doubts_at : Version → List ℕ → Result (List Doubt × List ℕ) ℕ
doubts_at version bytes = u64_at bytes >>= λ n. run_at (λ doubt. rank doubt.txn) (doubt_at version) n.0 0 n.1
