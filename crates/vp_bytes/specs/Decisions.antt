-- Decisions, ascending by transaction, each with the sites that have not acknowledged it, as a log record lists them.
use Rattle.std.specs.Prelude.{◌≡◌, ℕ, ◌<◌, ◌^◌, List, ◌++◌, length, flat_map, true, All, AllPairs, Result, Ok}
use Rattle.vp_text.specs.Reading.{◌>>=◌}
use Rattle.vp_base.specs.Identifiers.{IsTxn}
use Rattle.vp_base.specs.Order.{txn_before}
use Rattle.vp_base.specs.declared.entry.Decision.{Decision}
use Rattle.vp_bytes.specs.Fields.{Spelled, number_bytes, txn_bytes, counted_bytes, IsSites}
use Rattle.vp_bytes.specs.Ranges.{ascending_txn_at, rank}
use Rattle.vp_bytes.specs.Reading.{run_at, sites_at, u64_at}

-- ---- their bytes

-- a transaction that was decided, and the sites that have not acknowledged that
abbrev pub decision_bytes : Decision → List ℕ
decision_bytes decision = txn_bytes decision.txn ++ counted_bytes decision.waiting

abbrev pub decisions_bytes : List Decision → List ℕ
decisions_bytes decisions = number_bytes 8 (length decisions) ++ flat_map decision_bytes decisions

-- some site has not acknowledged it
abbrev pub IsDecision : Decision → Type 0
IsDecision decision = IsTxn decision.txn × IsSites 1 decision.waiting

-- as many as a number of 64 bits counts, ascending by transaction
abbrev pub IsDecisions : List Decision → Type 0
IsDecisions decisions = (length decisions < 2 ^ 64) × All IsDecision decisions × AllPairs (λ before after. txn_before before.txn after.txn ≡ true) decisions

abbrev pub IsDecisionsBytes : List Decision → List ℕ → Type 0
IsDecisionsBytes = Spelled decisions_bytes IsDecisions

-- ---- reading them

-- a decision whose transaction has this rank or more and leaves room for n others above it, with its sites
unfoldable pub decision_at : ℕ → ℕ → List ℕ → Result (Decision × List ℕ) ℕ
decision_at n least bytes = do
  txn ← ascending_txn_at n least bytes
  sites ← sites_at 1 txn.1
  Ok (record { txn = txn.0; waiting = sites.0 }, sites.1)

-- a count, and as many decisions, ascending by transaction
unfoldable pub decisions_at : List ℕ → Result (List Decision × List ℕ) ℕ
decisions_at bytes = u64_at bytes >>= λ n. run_at (λ decision. rank decision.txn) decision_at n.0 0 n.1
