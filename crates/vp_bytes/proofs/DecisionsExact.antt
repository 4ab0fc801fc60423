-- Decided transactions are read exactly.
use Rattle.std.proofs.Common.{◌≡◌, ℕ, ◌<◌, ◌^◌, List, true, Result, Ok, refl, arith}
use Rattle.vp_text.specs.Reading.{◌>>=◌}
use Rattle.vp_text.proofs.Exact.{Exact, made_exact, one_value}
use Rattle.vp_base.specs.Order.{txn_before}
use Rattle.vp_base.specs.declared.entry.Decision.{Decision}
use Rattle.vp_base.specs.declared.ids.TxnId.{TxnId}
use Rattle.vp_bytes.specs.Decisions.{IsDecision, IsDecisionsBytes, decision_at, decisions_at, decision_bytes}
use Rattle.vp_bytes.specs.Fields.{number_bytes, counted_bytes, IsSites}
use Rattle.vp_bytes.specs.Ranges.{rank, last_rank}
use Rattle.vp_bytes.specs.Reading.{u64_at, sites_at}
use Rattle.vp_bytes.proofs.Ascending.{Ascends, list_exact, list_free}
use Rattle.vp_bytes.proofs.AscendingTxns.{Begun, item_key, TxnBefore, item_at, txns_ascend}
use Rattle.vp_bytes.proofs.Free.{IsFree}
use Rattle.vp_bytes.proofs.Items.{sites_exact, sites_free}
use Rattle.vp_bytes.proofs.Singles.{number8_exact, number8_free}

abbrev txn_in : Decision → TxnId
txn_in decision = decision.txn

abbrev sites_in : Decision → List ℕ
sites_in decision = decision.waiting

abbrev decision_of : TxnId → List ℕ → Decision
decision_of txn sites = record { txn = txn; waiting = sites }

abbrev rest_at : TxnId → List ℕ → Result (Decision × List ℕ) ℕ
rest_at txn bytes = sites_at 1 bytes >>= λ sites. Ok (decision_of txn sites.0, sites.1)

decision_begun : Begun txn_in sites_in decision_of counted_bytes (IsSites 1) IsDecision rest_at
decision_begun = record {
  exact = λ txn. made_exact (decision_of txn) (sites_exact 1 (omega arith));
  one = one_value (sites_exact 1 (omega arith));
  free = sites_free 1;
  made = λ decision. refl;
  txn_of = λ txn sites. refl;
  rest_of = λ txn sites. refl;
  to = λ decision h. (h.0, h.1);
  from = λ decision txn sites. (txn, sites);
}

abbrev decisions_ascend : Ascends (item_key txn_in sites_in decision_of counted_bytes (IsSites 1) IsDecision rest_at) last_rank decision_bytes IsDecision (TxnBefore txn_in sites_in decision_of counted_bytes (IsSites 1) IsDecision rest_at) (item_at txn_in sites_in decision_of counted_bytes (IsSites 1) IsDecision rest_at)
decisions_ascend = txns_ascend txn_in sites_in decision_of counted_bytes (IsSites 1) IsDecision rest_at decision_begun

pub decisions_exact : Exact IsDecisionsBytes decisions_at
unfolding decisions_at decision_at
decisions_exact =
    list_exact (λ decision. rank decision.txn) last_rank decision_bytes IsDecision (λ x y. txn_before x.txn y.txn ≡ true) decision_at (number_bytes 8) (λ n. n < 2 ^ 64) u64_at decisions_ascend (λ n h. omega (arith, h)) number8_free number8_exact

pub decisions_free : IsFree IsDecisionsBytes
unfolding decision_at
decisions_free = list_free (λ decision. rank decision.txn) last_rank decision_bytes IsDecision (λ x y. txn_before x.txn y.txn ≡ true) decision_at (number_bytes 8) (λ n. n < 2 ^ 64) u64_at decisions_ascend number8_free number8_exact
