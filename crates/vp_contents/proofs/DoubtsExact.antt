-- Transactions in doubt are read exactly, in each version.
use Rattle.std.proofs.Common.{◌≡◌, ℕ, ◌<◌, ◌^◌, List, true, Result, Ok, refl, arith}
use Rattle.vp_text.specs.Reading.{◌>>=◌}
use Rattle.vp_text.proofs.Exact.{Exact, made_exact, one_value}
use Rattle.vp_base.specs.Identifiers.{IsView}
use Rattle.vp_base.specs.Order.{txn_before}
use Rattle.vp_base.specs.declared.entry.Change.{Change}
use Rattle.vp_base.specs.declared.entry.Doubt.{Doubt}
use Rattle.vp_base.specs.declared.ids.TxnId.{TxnId}
use Rattle.vp_base.specs.declared.ids.ViewId.{ViewId}
use Rattle.vp_bytes.specs.Fields.{number_bytes, view_bytes}
use Rattle.vp_bytes.specs.Ranges.{rank, last_rank}
use Rattle.vp_bytes.specs.Reading.{u64_at, view_at}
use Rattle.vp_bytes.proofs.Ascending.{Ascends, list_exact, list_free}
use Rattle.vp_bytes.proofs.AscendingTxns.{Begun, item_key, TxnBefore, item_at, txns_ascend}
use Rattle.vp_bytes.proofs.Free.{IsFree}
use Rattle.vp_bytes.proofs.Identifiers.{view_exact}
use Rattle.vp_bytes.proofs.Pairs.{pair_bytes, PairAllowed, then_field, pair_exact, pair_free}
use Rattle.vp_bytes.proofs.Singles.{view_free, number8_exact, number8_free}
use Rattle.vp_contents.specs.Changes.{writes_bytes, IsWrites, writes_at}
use Rattle.vp_contents.specs.Doubts.{IsDoubt, IsDoubtsBytes, doubt_at, doubts_at, doubt_bytes}
use Rattle.vp_contents.specs.declared.version.Version.{Version}
use Rattle.vp_contents.proofs.ChangesExact.{writes_exact, writes_free}

abbrev Rest : Type 0
Rest = ViewId × List (ℕ × Change)

abbrev txn_in : Doubt → TxnId
txn_in doubt = doubt.txn

abbrev rest_in : Doubt → Rest
rest_in doubt = (doubt.view, doubt.writes)

abbrev doubt_of : TxnId → Rest → Doubt
doubt_of txn rest = record { txn = txn; view = rest.0; writes = rest.1 }

module _ (version : Version) where
  abbrev rest_bytes : Rest → List ℕ
  rest_bytes = pair_bytes view_bytes (writes_bytes version)

  abbrev IsRest : Rest → Type 0
  IsRest = PairAllowed IsView (IsWrites version)

  abbrev rest_at : TxnId → List ℕ → Result (Doubt × List ℕ) ℕ
  rest_at txn bytes = view_at bytes >>= λ view. writes_at version view.1 >>= λ writes. Ok (doubt_of txn (view.0, writes.0), writes.1)

  doubt_begun : Begun txn_in rest_in doubt_of rest_bytes IsRest (IsDoubt version) rest_at
  doubt_begun = record {
    exact = λ txn. then_field (λ view writes. doubt_of txn (view, writes)) view_free view_exact (λ view. made_exact (λ writes. doubt_of txn (view, writes)) (writes_exact version));
    one = one_value (pair_exact view_free view_exact (writes_exact version));
    free = pair_free (one_value view_exact) view_free (writes_free version);
    made = λ doubt. refl;
    txn_of = λ txn rest. refl;
    rest_of = λ txn rest. refl;
    to = λ doubt h. (h.0, (h.1, h.2));
    from = λ doubt txn rest. (txn, rest.0, rest.1);
  }

  abbrev doubts_ascend : Ascends (item_key txn_in rest_in doubt_of rest_bytes IsRest (IsDoubt version) rest_at) last_rank (doubt_bytes version) (IsDoubt version) (TxnBefore txn_in rest_in doubt_of rest_bytes IsRest (IsDoubt version) rest_at) (item_at txn_in rest_in doubt_of rest_bytes IsRest (IsDoubt version) rest_at)
  doubts_ascend = txns_ascend txn_in rest_in doubt_of rest_bytes IsRest (IsDoubt version) rest_at doubt_begun

  pub doubts_exact : Exact (IsDoubtsBytes version) (doubts_at version)
  unfolding doubts_at doubt_at
  doubts_exact = list_exact (λ doubt. rank doubt.txn) last_rank (doubt_bytes version) (IsDoubt version) (λ x y. txn_before x.txn y.txn ≡ true) (doubt_at version) (number_bytes 8) (λ n. n < 2 ^ 64) u64_at doubts_ascend (λ n h. omega (arith, h)) number8_free number8_exact

  pub doubts_free : IsFree (IsDoubtsBytes version)
  unfolding doubt_at
  doubts_free = list_free (λ doubt. rank doubt.txn) last_rank (doubt_bytes version) (IsDoubt version) (λ x y. txn_before x.txn y.txn ≡ true) (doubt_at version) (number_bytes 8) (λ n. n < 2 ^ 64) u64_at doubts_ascend number8_free number8_exact
