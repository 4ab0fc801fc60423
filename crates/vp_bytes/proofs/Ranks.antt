-- The ranks of transactions, which are in order by them.
use Rattle.std.proofs.Common.{◌≡◌, ℕ, ◌+◌, ◌*◌, ◌-◌, ◌/◌, ◌%◌, ◌^◌, ◌≤◌, ◌<◌, true, false, refl, sym, ap, ◌∙◌, arith}
use Rattle.std.proofs.lemmas.Bool.Decides.{nat_tests}
use Rattle.vp_base.specs.Identifiers.{IsTxn}
use Rattle.vp_base.specs.Order.{txn_before}
use Rattle.vp_base.specs.Reading.{txn_of}
use Rattle.vp_base.specs.declared.ids.TxnId.{TxnId}
use Rattle.vp_bytes.specs.Ranges.{IsTxnRange, IsTxnBetween, rank, txn_of_rank, last_rank}

-- the rank, without differences of numbers
pub rank_sum : (t : TxnId) → IsTxn t → rank t + (2 ^ 32 - 1) * (2 ^ 32 - 1) + (2 ^ 32 - 1) + 1 ≡ t.site * ((2 ^ 32 - 1) * (2 ^ 32 - 1)) + t.life * (2 ^ 32 - 1) + t.seq
unfolding rank
rank_sum t h = omega (arith, h.site_some, h.life_some, h.seq_some)

pub before_rank : (t u : TxnId) → IsTxn t → IsTxn u → txn_before t u ≡ true → rank t < rank u
before_rank t u h k b = grind (arith, nat_tests, rank_sum t h, rank_sum u k, h.site_fits)

pub rank_last : (t : TxnId) → IsTxn t → rank t ≤ last_rank
rank_last t h = omega (arith, rank_sum t h, h.site_fits, h.life_fits, h.seq_fits)

pub ranked_txn : (n : ℕ) → n ≤ last_rank → IsTxn (txn_of_rank n)
unfolding txn_of_rank
ranked_txn n le = record { site_some = omega arith; site_fits = omega arith; life_some = omega arith; life_fits = omega arith; seq_some = omega arith; seq_fits = omega arith }

pub rank_ranked : (n : ℕ) → rank (txn_of_rank n) ≡ n
unfolding rank txn_of_rank
rank_ranked n = omega arith

pub rank_before : (t u : TxnId) → IsTxn t → IsTxn u → rank t < rank u → txn_before t u ≡ true
rank_before t u h k b = grind (arith, nat_tests, rank_sum t h, rank_sum u k, h.life_fits, k.life_fits, h.seq_fits, k.seq_fits)

pub rank_from : (t u : TxnId) → IsTxn t → IsTxn u → txn_before t u ≡ false → rank u ≤ rank t
rank_from t u h k b = grind (arith, nat_tests, rank_sum t h, rank_sum u k, h.site_fits)

pub from_rank : (t u : TxnId) → IsTxn t → IsTxn u → rank u ≤ rank t → txn_before t u ≡ false
from_rank t u h k b = grind (arith, nat_tests, rank_sum t h, rank_sum u k, h.site_fits)

same_parts : (site life seq : ℕ) (t : TxnId) → site ≡ t.site → life ≡ t.life → seq ≡ t.seq → txn_of site life seq ≡ t
same_parts site life seq t p q r = rw (p, q, r) refl

pub ranked_rank : (t : TxnId) → IsTxn t → txn_of_rank (rank t) ≡ t
unfolding txn_of_rank
ranked_rank t h =
    let sum = rank_sum t h in
    same_parts (rank t / (2 ^ 32 - 1) / (2 ^ 32 - 1) + 1) (rank t / (2 ^ 32 - 1) % (2 ^ 32 - 1) + 1) (rank t % (2 ^ 32 - 1) + 1) t
    (omega (arith, h.site_some, h.life_some, h.life_fits, h.seq_some, h.seq_fits))
    (omega (arith, h.site_some, h.life_some, h.life_fits, h.seq_some, h.seq_fits))
    (omega (arith, h.site_some, h.life_some, h.life_fits, h.seq_some, h.seq_fits))

-- only one transaction has this rank
pub of_rank : (t : TxnId) → IsTxn t → (n : ℕ) → rank t ≡ n → t ≡ txn_of_rank n
of_rank t h n e = sym (ranked_rank t h) ∙ ap txn_of_rank e

-- ---- ranges of ranks

-- others have room above the rank
pub ranks_range : (n least : ℕ) → least + n ≤ last_rank → IsTxnRange (txn_of_rank least) (txn_of_rank (last_rank - n))
ranks_range n least room =
    let low = ranked_txn least (omega (arith, room)) in
    let high = ranked_txn (last_rank - n) (omega arith) in
    record { low_is = low; high_is = high; order = from_rank (txn_of_rank (last_rank - n)) (txn_of_rank least) high low (omega (arith, rank_ranked least, rank_ranked (last_rank - n), room)) }

pub ranks_between : (n least : ℕ) (t : TxnId) → least + n ≤ last_rank → IsTxnBetween (txn_of_rank least) (txn_of_rank (last_rank - n)) t → (least ≤ rank t) × (rank t + n ≤ last_rank)
ranks_between n least t room h =
    let w = ranks_range n least room in
    let above = rank_from t (txn_of_rank least) h.0 w.low_is h.1 in
    let below = rank_from (txn_of_rank (last_rank - n)) t w.high_is h.0 h.2 in
    (omega (arith, above, rank_ranked least), omega (arith, below, room, rank_ranked (last_rank - n)))

pub between_ranks : (n least : ℕ) (t : TxnId) → least + n ≤ last_rank → IsTxn t → least ≤ rank t → rank t + n ≤ last_rank → IsTxnBetween (txn_of_rank least) (txn_of_rank (last_rank - n)) t
between_ranks n least t room h above below =
    let w = ranks_range n least room in
    (h, from_rank t (txn_of_rank least) h w.low_is (omega (arith, above, rank_ranked least)), from_rank (txn_of_rank (last_rank - n)) t w.high_is h (omega (arith, below, rank_ranked (last_rank - n))))
