-- Transactions in a range are read exactly.
use Rattle.std.proofs.Common.{ℕ, ◌^◌, ◌≤◌, ◌<◌, List, [], ◌∷◌, ◌++◌, refl, sym, subst, ◌∙◌, arith}
use Rattle.std.proofs.lemmas.Bool.Decides.{nat_tests}
use Rattle.vp_text.proofs.Exact.{Exact, Then, Made, made_exact, exact_as}
use Rattle.vp_base.specs.Identifiers.{IsTxn}
use Rattle.vp_base.specs.Reading.{txn_of}
use Rattle.vp_base.specs.declared.ids.TxnId.{TxnId}
use Rattle.vp_bytes.specs.Fields.{number_bytes, IsTxnBytes}
use Rattle.vp_bytes.specs.Reading.{within}
use Rattle.vp_bytes.specs.Ranges.{IsNumberWithin, IsTxnRange, IsTxnBetween, IsTxnBetweenBytes, least_life, most_life, least_seq, most_seq, txn_between_at}
use Rattle.vp_bytes.proofs.Free.{IsFree, IsByteOf, byte_free, free_as}
use Rattle.vp_bytes.proofs.Identifiers.{within_exact, within_from, within_to, txn_spelled, txn_free}
use Rattle.vp_bytes.proofs.NumbersWithin.{number_within_exact, number_within_free}
use Rattle.vp_bytes.proofs.Runs.{then_where}

-- ---- the bounds of a part, given the parts before it

pub sites_some : (low high : TxnId) → IsTxnRange low high → low.site ≤ high.site
sites_some low high w = grind (arith, nat_tests, w.order)

pub lives_some : (low high : TxnId) (site : ℕ) → IsTxnRange low high → low.site ≤ site → site ≤ high.site → least_life low site ≤ most_life high site
lives_some low high site w above below = grind (arith, nat_tests, w.order, w.low_is.life_fits, w.high_is.life_some)

pub seqs_some : (low high : TxnId) (site life : ℕ) → IsTxnRange low high → low.site ≤ site → site ≤ high.site → least_life low site ≤ life → life ≤ most_life high site → least_seq low site life ≤ most_seq high site life
seqs_some low high site life w above below from to = grind (arith, nat_tests, w.order, w.low_is.seq_fits, w.high_is.seq_some)

life_fits : (high : TxnId) (site : ℕ) → IsTxn high → most_life high site < 256 ^ 4
life_fits high site h = grind (arith, nat_tests, h.life_fits)

seq_fits : (high : TxnId) (site life : ℕ) → IsTxn high → most_seq high site life < 256 ^ 4
seq_fits high site life h = grind (arith, nat_tests, h.seq_fits)

life_some : (low : TxnId) (site : ℕ) → IsTxn low → 1 ≤ least_life low site
life_some low site h = grind (arith, nat_tests, h.life_some)

seq_some : (low : TxnId) (site life : ℕ) → IsTxn low → 1 ≤ least_seq low site life
seq_some low site life h = grind (arith, nat_tests, h.seq_some)

-- parts within their bounds make a transaction in the range
pub from_bounds : (low high : TxnId) (site life seq : ℕ) → IsTxnRange low high → low.site ≤ site → site ≤ high.site → least_life low site ≤ life → life ≤ most_life high site → least_seq low site life ≤ seq → seq ≤ most_seq high site life
    → IsTxnBetween low high (txn_of site life seq)
from_bounds low high site life seq w above below above_life below_life above_seq below_seq =
    let ls = life_some low site w.low_is in
    let lf = life_fits high site w.high_is in
    let ss = seq_some low site life w.low_is in
    let sf = seq_fits high site life w.high_is in (
      record { site_some = omega (arith, w.low_is.site_some); site_fits = omega (arith, w.high_is.site_fits); life_some = omega arith; life_fits = omega arith; seq_some = omega arith; seq_fits = omega arith },
      grind (arith, nat_tests),
      grind (arith, nat_tests),
    )

record InBounds (low high txn : TxnId) : Type 0 where
  site_from : low.site ≤ txn.site
  site_to : txn.site ≤ high.site
  life_from : least_life low txn.site ≤ txn.life
  life_to : txn.life ≤ most_life high txn.site
  seq_from : least_seq low txn.site txn.life ≤ txn.seq
  seq_to : txn.seq ≤ most_seq high txn.site txn.life

in_bounds : (low high txn : TxnId) → IsTxnBetween low high txn → InBounds low high txn
in_bounds low high txn h =
    let t = h.0 in
    record {
      site_from = grind (arith, nat_tests, h.1);
      site_to = grind (arith, nat_tests, h.2);
      life_from = grind (arith, nat_tests, h.1, t.life_some);
      life_to = grind (arith, nat_tests, h.2, t.life_fits);
      seq_from = grind (arith, nat_tests, h.1, t.seq_some);
      seq_to = grind (arith, nat_tests, h.2, t.seq_fits);
    }

-- ---- reading

abbrev Seq : TxnId → TxnId → ℕ → ℕ → TxnId → List ℕ → Type 0
Seq low high site life = Made (IsNumberWithin 4 (least_seq low site life) (most_seq high site life)) (txn_of site life)

abbrev Life : TxnId → TxnId → ℕ → TxnId → List ℕ → Type 0
Life low high site = Then (IsNumberWithin 4 (least_life low site) (most_life high site)) (Seq low high site)

abbrev Parts : TxnId → TxnId → TxnId → List ℕ → Type 0
Parts low high = Then (IsByteOf (within low.site high.site)) (Life low high)

parts_exact : (low high : TxnId) → IsTxnRange low high → Exact (Parts low high) (txn_between_at low high)
unfolding txn_between_at
parts_exact low high w =
    then_where (within low.site high.site) (Life low high) (λ site t h. h.admitted) low byte_free (within_exact low.site high.site (sites_some low high w)) (λ site sited.
    let s = within_to low.site high.site site sited in
    let lives = lives_some low high site w s.0 s.1 in
    let fits = life_fits high site w.high_is in
    then_where (within (least_life low site) (most_life high site)) (Seq low high site) (λ life t h. within_from (least_life low site) (most_life high site) life h.allowed.0 h.allowed.1) low (number_within_free 4 (least_life low site) (most_life high site) fits) (number_within_exact 4 (least_life low site) (most_life high site) (omega arith) lives fits) (λ life lived.
    let l = within_to (least_life low site) (most_life high site) life lived in
    made_exact (txn_of site life) (number_within_exact 4 (least_seq low site life) (most_seq high site life) (omega arith) (seqs_some low high site life w s.0 s.1 l.0 l.1) (seq_fits high site life w.high_is))))

parts_to : (low high : TxnId) → IsTxnRange low high → (txn : TxnId) (t : List ℕ) → Parts low high txn t → IsTxnBetweenBytes low high txn t
parts_to low high w txn t h =
    let s = within_to low.site high.site h.first h.before.admitted in
    let l = h.after in
    let q = l.after in
    subst (λ (txn : TxnId). IsTxnBetweenBytes low high txn t) (sym q.is) (record {
      is = rw (txn_spelled (txn_of h.first l.first q.from), h.parts, h.before.is, l.parts, l.before.is, q.spelled.is) refl;
      allowed = from_bounds low high h.first l.first q.from w s.0 s.1 l.before.allowed.0 l.before.allowed.1 q.spelled.allowed.0 q.spelled.allowed.1;
    })

parts_from : (low high txn : TxnId) (t : List ℕ) → IsTxnBetweenBytes low high txn t → Parts low high txn t
parts_from low high txn t h =
    let b = in_bounds low high txn h.allowed in
    record {
      first = txn.site;
      front = txn.site ∷ [];
      back = number_bytes 4 txn.life ++ number_bytes 4 txn.seq;
      before = record { is = refl; admitted = within_from low.site high.site txn.site b.site_from b.site_to };
      after = record {
        first = txn.life;
        front = number_bytes 4 txn.life;
        back = number_bytes 4 txn.seq;
        before = record { is = refl; allowed = (b.life_from, b.life_to) };
        after = record { from = txn.seq; spelled = record { is = refl; allowed = (b.seq_from, b.seq_to) }; is = refl };
        parts = refl;
      };
      parts = h.is ∙ txn_spelled txn;
    }

pub txn_between_exact : (low high : TxnId) → IsTxnRange low high → Exact (IsTxnBetweenBytes low high) (txn_between_at low high)
txn_between_exact low high w = exact_as (parts_to low high w) (parts_from low high) (parts_exact low high w)

pub txn_between_free : (low high : TxnId) → IsFree (IsTxnBetweenBytes low high)
txn_between_free low high = free_as {L = IsTxnBytes} (λ txn t h. record { is = h.is; allowed = h.allowed.0 }) txn_free
