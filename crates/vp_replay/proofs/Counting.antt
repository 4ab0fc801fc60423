-- Counting replies one after the other.
use Rattle.std.proofs.Common.{◌≡◌, ◌∙◌, ap, sym, arith, ℕ, zero, suc, ◌+◌, ◌<◌, ◌≤◌, ◌^◌, Bool, true, false, cond, List, [], ◌∷◌, length, drop}
use Rattle.std.specs.Prelude.{get_or, filter}
use Rattle.vp_model.specs.Types.{Answer, Reply}
use Rattle.vp_replay.specs.Summary.{count_of}

abbrev pub one_if : Bool → ℕ
one_if true = 1
one_if false = 0

count_first : (test : Answer → Bool) (r : Reply) (rs : List Reply) → count_of test (r ∷ rs) ≡ one_if (test r.answer) + count_of test rs
count_first test r rs = go (test r.answer)
  where
    go : (b : Bool) → length (cond b (r ∷ filter (λ (reply : Reply). test reply.answer) rs) (filter (λ (reply : Reply). test reply.answer) rs)) ≡ one_if b + count_of test rs
    go true = omega arith
    go false = omega arith

-- the replies that are still to come are the next one and the rest
pub count_next : (test : Answer → Bool) (rs : List Reply) (i : ℕ) (r : Reply) → i < length rs → r ≡ get_or rs i r → count_of test (drop i rs) ≡ one_if (test r.answer) + count_of test (drop (i + 1) rs)
count_next test [] i r lt e = absurd (omega (arith, lt))
count_next test (x ∷ rs) zero r lt e = ap (λ (y : Reply). count_of test (y ∷ rs)) (sym e) ∙ count_first test r rs
count_next test (x ∷ rs) (suc i) r lt e = count_next test rs i r (omega (arith, lt)) e ∙ ap (λ k. one_if (test r.answer) + count_of test (drop k (x ∷ rs))) (later i)
  where
    later : (i : ℕ) → suc (i + 1) ≡ suc i + 1
    later i = omega arith

pub count_few : (test : Answer → Bool) (rs : List Reply) → count_of test rs ≤ length rs
count_few test [] = omega arith
count_few test (r ∷ rs) = let h = count_first test r rs in let few = count_few test rs in go (test r.answer) h few
  where
    go : (b : Bool) → count_of test (r ∷ rs) ≡ one_if b + count_of test rs → count_of test rs ≤ length rs → count_of test (r ∷ rs) ≤ length (r ∷ rs)
    go true h few = omega (arith, h, few)
    go false h few = omega (arith, h, few)

-- one more may be counted
pub count_fits : (test : Answer → Bool) (rs : List Reply) (i n : ℕ) (r : Reply) → length rs < 2 ^ 64 → n + count_of test (drop i rs) ≡ count_of test rs → i < length rs → r ≡ get_or rs i r → test r.answer ≡ true → n + 1 < 2 ^ 64
count_fits test rs i n r small so_far lt at is =
    let next = count_next test rs i r lt at in
    let one : one_if (test r.answer) ≡ 1 = ap one_if is in
    let few = count_few test rs in
    omega (arith, next, one, few, small, so_far)
