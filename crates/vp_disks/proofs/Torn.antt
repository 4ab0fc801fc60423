-- Bytes that are written over a half and past its end.
use Rattle.std.proofs.Common.{◌≡◌, ◌∙◌, ℕ, zero, suc, ◌+◌, ◌-◌, ◌≤◌, List, [], ◌∷◌, ◌++◌, length, take, drop, replicate, refl, sym, ap, arith, length-append, append-nil, append_assoc}
use Rattle.std.proofs.lemmas.List.{drop_all, take-append-le, length-replicate, replicate-append-replicate, take_min}
use Rattle.vp_outside.specs.Disk.{write_bytes_at, Torn}

take-more : (at n more : ℕ) (old : List ℕ) → at ≤ length old + n → take at (old ++ replicate (n + more) 0) ≡ take at (old ++ replicate n 0)
take-more at n more old within =
    ap (λ zeros. take at (old ++ zeros)) (sym (replicate-append-replicate n more 0))
    ∙ ap (take at) (sym (append_assoc old (replicate n 0) (replicate more 0)))
    ∙ take-append-le at (old ++ replicate n 0) (replicate more 0) (omega (arith, length-append old (replicate n 0), length-replicate {A = ℕ} n 0))

take-lengthened : (at k : ℕ) (old : List ℕ) → take at (old ++ replicate (at + k - length old) 0) ≡ take at (old ++ replicate (at - length old) 0)
take-lengthened at k old =
    ap (λ n. take at (old ++ replicate n 0)) (split at k (length old)) ∙ take-more at (at - length old) (at + k - length old - (at - length old)) old (omega arith)
  where
    split : (a b c : ℕ) → a + b - c ≡ (a - c) + (a + b - c - (a - c))
    split a b c = omega arith

drop-lengthened : (n : ℕ) (old : List ℕ) → drop n (old ++ replicate (n - length old) 0) ≡ drop n old
drop-lengthened zero old = ap (λ n. old ++ replicate n 0) (none (length old)) ∙ append-nil old
  where
    none : (n : ℕ) → 0 - n ≡ 0
    none n = omega arith
drop-lengthened (suc n) [] = drop_all (suc n) (replicate (suc n - 0) 0) (omega (arith, length-replicate {A = ℕ} (suc n - 0) 0))
drop-lengthened (suc n) (byte ∷ old) = ap (λ k. drop n (old ++ replicate k 0)) (one_less (length old)) ∙ drop-lengthened n old
  where
    one_less : (k : ℕ) → suc n - suc k ≡ n - k
    one_less k = omega arith

pub written-lengthened : (at : ℕ) (bytes old : List ℕ) → take at (old ++ replicate (at + length bytes - length old) 0) ++ bytes ++ drop (at + length bytes) (old ++ replicate (at + length bytes - length old) 0) ≡ write_bytes_at at bytes old
written-lengthened at bytes old =
    ap (λ front. front ++ bytes ++ drop (at + length bytes) (old ++ replicate (at + length bytes - length old) 0)) (take-lengthened at (length bytes) old)
    ∙ ap (λ rest. take at (old ++ replicate (at - length old) 0) ++ bytes ++ rest) (drop-lengthened (at + length bytes) old)

-- a write that did nothing is one of those that a crash may leave
pub Torn-refl : (at n : ℕ) (old : List ℕ) → Torn at n old old
Torn-refl at n old = record { before = take_min at old; after = refl; no_shorter = omega arith; no_longer = omega arith }
