-- Small facts on numbers, and on tests of them.
use Rattle.std.proofs.Common.{◌≡◌, ◌≢◌, ◌≤◌, ℕ, ◌+◌, true, false, arith}
use Rattle.std.specs.Prelude.{◌==◌, not}
use Rattle.std.proofs.lemmas.Bool.Decides.{nat_tests}

pub one_above : (a b : ℕ) → a ≤ b → a ≡ b + 1 → ⊥
one_above a b h e = omega arith

pub eq_not : (a b : ℕ) → a ≢ b → (a == b) ≡ false
eq_not a b n = grind (arith, nat_tests, n)

pub not_same : (a b : ℕ) → a ≢ b → not (a == b) ≡ true
not_same a b n = grind (arith, nat_tests, n)

pub differs : (a b : ℕ) → not (a == b) ≡ true → a ≢ b
differs a b e same = grind (arith, nat_tests, e, same)

pub from_first : (i : ℕ) → 0 + i ≡ i
from_first i = omega arith

-- a number is itself, by its test
pub eq_self : (n : ℕ) → (n == n) ≡ true
eq_self n = grind (arith, nat_tests)

-- and no other one
pub unequal : (a b : ℕ) → (a == b) ≡ false → a ≢ b
unequal a b e = grind (arith, nat_tests, e)

pub at_most_equal : (a b : ℕ) → a ≡ b → a ≤ b
at_most_equal a b e = omega arith

pub at_most_trans : (a b c : ℕ) → a ≤ b → b ≤ c → a ≤ c
at_most_trans a b c h k = omega arith
