-- Which half is the current one, by the generation of the other one.
use Rattle.std.proofs.Common.{◌≡◌, ℕ, zero, suc, ◌+◌, ◌-◌, ◌<◌, ◌≤◌, List, refl, arith}
use Rattle.std.proofs.lemmas.Bool.Decides.{nat_tests}
use Rattle.vp_outside.specs.Disk.{Halves, half_of, InHalf}
use Rattle.vp_stable.specs.Halves.{HasGeneration, higher, IsCurrent}
use Rattle.vp_stable.proofs.Generations.{generations_are_one}

abbrev pub other_half : ℕ → ℕ
other_half zero = 1
other_half (suc n) = 0

pub other_is : (half : ℕ) → half ≤ 1 → 1 - half ≡ other_half half
other_is zero le = refl
other_is (suc zero) le = refl
other_is (suc (suc k)) le = absurd (omega (arith, le))

-- a step in one half leaves the other one as it is
pub other_stays : (half : ℕ) (step : List ℕ → List ℕ → Type 0) (old new : Halves) → InHalf half step old new → half_of (other_half half) new ≡ half_of (other_half half) old
other_stays zero step old new change = change.1
other_stays (suc n) step old new change = change.1

-- and a step in the other one leaves this one as it is
pub this_stays : (half : ℕ) (step : List ℕ → List ℕ → Type 0) (old new : Halves) → InHalf (other_half half) step old new → half_of half new ≡ half_of half old
this_stays zero step old new change = change.1
this_stays (suc n) step old new change = change.1

-- The other half has no generation by which it would be the current one, where this half has the given generation.
pub record IsBelow (half generation : ℕ) (log : Halves) : Type 0 where
  pub other : ℕ
  pub of_other : HasGeneration other (half_of (other_half half) log)
  pub below : other + half ≤ generation

not_higher : (m n : ℕ) → 0 ≡ higher m n → n ≤ m
not_higher m n is = grind (arith, nat_tests)

is_higher : (m n : ℕ) → 1 ≡ higher m n → m < n
is_higher m n is = grind (arith, nat_tests)

higher_not : (m n : ℕ) → n ≤ m → 0 ≡ higher m n
higher_not m n le = grind (arith, nat_tests)

higher_is : (m n : ℕ) → m < n → 1 ≡ higher m n
higher_is m n lt = grind (arith, nat_tests)

higher_few : (m n k : ℕ) → suc (suc k) ≡ higher m n → ⊥
higher_few m n k is = grind (arith, nat_tests)

pub below_current : (half generation : ℕ) (log : Halves) → IsCurrent half log → HasGeneration generation (half_of half log) → (half ≤ 1) × IsBelow half generation log
below_current zero generation log current has =
    let same = generations_are_one current.first generation log.0 current.of_first has in
    (omega arith, record { other = current.second; of_other = current.of_second; below = omega (arith, same, not_higher current.first current.second current.is) })
below_current (suc zero) generation log current has =
    let same = generations_are_one current.second generation log.1 current.of_second has in
    (omega arith, record { other = current.first; of_other = current.of_first; below = omega (arith, same, is_higher current.first current.second current.is) })
below_current (suc (suc k)) generation log current has = absurd (higher_few current.first current.second k current.is)

pub current_above : (half generation : ℕ) (log : Halves) → half ≤ 1 → HasGeneration generation (half_of half log) → IsBelow half generation log → IsCurrent half log
current_above zero generation log le has is = record { first = generation; second = is.other; of_first = has; of_second = is.of_other; is = higher_not generation is.other (omega (arith, is.below)) }
current_above (suc zero) generation log le has is = record { first = is.other; second = generation; of_first = is.of_other; of_second = has; is = higher_is is.other generation (omega (arith, is.below)) }
current_above (suc (suc k)) generation log le has is = absurd (omega (arith, le))
