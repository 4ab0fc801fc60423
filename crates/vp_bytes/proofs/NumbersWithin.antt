-- Numbers of a range are read exactly.
use Rattle.std.proofs.Common.{◌≡◌, ℕ, zero, suc, ◌+◌, ◌*◌, ◌-◌, ◌/◌, ◌^◌, ◌≤◌, ◌<◌, List, [], ◌∷◌, ◌++◌, Bool, true, false, Result, refl, sym, ap, subst, ◌∙◌, arith, not, nat_lt, ◌||◌}
use Rattle.std.proofs.lemmas.Bool.{lt-ltb, ltb-true, and_from, and_parts, or_left}
use Rattle.std.proofs.lemmas.List.{append-nil}
use Rattle.std.proofs.lemmas.Nat.{div_below, le-div}
use Rattle.std.proofs.Math.Nat.{mul_assoc, mul_comm, pow-succ', div-one, div-div-eq-div-mul, mul-le-mul_right, div-mul-le_self, one-le-pow}
use Rattle.vp_text.proofs.Exact.{Apart, Exact, exact_as, Then}
use Rattle.vp_bytes.specs.Reading.{is_byte, digit_fits}
use Rattle.vp_bytes.specs.Ranges.{IsNumberWithin, range_fits, digits_within_at, number_within_at}
use Rattle.vp_bytes.proofs.Digits.{HasDigits, digits_exact}
use Rattle.vp_bytes.proofs.Free.{IsFree, IsByteOf, byte_free, byte_exact, free_as}
use Rattle.vp_bytes.proofs.Identifiers.{number_spelled, within_from, within_to}
use Rattle.vp_bytes.proofs.NumberBytes.{IsNumberBytes, number_exact, number_free}
use Rattle.vp_bytes.proofs.Runs.{then_where}

-- If one reader is exact for two languages, they are the same language.
pub same_language : {A : Type 0} {L K : A → List ℕ → Type 0} {P : List ℕ → Result (A × List ℕ) ℕ} → Exact L P → Exact K P → (a : A) (t : List ℕ) → L a t → K a t
same_language {A = A} {L = L} {K = K} {P = P} e f a t l =
    let stops : (b : A) (r : List ℕ) → L b (t ++ r) → Apart r [] = λ b r. elim r as (λ r. L b (t ++ r) → Apart r []) [ [] ↦ λ h. tt | x ∷ s ↦ λ h. tt ] in
    let p = f.ok (t ++ []) a [] (e.again a t [] l stops) in
    let same : t ≡ p.text = sym (append-nil t) ∙ p.parts ∙ append-nil p.text in
    subst (λ (t : List ℕ). K a t) (sym same) p.spelled

-- The text is n bytes, and after the bytes that made the front they make the number x, from low to high.
abbrev HasDigitsWithin : ℕ → ℕ → ℕ → ℕ → ℕ → List ℕ → Type 0
HasDigitsWithin low high zero front x text = (text ≡ []) × (x ≡ front)
HasDigitsWithin low high (suc n) front x text = Then (IsByteOf (range_fits low high n front)) (λ c. HasDigitsWithin low high n (front * 256 + c)) x text

-- some number from low to high begins with this front, and n bytes follow
abbrev Opens : ℕ → ℕ → ℕ → ℕ → Type 0
Opens low high n front = (low / 256 ^ n ≤ front) × (front ≤ high / 256 ^ n)

shorter : (x n : ℕ) → x / 256 ^ suc n ≡ x / 256 ^ n / 256
shorter x n = ap (λ (p : ℕ). x / p) (pow-succ' 256 n ∙ mul_comm 256 (256 ^ n)) ∙ sym (div-div-eq-div-mul x (256 ^ n) 256)

power_some : (n : ℕ) → 1 ≤ 256 ^ n
power_some n = one-le-pow n 256 (omega arith)

quotients : (low high p : ℕ) → 1 ≤ p → low ≤ high → low / p ≤ high / p
quotients low high p some le = le-div (low / p) high p some (omega (arith, div-mul-le_self low p))

-- the least byte with which a number goes on
next_fits : (low high n front : ℕ) → low ≤ high → Opens low high (suc n) front → range_fits low high n front (low / 256 ^ n - front * 256) ≡ true
next_fits low high n front le opens =
    let from : low / 256 ^ n / 256 ≤ front = subst (λ (q : ℕ). q ≤ front) (shorter low n) opens.0 in
    let to : front ≤ high / 256 ^ n / 256 = subst (λ (q : ℕ). front ≤ q) (shorter high n) opens.1 in
    let order = quotients low high (256 ^ n) (power_some n) le in
    and_from (is_byte (low / 256 ^ n - front * 256)) _ (lt-ltb (low / 256 ^ n - front * 256) 256 (omega (arith, from)))
    (within_from (low / 256 ^ n) (high / 256 ^ n) (front * 256 + (low / 256 ^ n - front * 256)) (omega arith) (omega (arith, to, order)))

fits_opens : (low high n front c : ℕ) → range_fits low high n front c ≡ true → Opens low high n (front * 256 + c)
fits_opens low high n front c h = within_to (low / 256 ^ n) (high / 256 ^ n) (front * 256 + c) (and_parts (is_byte c) _ h).1

nothing_exact : (low high front : ℕ) → Exact (HasDigitsWithin low high 0 front) (digits_within_at low high 0 front)
nothing_exact low high front = exact_as (λ x t h. h) (λ x t h. h) (digits_exact false 0 front)

digits_within_exact : (low high : ℕ) → low ≤ high → (n front : ℕ) → Opens low high n front → Exact (HasDigitsWithin low high n front) (digits_within_at low high n front)
digits_within_exact low high le zero front opens = nothing_exact low high front
digits_within_exact low high le (suc n) front opens =
    then_where (range_fits low high n front) (λ c. HasDigitsWithin low high n (front * 256 + c)) (λ c t h. h.admitted) 0 byte_free (byte_exact (range_fits low high n front) (low / 256 ^ n - front * 256) (next_fits low high n front le opens))
    (λ c h. digits_within_exact low high le n (front * 256 + c) (fits_opens low high n front c h))

-- ---- they are the digits of numbers from low to high

digits_between : (some : Bool) (n front x : ℕ) (text : List ℕ) → HasDigits some n front x text → (front * 256 ^ n ≤ x) × (x < (front + 1) * 256 ^ n)
digits_between some zero front x text h = (omega (arith, h.1), omega (arith, h.1))
digits_between some (suc n) front x text h =
    let c = h.first in
    let byte : c < 256 = ltb-true c 256 (and_parts (is_byte c) _ h.before.admitted).0 in
    let k = digits_between some n (front * 256 + c) x h.back h.after in
    let power = pow-succ' 256 n in
    let low : front * 256 * 256 ^ n ≤ (front * 256 + c) * 256 ^ n = mul-le-mul_right (256 ^ n) (omega arith) in
    let high : (front * 256 + c + 1) * 256 ^ n ≤ (front + 1) * 256 * 256 ^ n = mul-le-mul_right (256 ^ n) (omega arith) in
    let first : front * 256 * 256 ^ n ≡ front * 256 ^ suc n = mul_assoc front 256 (256 ^ n) ∙ ap (λ (p : ℕ). front * p) (sym power) in
    let last : (front + 1) * 256 * 256 ^ n ≡ (front + 1) * 256 ^ suc n = mul_assoc (front + 1) 256 (256 ^ n) ∙ ap (λ (p : ℕ). (front + 1) * p) (sym power) in
    (omega (arith, k.0, low, first), omega (arith, k.1, high, last))

digit_from : (n front c : ℕ) → is_byte c ≡ true → digit_fits false n front c ≡ true
digit_from n front c h = and_from (is_byte c) _ h (or_left (not false) (nat_lt 0 n || nat_lt 0 (front * 256 + c)) refl)

ranged : (low high n front x : ℕ) (text : List ℕ) → Opens low high n front → HasDigitsWithin low high n front x text → HasDigits false n front x text × (low ≤ x) × (x ≤ high)
ranged low high zero front x text opens h = (h, omega (arith, h.1, opens.0, div-one low), omega (arith, h.1, opens.1, div-one high))
ranged low high (suc n) front x text opens h =
    let c = h.first in
    let k = ranged low high n (front * 256 + c) x h.back (fits_opens low high n front c h.before.admitted) h.after in (
      record {
        first = c;
        front = h.front;
        back = h.back;
        before = record { is = h.before.is; admitted = digit_from n front c (and_parts (is_byte c) _ h.before.admitted).0 };
        after = k.0;
        parts = h.parts;
      },
      k.1,
      k.2,
    )

opens_from : (low high n front x : ℕ) (text : List ℕ) → HasDigits false n front x text → low ≤ x → x ≤ high → Opens low high n front
opens_from low high n front x text h above below =
    let k = digits_between false n front x text h in
    let from : low / 256 ^ n < front + 1 = div_below low (256 ^ n) (front + 1) (power_some n) (omega (arith, k.1, above)) in
    (omega (arith, from), le-div front high (256 ^ n) (power_some n) (omega (arith, k.0, below)))

unranged : (low high n front x : ℕ) (text : List ℕ) → HasDigits false n front x text → low ≤ x → x ≤ high → HasDigitsWithin low high n front x text
unranged low high zero front x text h above below = h
unranged low high (suc n) front x text h above below =
    let c = h.first in
    let opens = opens_from low high n (front * 256 + c) x h.back h.after above below in
    record {
      first = c;
      front = h.front;
      back = h.back;
      before = record { is = h.before.is; admitted = and_from (is_byte c) _ (and_parts (is_byte c) _ h.before.admitted).0 (within_from (low / 256 ^ n) (high / 256 ^ n) (front * 256 + c) opens.0 opens.1) };
      after = unranged low high n (front * 256 + c) x h.back h.after above below;
      parts = h.parts;
    }

-- ---- numbers

whole_opens : (count low high : ℕ) → low < 256 ^ count → Opens low high count 0
whole_opens count low high fits =
    let none : low / 256 ^ count < 1 = div_below low (256 ^ count) 1 (power_some count) (omega (arith, fits)) in
    (omega (arith, none), omega arith)

pub from_number : (count low high x : ℕ) (t : List ℕ) → IsNumberBytes false count x t → low ≤ x → x ≤ high → IsNumberWithin count low high x t
from_number count low high x t h above below = record { is = h.is ∙ sym (number_spelled count x); allowed = (above, below) }

within_as : (count low high : ℕ) → 1 ≤ count → low < 256 ^ count → (x : ℕ) (t : List ℕ) → HasDigitsWithin low high count 0 x t → IsNumberWithin count low high x t
within_as count low high some fits x t h =
    let k = ranged low high count 0 x t (whole_opens count low high fits) h in
    let number = same_language (digits_exact false count 0) (number_exact false count some) x t k.0 in
    from_number count low high x t number k.1 k.2

pub as_number : (count low high : ℕ) → high < 256 ^ count → (x : ℕ) (t : List ℕ) → IsNumberWithin count low high x t → IsNumberBytes false count x t
as_number count low high fits x t h = record { is = h.is ∙ number_spelled count x; fits = omega (arith, h.allowed.1); above = λ s. absurd cc }

as_within : (count low high : ℕ) → 1 ≤ count → high < 256 ^ count → (x : ℕ) (t : List ℕ) → IsNumberWithin count low high x t → HasDigitsWithin low high count 0 x t
as_within count low high some fits x t h =
    let digits = same_language (number_exact false count some) (digits_exact false count 0) x t (as_number count low high fits x t h) in
    unranged low high count 0 x t digits h.allowed.0 h.allowed.1

pub number_within_exact : (count low high : ℕ) → 1 ≤ count → low ≤ high → high < 256 ^ count → Exact (IsNumberWithin count low high) (number_within_at count low high)
unfolding number_within_at
number_within_exact count low high some le fits =
    let low_fits : low < 256 ^ count = omega arith in
    exact_as (within_as count low high some low_fits) (as_within count low high some fits) (digits_within_exact low high le count 0 (whole_opens count low high low_fits))

pub number_within_free : (count low high : ℕ) → high < 256 ^ count → IsFree (IsNumberWithin count low high)
number_within_free count low high fits = free_as (as_number count low high fits) (number_free false count)
