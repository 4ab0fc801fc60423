-- The loop over the digits of a number in a range, one turn at a time.
use Rattle.std.proofs.Common.{◌≡◌, ℕ, zero, suc, ◌+◌, ◌*◌, ◌-◌, ◌/◌, ◌^◌, ◌≤◌, ◌<◌, List, ◌∷◌, length, drop, get_or, Bool, true, false, Ok, Err, Result, IfErr, refl, sym, ap, ◌∙◌, arith, ◌⊎◌, inl, inr}
use Rattle.std.proofs.lemmas.Bool.{lt-ltb, and_from, and_parts}
use Rattle.std.proofs.lemmas.List.{drop_more, drop_all, length-drop}
use Rattle.std.proofs.lemmas.Nat.{pow-add}
use Rattle.std.proofs.Math.Nat.{pow-succ'}
use Rattle.vp_bytes.specs.Reading.{is_byte}
use Rattle.vp_bytes.specs.Ranges.{range_fits, digits_within_at, number_within_at}
use Rattle.vp_bytes.proofs.Identifiers.{within_from, within_to}

-- a shift by n bytes
shift_bytes : (n : ℕ) → 2 ^ (8 * n) ≡ 256 ^ n
shift_bytes zero = refl
shift_bytes (suc n) =
    let split : 2 ^ (8 * suc n) ≡ 2 ^ 8 * 2 ^ (8 * n) = ap (λ (k : ℕ). 2 ^ k) (let k : 8 * suc n ≡ 8 + 8 * n = omega arith in k) ∙ pow-add 2 8 (8 * n) in
    split ∙ ap (λ (p : ℕ). 256 * p) (shift_bytes n) ∙ sym (pow-succ' 256 n)

pub shifted : (x count good : ℕ) → x / 2 ^ (8 * (count - 1 - good)) ≡ x / 256 ^ (count - (good + 1))
shifted x count good = ap (λ (p : ℕ). x / p) (ap (λ (k : ℕ). 2 ^ (8 * k)) (omega arith) ∙ shift_bytes (count - (good + 1)))

-- the digits after the first `good` bytes
abbrev Following : ℕ → ℕ → ℕ → ℕ → ℕ → List ℕ → Result (ℕ × List ℕ) ℕ
Following low high count good front bytes = digits_within_at low high (count - good) front (drop good bytes)

one_more : (count good : ℕ) → good < count → count - good ≡ suc (count - (good + 1))
one_more count good lt = omega arith

after_next : (low high count good front : ℕ) (bytes : List ℕ) → good < count → good < length bytes
    → Following low high count good front bytes ≡ digits_within_at low high (suc (count - (good + 1))) front (get_or bytes good 0 ∷ drop (good + 1) bytes)
after_next low high count good front bytes lt inside = rw (one_more count good lt, drop_more bytes good 0 inside) refl

pub digit_goes : (low high count good front : ℕ) (bytes : List ℕ) → good < count → good < length bytes → get_or bytes good 0 < 256
    → low / 256 ^ (count - (good + 1)) ≤ front * 256 + get_or bytes good 0 → front * 256 + get_or bytes good 0 ≤ high / 256 ^ (count - (good + 1))
    → Following low high count good front bytes ≡ Following low high count (good + 1) (front * 256 + get_or bytes good 0) bytes
digit_goes low high count good front bytes lt inside byte above below =
    let n = count - (good + 1) in
    let c = get_or bytes good 0 in
    let fits : range_fits low high n front c ≡ true = and_from (is_byte c) _ (lt-ltb c 256 byte) (within_from (low / 256 ^ n) (high / 256 ^ n) (front * 256 + c) above below) in
    after_next low high count good front bytes lt inside ∙ rw fits refl

pub digit_fails : (low high count good front : ℕ) (bytes : List ℕ) → good < count → good < length bytes
    → (front * 256 + get_or bytes good 0 < low / 256 ^ (count - (good + 1))) ⊎ (high / 256 ^ (count - (good + 1)) < front * 256 + get_or bytes good 0)
    → Following low high count good front bytes ≡ Err (length bytes - good)
digit_fails low high count good front bytes lt inside outside =
    let n = count - (good + 1) in
    let c = get_or bytes good 0 in
    let no : range_fits low high n front c ≡ true → ⊥ = λ yes.
    let w = within_to (low / 256 ^ n) (high / 256 ^ n) (front * 256 + c) (and_parts (is_byte c) _ yes).1 in
    elim outside [ inl h ↦ omega (arith, h, w.0) | inr h ↦ omega (arith, h, w.1) ] in
    let f : (b : Bool) → range_fits low high n front c ≡ b → b ≡ false = λ b. elim b as (λ b. range_fits low high n front c ≡ b → b ≡ false) [ true ↦ λ e. absurd (no e) | false ↦ λ e. refl ] in
    let fails : range_fits low high n front c ≡ false = f (range_fits low high n front c) refl in
    let left : length (c ∷ drop (good + 1) bytes) ≡ length bytes - good = omega (arith, length-drop (good + 1) bytes) in
    after_next low high count good front bytes lt inside ∙ rw (fails, left) refl

pub digit_short : (low high count good front : ℕ) (bytes : List ℕ) → good < count → good ≡ length bytes → Following low high count good front bytes ≡ Err (length bytes - good)
digit_short low high count good front bytes lt over =
    let none : 0 ≡ length bytes - good = omega (arith, over) in
    rw (one_more count good lt, drop_all good bytes (omega (arith, over)), ← none) refl

pub digits_all : (low high count good front : ℕ) (bytes : List ℕ) → good ≡ count → Following low high count good front bytes ≡ Ok (front, drop good bytes)
digits_all low high count good front bytes all =
    let none : count - good ≡ 0 = omega (arith, all) in
    rw none refl

-- what follows from the loop for the whole number
pub fault_is : (low high count left : ℕ) (bytes : List ℕ) → digits_within_at low high count 0 bytes ≡ Err left → IfErr (number_within_at count low high bytes) (λ n. left ≡ n)
unfolding number_within_at
fault_is low high count left bytes e = rw e refl

pub no_fault : (low high count front : ℕ) (rest bytes : List ℕ) (P : ℕ → Type 0) → digits_within_at low high count 0 bytes ≡ Ok (front, rest) → IfErr (number_within_at count low high bytes) P
unfolding number_within_at
no_fault low high count front rest bytes P e = rw e tt
