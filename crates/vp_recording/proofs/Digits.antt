-- Digits of bytes, and pairs of them.
use Rattle.std.proofs.Common.{◌≡◌, ℕ, ◌+◌, ◌*◌, ◌/◌, ◌%◌, ◌<◌, ◌≤◌, zero, suc, Bool, true, false, cond, ◌&&◌, ◌||◌, not, List, ◌∷◌, [], ◌++◌, length, get_or, take, slice_index, refl, ap, sym, subst, ◌∙◌, arith, ⊎_elim}
use Rattle.std.specs.Prelude.{◌==◌, nat_lt}
use Rattle.std.specs.List.{AllByRecursion}
use Rattle.std.proofs.lemmas.Bool.{and_parts, cases_lt, eqb-true, ltb-true}
use Rattle.std.proofs.lemmas.Bool.Decides.{nat_tests}
use Rattle.hex.specs.Hex.{encode_with, encode_lower, lower_digits}
use Rattle.vp_recording.specs.Hex.{is_digit, digit_value, is_paired, bytes_of}

-- ---- what a computation shows of each number below another one

abbrev all_below : (ℕ → Bool) → ℕ → Bool
all_below test zero = true
all_below test (suc n) = test n && all_below test n

at_below : (test : ℕ → Bool) (n k : ℕ) → all_below test n ≡ true → k < n → test k ≡ true
at_below test zero k h lt = absurd (omega (arith, lt))
at_below test (suc n) k h lt =
    let parts = and_parts (test n) (all_below test n) h in
    ⊎_elim
    (λ (below : k < n). at_below test n k parts.1 below)
    (λ (top : n ≤ k). let e : k ≡ n = omega (arith, lt, top) in subst (λ (m : ℕ). test m ≡ true) (sym e) parts.0)
    (cases_lt k n)

-- a digit is that of its value
abbrev is_read : ℕ → Bool
is_read c = not (is_digit c) || ((slice_index lower_digits (digit_value c) == c) && nat_lt (digit_value c) 16)

-- a value is that of its digit
abbrev is_written : ℕ → Bool
is_written v = is_digit (slice_index lower_digits v) && (digit_value (slice_index lower_digits v) == v)

digit_small : (c : ℕ) → is_digit c ≡ true → c < 103
digit_small c h = grind (arith, nat_tests, h)

abbrev eqb : Bool → Bool → Bool
eqb true b = b
eqb false b = not b

same_of : (a b : Bool) → eqb a b ≡ true → a ≡ b
same_of true true h = refl
same_of true false h = absurd cc
same_of false true h = absurd cc
same_of false false h = refl

of_read : (a b : Bool) → a ≡ true → (not a || b) ≡ true → b ≡ true
of_read true b e h = h
of_read false b e h = absurd cc

pub digit_read : (c : ℕ) → is_digit c ≡ true → (slice_index lower_digits (digit_value c) ≡ c) × (digit_value c < 16)
digit_read c h =
    let t = of_read (is_digit c) _ h (at_below is_read 103 c refl (digit_small c h)) in
    let parts = and_parts (slice_index lower_digits (digit_value c) == c) (nat_lt (digit_value c) 16) t in
    (eqb-true _ _ parts.0, ltb-true _ _ parts.1)

pub digit_written : (v : ℕ) → v < 16 → (is_digit (slice_index lower_digits v) ≡ true) × (digit_value (slice_index lower_digits v) ≡ v)
digit_written v h =
    let parts = and_parts (is_digit (slice_index lower_digits v)) (digit_value (slice_index lower_digits v) == v) (at_below is_written 16 v refl h) in
    (parts.0, eqb-true _ _ parts.1)

-- ---- the table of values, by bytes

abbrev pub values_from : ℕ → ℕ → List ℕ
values_from b zero = []
values_from b (suc n) = cond (is_digit b) (digit_value b) 255 ∷ values_from (b + 1) n

abbrev pub values : List ℕ
values = values_from 0 256

-- the value of a byte tells whether it is a digit, and is a digit's
abbrev is_told : ℕ → Bool
is_told b = eqb (nat_lt (get_or values b 0) 16) (is_digit b) && (not (is_digit b) || (get_or values b 0 == digit_value b))

told : (b : ℕ) → b < 256 → is_told b ≡ true
told b lt = at_below is_told 256 b refl lt

pub value_tells : (b : ℕ) → b < 256 → nat_lt (get_or values b 0) 16 ≡ is_digit b
value_tells b lt = same_of _ _ (and_parts (eqb (nat_lt (get_or values b 0) 16) (is_digit b)) _ (told b lt)).0

pub value_is : (b : ℕ) → b < 256 → is_digit b ≡ true → get_or values b 0 ≡ digit_value b
value_is b lt digit = eqb-true _ _ (of_read (is_digit b) _ digit (and_parts (eqb (nat_lt (get_or values b 0) 16) (is_digit b)) _ (told b lt)).1)

-- ---- pairs

abbrev pub AreDigits : List ℕ → Type 0
AreDigits = AllByRecursion (λ c. is_digit c ≡ true)

high_is : (h l : ℕ) → l < 16 → (h * 16 + l) / 16 ≡ h
high_is h l lt = omega (arith, lt)

low_is : (h l : ℕ) → l < 16 → (h * 16 + l) % 16 ≡ l
low_is h l lt = omega (arith, lt)

pair_fits : (h l : ℕ) → h < 16 → l < 16 → h * 16 + l < 256
pair_fits h l a b = omega (arith, a, b)

pub record ArePairs (digits : List ℕ) : Type 0 where
  pub text : encode_lower (bytes_of digits) ≡ digits
  pub bytes_are : AllByRecursion (λ b. b < 256) (bytes_of digits)
  pub count : length digits ≡ 2 * length (bytes_of digits)

pub pairs_are : (digits : List ℕ) → AreDigits digits → is_paired digits ≡ true → ArePairs digits
unfolding encode_with
pairs_are [] all e = record { text = refl; bytes_are = tt; count = refl }
pairs_are (a ∷ []) all e = absurd cc
pairs_are (a ∷ b ∷ digits) all e =
    let rest = pairs_are digits all.1.1 e in
    let high = digit_read a all.0 in
    let low = digit_read b all.1.0 in
    record {
      text = rw (high_is (digit_value a) (digit_value b) low.1, low_is (digit_value a) (digit_value b) low.1, high.0, low.0, rest.text) refl;
      bytes_are = (pair_fits (digit_value a) (digit_value b) high.1 low.1, rest.bytes_are);
      count = (let n = rest.count in omega (arith, n));
    }

high_fits : (b : ℕ) → b < 256 → b / 16 < 16
high_fits b lt = omega (arith, lt)

low_fits : (b : ℕ) → b % 16 < 16
low_fits b = omega arith

joined : (b : ℕ) → b / 16 * 16 + b % 16 ≡ b
joined b = omega arith

pub record AreWritten (bytes : List ℕ) : Type 0 where
  pub digits : AreDigits (encode_lower bytes)
  pub paired : is_paired (encode_lower bytes) ≡ true
  pub bytes_are : bytes_of (encode_lower bytes) ≡ bytes
  pub count : length (encode_lower bytes) ≡ 2 * length bytes

pub written_are : (bytes : List ℕ) → AllByRecursion (λ b. b < 256) bytes → AreWritten bytes
unfolding encode_with
written_are [] all = record { digits = tt; paired = refl; bytes_are = refl; count = refl }
written_are (b ∷ bytes) all =
    let rest = written_are bytes all.1 in
    let high = digit_written (b / 16) (high_fits b all.0) in
    let low = digit_written (b % 16) (low_fits b) in
    record {
      digits = (high.0, (low.0, rest.digits));
      paired = rest.paired;
      bytes_are = rw (high.1, low.1, rest.bytes_are, joined b) refl;
      count = (let n = rest.count in omega (arith, n));
    }

-- ---- pairs one after the other

pub pairs_more : (digits : List ℕ) (k : ℕ) → 2 * k + 1 < length digits
    → bytes_of (take (2 * (k + 1)) digits) ≡ bytes_of (take (2 * k) digits) ++ (digit_value (get_or digits (2 * k) 0) * 16 + digit_value (get_or digits (2 * k + 1) 0)) ∷ []
pairs_more [] k lt = absurd (omega (arith, lt))
pairs_more (a ∷ []) k lt = absurd (omega (arith, lt))
pairs_more (a ∷ b ∷ digits) zero lt = refl
pairs_more (a ∷ b ∷ digits) (suc k) lt =
    let all : 2 * (suc k + 1) ≡ suc (suc (2 * (k + 1))) = omega arith in
    let before : suc (suc (2 * k)) ≡ 2 * suc k = omega arith in
    let low : suc (suc (2 * k + 1)) ≡ 2 * suc k + 1 = omega arith in
    ap (λ n. bytes_of (take n (a ∷ b ∷ digits))) all
    ∙ ap (λ bytes. (digit_value a * 16 + digit_value b) ∷ bytes) (pairs_more digits k (omega (arith, lt)))
    ∙ ap (λ n. bytes_of (take n (a ∷ b ∷ digits)) ++ (digit_value (get_or (a ∷ b ∷ digits) n 0) * 16 + digit_value (get_or (a ∷ b ∷ digits) (suc (suc (2 * k + 1))) 0)) ∷ []) before
    ∙ ap (λ n. bytes_of (take (2 * suc k) (a ∷ b ∷ digits)) ++ (digit_value (get_or (a ∷ b ∷ digits) (2 * suc k) 0) * 16 + digit_value (get_or (a ∷ b ∷ digits) n 0)) ∷ []) low

-- a last digit without another spells nothing
pub pairs_whole : (digits : List ℕ) → bytes_of (take (2 * (length digits / 2)) digits) ≡ bytes_of digits
pairs_whole [] = refl
pairs_whole (a ∷ []) = refl
pairs_whole (a ∷ b ∷ digits) =
    let e : 2 * (length (a ∷ b ∷ digits) / 2) ≡ suc (suc (2 * (length digits / 2))) = omega arith in
    ap (λ n. bytes_of (take n (a ∷ b ∷ digits))) e ∙ ap (λ bytes. (digit_value a * 16 + digit_value b) ∷ bytes) (pairs_whole digits)
