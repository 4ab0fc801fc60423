-- The digits that are read of a number are its bytes.
use Rattle.std.proofs.Common.{◌≡◌, ℕ, zero, suc, ◌+◌, ◌*◌, ◌^◌, ◌≤◌, ◌<◌, List, [], ◌∷◌, ◌++◌, length, Bool, true, false, refl, sym, ap, subst, ◌∙◌, arith, not, nat_lt, ◌||◌}
use Rattle.std.proofs.lemmas.List.{append-nil}
use Rattle.std.proofs.lemmas.Bool.{lt-ltb, ltb-true, or_left, or_right, and_from, and_parts}
use Rattle.std.proofs.Math.Nat.{add-mul, mul_assoc, pow-succ'}
use Rattle.std.specs.List.{AllByRecursion}
use Rattle.byteorder.specs.Endian.{big_number, big_bytes}
use Rattle.byteorder.specs.Numbers.{big_from-cons, big_number-reads_back, length-bytes_high_first}
use Rattle.vp_text.proofs.Exact.{Exact, exact_as}
use Rattle.vp_bytes.specs.Reading.{is_byte, digit_fits, digits_at}
use Rattle.vp_base.specs.Numbers.{IsByte}
use Rattle.vp_base.proofs.OwnBytes.{number_fits, are_bytes, own_bytes}
use Rattle.vp_bytes.proofs.Digits.{HasDigits, digits_exact}
use Rattle.vp_bytes.proofs.Free.{IsFree, even_free}

-- The text is the number x in n bytes. Where `some` is true, the number is not 0.
pub record IsNumberBytes (some : Bool) (n x : ℕ) (text : List ℕ) : Type 0 where
  pub is : text ≡ big_bytes n x
  pub fits : x < 256 ^ n
  pub above : some ≡ true → 1 ≤ x

-- n bytes that make the number x after those that made the front
record Holds (some : Bool) (n front x : ℕ) (text : List ℕ) : Type 0 where
  count : length text ≡ n
  bytes : AllByRecursion IsByte text
  number : x ≡ front * 256 ^ n + big_number n text
  above : some ≡ true → 1 ≤ n → 1 ≤ x

-- one more byte joins the front
moved : (n front c : ℕ) (back : List ℕ) → (front * 256 + c) * 256 ^ n + big_number n back ≡ front * 256 ^ suc n + big_number (suc n) (c ∷ back)
moved n front c back =
    let cons : big_number (suc n) (c ∷ back) ≡ c * 256 ^ n + big_number n back = ap (λ (r : ℕ). c * 256 ^ n + r) (big_from-cons 0 n c back) in
    let spread : (front * 256 + c) * 256 ^ n ≡ front * 256 * 256 ^ n + c * 256 ^ n = add-mul (front * 256) c (256 ^ n) in
    let power : front * 256 * 256 ^ n ≡ front * 256 ^ suc n = mul_assoc front 256 (256 ^ n) ∙ ap (λ (p : ℕ). front * p) (sym (pow-succ' 256 n)) in
    omega (arith, cons, spread, power)

-- what the test says of a byte
byte_of : (some : Bool) (n front c : ℕ) → digit_fits some n front c ≡ true → c < 256
byte_of some n front c h = ltb-true c 256 (and_parts (is_byte c) _ h).0

last_above : (front c : ℕ) → digit_fits true 0 front c ≡ true → 1 ≤ front * 256 + c
last_above front c h = let lt = ltb-true 0 (front * 256 + c) (and_parts (is_byte c) _ h).1 in omega (arith, lt)

above_all : (n : ℕ) (some : Bool) (front c x : ℕ) (back : List ℕ) → digit_fits some n front c ≡ true → Holds some n (front * 256 + c) x back → some ≡ true → 1 ≤ x
above_all zero some front c x back fits h s =
    let last = last_above front c (subst (λ (b : Bool). digit_fits b 0 front c ≡ true) s fits) in
    omega (arith, last, h.number)
above_all (suc n) some front c x back fits h s = h.above s (omega arith)

digits_hold : (some : Bool) (n front x : ℕ) (text : List ℕ) → HasDigits some n front x text → Holds some n front x text
digits_hold some zero front x text h = record { count = ap length h.0; bytes = subst (AllByRecursion IsByte) (sym h.0) tt; number = omega (arith, h.1); above = λ s le. absurd (omega (arith, le)) }
digits_hold some (suc n) front x text h =
    let c = h.first in
    let at : text ≡ c ∷ h.back = h.parts ∙ ap (λ (t : List ℕ). t ++ h.back) h.before.is in
    let back = digits_hold some n (front * 256 + c) x h.back h.after in
    record {
      count = ap length at ∙ ap (λ (k : ℕ). suc k) back.count;
      bytes = subst (AllByRecursion IsByte) (sym at) (byte_of some n front c h.before.admitted, back.bytes);
      number = back.number ∙ moved n front c h.back ∙ ap (λ (t : List ℕ). front * 256 ^ suc n + big_number (suc n) t) (sym at);
      above = λ s le. above_all n some front c x h.back h.before.admitted back s;
    }

abbrev Later : Bool → ℕ → ℕ → ℕ → Bool
Later some n front c = not some || (nat_lt 0 n || nat_lt 0 (front * 256 + c))

later : (some : Bool) (n front c x : ℕ) (back : List ℕ) → x ≡ (front * 256 + c) * 256 ^ n + big_number n back → (some ≡ true → 1 ≤ x) → Later some n front c ≡ true
later false n front c x back number above = or_left (not false) (nat_lt 0 n || nat_lt 0 (front * 256 + c)) refl
later true zero front c x back number above =
    let some : 1 ≤ x = above refl in
    or_right (not true) (nat_lt 0 0 || nat_lt 0 (front * 256 + c)) (or_right (nat_lt 0 0) (nat_lt 0 (front * 256 + c)) (lt-ltb 0 (front * 256 + c) (omega (arith, some, number))))
later true (suc n) front c x back number above = or_right (not true) (nat_lt 0 (suc n) || nat_lt 0 (front * 256 + c)) (or_left (nat_lt 0 (suc n)) (nat_lt 0 (front * 256 + c)) (lt-ltb 0 (suc n) (omega arith)))

hold_digits : (some : Bool) (n front x : ℕ) (text : List ℕ) → Holds some n front x text → HasDigits some n front x text
hold_digits some zero front x [] h = (refl, omega (arith, h.number))
hold_digits some zero front x (c ∷ back) h = absurd (omega (arith, h.count))
hold_digits some (suc n) front x [] h = absurd (omega (arith, h.count))
hold_digits some (suc n) front x (c ∷ back) h =
    let number : x ≡ (front * 256 + c) * 256 ^ n + big_number n back = h.number ∙ sym (moved n front c back) in
    record {
      first = c;
      front = c ∷ [];
      back = back;
      before = record { is = refl; admitted = and_from (is_byte c) _ (lt-ltb c 256 h.bytes.0) (later some n front c x back number (λ s. h.above s (omega arith))) };
      after = hold_digits some n (front * 256 + c) x back (record { count = omega (arith, h.count); bytes = h.bytes.1; number = number; above = λ s le. h.above s (omega arith) });
      parts = refl;
    }

digits_are : (some : Bool) (n : ℕ) → 1 ≤ n → (x : ℕ) (text : List ℕ) → HasDigits some n 0 x text → IsNumberBytes some n x text
digits_are some n least x text h =
    let w = digits_hold some n 0 x text h in
    let number : big_number n text ≡ x = omega (arith, w.number) in
    record { is = own_bytes n x text w.count w.bytes number; fits = omega (arith, number, number_fits n text w.bytes); above = λ s. w.above s least }

are_digits : (some : Bool) (n x : ℕ) (text : List ℕ) → IsNumberBytes some n x text → HasDigits some n 0 x text
are_digits some n x text h =
    let reads : big_number n (big_bytes n x) ≡ x = sym (ap (λ (ys : List ℕ). big_number n ys) (append-nil (big_bytes n x))) ∙ big_number-reads_back n x [] h.fits in
    let number : big_number n text ≡ x = ap (λ (ys : List ℕ). big_number n ys) h.is ∙ reads in
    hold_digits some n 0 x text (record {
      count = ap length h.is ∙ length-bytes_high_first n x;
      bytes = subst (AllByRecursion IsByte) (sym h.is) (are_bytes n x);
      number = omega (arith, number);
      above = λ s le. h.above s;
    })

pub number_exact : (some : Bool) (n : ℕ) → 1 ≤ n → Exact (IsNumberBytes some n) (digits_at some n 0)
number_exact some n least = exact_as (λ x text. digits_are some n least x text) (λ x text. are_digits some n x text) (digits_exact some n 0)

pub number_even : (some : Bool) (n x : ℕ) (text : List ℕ) → IsNumberBytes some n x text → length text ≡ n
number_even some n x text h = ap length h.is ∙ length-bytes_high_first n x

pub number_free : (some : Bool) (n : ℕ) → IsFree (IsNumberBytes some n)
number_free some n = even_free {L = IsNumberBytes some n} n (λ x t h. number_even some n x t h)
