-- Reading a number's bytes all at once gives what reading them one by one gives.
use Rattle.std.proofs.Common.{◌≡◌, ℕ, zero, suc, ◌+◌, ◌*◌, ◌^◌, ◌≤◌, ◌<◌, List, [], ◌∷◌, ◌++◌, length, drop, slice_index, Bool, true, Ok, Err, refl, ap, ◌∙◌, arith, not, nat_lt, ◌||◌}
use Rattle.std.proofs.lemmas.Bool.{lt-ltb, or_left, or_right, and_from}
use Rattle.std.specs.List.{AllByRecursion}
use Rattle.byteorder.specs.Endian.{big_number}
use Rattle.std.proofs.Math.Nat.{add-mul, one-le-pow}
use Rattle.byteorder.specs.Numbers.{big_from-append, big_from-cons}
use Rattle.vp_text.proofs.Exact.{Apart}
use Rattle.vp_bytes.specs.Reading.{is_byte, digit_fits, digits_at}
use Rattle.vp_base.specs.Numbers.{IsByte}
use Rattle.vp_base.proofs.OwnBytes.{number_fits, own_bytes}
use Rattle.vp_bytes.proofs.Free.{IsFree}
use Rattle.vp_bytes.proofs.NumberBytes.{IsNumberBytes, number_exact, number_free}

-- the first n bytes, and the rest
record Split (n : ℕ) (xs : List ℕ) : Type 0 where
  front : List ℕ
  rest : List ℕ
  parts : xs ≡ front ++ rest
  count : length front ≡ n
  bytes : AllByRecursion IsByte front
  following : rest ≡ drop n xs

split : (n : ℕ) (xs : List ℕ) → ((i : ℕ) → slice_index xs i < 256) → n ≤ length xs → Split n xs
split zero xs each le = record { front = []; rest = xs; parts = refl; count = refl; bytes = tt; following = refl }
split (suc n) [] each le = absurd (omega (arith, le))
split (suc n) (x ∷ xs) each le =
    let w = split n xs (λ i. each (suc i)) (omega (arith, le)) in
    record { front = x ∷ w.front; rest = w.rest; parts = ap (λ (t : List ℕ). x ∷ t) w.parts; count = ap (λ (k : ℕ). suc k) w.count; bytes = (each 0, w.bytes); following = w.following }

free_ends : {A : Type 0} {L : A → List ℕ → Type 0} → IsFree L → (a : A) (text rest : List ℕ) → L a text → (b : A) (r : List ℕ) → L b (text ++ r) → Apart r rest
free_ends free a text rest la b [] lb = tt
free_ends free a text rest la b (x ∷ r) lb = absurd (free a b text x r la lb)

pub number_taken : (some : Bool) (n : ℕ) → 1 ≤ n → (xs : List ℕ) → ((i : ℕ) → slice_index xs i < 256) → n ≤ length xs → (some ≡ true → 1 ≤ big_number n xs) → digits_at some n 0 xs ≡ Ok (big_number n xs, drop n xs)
number_taken some n least xs each le above =
    let w = split n xs each le in
    let number : big_number n xs ≡ big_number n w.front = ap (λ (t : List ℕ). big_number n t) w.parts ∙ big_from-append n w.front w.rest (omega (arith, w.count)) in
    let is : IsNumberBytes some n (big_number n w.front) w.front = record {
      is = own_bytes n (big_number n w.front) w.front w.count w.bytes refl;
      fits = number_fits n w.front w.bytes;
      above = λ s. omega (arith, number, above s);
    } in
    let read : digits_at some n 0 (w.front ++ w.rest) ≡ Ok (big_number n w.front, w.rest) =
    (number_exact some n least).again (big_number n w.front) w.front w.rest is (λ b r l. free_ends (number_free some n) (big_number n w.front) w.front w.rest is b r l) in
    ap (digits_at some n 0) w.parts ∙ read ∙ rw (number, ← w.following) refl

pub number_short : (some : Bool) (n front : ℕ) (xs : List ℕ) → ((i : ℕ) → slice_index xs i < 256) → length xs < n → digits_at some n front xs ≡ Err 0
number_short some zero front xs each lt = absurd (omega (arith, lt))
number_short some (suc n) front [] each lt = refl
number_short some (suc n) front (x ∷ xs) each lt =
    let more : 0 < n = omega (arith, lt) in
    let fits : digit_fits some n front x ≡ true =
    and_from (is_byte x) _ (lt-ltb x 256 (each 0)) (or_right (not some) (nat_lt 0 n || nat_lt 0 (front * 256 + x)) (or_left (nat_lt 0 n) (nat_lt 0 (front * 256 + x)) (lt-ltb 0 n more))) in
    rw fits (number_short some n (front * 256 + x) xs (λ i. each (suc i)) (omega (arith, lt)))

-- where the number is 0, its last byte is at fault
pub number_none : (n : ℕ) (xs : List ℕ) (left : ℕ) → 1 ≤ n → n ≤ length xs → left + n ≡ length xs + 1 → big_number n xs ≡ 0 → digits_at true n 0 xs ≡ Err left
number_none zero xs left least le at none = absurd (omega (arith, least))
number_none (suc n) [] left least le at none = absurd (omega (arith, le))
number_none (suc n) (suc y ∷ xs) left least le at none =
    let cons : big_number (suc n) (suc y ∷ xs) ≡ suc y * 256 ^ n + big_number n xs = ap (λ (r : ℕ). suc y * 256 ^ n + r) (big_from-cons 0 n (suc y) xs) in
    let spread : (y + 1) * 256 ^ n ≡ y * 256 ^ n + 1 * 256 ^ n = add-mul y 1 (256 ^ n) in
    let power = one-le-pow n 256 (omega arith) in
    let whole : suc y * 256 ^ n ≡ (y + 1) * 256 ^ n = ap (λ (k : ℕ). k * 256 ^ n) (omega arith) in
    absurd (omega (arith, cons, spread, power, whole, none))
number_none (suc zero) (zero ∷ xs) left least le at none =
    let here : length (zero ∷ xs) ≡ left = omega (arith, at) in
    ap (λ (k : ℕ). Err k) here
number_none (suc (suc m)) (zero ∷ xs) left least le at none =
    let cons : big_number (suc (suc m)) (zero ∷ xs) ≡ 0 * 256 ^ suc m + big_number (suc m) xs = ap (λ (r : ℕ). 0 * 256 ^ suc m + r) (big_from-cons 0 (suc m) 0 xs) in
    let fits : digit_fits true (suc m) 0 0 ≡ true =
    or_right (not true) (nat_lt 0 (suc m) || nat_lt 0 (0 * 256 + 0)) (or_left (nat_lt 0 (suc m)) (nat_lt 0 (0 * 256 + 0)) (lt-ltb 0 (suc m) (omega arith))) in
    rw fits (number_none (suc m) xs left (omega arith) (omega (arith, le)) (omega (arith, at)) (omega (arith, cons, none)))
