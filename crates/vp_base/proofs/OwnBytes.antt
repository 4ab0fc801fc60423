-- Only its own bytes read as a number.
use Rattle.std.proofs.Common.{◌≡◌, ℕ, zero, suc, ◌+◌, ◌*◌, ◌^◌, ◌≤◌, ◌<◌, List, [], ◌∷◌, length, slice_index, refl, sym, ap, ◌∙◌, arith, inl, inr}
use Rattle.std.proofs.Math.Nat.{add-mul, mod-lt, mul-le-mul_right}
use Rattle.std.proofs.lemmas.Bool.{cases_lt}
use Rattle.std.proofs.lemmas.List.{append-nil}
use Rattle.std.specs.List.{AllByRecursion}
use Rattle.std.specs.Int.{byte_at}
use Rattle.byteorder.specs.Endian.{big_number, big_bytes}
use Rattle.vp_base.specs.Numbers.{IsByte, OnlyItsOwnBytesReadAsANumber}
use Rattle.byteorder.specs.Numbers.{big_from-cons, big_from-lt, big_number-reads_back, length-bytes_high_first}

-- m and n are remainders below p, so a and b are equal quotients
front_unique : (p a b m n : ℕ) → m < p → n < p → a * p + m ≡ b * p + n → a ≡ b
front_unique p a b m n m_fits n_fits e =
    elim (cases_lt a b) [
      | inl less ↦
          let top : (a + 1) * p ≤ b * p = mul-le-mul_right p (omega (arith, less)) in
          let expand : (a + 1) * p ≡ a * p + 1 * p = add-mul a 1 p in
          absurd (omega (arith, top, expand, e, m_fits, n_fits))
      | inr least ↦
          elim (cases_lt b a) [
            | inl less ↦
                let top : (b + 1) * p ≤ a * p = mul-le-mul_right p (omega (arith, less)) in
                let expand : (b + 1) * p ≡ b * p + 1 * p = add-mul b 1 p in
                absurd (omega (arith, top, expand, e, m_fits, n_fits))
            | inr most ↦ omega (arith, least, most)
          ]
    ]

index_fits : (xs : List ℕ) (i : ℕ) → AllByRecursion IsByte xs → slice_index xs i < 256
index_fits [] i h = omega arith
index_fits (x ∷ xs) zero h = h.0
index_fits (x ∷ xs) (suc i) h = index_fits xs i h.1

-- the number in n bytes is below 256 ^ n
pub number_fits : (n : ℕ) (xs : List ℕ) → AllByRecursion IsByte xs → big_number n xs < 256 ^ n
number_fits n xs h = big_from-lt 0 n xs (λ i. index_fits xs i h)

-- as many bytes with the same number are the same bytes
pub same_bytes : (n : ℕ) (xs ys : List ℕ) → length xs ≡ n → length ys ≡ n → AllByRecursion IsByte xs → AllByRecursion IsByte ys → big_number n xs ≡ big_number n ys → xs ≡ ys
same_bytes zero [] [] a b h k e = refl
same_bytes zero [] (y ∷ ys) a b h k e = absurd (omega (arith, b))
same_bytes zero (x ∷ xs) ys a b h k e = absurd (omega (arith, a))
same_bytes (suc n) [] ys a b h k e = absurd (omega (arith, a))
same_bytes (suc n) (x ∷ xs) [] a b h k e = absurd (omega (arith, b))
same_bytes (suc n) (x ∷ xs) (y ∷ ys) a b h k e =
    let sum : x * 256 ^ n + big_number n xs ≡ y * 256 ^ n + big_number n ys =
    sym (ap (λ (r : ℕ). x * 256 ^ n + r) (big_from-cons 0 n x xs)) ∙ e ∙ ap (λ (r : ℕ). y * 256 ^ n + r) (big_from-cons 0 n y ys) in
    let first : x ≡ y = front_unique (256 ^ n) x y (big_number n xs) (big_number n ys) (number_fits n xs h.1) (number_fits n ys k.1) sum in
    let back : big_number n xs ≡ big_number n ys = omega (arith, sum, ap (λ (r : ℕ). r * 256 ^ n) first) in
    rw (first, same_bytes n xs ys (omega (arith, a)) (omega (arith, b)) h.1 k.1 back) refl

byte_fits : (k x : ℕ) → byte_at k x < 256
byte_fits zero x = mod-lt x (omega arith)
byte_fits (suc k) x = mod-lt _ (omega arith)

-- the bytes of a number are bytes
pub are_bytes : (n x : ℕ) → AllByRecursion IsByte (big_bytes n x)
are_bytes zero x = tt
are_bytes (suc n) x = (byte_fits n x, are_bytes n x)

-- only its own bytes read as a number
pub own_bytes : OnlyItsOwnBytesReadAsANumber
own_bytes n x xs a h e =
    let fits : x < 256 ^ n = omega (arith, e, number_fits n xs h) in
    let reads : big_number n (big_bytes n x) ≡ x = sym (ap (λ (ys : List ℕ). big_number n ys) (append-nil (big_bytes n x))) ∙ big_number-reads_back n x [] fits in
    same_bytes n xs (big_bytes n x) a (length-bytes_high_first n x) h (are_bytes n x) (e ∙ sym reads)
