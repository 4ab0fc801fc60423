-- Numbers in a fixed count of bytes are read exactly: all numbers, or all but 0.
use Rattle.std.proofs.Common.{◌≡◌, ℕ, zero, suc, ◌+◌, ◌*◌, List, [], ◌∷◌, length, Bool, true, Err, refl, sym, ap, arith, not, nat_lt}
use Rattle.std.proofs.lemmas.Bool.{lt-ltb, or_right}
use Rattle.vp_text.proofs.Exact.{Apart, Exact, Then, done, ok_value}
use Rattle.vp_bytes.specs.Reading.{digit_fits, digits_at}
use Rattle.vp_bytes.proofs.Free.{IsByteOf, byte_free, byte_exact, free_then}

-- The text is n bytes, and after the bytes that made the front they make the number x.
abbrev pub HasDigits : Bool → ℕ → ℕ → ℕ → List ℕ → Type 0
HasDigits some zero front x text = (text ≡ []) × (x ≡ front)
HasDigits some (suc n) front x text = Then (IsByteOf (digit_fits some n front)) (λ c. HasDigits some n (front * 256 + c)) x text

pub nothing_more : (r rest : List ℕ) → r ≡ [] → Apart r rest
nothing_more [] rest h = tt
nothing_more (x ∷ r) rest h = absurd (omega (arith, ap length h))

nothing_exact : (some : Bool) (front : ℕ) → Exact (HasDigits some 0 front) (digits_at some 0 front)
nothing_exact some front = record {
  ok = λ bytes a rest h.
      let same : (front, bytes) ≡ (a, rest) = ok_value (front, bytes) (a, rest) h in
      record { text = []; spelled = (refl, sym (ap (λ (x : ℕ × List ℕ). x.0) same)); parts = ap (λ (x : ℕ × List ℕ). x.1) same; ends = λ b r l. nothing_more r rest l.0 };
  err = λ bytes left h. absurd (let never : done (front, bytes) ≡ Err left = h in cc);
  again = λ a text rest l ends. rw (l.0, l.1) refl;
}

-- the greatest byte is always allowed
greatest_fits : (some : Bool) (n front : ℕ) → digit_fits some n front 255 ≡ true
greatest_fits some n front =
    or_right (not some) _ (or_right (nat_lt 0 n) (nat_lt 0 (front * 256 + 255)) (lt-ltb 0 (front * 256 + 255) (omega arith)))

pub digits_exact : (some : Bool) (n front : ℕ) → Exact (HasDigits some n front) (digits_at some n front)
digits_exact some zero front = nothing_exact some front
digits_exact some (suc n) front =
    free_then (byte_free {has = digit_fits some n front}) (byte_exact (digit_fits some n front) 255 (greatest_fits some n front)) (λ c. digits_exact some n (front * 256 + c))
