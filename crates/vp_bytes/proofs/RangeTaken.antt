-- Reading a number in a range all at once gives what reading it byte by byte gives.
use Rattle.std.proofs.Common.{◌≡◌, ℕ, ◌^◌, ◌≤◌, ◌<◌, List, [], ◌∷◌, ◌++◌, length, drop, slice_index, false, Ok, Err, Result, IfErr, refl, sym, ap, ◌∙◌, arith, ◌⊎◌, inl, inr}
use Rattle.std.proofs.lemmas.Bool.{false≢true}
use Rattle.std.proofs.lemmas.List.{length-append}
use Rattle.byteorder.specs.Endian.{big_number}
use Rattle.vp_text.proofs.Exact.{Apart, Exact, ok_value}
use Rattle.vp_bytes.specs.Reading.{digits_at}
use Rattle.vp_bytes.specs.Ranges.{number_within_at}
use Rattle.vp_bytes.proofs.Free.{IsFree}
use Rattle.vp_bytes.proofs.NumberBytes.{number_exact, number_free, number_even}
use Rattle.vp_bytes.proofs.NumbersWithin.{as_number, number_within_exact, number_within_free, from_number}
use Rattle.vp_bytes.proofs.Taken.{number_taken}

-- bytes that begin with a text of such a language are read as that text
pub free_reads : {A : Type 0} {L : A → List ℕ → Type 0} {P : List ℕ → Result (A × List ℕ) ℕ} → Exact L P → IsFree L → (a : A) (text rest bytes : List ℕ) → L a text → bytes ≡ text ++ rest → P bytes ≡ Ok (a, rest)
free_reads {A = A} {L = L} {P = P} e free a text rest bytes l at =
    let ends : (b : A) (r : List ℕ) → L b (text ++ r) → Apart r rest = λ b r. elim r as (λ r. L b (text ++ r) → Apart r rest) [ [] ↦ λ h. tt | x ∷ s ↦ λ h. absurd (free a b text x s l h) ] in
    ap P at ∙ e.again a text rest l ends

-- the number of n bytes
abbrev Bytes : List ℕ → Type 0
Bytes xs = (i : ℕ) → slice_index xs i < 256

pub within_taken : (n low high : ℕ) (xs : List ℕ) → 1 ≤ n → low ≤ high → high < 256 ^ n → Bytes xs → n ≤ length xs → low ≤ big_number n xs → big_number n xs ≤ high → number_within_at n low high xs ≡ Ok (big_number n xs, drop n xs)
within_taken n low high xs some le fits each enough above below =
    let x = big_number n xs in
    let p = (number_exact false n some).ok xs x (drop n xs) (number_taken false n some xs each enough (λ s. absurd (false≢true s))) in
    free_reads (number_within_exact n low high some le fits) (number_within_free n low high fits) x p.text (drop n xs) xs (from_number n low high x p.text p.spelled above below) p.parts

-- it is too short, or out of the range
abbrev Outside : ℕ → ℕ → ℕ → List ℕ → Type 0
Outside n low high xs = (length xs < n) ⊎ (big_number n xs < low) ⊎ (high < big_number n xs)

outside_none : (n low high : ℕ) (xs : List ℕ) → 1 ≤ n → low ≤ high → high < 256 ^ n → Bytes xs → Outside n low high xs → (x : ℕ) (rest : List ℕ) → number_within_at n low high xs ≡ Ok (x, rest) → ⊥
outside_none n low high xs some le fits each outside x rest read =
    let p = (number_within_exact n low high some le fits).ok xs x rest read in
    let number = as_number n low high fits x p.text p.spelled in
    let enough : n ≤ length xs = omega (arith, number_even false n x p.text number, ap length p.parts, length-append p.text rest) in
    let one : digits_at false n 0 xs ≡ Ok (x, rest) = free_reads (number_exact false n some) (number_free false n) x p.text rest xs number p.parts in
    let two = number_taken false n some xs each enough (λ s. absurd (false≢true s)) in
    let same : x ≡ big_number n xs = ap (λ (y : ℕ × List ℕ). y.0) (ok_value (x, rest) (big_number n xs, drop n xs) (sym one ∙ two)) in
    elim outside [
      | inl short ↦ omega (arith, enough, short)
      | inr (inl h) ↦ omega (arith, same, h, p.spelled.allowed.0)
      | inr (inr h) ↦ omega (arith, same, h, p.spelled.allowed.1)
    ]

pub outside_fault : (n low high left : ℕ) (xs : List ℕ) → 1 ≤ n → low ≤ high → high < 256 ^ n → Bytes xs → Outside n low high xs → IfErr (number_within_at n low high xs) (λ m. left ≡ m) → number_within_at n low high xs ≡ Err left
outside_fault n low high left xs some le fits each outside fault =
    let f : (r : Result (ℕ × List ℕ) ℕ) → number_within_at n low high xs ≡ r → IfErr r (λ m. left ≡ m) → r ≡ Err left = λ r. elim r as (λ r. number_within_at n low high xs ≡ r → IfErr r (λ m. left ≡ m) → r ≡ Err left) [
      | Ok x ↦ λ e h. absurd (outside_none n low high xs some le fits each outside x.0 x.1 e)
      | Err m ↦ λ e h. rw h refl
    ] in
    f (number_within_at n low high xs) refl fault
