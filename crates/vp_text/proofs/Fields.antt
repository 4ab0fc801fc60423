-- Fields one after the other: what follows a number or a word begins with a byte that belongs to neither.
use Rattle.std.proofs.Common.{◌≡◌, ℕ, ◌^◌, ◌≤◌, ◌<◌, Bool, true, false, List, [], ◌∷◌, ◌++◌, length, Result, sym, ap, subst, ◌∙◌, arith}
use Rattle.std.proofs.lemmas.List.{length-append}
use Rattle.std.proofs.lemmas.Bool.{false≢true, and_from, le-leb}
use Rattle.vp_text.specs.Tokens.{IsLiteral, IsWord, IsNumber}
use Rattle.vp_text.specs.Reading.{◌>>=◌, literal_at, word_at, number_at, is_digit}
use Rattle.vp_text.proofs.Exact.{Parts, Exact, Then, Made, then_exact}
use Rattle.vp_text.proofs.Items.{all_at}
use Rattle.vp_text.proofs.Words.{literal_exact, word_exact}
use Rattle.vp_text.proofs.Numbers.{number_exact, digit_on}

-- The text begins with a byte that the test doesn't allow.
abbrev pub Outside : (ℕ → Bool) → List ℕ → Type 0
Outside has [] = ⊥
Outside has (c ∷ cs) = has c ≡ false

outside_append : (has : ℕ → Bool) (p q : List ℕ) → Outside has p → Outside has (p ++ q)
outside_append has [] q h = absurd h
outside_append has (c ∷ p) q h = h

-- Each text of the language begins with such a byte.
abbrev pub IsOutside : {B : Type 0} → (ℕ → Bool) → (B → List ℕ → Type 0) → Type 0
IsOutside {B = B} has M = (b : B) (t : List ℕ) → M b t → Outside has t

pub literal_outside : {B : Type 0} {N : Unit {0} → B → List ℕ → Type 0} (has : ℕ → Bool) (literal : List ℕ) → Outside has literal → IsOutside has (Then (IsLiteral literal) N)
literal_outside has literal h = λ b t m. subst (Outside has) (sym m.parts) (outside_append has m.front m.back (subst (Outside has) (sym m.before) h))

pub made_outside : {B : Type 0} {make : Unit {0} → B} (has : ℕ → Bool) (literal : List ℕ) → Outside has literal → IsOutside has (Made (IsLiteral literal) make)
made_outside has literal h = λ b t m. subst (Outside has) (sym m.spelled) h

pub parts_outside : (has : ℕ → Bool) (t : List ℕ) (x : ℕ) (r : List ℕ) → Outside has t → has x ≡ true → Parts t (x ∷ r)
parts_outside has [] x r h k = absurd h
parts_outside has (c ∷ t) x r h k = λ same. false≢true (sym h ∙ ap has same ∙ k)

pub literal_then : {B : Type 0} {M : B → List ℕ → Type 0} {Q : List ℕ → Result (B × List ℕ) ℕ} (literal : List ℕ) → Exact M Q → Exact (Then (IsLiteral literal) (λ _. M)) (λ bytes. literal_at literal bytes >>= λ x. Q x.1)
literal_then {M = M} {Q = Q} literal e =
    then_exact {M = λ _. M} {Q = λ _. Q} (λ a a2 text x r b t before longer after. absurd (omega (arith, ap length before, ap length longer, length-append text (x ∷ r)))) (literal_exact literal) (λ _. e)

pub word_then : {B : Type 0} {M : List ℕ → B → List ℕ → Type 0} {Q : List ℕ → List ℕ → Result (B × List ℕ) ℕ} (has : ℕ → Bool) (most c0 : ℕ) → has c0 ≡ true → 1 ≤ most
    → ((w : List ℕ) → IsOutside has (M w)) → ((w : List ℕ) → Exact (M w) (Q w)) → Exact (Then (IsWord has most) M) (λ bytes. word_at has most bytes >>= λ x. Q x.0 x.1)
word_then {M = M} {Q = Q} has most c0 admitted room outside e =
    then_exact {M = M} {Q = Q} (λ a a2 text x r b t before longer after. parts_outside has t x r (outside a b t after) (all_at (λ c. has c ≡ true) text x r longer.each)) (word_exact has most c0 admitted room) e

pub number_then : {B : Type 0} {M : ℕ → B → List ℕ → Type 0} {Q : ℕ → List ℕ → Result (B × List ℕ) ℕ} (least most : ℕ) → least ≤ most → most < 2 ^ 64
    → ((n : ℕ) → IsOutside is_digit (M n)) → ((n : ℕ) → Exact (M n) (Q n)) → Exact (Then (IsNumber least most) M) (λ bytes. number_at least most bytes >>= λ x. Q x.0 x.1)
number_then {M = M} {Q = Q} least most range fits outside e =
    then_exact {M = M} {Q = Q} (λ a a2 text x r b t before longer after.
    let digit = digit_on least most a2 text x r fits longer in
    parts_outside is_digit t x r (outside a b t after) (and_from _ _ (le-leb 48 x digit.0) (le-leb x 57 digit.1))) (number_exact least most range fits) e
