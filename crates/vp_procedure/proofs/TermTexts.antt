-- Variables and terms are read exactly.
use Rattle.std.proofs.Common.{◌≡◌, ℕ, ◌^◌, ◌-◌, ◌≤◌, ◌<◌, Bool, true, false, ◌&&◌, cond, List, [], ◌∷◌, ◌++◌, length, Result, Ok, Err, refl, sym, ap, subst, ◌∙◌, arith, inl, inr}
use Rattle.std.specs.Prelude.{nat_le}
use Rattle.std.specs.Fmt.{decimal}
use Rattle.std.specs.List.{AllByRecursion}
use Rattle.std.proofs.lemmas.Bool.{false≢true, and_parts, and_from, le-leb, leb-true}
use Rattle.std.proofs.lemmas.Fmt.{decimal_nonempty}
use Rattle.vp_text.specs.Tokens.{IsNumber, Either}
use Rattle.vp_text.specs.Reading.{is_digit}
use Rattle.vp_text.proofs.Exact.{IsRead, IsFault, Parts, Apart, Exact, Made, made_exact, exact_as, ok_value, at_err}
use Rattle.vp_text.proofs.Numbers.{number_exact, decimal_digits}
use Rattle.vp_text.proofs.Choices.{IsClear, GoesOn, either_exact, either_goes, made_goes, number_goes}
use Rattle.vp_procedure.specs.declared.procedure.Term.{Term}
use Rattle.vp_procedure.specs.declared.procedure.Term.TheVariants as term
use Rattle.vp_procedure.specs.Procedures.{IsLetter, IsTerm, term_text}
use Rattle.vp_procedure.specs.ExprReading.{letter_at, variable_at, constant_at, term_at}

-- ---- letters

abbrev pub LetterText : ℕ → List ℕ → Type 0
LetterText letter text = IsLetter letter × (text ≡ letter ∷ [])

abbrev is_letter : ℕ → Bool
is_letter c = nat_le 97 c && nat_le c 122

letter_is : (c : ℕ) → is_letter c ≡ true → IsLetter c
letter_is c e = let b = and_parts (nat_le 97 c) (nat_le c 122) e in (leb-true 97 c b.0, leb-true c 122 b.1)

letter_test : (c : ℕ) → IsLetter c → is_letter c ≡ true
letter_test c h = and_from _ _ (le-leb 97 c h.0) (le-leb c 122 h.1)

one_byte : (a x : ℕ) (r : List ℕ) → a ∷ r ≡ x ∷ [] → r ≡ []
one_byte a x r e = cc

letter_read : (c a : ℕ) (cs rest : List ℕ) (b : Bool) → is_letter c ≡ b → cond {A = Result (ℕ × List ℕ) ℕ} b (Ok (c, cs)) (Err (length (c ∷ cs))) ≡ Ok (a, rest) → IsRead LetterText (c ∷ cs) a rest
letter_read c a cs rest true is e =
    let same = ok_value {A = ℕ × List ℕ} (c, cs) (a, rest) e in
    let first : c ≡ a = ap (λ (p : ℕ × List ℕ). p.0) same in
    record {
      text = a ∷ [];
      spelled = (subst IsLetter first (letter_is c is), refl);
      parts = ap (λ (p : ℕ × List ℕ). p.0 ∷ p.1) same;
      ends = λ b r h. subst (λ (r : List ℕ). Apart r rest) (sym (one_byte a b r h.1)) tt;
    }
letter_read c a cs rest false is e = absurd (at_err {A = ℕ × List ℕ} (Err (length (c ∷ cs))) (a, rest) (length (c ∷ cs)) e refl)

no_letter : (c x : ℕ) (r cs : List ℕ) → is_letter c ≡ false → LetterText x r → Parts r (c ∷ cs)
no_letter c x r cs is h = subst (λ (r : List ℕ). Parts r (c ∷ cs)) (sym h.1) (λ same. false≢true (sym is ∙ letter_test c (subst IsLetter same h.0)))

letter_fault : (c left : ℕ) (cs : List ℕ) (b : Bool) → is_letter c ≡ b → cond {A = Result (ℕ × List ℕ) ℕ} b (Ok (c, cs)) (Err (length (c ∷ cs))) ≡ Err left → IsFault LetterText (c ∷ cs) left
letter_fault c left cs true is e = absurd (at_err {A = ℕ × List ℕ} (Ok (c, cs)) (c, cs) left refl e)
letter_fault c left cs false is e = record {
  front = [];
  rest = c ∷ cs;
  parts = refl;
  left_is = (let same : length (c ∷ cs) ≡ left = cc in same);
  begins = record { value = 97; more = 97 ∷ []; spelled = ((omega arith, omega arith), refl) };
  diverges = λ b r h. no_letter c b r cs is h;
}

letter_ok : (bytes : List ℕ) (a : ℕ) (rest : List ℕ) → letter_at bytes ≡ Ok (a, rest) → IsRead LetterText bytes a rest
letter_ok [] a rest e = absurd (at_err {A = ℕ × List ℕ} (Err 0) (a, rest) 0 e refl)
letter_ok (c ∷ cs) a rest e = letter_read c a cs rest (is_letter c) refl e

letter_err : (bytes : List ℕ) (left : ℕ) → letter_at bytes ≡ Err left → IsFault LetterText bytes left
letter_err [] left e = record {
  front = [];
  rest = [];
  parts = refl;
  left_is = (let same : 0 ≡ left = cc in same);
  begins = record { value = 97; more = 97 ∷ []; spelled = ((omega arith, omega arith), refl) };
  diverges = λ b r h. subst (λ (r : List ℕ). Parts r []) (sym h.1) tt;
}
letter_err (c ∷ cs) left e = letter_fault c left cs (is_letter c) refl e

pub letter_exact : Exact LetterText letter_at
letter_exact = record {
  ok = letter_ok;
  err = letter_err;
  again = λ a text rest h ends. subst (λ (t : List ℕ). letter_at (t ++ rest) ≡ Ok (a, rest)) (sym h.1) (rw (letter_test a h.0) refl);
}

pub letter_goes : (has : ℕ → Bool) → GoesOn has LetterText
letter_goes has a b text x r before longer = absurd (omega (arith, ap length (sym before.1), ap length (ap (λ (t : List ℕ). t ++ x ∷ r) (sym before.1) ∙ longer.1)))

-- ---- terms

abbrev VariableText : Term → List ℕ → Type 0
VariableText = Made LetterText (λ letter. term.Var letter)

abbrev ConstantText : Term → List ℕ → Type 0
ConstantText = Made (IsNumber 0 (2 ^ 64 - 1)) (λ n. term.Number n)

-- a term and its text
abbrev pub TermText : Term → List ℕ → Type 0
TermText a text = IsTerm a × (text ≡ term_text a)

-- a number begins with a digit
digit_first : (n : ℕ) (c : ℕ) (r : List ℕ) → n < 2 ^ 64 → decimal n ≡ c ∷ r → (48 ≤ c) × (c ≤ 57)
digit_first n c r fits is = (subst (AllByRecursion (λ d. (48 ≤ d) × (d ≤ 57))) is (decimal_digits n fits)).0

letter_clear : IsClear VariableText ConstantText
letter_clear a b t r l m =
    let begins : decimal m.from ≡ l.from ∷ r = sym m.spelled.is ∙ ap (λ (t : List ℕ). t ++ r) l.spelled.1 in
    let digit = digit_first m.from l.from r (omega (arith, m.spelled.below)) begins in
    omega (arith, digit.1, l.spelled.0.0)

number_clear : IsClear ConstantText VariableText
number_clear a b t r m l = go t m.spelled.is l.spelled.1
  where
    go : (t : List ℕ) → t ≡ decimal m.from → t ++ r ≡ l.from ∷ [] → ⊥
    go [] is e = absurd (omega (arith, ap length is, decimal_nonempty m.from (omega (arith, m.spelled.below))))
    go (c ∷ cs) is e =
        let first : c ≡ l.from = cc in
        let digit = digit_first m.from c cs (omega (arith, m.spelled.below)) (sym is) in
        omega (arith, digit.1, first, l.spelled.0.0)

term_to : (a : Term) (t : List ℕ) → Either VariableText ConstantText a t → TermText a t
term_to a t h = elim h [
  | inl v ↦ subst (λ (a : Term). TermText a t) (sym v.is) (v.spelled.0, v.spelled.1)
  | inr n ↦ subst (λ (a : Term). TermText a t) (sym n.is) (n.spelled.below, n.spelled.is)
]

term_from : (a : Term) (t : List ℕ) → TermText a t → Either VariableText ConstantText a t
term_from (term.Var letter) t h = inl (record { from = letter; spelled = h; is = refl })
term_from (term.Number n) t h = inr (record { from = n; spelled = record { is = h.1; above = omega arith; below = h.0 }; is = refl })

pub term_exact : Exact TermText term_at
unfolding term_at variable_at constant_at
term_exact =
    exact_as term_to term_from (either_exact letter_clear number_clear (made_exact (λ letter. term.Var letter) letter_exact) (made_exact (λ n. term.Number n) (number_exact 0 (2 ^ 64 - 1) (omega arith) (omega arith))))

pub term_goes : GoesOn is_digit TermText
term_goes a b text x r before longer =
    either_goes is_digit letter_clear number_clear (made_goes is_digit (letter_goes is_digit)) (made_goes is_digit (number_goes 0 (2 ^ 64 - 1) (omega arith))) a b text x r (term_from a text before) (term_from b (text ++ x ∷ r) longer)
