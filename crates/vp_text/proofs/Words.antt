-- Given texts and words are read exactly.
use Rattle.std.proofs.Common.{◌≡◌, ℕ, ◌≤◌, Bool, true, false, cond, eqb, ltb, ◌&&◌, List, [], ◌∷◌, ◌++◌, length, Some, None, refl, sym, ap, subst, ◌∙◌, append_assoc, arith, inl, inr}
use Rattle.std.specs.List.{AllByRecursion}
use Rattle.std.proofs.lemmas.List.{append-nil, length-append}
use Rattle.std.proofs.lemmas.Bool.{eqb-true, eqb-false, ltb-true, ltb-false, and_parts, and_cases}
use Rattle.vp_text.specs.Meaning.{Begins}
use Rattle.vp_text.specs.Tokens.{IsLiteral, IsWord}
use Rattle.vp_text.specs.Reading.{literal_step, literal_done, literal_at, word_step, word_done, word_at}
use Rattle.vp_text.proofs.Exact.{Exact}
use Rattle.vp_text.proofs.Items.{all_at, all_push}
use Rattle.vp_text.proofs.Scan.{scan_exact}

-- what follows where a test chose `Some`, and where it chose `None`
pub chose : {A : Type 0} (b : Bool) (x y : A) → cond b (Some x) None ≡ Some y → (b ≡ true) × (x ≡ y)
chose true x y e = (refl, cc)
chose false x y e = absurd cc

pub chose_none : {A : Type 0} (b : Bool) (x : A) → cond b (Some x) None ≡ None → b ≡ false
chose_none true x e = absurd cc
chose_none false x e = refl

same_rest : (p q r : List ℕ) → p ++ q ≡ p ++ r → q ≡ r
same_rest [] q r e = e
same_rest (c ∷ p) q r e = same_rest p q r (let t : p ++ q ≡ p ++ r = cc in t)

-- ---- a given text: the state is what is still to come

literal_more : (s : List ℕ) (c : ℕ) (t : List ℕ) → literal_step s c ≡ Some t → s ≡ c ∷ t
literal_more [] c t e = absurd (let f : None ≡ Some t = e in cc)
literal_more (x ∷ xs) c t e = let h = chose (eqb x c) xs t e in rw (eqb-true x c h.0, h.1) refl

literal_stop : (s : List ℕ) (c : ℕ) (r : List ℕ) → literal_step s c ≡ None → s ≡ c ∷ r → ⊥
literal_stop [] c r e h = cc
literal_stop (x ∷ xs) c r e h = eqb-false x c (chose_none (eqb x c) xs e) (let same : x ≡ c = cc in same)

literal_value : (s : List ℕ) (u : Unit {0}) → literal_done s ≡ Some u → s ≡ []
literal_value [] u e = refl
literal_value (x ∷ xs) u e = absurd (let f : None ≡ Some u = e in cc)

literal_none : (s : List ℕ) → literal_done s ≡ None → s ≡ [] → ⊥
literal_none [] e h = let f : Some (let u : Unit {0} = tt in u) ≡ None = e in cc
literal_none (x ∷ xs) e h = cc

pub literal_exact : (literal : List ℕ) → Exact (IsLiteral literal) (literal_at literal)
unfolding literal_at
literal_exact literal = scan_exact (record {
  viable = λ s p at. record { value = tt; more = s; spelled = sym at };
  more = λ s p c t at e. at ∙ ap (λ (x : List ℕ). p ++ x) (literal_more s c t e) ∙ sym (append_assoc p (c ∷ []) t);
  stop = λ s p c a r at e l. literal_stop s c r e (same_rest p s (c ∷ r) (sym at ∙ sym l));
  value = λ s p a at e. sym (at ∙ ap (λ (x : List ℕ). p ++ x) (literal_value s a e) ∙ append-nil p);
  none = λ s p a at e l. literal_none s e (same_rest p s [] (sym at ∙ sym l ∙ sym (append-nil p)));
  one = λ a b t la lb. refl;
}) literal (let at : literal ≡ [] ++ literal = refl in at)

-- ---- words: the state is what was read

record Front (has : ℕ → Bool) (most : ℕ) (s p : List ℕ) : Type 0 where
  is : s ≡ p
  short : length p ≤ most
  each : AllByRecursion (λ c. has c ≡ true) p

word_begins : (has : ℕ → Bool) (most c0 : ℕ) → has c0 ≡ true → 1 ≤ most → (s p : List ℕ) → Front has most s p → Begins (IsWord has most) p
word_begins has most c0 admitted room s [] at = record { value = c0 ∷ []; more = c0 ∷ []; spelled = record { is = refl; some = omega arith; short = omega arith; each = (admitted, tt) } }
word_begins has most c0 admitted room s (c ∷ p) at = record {
  value = c ∷ p;
  more = [];
  spelled = record { is = sym (append-nil (c ∷ p)); some = omega (arith, length-append (c ∷ p) []); short = omega (arith, at.short, length-append (c ∷ p) []); each = subst (λ x. AllByRecursion (λ c. has c ≡ true) x) (sym (append-nil (c ∷ p))) at.each };
}

word_more : (has : ℕ → Bool) (most : ℕ) (s p : List ℕ) (c : ℕ) (t : List ℕ) → Front has most s p → word_step has most s c ≡ Some t → Front has most t (p ++ c ∷ [])
word_more has most s p c t at e =
    let h = chose (ltb (length s) most && has c) (s ++ c ∷ []) t e in
    let both = and_parts (ltb (length s) most) (has c) h.0 in
    let room = ltb-true (length s) most both.0 in
    record { is = sym h.1 ∙ ap (λ (x : List ℕ). x ++ c ∷ []) at.is; short = omega (arith, length-append p (c ∷ []), ap length at.is); each = all_push (λ c. has c ≡ true) p c at.each both.1 }

word_stop : (has : ℕ → Bool) (most : ℕ) (s p : List ℕ) (c : ℕ) (a r : List ℕ) → Front has most s p → word_step has most s c ≡ None → IsWord has most a (p ++ c ∷ r) → ⊥
word_stop has most s p c a r at e l =
    elim (and_cases (ltb (length s) most) (has c) (chose_none (ltb (length s) most && has c) (s ++ c ∷ []) e)) [
      | inl full ↦ let full = ltb-false (length s) most full in omega (arith, l.short, ap length at.is, length-append p (c ∷ r))
      | inr fails ↦ let yes : has c ≡ true = all_at (λ c. has c ≡ true) p c r l.each in let both : false ≡ true = sym fails ∙ yes in cc
    ]

word_value : (has : ℕ → Bool) (most : ℕ) (s p a : List ℕ) → Front has most s p → word_done s ≡ Some a → IsWord has most a p
word_value has most [] p a at e = absurd (let f : None ≡ Some a = e in cc)
word_value has most (c ∷ s) p a at e =
    let same : c ∷ s ≡ a = (let f : Some (c ∷ s) ≡ Some a = e in cc) in
    record { is = sym same ∙ at.is; some = omega (arith, ap length at.is); short = at.short; each = at.each }

word_none : (has : ℕ → Bool) (most : ℕ) (s p a : List ℕ) → Front has most s p → word_done s ≡ None → IsWord has most a p → ⊥
word_none has most [] p a at e l = omega (arith, l.some, ap length at.is)
word_none has most (c ∷ s) p a at e l = let f : Some (c ∷ s) ≡ None = e in cc

pub word_exact : (has : ℕ → Bool) (most c0 : ℕ) → has c0 ≡ true → 1 ≤ most → Exact (IsWord has most) (word_at has most)
unfolding word_at
word_exact has most c0 admitted room = scan_exact (record {
  viable = λ s p at. word_begins has most c0 admitted room s p at;
  more = λ s p c t at e. word_more has most s p c t at e;
  stop = λ s p c a r at e l. word_stop has most s p c a r at e l;
  value = λ s p a at e. word_value has most s p a at e;
  none = λ s p a at e l. word_none has most s p a at e l;
  one = λ a b t la lb. la.is ∙ sym lb.is;
}) [] (record { is = refl; short = omega arith; each = tt })
