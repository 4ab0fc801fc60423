-- A text of one language or of another, where no text of one begins a text of the other.
use Rattle.std.proofs.Common.{◌≡◌, ℕ, ◌^◌, ◌≤◌, ◌<◌, min, Bool, true, false, eqb, List, [], ◌∷◌, ◌++◌, length, Result, Ok, Err, refl, sym, ap, subst, ◌∙◌, append_assoc, arith, inl, inr, ◌⊎◌, cond}
use Rattle.std.proofs.lemmas.List.{append-nil, length-append}
use Rattle.std.proofs.lemmas.Bool.{false≢true, eq-eqb, cases_lt, and_from, le-leb}
use Rattle.vp_text.specs.Tokens.{IsLiteral, IsWord, IsNumber, Either}
use Rattle.vp_text.specs.Reading.{either, is_digit}
use Rattle.vp_text.proofs.Exact.{Parts, IsRight, IsOne, one_value, Exact, right, exact_from, Then, Made, Follows, done, cut}
use Rattle.vp_text.proofs.Items.{all_at}
use Rattle.vp_text.proofs.Fields.{IsOutside, parts_outside}
use Rattle.vp_text.proofs.Numbers.{digit_on, number_exact}

-- No text of the first begins one of the second.
abbrev pub IsClear : {A B : Type 0} → (A → List ℕ → Type 0) → (B → List ℕ → Type 0) → Type 0
IsClear {A = A} {B = B} L M = (a : A) (b : B) (t r : List ℕ) → L a t → M b (t ++ r) → ⊥

either_ok : {A : Type 0} (p q : Result (A × List ℕ) ℕ) (a : A) (rest : List ℕ) → either p q ≡ Ok (a, rest) → (p ≡ Ok (a, rest)) ⊎ (q ≡ Ok (a, rest))
either_ok (Ok x) q a rest e = inl e
either_ok (Err m) (Ok y) a rest e = inr e
either_ok (Err m) (Err n) a rest e = absurd (let f : Err (min m n) ≡ done (a, rest) = e in cc)

either_err : {A : Type 0} (p q : Result (A × List ℕ) ℕ) (left : ℕ) → either p q ≡ Err left → (m n : ℕ) × (p ≡ Err m) × (q ≡ Err n) × (left ≡ min m n)
either_err (Ok x) q left e = absurd (let f : done x ≡ Err left = e in cc)
either_err (Err m) (Ok y) left e = absurd (let f : done y ≡ Err left = e in cc)
either_err {A = A} (Err m) (Err n) left e = (m, n, refl, refl, let same : min m n ≡ left = cc in sym same)

either_second : {A : Type 0} (p q : Result (A × List ℕ) ℕ) (y : A × List ℕ) → ((x : A × List ℕ) → p ≡ Ok x → ⊥) → q ≡ Ok y → either p q ≡ Ok y
either_second (Ok x) q y none e = absurd (none x refl)
either_second (Err m) (Ok z) y none e = e
either_second (Err m) (Err n) y none e = absurd (let f : Err n ≡ done y = e in cc)

following : (s r g rest : List ℕ) → rest ≡ s ++ g → Parts (s ++ r) rest → Parts r g
following [] r g rest e h = subst (Parts r) e h
following (c ∷ s) r g rest e h = absurd (let k : Parts ((c ∷ s) ++ r) ((c ∷ s) ++ g) = subst (Parts ((c ∷ s) ++ r)) e h in k refl)

-- beyond this place, texts of the other language differ from the bytes too
farther : {A : Type 0} (M : A → List ℕ → Type 0) (bytes front rest f g : List ℕ) → bytes ≡ front ++ rest → bytes ≡ f ++ g → length g ≤ length rest → ((b : A) (r : List ℕ) → M b (front ++ r) → Parts r rest) → (b : A) (r : List ℕ) → M b (f ++ r) → Parts r g
farther M bytes front rest f g e h le diverges b r m =
    elim (cut front rest f g (sym e ∙ h)) [
      | inl w ↦
          let s = w.0 in
          let k : Parts (s ++ r) rest = diverges b (s ++ r) (subst (λ (x : List ℕ). M b x) (ap (λ (x : List ℕ). x ++ r) w.1 ∙ append_assoc front s r) m) in
          following s r g rest w.2 k
      | inr w ↦ absurd (omega (arith, ap length w.3, length-append (w.0 ∷ w.1) rest))
    ]

pub either_right : {A : Type 0} {L M : A → List ℕ → Type 0} {bytes : List ℕ} {p q : Result (A × List ℕ) ℕ} → IsClear L M → IsClear M L → IsRight L bytes p → IsRight M bytes q → IsRight (Either L M) bytes (either p q)
either_right {A = A} {L = L} {M = M} {bytes = bytes} {p = p} {q = q} clear back e f = record {
  ok = λ a rest h.
      elim (either_ok p q a rest h) [
        | inl w ↦
            let x = e.ok a rest w in
            record { text = x.text; spelled = inl x.spelled; parts = x.parts; ends = λ b r t. elim t [ inl l ↦ x.ends b r l | inr m ↦ absurd (clear a b x.text r x.spelled m) ] }
        | inr w ↦
            let x = f.ok a rest w in
            record { text = x.text; spelled = inr x.spelled; parts = x.parts; ends = λ b r t. elim t [ inl l ↦ absurd (back a b x.text r x.spelled l) | inr m ↦ x.ends b r m ] }
      ];
  err = λ left h.
      let w = either_err p q left h in
      let x = e.err w.0 w.2 in
      let y = f.err w.1 w.3 in
      elim (cases_lt w.0 w.1) [
        | inl lt ↦ record {
          front = x.front;
          rest = x.rest;
          parts = x.parts;
          left_is = omega (arith, x.left_is, w.4);
          begins = record { value = x.begins.value; more = x.begins.more; spelled = inl x.begins.spelled };
          diverges = λ b r t. elim t [ inl l ↦ x.diverges b r l | inr m ↦ farther M bytes y.front y.rest x.front x.rest y.parts x.parts (omega (arith, x.left_is, y.left_is)) y.diverges b r m ];
        }
        | inr le ↦ record {
          front = y.front;
          rest = y.rest;
          parts = y.parts;
          left_is = omega (arith, y.left_is, w.4);
          begins = record { value = y.begins.value; more = y.begins.more; spelled = inr y.begins.spelled };
          diverges = λ b r t. elim t [ inl l ↦ farther L bytes x.front x.rest y.front y.rest x.parts y.parts (omega (arith, x.left_is, y.left_is)) x.diverges b r l | inr m ↦ y.diverges b r m ];
        }
      ];
  again = λ a text rest at t ends.
      elim t [
        | inl l ↦ let one : p ≡ Ok (a, rest) = e.again a text rest at l (λ b r k. ends b r (inl k)) in rw one refl
        | inr m ↦
            let two : q ≡ Ok (a, rest) = f.again a text rest at m (λ b r k. ends b r (inr k)) in
            let none : (x : A × List ℕ) → p ≡ Ok x → ⊥ = λ x h.
            let v = e.ok x.0 x.1 h in
            elim (cut v.text x.1 text rest (sym v.parts ∙ at)) [
              | inl w ↦ clear x.0 a v.text w.0 v.spelled (subst (λ (z : List ℕ). M a z) w.1 m)
              | inr w ↦ back a x.0 text (w.0 ∷ w.1) m (subst (λ (z : List ℕ). L x.0 z) w.2 v.spelled)
            ] in
            either_second p q (a, rest) none two
      ];
}

pub either_exact : {A : Type 0} {L M : A → List ℕ → Type 0} {P Q : List ℕ → Result (A × List ℕ) ℕ} → IsClear L M → IsClear M L → Exact L P → Exact M Q → Exact (Either L M) (λ bytes. either (P bytes) (Q bytes))
either_exact clear back e f = exact_from (λ bytes. either_right clear back (right e bytes) (right f bytes))

-- ---- languages whose texts begin differently

abbrev pub Opens : {A : Type 0} → List ℕ → (A → List ℕ → Type 0) → Type 0
Opens {A = A} key L = (a : A) (t : List ℕ) → L a t → (r : List ℕ) × (t ≡ key ++ r)

-- some byte of one differs from the other's
abbrev pub differ : List ℕ → List ℕ → Bool
differ [] k = false
differ (x ∷ j) [] = false
differ (x ∷ j) (y ∷ k) = cond (eqb x y) (differ j k) true

apart_keys : (j k r s : List ℕ) → differ j k ≡ true → j ++ r ≡ k ++ s → ⊥
apart_keys [] k r s d e = false≢true d
apart_keys (x ∷ j) [] r s d e = false≢true d
apart_keys (x ∷ j) (y ∷ k) r s d e =
    let head : x ≡ y = cc in
    let tail : j ++ r ≡ k ++ s = cc in
    let inner : differ j k ≡ true = (rw (eq-eqb x y head) at d) in
    apart_keys j k r s inner tail

pub clear_keys : {A B : Type 0} {L : A → List ℕ → Type 0} {M : B → List ℕ → Type 0} (j k : List ℕ) → differ j k ≡ true → Opens j L → Opens k M → IsClear L M
clear_keys j k d opens other = λ a b t r l m.
    let x = opens a t l in
    let y = other b (t ++ r) m in
    apart_keys j k (x.0 ++ r) y.0 d (sym (append_assoc j x.0 r) ∙ ap (λ (z : List ℕ). z ++ r) (sym x.1) ∙ y.1)

pub literal_opens : {B : Type 0} {N : Unit {0} → B → List ℕ → Type 0} (literal : List ℕ) → Opens literal (Then (IsLiteral literal) N)
literal_opens literal = λ b t m. (m.back, m.parts ∙ ap (λ (x : List ℕ). x ++ m.back) m.before)

pub made_opens : {B : Type 0} {make : Unit {0} → B} (literal : List ℕ) → Opens literal (Made (IsLiteral literal) make)
made_opens literal = λ b t m. ([], m.spelled ∙ sym (append-nil literal))

-- ---- the bytes with which a text can go on to a longer one

abbrev pub GoesOn : {A : Type 0} → (ℕ → Bool) → (A → List ℕ → Type 0) → Type 0
GoesOn {A = A} has L = (a a2 : A) (text : List ℕ) (x : ℕ) (r : List ℕ) → L a text → L a2 (text ++ x ∷ r) → has x ≡ true

pub word_goes : (has : ℕ → Bool) (most : ℕ) → GoesOn has (IsWord has most)
word_goes has most = λ a a2 text x r before longer. all_at (λ c. has c ≡ true) text x r longer.each

pub made_goes : {A B : Type 0} {L : A → List ℕ → Type 0} {make : A → B} (has : ℕ → Bool) → GoesOn has L → GoesOn has (Made L make)
made_goes has goes = λ a a2 text x r before longer. goes before.from longer.from text x r before.spelled longer.spelled

pub either_goes : {A : Type 0} {L M : A → List ℕ → Type 0} (has : ℕ → Bool) → IsClear L M → IsClear M L → GoesOn has L → GoesOn has M → GoesOn has (Either L M)
either_goes has clear back goes other = λ a a2 text x r before longer.
    elim before [
      | inl l ↦ elim longer [ inl k ↦ goes a a2 text x r l k | inr m ↦ absurd (clear a a2 text (x ∷ r) l m) ]
      | inr m ↦ elim longer [ inl k ↦ absurd (back a a2 text (x ∷ r) m k) | inr n ↦ other a a2 text x r m n ]
    ]

no_more : (k s u v : List ℕ) (y : ℕ) → Parts k (y ∷ s) → k ++ u ≡ (y ∷ s) ++ v → ⊥
no_more [] s u v y h e = h
no_more (c ∷ k) s u v y h e = h (let head : c ≡ y = cc in head)

pub then_goes : {A B : Type 0} {L : A → List ℕ → Type 0} {M : A → B → List ℕ → Type 0} (has : ℕ → Bool) → IsOne L → Follows L M → ((a : A) → GoesOn has (M a)) → GoesOn has (Then L M)
then_goes {L = L} {M = M} has one follows goes = λ b b2 text x r t u.
    let e : t.front ++ (t.back ++ x ∷ r) ≡ u.front ++ u.back = sym (append_assoc t.front t.back (x ∷ r)) ∙ ap (λ (z : List ℕ). z ++ x ∷ r) (sym t.parts) ∙ u.parts in
    elim (cut t.front (t.back ++ x ∷ r) u.front u.back e) [
      | inl w ↦
          let f : (s : List ℕ) → u.front ≡ t.front ++ s → t.back ++ x ∷ r ≡ s ++ u.back → has x ≡ true = λ s. elim s as (λ s. u.front ≡ t.front ++ s → t.back ++ x ∷ r ≡ s ++ u.back → has x ≡ true) [
            | [] ↦ λ front-is back-is.
                let l : L u.first t.front = subst (λ (z : List ℕ). L u.first z) (front-is ∙ append-nil t.front) u.before in
                let same = one u.first t.first t.front l t.before in
                let m : M t.first b2 u.back = subst (λ (v : _). M v b2 u.back) same u.after in
                goes t.first b b2 t.back x r t.after (subst (λ (z : List ℕ). M t.first b2 z) (sym back-is) m)
            | y ∷ s ↦ λ front-is back-is.
                let l : L u.first (t.front ++ y ∷ s) = subst (λ (z : List ℕ). L u.first z) front-is u.before in
                absurd (no_more t.back s (x ∷ r) u.back y (follows t.first u.first t.front y s b t.back t.before l t.after) back-is)
          ] in
          f w.0 w.1 w.2
      | inr w ↦
          let l : L t.first (u.front ++ w.0 ∷ w.1) = subst (λ (z : List ℕ). L t.first z) w.2 t.before in
          absurd (no_more u.back w.1 [] (t.back ++ x ∷ r) w.0 (follows u.first t.first u.front w.0 w.1 b2 u.back u.before l u.after) (append-nil u.back ∙ w.3))
    ]

-- ---- what may follow

pub follows_from : {A B : Type 0} {L : A → List ℕ → Type 0} {M : A → B → List ℕ → Type 0} (has : ℕ → Bool) → GoesOn has L → ((a : A) → IsOutside has (M a)) → Follows L M
follows_from has goes outside = λ a a2 text x r b t before longer after. parts_outside has t x r (outside a b t after) (goes a a2 text x r before longer)

pub literal_goes : {B : Type 0} {M : B → List ℕ → Type 0} (has : ℕ → Bool) (literal : List ℕ) → GoesOn has M → GoesOn has (Then (IsLiteral literal) (λ _. M))
literal_goes {M = M} has literal goes = then_goes {M = λ _. M} has (λ a b text before other. refl) (λ a a2 text x r b t before longer after. absurd (omega (arith, ap length before, ap length longer, length-append text (x ∷ r)))) (λ _. goes)

pub number_goes : (least most : ℕ) → most < 2 ^ 64 → GoesOn is_digit (IsNumber least most)
number_goes least most fits = λ a a2 text x r before longer.
    let digit = digit_on least most a2 text x r fits longer in
    and_from _ _ (le-leb 48 x digit.0) (le-leb x 57 digit.1)

pub goes_as : {A : Type 0} {L K : A → List ℕ → Type 0} (has : ℕ → Bool) → ((a : A) (t : List ℕ) → K a t → L a t) → GoesOn has L → GoesOn has K
goes_as has from goes = λ a a2 text x r before longer. goes a a2 text x r (from a text before) (from a2 (text ++ x ∷ r) longer)

-- what a number is followed by, for `then_goes`
pub number_one : (least most : ℕ) → least ≤ most → most < 2 ^ 64 → IsOne (IsNumber least most)
number_one least most range fits = one_value (number_exact least most range fits)

pub clear_or : {A : Type 0} (L M N : A → List ℕ → Type 0) → IsClear L M → IsClear L N → IsClear L (Either M N)
clear_or L M N f g = λ a b t r l w. elim w [ inl m ↦ f a b t r l m | inr n ↦ g a b t r l n ]

pub or_clear : {A : Type 0} (L M N : A → List ℕ → Type 0) → IsClear M L → IsClear N L → IsClear (Either M N) L
or_clear L M N f g = λ a b t r w l. elim w [ inl m ↦ f a b t r m l | inr n ↦ g a b t r n l ]
