-- Numbers in a range are read exactly.
use Rattle.std.proofs.Common.{◌≡◌, ◌≢◌, ℕ, zero, suc, ◌+◌, ◌*◌, ◌-◌, ◌/◌, ◌%◌, ◌^◌, ◌≤◌, ◌<◌, Bool, true, false, cond, ltb, leb, ◌&&◌, List, [], ◌∷◌, ◌++◌, length, get_or, rules, Option, Some, None, refl, sym, ap, subst, ◌∙◌, arith, inl, inr, ◌⊎◌}
use Rattle.std.specs.List.{AllByRecursion}
use Rattle.std.specs.Fmt.{decimal}
use Rattle.std.proofs.lemmas.Fmt.{decimal_by_steps, decimal-digits_value}
use Rattle.std.proofs.lemmas.Str.Parse.{IsNumeralModel, numerals_by_fold}
use Rattle.std.proofs.Math.Nat.{mul-le-mul_left, mul-le-mul_right, div-add-mod, div-lt_iff_lt-mul, mod-lt}
use Rattle.std.proofs.lemmas.List.{append-nil}
use Rattle.std.proofs.lemmas.Bool.{eqb-true, ltb-false, leb-true, le-ltb, le-leb, eq-eqb, and_parts, and_from, cases_lt, false≢true}
use Rattle.vp_text.specs.Meaning.{Begins}
use Rattle.vp_text.specs.Tokens.{IsNumber}
use Rattle.vp_text.specs.Reading.{meets, begins_number, is_digit, number_step, number_done, number_at}
use Rattle.vp_text.proofs.Exact.{Exact, exact_as}
use Rattle.vp_text.proofs.Scan.{scan_exact}
use Rattle.vp_text.proofs.Items.{all_append, all_push, all_back, all_at}
use Rattle.vp_text.proofs.Words.{chose, chose_none}

-- the number whose decimal digits are those of n and then these
abbrev pub decimal_value : ℕ → List ℕ → ℕ
decimal_value n [] = n
decimal_value n (c ∷ cs) = decimal_value (n * 10 + (c - 48)) cs

abbrev pub IsDigit : ℕ → Type 0
IsDigit c = (48 ≤ c) × (c ≤ 57)

-- A first 0 is the only digit.
abbrev pub HasNoLeadingZero : List ℕ → Type 0
HasNoLeadingZero [] = ⊥
HasNoLeadingZero (c ∷ []) = Unit {0}
HasNoLeadingZero (c ∷ d ∷ cs) = c ≢ 48

-- The digits of a number of the range.
record HasDigits (least most : ℕ) (n : ℕ) (text : List ℕ) : Type 0 where
  digits : AllByRecursion IsDigit text
  first : HasNoLeadingZero text
  value : decimal_value 0 text ≡ n
  above : least ≤ n
  below : n ≤ most

pub chosen : {A : Type 0} (b : Bool) (x y z : A) → cond b x y ≡ z → ((b ≡ true) × (x ≡ z)) ⊎ ((b ≡ false) × (y ≡ z))
chosen true x y z e = inl (refl, e)
chosen false x y z e = inr (refl, e)

abbrev pub tens : ℕ → ℕ
tens zero = 1
tens (suc k) = 10 * tens k

tens_some : (k : ℕ) → 1 ≤ tens k
tens_some zero = omega arith
tens_some (suc k) = omega (arith, tens_some k)

-- ---- the test whether a number in the range begins so

meets_sound : (least most fuel low high : ℕ) → meets least most fuel low high ≡ true → (k : ℕ) × (low * tens k ≤ most) × (least < (high + 1) * tens k)
meets_sound least most zero low high e = absurd (false≢true e)
meets_sound least most (suc fuel) low high e =
    elim (chosen (ltb most low) false (cond (leb least high) true (meets least most fuel (low * 10) (high * 10 + 9))) true e) [
      | inl w ↦ absurd (false≢true w.1)
      | inr w ↦
          let le = ltb-false most low w.0 in
          elim (chosen (leb least high) true (meets least most fuel (low * 10) (high * 10 + 9)) true w.1) [
            | inl v ↦ let h = leb-true least high v.0 in (0, omega arith, omega arith)
            | inr v ↦
                let r = meets_sound least most fuel (low * 10) (high * 10 + 9) v.1 in
                let t = tens r.0 in
                (suc r.0, omega (arith, r.1), omega (arith, r.2))
          ]
    ]

meets_complete : (fuel k least most low high : ℕ) → 1 ≤ low → most < low * tens fuel → low * tens k ≤ most → least < (high + 1) * tens k → meets least most fuel low high ≡ true
meets_complete zero k least most low high some far under over =
    absurd (let h = mul-le-mul_left low (tens_some k) in omega arith)
meets_complete (suc fuel) zero least most low high some far under over =
    let in_range : ltb most low ≡ false = le-ltb most low (omega arith) in
    rw (in_range, le-leb least high (omega arith)) refl
meets_complete (suc fuel) (suc k) least most low high some far under over =
    let h = mul-le-mul_left low (tens_some (suc k)) in
    let in_range : ltb most low ≡ false = le-ltb most low (omega arith) in
    let more = meets_complete fuel k least most (low * 10) (high * 10 + 9) (omega arith) (omega arith) (omega arith) (omega arith) in
    let f : (b : Bool) → cond b true (meets least most fuel (low * 10) (high * 10 + 9)) ≡ true = λ b. elim b as (λ b. cond b true (meets least most fuel (low * 10) (high * 10 + 9)) ≡ true) [ true ↦ refl | false ↦ more ] in
    rw in_range (f (leb least high))

-- ---- the value of digits

pub decimal_value-append : (n : ℕ) (xs ys : List ℕ) → decimal_value n (xs ++ ys) ≡ decimal_value (decimal_value n xs) ys
decimal_value-append n [] ys = refl
decimal_value-append n (c ∷ xs) ys = decimal_value-append (n * 10 + (c - 48)) xs ys

value_low : (n : ℕ) (cs : List ℕ) → n * tens (length cs) ≤ decimal_value n cs
value_low n [] = omega arith
value_low n (c ∷ cs) = omega (arith, value_low (n * 10 + (c - 48)) cs)

value_high : (n : ℕ) (cs : List ℕ) → AllByRecursion IsDigit cs → decimal_value n cs < (n + 1) * tens (length cs)
value_high n [] h = omega arith
value_high n (c ∷ cs) h =
    let digit : c - 48 + 1 ≤ 10 = omega (arith, h.0) in
    omega (arith, value_high (n * 10 + (c - 48)) cs h.1, mul-le-mul_right (tens (length cs)) digit)

-- the last k digits of a number
pad : ℕ → ℕ → List ℕ
pad zero q = []
pad (suc k) q = (48 + q / tens k) ∷ pad k (q % tens k)

pad_is : (k n q : ℕ) → q < tens k → AllByRecursion IsDigit (pad k q) × (decimal_value n (pad k q) ≡ n * tens k + q)
unfolding pad
pad_is zero n q lt = (tt, omega arith)
pad_is (suc k) n q lt =
    let t = tens_some k in
    let small : q / tens k < 10 = (div-lt_iff_lt-mul {k = tens k} {x = q} {y = 10} (omega arith)).1 (omega arith) in
    let rest = pad_is k (n * 10 + q / tens k) (q % tens k) (mod-lt q (omega arith)) in
    let digit : 48 + q / tens k - 48 ≡ q / tens k = omega arith in
    (((omega arith, omega arith), rest.0), ap (λ (d : ℕ). decimal_value (n * 10 + d) (pad k (q % tens k))) digit ∙ rest.1 ∙ omega (arith, div-add-mod q (tens k)))

-- the first digit isn't 0
Leads : List ℕ → Type 0
Leads [] = ⊥
Leads (c ∷ cs) = c ≢ 48

leads_on : (p q : List ℕ) → Leads p → HasNoLeadingZero (p ++ q)
unfolding Leads
leads_on [] q h = absurd h
leads_on (c ∷ []) [] h = tt
leads_on (c ∷ []) (x ∷ q) h = h
leads_on (c ∷ d ∷ cs) q h = h

leads_push : (p q : List ℕ) → Leads p → Leads (p ++ q)
unfolding Leads
leads_push [] q h = absurd h
leads_push (c ∷ p) q h = h

-- ---- each number has a text

record Written (n : ℕ) (text : List ℕ) : Type 0 where
  digits : AllByRecursion IsDigit text
  leads : 0 < n → Leads text
  none : n ≡ 0 → text ≡ 48 ∷ []
  value : decimal_value 0 text ≡ n

written : (n : ℕ) → n < 2 ^ 64 → Written n (decimal n)
unfolding Leads
written n fits = decimal_by_steps Written
    (λ n small. record { digits = ((omega arith, omega arith), tt); leads = λ some e. omega arith; none = λ e. rw e refl; value = omega arith })
    (λ n ds big w. record {
      digits = all_push IsDigit ds (48 + n % 10) w.digits (omega arith, omega arith);
      leads = λ some. leads_push ds ((48 + n % 10) ∷ []) (w.leads (omega arith));
      none = λ e. absurd (omega arith);
      value = decimal_value-append 0 ds ((48 + n % 10) ∷ []) ∙ omega (arith, w.value);
    })
    n fits

no_zero : (n : ℕ) (text : List ℕ) → Written n text → HasNoLeadingZero text
no_zero zero text w = rw (w.none refl) tt
no_zero (suc n) text w = subst HasNoLeadingZero (append-nil text) (leads_on text [] (w.leads (omega arith)))

number_text : (least most n : ℕ) → n < 2 ^ 64 → least ≤ n → n ≤ most → HasDigits least most n (decimal n)
number_text least most n fits above below =
    let w = written n fits in
    record { digits = w.digits; first = no_zero n (decimal n) w; value = w.value; above = above; below = below }

-- ---- the state after some digits

record Digits (least most n : ℕ) (p : List ℕ) : Type 0 where
  digits : AllByRecursion IsDigit p
  leads : Leads p
  value : decimal_value 0 p ≡ n
  begins : begins_number least most n ≡ true

At : ℕ → ℕ → Option ℕ → List ℕ → Type 0
At least most None p = p ≡ []
At least most (Some zero) p = (p ≡ 48 ∷ []) × (least ≡ 0)
At least most (Some (suc n)) p = Digits least most (suc n) p

-- where more digits can follow so that the number is in the range
begins_complete : (least most n : ℕ) (r : List ℕ) → most < 2 ^ 64 → AllByRecursion IsDigit r → least ≤ decimal_value (suc n) r → decimal_value (suc n) r ≤ most → begins_number least most (suc n) ≡ true
unfolding begins_number
begins_complete least most n r fits digits above below =
    meets_complete 20 (length r) least most (suc n) (suc n) (omega arith) (omega arith) (omega (arith, value_low (suc n) r)) (omega (arith, value_high (suc n) r digits))

begins_sound : (least most n : ℕ) (p : List ℕ) → least ≤ most → Digits least most (suc n) p → Begins (HasDigits least most) p
unfolding begins_number
begins_sound least most n p range d =
    let w = meets_sound least most 20 (suc n) (suc n) d.begins in
    let t = tens w.0 in
    let low = suc n * t in
    elim (cases_lt low least) [
      | inl lt ↦
          let q = least - low in
          let tail = pad_is w.0 (suc n) q (omega (arith, w.2)) in
          record {
            value = least;
            more = pad w.0 q;
            spelled = record {
              digits = all_append IsDigit p (pad w.0 q) d.digits tail.0;
              first = leads_on p (pad w.0 q) d.leads;
              value = decimal_value-append 0 p (pad w.0 q) ∙ ap (λ (x : ℕ). decimal_value x (pad w.0 q)) d.value ∙ tail.1 ∙ omega arith;
              above = omega arith;
              below = range;
            };
          }
      | inr le ↦
          let tail = pad_is w.0 (suc n) 0 (omega (arith, tens_some w.0)) in
          record {
            value = low;
            more = pad w.0 0;
            spelled = record {
              digits = all_append IsDigit p (pad w.0 0) d.digits tail.0;
              first = leads_on p (pad w.0 0) d.leads;
              value = decimal_value-append 0 p (pad w.0 0) ∙ ap (λ (x : ℕ). decimal_value x (pad w.0 0)) d.value ∙ tail.1 ∙ omega arith;
              above = le;
              below = w.1;
            };
          }
    ]

viable : (least most : ℕ) → least ≤ most → most < 2 ^ 64 → (s : Option ℕ) (p : List ℕ) → At least most s p → Begins (HasDigits least most) p
unfolding At
viable least most range fits None p at = record { value = least; more = decimal least; spelled = rw at (number_text least most least (omega arith) (omega arith) range) }
viable least most range fits (Some zero) p at = record { value = 0; more = []; spelled = rw at.0 (record { digits = ((omega arith, omega arith), tt); first = tt; value = refl; above = omega (arith, at.1); below = omega arith }) }
viable least most range fits (Some (suc n)) p at = begins_sound least most n p range at

digit_is : (c : ℕ) → is_digit c ≡ true → IsDigit c
digit_is c e = let h = and_parts (leb 48 c) (leb c 57) e in (leb-true 48 c h.0, leb-true c 57 h.1)

is_digit_at : (c : ℕ) → IsDigit c → is_digit c ≡ true
is_digit_at c h = and_from (leb 48 c) (leb c 57) (le-leb 48 c h.0) (le-leb c 57 h.1)

-- the first digit
first_at : (least most c v : ℕ) → IsDigit c → c - 48 ≡ v → begins_number least most v ≡ true → At least most (Some v) (c ∷ [])
unfolding At begins_number Leads
first_at least most c zero h e b = (ap (λ (x : ℕ). x ∷ []) (let same : c ≡ 48 = omega (arith, h.0) in same), eqb-true least 0 b)
first_at least most c (suc v) h e b = record { digits = (h, tt); leads = λ same. omega arith; value = omega (arith, e); begins = b }

at_more : (least most v : ℕ) (p : List ℕ) → 0 < v → Digits least most v p → At least most (Some v) p
unfolding At
at_more least most zero p some d = absurd (omega arith)
at_more least most (suc v) p some d = d

begins_at : (least most : ℕ) → most < 2 ^ 64 → (v : ℕ) (r : List ℕ) → 0 < v → AllByRecursion IsDigit r → least ≤ decimal_value v r → decimal_value v r ≤ most → begins_number least most v ≡ true
begins_at least most fits zero r some digits above below = absurd (omega arith)
begins_at least most fits (suc v) r some digits above below = begins_complete least most v r fits digits above below

first_begins : (least most : ℕ) → most < 2 ^ 64 → (v c a : ℕ) (r : List ℕ) → c - 48 ≡ v → HasDigits least most a (c ∷ r) → begins_number least most v ≡ true
unfolding begins_number
first_begins least most fits zero c a [] e l = eq-eqb least 0 (let n : 0 * 10 + (c - 48) ≡ a = l.value in omega (arith, l.above))
first_begins least most fits zero c a (d ∷ r) e l = absurd (l.first (omega (arith, l.digits.0.0)))
first_begins least most fits (suc v) c a r e l =
    let first : suc v ≡ 0 * 10 + (c - 48) = omega (arith, e) in
    let value : decimal_value (suc v) r ≡ a = ap (λ (x : ℕ). decimal_value x r) first ∙ l.value in
    begins_complete least most v r fits l.digits.1 (rw value l.above) (rw value l.below)

at_false : (x y : Bool) → (x && y) ≡ false → x ≡ true → y ≡ false
at_false true y e h = e
at_false false y e h = absurd (false≢true h)

more : (least most : ℕ) (s : Option ℕ) (p : List ℕ) (c : ℕ) (t : Option ℕ) → At least most s p → number_step least most s c ≡ Some t → At least most t (p ++ c ∷ [])
unfolding At
more least most None p c t at e =
    let h = chose (is_digit c && begins_number least most (c - 48)) (Some (c - 48)) t e in
    let both = and_parts (is_digit c) (begins_number least most (c - 48)) h.0 in
    subst (λ (x : Option ℕ). At least most x (p ++ c ∷ [])) h.1 (rw at (first_at least most c (c - 48) (digit_is c both.0) refl both.1))
more least most (Some zero) p c t at e = absurd (let f : None ≡ Some t = e in cc)
more least most (Some (suc n)) p c t at e =
    let v = suc n * 10 + (c - 48) in
    let h = chose (is_digit c && begins_number least most v) (Some v) t e in
    let both = and_parts (is_digit c) (begins_number least most v) h.0 in
    let w : Digits least most v (p ++ c ∷ []) = record {
      digits = all_push IsDigit p c at.digits (digit_is c both.0);
      leads = leads_push p (c ∷ []) at.leads;
      value = decimal_value-append 0 p (c ∷ []) ∙ ap (λ (x : ℕ). x * 10 + (c - 48)) at.value;
      begins = both.1;
    } in
    subst (λ (x : Option ℕ). At least most x (p ++ c ∷ [])) h.1 (at_more least most v (p ++ c ∷ []) (omega arith) w)

stop : (least most : ℕ) → most < 2 ^ 64 → (s : Option ℕ) (p : List ℕ) (c a : ℕ) (r : List ℕ) → At least most s p → number_step least most s c ≡ None → HasDigits least most a (p ++ c ∷ r) → ⊥
unfolding At
stop least most fits None p c a r at e l =
    let whole : HasDigits least most a (c ∷ r) = subst (λ (x : List ℕ). HasDigits least most a (x ++ c ∷ r)) at l in
    let good = is_digit_at c whole.digits.0 in
    let refused : begins_number least most (c - 48) ≡ false = at_false (is_digit c) (begins_number least most (c - 48)) (chose_none (is_digit c && begins_number least most (c - 48)) (Some (c - 48)) e) good in
    false≢true (sym refused ∙ first_begins least most fits (c - 48) c a r refl whole)
stop least most fits (Some zero) p c a r at e l =
    let whole : HasDigits least most a (48 ∷ c ∷ r) = subst (λ (x : List ℕ). HasDigits least most a (x ++ c ∷ r)) at.0 l in
    whole.first refl
stop least most fits (Some (suc n)) p c a r at e l =
    let v = suc n * 10 + (c - 48) in
    let digit : IsDigit c = all_at IsDigit p c r l.digits in
    let back : AllByRecursion IsDigit (c ∷ r) = all_back IsDigit p (c ∷ r) l.digits in
    let value : decimal_value v r ≡ a = ap (λ (x : ℕ). decimal_value (x * 10 + (c - 48)) r) (sym at.value) ∙ sym (decimal_value-append 0 p (c ∷ r)) ∙ l.value in
    let refused : begins_number least most v ≡ false = at_false (is_digit c) (begins_number least most v) (chose_none (is_digit c && begins_number least most v) (Some v) e) (is_digit_at c digit) in
    false≢true (sym refused ∙ begins_at least most fits v r (omega arith) back.1 (rw value l.above) (rw value l.below))

done_value : (least most : ℕ) (s : Option ℕ) (p : List ℕ) (a : ℕ) → At least most s p → number_done least most s ≡ Some a → HasDigits least most a p
unfolding At
done_value least most None p a at e = absurd (let f : None ≡ Some a = e in cc)
done_value least most (Some zero) p a at e =
    let h = chose (leb least 0 && leb 0 most) 0 a e in
    rw at.0 (record { digits = ((omega arith, omega arith), tt); first = tt; value = h.1; above = omega (arith, at.1); below = omega (arith, h.1) })
done_value least most (Some (suc n)) p a at e =
    let h = chose (leb least (suc n) && leb (suc n) most) (suc n) a e in
    let both = and_parts (leb least (suc n)) (leb (suc n) most) h.0 in
    record { digits = at.digits; first = subst HasNoLeadingZero (append-nil p) (leads_on p [] at.leads); value = at.value ∙ h.1; above = omega (arith, leb-true least (suc n) both.0, h.1); below = omega (arith, leb-true (suc n) most both.1, h.1) }

done_none : (least most : ℕ) (s : Option ℕ) (p : List ℕ) (a : ℕ) → At least most s p → number_done least most s ≡ None → HasDigits least most a p → ⊥
unfolding At
done_none least most None p a at e l = subst HasNoLeadingZero at l.first
done_none least most (Some zero) p a at e l =
    let value : 0 ≡ a = subst (λ (x : List ℕ). decimal_value 0 x ≡ a) at.0 l.value in
    let fails = chose_none (leb least 0 && leb 0 most) 0 e in
    false≢true (sym fails ∙ and_from (leb least 0) (leb 0 most) (le-leb least 0 (omega (arith, at.1))) (le-leb 0 most (omega arith)))
done_none least most (Some (suc n)) p a at e l =
    let value : suc n ≡ a = sym at.value ∙ l.value in
    let fails = chose_none (leb least (suc n) && leb (suc n) most) (suc n) e in
    false≢true (sym fails ∙ and_from (leb least (suc n)) (leb (suc n) most) (le-leb least (suc n) (omega (arith, l.above))) (le-leb (suc n) most (omega (arith, l.below))))

digits_exact : (least most : ℕ) → least ≤ most → most < 2 ^ 64 → Exact (HasDigits least most) (number_at least most)
unfolding number_at At
digits_exact least most range fits = scan_exact (record {
  viable = λ s p at. viable least most range fits s p at;
  more = λ s p c t at e. more least most s p c t at e;
  stop = λ s p c a r at e l. stop least most fits s p c a r at e l;
  value = λ s p a at e. done_value least most s p a at e;
  none = λ s p a at e l. done_none least most s p a at e l;
  one = λ a b t la lb. sym la.value ∙ lb.value;
}) None (let at : At least most None [] = refl in at)

-- ---- digits are the decimal text of their value

own : IsNumeralModel (AllByRecursion IsDigit) (decimal_value 0)
own = numerals_by_fold (AllByRecursion IsDigit) (search rules) decimal_value (search rules)

first_alone : (text : List ℕ) → HasNoLeadingZero text → (0 < length text) × (get_or text 0 0 ≡ 48 → length text ≡ 1)
first_alone [] h = absurd h
first_alone (c ∷ []) h = (omega arith, λ e. refl)
first_alone (c ∷ d ∷ cs) h = (omega arith, λ e. absurd (h e))

is_decimal : (least most n : ℕ) (text : List ℕ) → most < 2 ^ 64 → HasDigits least most n text → text ≡ decimal n
is_decimal least most n text fits h =
    let f = first_alone text h.first in
    sym (decimal-digits_value own text h.digits f.0 f.1 (omega (arith, h.value, h.below))) ∙ ap decimal h.value

pub number_exact : (least most : ℕ) → least ≤ most → most < 2 ^ 64 → Exact (IsNumber least most) (number_at least most)
number_exact least most range fits = exact_as
    (λ n text h. record { is = is_decimal least most n text fits h; above = h.above; below = h.below })
    (λ n text h. subst (HasDigits least most n) (sym h.is) (number_text least most n (omega (arith, h.below)) h.above h.below))
    (digits_exact least most range fits)

-- what follows a number is no digit
pub digit_on : (least most m : ℕ) (text : List ℕ) (x : ℕ) (r : List ℕ) → most < 2 ^ 64 → IsNumber least most m (text ++ x ∷ r) → IsDigit x
digit_on least most m text x r fits h = all_at IsDigit text x r (subst (HasDigits least most m) (sym h.is) (number_text least most m (omega (arith, h.below)) h.above h.below)).digits

pub decimal_digits : (n : ℕ) → n < 2 ^ 64 → AllByRecursion IsDigit (decimal n)
decimal_digits n fits = (written n fits).digits
