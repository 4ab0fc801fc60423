-- One of some given names is read exactly.
use Rattle.std.proofs.Common.{◌≡◌, ◌≢◌, ℕ, zero, suc, ◌+◌, ◌-◌, ◌<◌, Bool, true, false, cond, nat_eq, List, [], ◌∷◌, ◌++◌, length, get_or, take, drop, Option, Some, None, Result, Ok, Err, refl, sym, ap, subst, ◌∙◌, append_assoc, inl, inr}
use Rattle.std.specs.Prelude.{option_map}
use Rattle.std.specs.List.{starts_with, AllByRecursion}
use Rattle.std.specs.Str.{bytes_eq}
use Rattle.std.proofs.lemmas.List.{length-drop, drop_more, take_more, drop_all}
use Rattle.std.proofs.lemmas.Bool.{false≢true, or_cases, or_left, or_right, cases_lt}
use Rattle.std.proofs.lemmas.Slice.Eq.{bytes_eq-Decides}
use Rattle.vp_text.specs.Meaning.{Begins}
use Rattle.vp_text.specs.Reading.{scan, whole_reading}
use Rattle.vp_text.specs.Classes.{has}
use Rattle.vp_text.specs.declared.class.Class.TheVariants as classes
use Rattle.vp_text.proofs.Exact.{Exact}
use Rattle.vp_text.proofs.Scan.{scan_exact, scan_on, scan_off}
use Rattle.vp_text.proofs.Items.{all_at}
use Rattle.vp_text.proofs.Printing.{starts_Decides}
use Rattle.vp_text.proofs.Words.{chose, chose_none}
use Rattle.vp_text.proofs.Choices.{GoesOn}
use Rattle.vp_base.specs.Words.{IsName, IsPlace}
use Rattle.vp_base.specs.Reading.{starts_any, place_of, place_step, among_at}

begins : (names : List (List ℕ)) (p : List ℕ) → starts_any names p ≡ true → Begins (IsPlace names) p
begins [] p e = absurd (false≢true e)
begins (w ∷ ws) p e =
    let f : (b : Bool) → starts_with nat_eq w p ≡ b → Begins (IsPlace (w ∷ ws)) p = λ b. elim b as (λ b. starts_with nat_eq w p ≡ b → Begins (IsPlace (w ∷ ws)) p) [
      | true ↦ λ h. record { value = zero; more = drop (length p) w; spelled = sym ((starts_Decides w p).0 h) }
      | false ↦ λ h.
          let rest : starts_any ws p ≡ true = elim (or_cases (starts_with nat_eq w p) (starts_any ws p) e) [ inl y ↦ absurd (false≢true (sym h ∙ y)) | inr y ↦ y ] in
          let b = begins ws p rest in
          record { value = suc b.value; more = b.more; spelled = (λ same. false≢true (sym h ∙ (starts_Decides w p).1 b.more (sym same)), b.spelled) }
    ] in
    f (starts_with nat_eq w p) refl

starts : (names : List (List ℕ)) (p : List ℕ) (i : ℕ) (r : List ℕ) → IsPlace names i (p ++ r) → starts_any names p ≡ true
starts [] p i r h = absurd h
starts (w ∷ ws) p zero r h = or_left (starts_with nat_eq w p) (starts_any ws p) ((starts_Decides w p).1 r (sym h))
starts (w ∷ ws) p (suc i) r h = or_right (starts_with nat_eq w p) (starts_any ws p) (starts ws p i r h.1)

some_place : (o : Option ℕ) (a : ℕ) → option_map (λ i. suc i) o ≡ Some a → (i : ℕ) × (o ≡ Some i) × (a ≡ suc i)
some_place None a e = absurd (let f : None ≡ Some a = e in cc)
some_place (Some i) a e = (i, refl, let same : suc i ≡ a = cc in sym same)

none_place : (o : Option ℕ) → option_map (λ i. suc i) o ≡ None → o ≡ None
none_place None e = refl
none_place (Some i) e = absurd (let f : Some (suc i) ≡ None = e in cc)

pub placed : (names : List (List ℕ)) (t : List ℕ) (a : ℕ) → place_of names t ≡ Some a → IsPlace names a t
placed [] t a e = absurd (let f : None ≡ Some a = e in cc)
placed (w ∷ ws) t a e =
    let d = bytes_eq-Decides w t in
    let f : (b : Bool) → bytes_eq w t ≡ b → cond b (Some 0) (option_map (λ i. suc i) (place_of ws t)) ≡ Some a → IsPlace (w ∷ ws) a t = λ b. elim b as (λ b. bytes_eq w t ≡ b → cond b (Some 0) (option_map (λ i. suc i) (place_of ws t)) ≡ Some a → IsPlace (w ∷ ws) a t) [
      | true ↦ λ h g. subst (λ (x : ℕ). IsPlace (w ∷ ws) x t) (let same : 0 ≡ a = cc in same) (sym (d.0 h))
      | false ↦ λ h g.
          let v = some_place (place_of ws t) a g in
          subst (λ (x : ℕ). IsPlace (w ∷ ws) x t) (sym v.2) (λ same. false≢true (sym h ∙ d.1 (sym same)), placed ws t v.0 v.1)
    ] in
    f (bytes_eq w t) refl e

some_none : (i : ℕ) → Some i ≡ None → ⊥
some_none i e = cc

unplaced_in : (w : List ℕ) (ws : List (List ℕ)) (t : List ℕ) (a : ℕ) → ((i : ℕ) → IsPlace ws i t → ⊥) → (t ≢ w) → IsPlace (w ∷ ws) a t → ⊥
unplaced_in w ws t zero none other h = other h
unplaced_in w ws t (suc i) none other h = none i h.1

pub unplaced : (names : List (List ℕ)) (t : List ℕ) (a : ℕ) → place_of names t ≡ None → IsPlace names a t → ⊥
unplaced [] t a e h = h
unplaced (w ∷ ws) t a e place =
    let d = bytes_eq-Decides w t in
    let f : (b : Bool) → bytes_eq w t ≡ b → cond b (Some 0) (option_map (λ i. suc i) (place_of ws t)) ≡ None → IsPlace (w ∷ ws) a t → ⊥ = λ b. elim b as (λ b. bytes_eq w t ≡ b → cond b (Some 0) (option_map (λ i. suc i) (place_of ws t)) ≡ None → IsPlace (w ∷ ws) a t → ⊥) [
      | true ↦ λ h g k. some_none 0 g
      | false ↦ λ h g. unplaced_in w ws t a (λ i. unplaced ws t i (none_place (place_of ws t) g)) (λ same. false≢true (sym h ∙ d.1 (sym same)))
    ] in
    f (bytes_eq w t) refl e place

one_place : (names : List (List ℕ)) (a b : ℕ) (t : List ℕ) → IsPlace names a t → IsPlace names b t → a ≡ b
one_place [] a b t h k = absurd h
one_place (w ∷ ws) zero zero t h k = refl
one_place (w ∷ ws) zero (suc b) t h k = absurd (k.0 h)
one_place (w ∷ ws) (suc a) zero t h k = absurd (h.0 k)
one_place (w ∷ ws) (suc a) (suc b) t h k = ap (λ (x : ℕ). suc x) (one_place ws a b t h.1 k.1)

record Front (names : List (List ℕ)) (s p : List ℕ) : Type 0 where
  is : s ≡ p
  begins : starts_any names p ≡ true

pub among_exact : (names : List (List ℕ)) → starts_any names [] ≡ true → Exact (IsPlace names) (among_at names)
unfolding among_at
among_exact names some = scan_exact {At = Front names} (record {
  viable = λ s p at. begins names p at.begins;
  more = λ s p c t at e. let h = chose (starts_any names (s ++ c ∷ [])) (s ++ c ∷ []) t e in record { is = sym h.1 ∙ ap (λ (x : List ℕ). x ++ c ∷ []) at.is; begins = subst (λ (x : List ℕ). starts_any names (x ++ c ∷ []) ≡ true) at.is h.0 };
  stop = λ s p c a r at e l.
      let off = chose_none (starts_any names (s ++ c ∷ [])) (s ++ c ∷ []) e in
      false≢true (sym off ∙ subst (λ (x : List ℕ). starts_any names (x ++ c ∷ []) ≡ true) (sym at.is) (starts names (p ++ c ∷ []) a r (subst (λ (x : List ℕ). IsPlace names a x) (sym (append_assoc p (c ∷ []) r)) l)));
  value = λ s p a at e. subst (λ (x : List ℕ). IsPlace names a x) at.is (placed names s a e);
  none = λ s p a at e l. unplaced names s a e (subst (λ (x : List ℕ). IsPlace names a x) (sym at.is) l);
  one = λ a b t la lb. one_place names a b t la lb;
}) [] (record { is = refl; begins = some })

-- the text of a listed name is a name
pub place_is_name : (names : List (List ℕ)) (i : ℕ) (t : List ℕ) → AllByRecursion (λ n. IsName n n) names → IsPlace names i t → IsName t t
place_is_name [] i t all h = absurd h
place_is_name (w ∷ ws) zero t all h = subst (λ (x : List ℕ). IsName x x) (sym h) all.0
place_is_name (w ∷ ws) (suc i) t all h = place_is_name ws i t all.1 h.1

pub place_goes : (names : List (List ℕ)) → AllByRecursion (λ n. IsName n n) names → GoesOn (has classes.Name) (IsPlace names)
place_goes names all = λ a a2 text x r before longer. all_at (λ c. has classes.Name c ≡ true) text x r (place_is_name names a2 (text ++ x ∷ r) all longer).each

-- ---- the loop

abbrev pub place_from : List (List ℕ) → List ℕ → ℕ → Result (ℕ × List ℕ) ℕ
place_from names bytes n = scan (place_step names) (place_of names) (take n bytes) (drop n bytes)

pub place_turn : (names : List (List ℕ)) (bytes : List ℕ) (n : ℕ) → n < length bytes → starts_any names (take (n + 1) bytes) ≡ true → place_from names bytes n ≡ place_from names bytes (n + 1)
place_turn names bytes n lt good =
    let more : take (n + 1) bytes ≡ take n bytes ++ get_or bytes n 0 ∷ [] = take_more bytes n 0 lt in
    let good2 : starts_any names (take n bytes ++ get_or bytes n 0 ∷ []) ≡ true = subst (λ (x : List ℕ). starts_any names x ≡ true) more good in
    let stepped : place_step names (take n bytes) (get_or bytes n 0) ≡ Some (take (n + 1) bytes) = rw (good2, more) refl in
    ap (scan (place_step names) (place_of names) (take n bytes)) (drop_more bytes n 0 lt) ∙ scan_on (place_step names) (place_of names) (take n bytes) (get_or bytes n 0) (drop (n + 1) bytes) (take (n + 1) bytes) stepped

pub place_ends : (names : List (List ℕ)) (bytes : List ℕ) (n : ℕ) → (n < length bytes → starts_any names (take (n + 1) bytes) ≡ false) → place_from names bytes n ≡ whole_reading (place_of names (take n bytes)) (drop n bytes)
place_ends names bytes n stops =
    elim (cases_lt n (length bytes)) [
      | inl lt ↦
          let off : starts_any names (take n bytes ++ get_or bytes n 0 ∷ []) ≡ false = subst (λ (x : List ℕ). starts_any names x ≡ false) (take_more bytes n 0 lt) (stops lt) in
          rw (drop_more bytes n 0 lt) (scan_off (place_step names) (place_of names) (take n bytes) (get_or bytes n 0) (drop (n + 1) bytes) (rw off refl))
      | inr over ↦ rw (drop_all n bytes over) refl
    ]

pub place_starts : (names : List (List ℕ)) (bytes : List ℕ) → place_from names bytes 0 ≡ among_at names bytes
unfolding among_at
place_starts names bytes = refl

pub place_found : (names : List (List ℕ)) (bytes : List ℕ) (n i : ℕ) → (n < length bytes → starts_any names (take (n + 1) bytes) ≡ false) → Some i ≡ place_of names (take n bytes) → place_from names bytes n ≡ Ok (i, drop n bytes)
place_found names bytes n i stops e = place_ends names bytes n stops ∙ ap (λ (o : Option ℕ). whole_reading o (drop n bytes)) (sym e)

pub place_lost : (names : List (List ℕ)) (bytes : List ℕ) (n : ℕ) → (n < length bytes → starts_any names (take (n + 1) bytes) ≡ false) → None ≡ place_of names (take n bytes) → place_from names bytes n ≡ Err (length bytes - n)
place_lost names bytes n stops e = place_ends names bytes n stops ∙ ap (λ (o : Option ℕ). whole_reading o (drop n bytes)) (sym e) ∙ ap (λ (k : ℕ). Err k) (length-drop n bytes)
