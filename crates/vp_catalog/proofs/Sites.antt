-- A site of a list is read exactly, and its number goes on only with digits.
use Rattle.std.proofs.Common.{◌≡◌, ◌≢◌, ℕ, ◌+◌, ◌/◌, ◌%◌, zero, suc, ◌<◌, ◌≤◌, Bool, true, false, cond, ltb, eqb, ◌⊎◌, List, [], ◌∷◌, ◌++◌, get_or, map, Option, Some, None, Ok, Err, refl, sym, ap, subst, ◌∙◌, arith, inl, inr}
use Rattle.std.specs.Prelude.{option_map}
use Rattle.std.specs.List.{AllByRecursion}
use Rattle.std.specs.Fmt.{decimal}
use Rattle.std.proofs.lemmas.Fmt.{decimal_injective, decimal_step, decimal_digit}
use Rattle.std.proofs.lemmas.Bool.{false≢true, lt-ltb, ltb-true, eqb-true, eq-eqb, cases_eq, or_cases, or_left, or_right, le-leb, and_from}
use Rattle.vp_text.specs.Reading.{is_digit}
use Rattle.vp_text.proofs.Exact.{Exact, Made, made_exact, exact_as}
use Rattle.vp_text.proofs.Items.{all_at}
use Rattle.vp_text.proofs.Numbers.{IsDigit, decimal_digits}
use Rattle.vp_text.proofs.Choices.{GoesOn}
use Rattle.vp_base.specs.Words.{IsPlace}
use Rattle.vp_base.specs.Reading.{starts_any, place_of, among_at}
use Rattle.vp_base.proofs.Among.{among_exact}
use Rattle.vp_model.specs.Words.{has}
use Rattle.vp_catalog.specs.Sites.{AllSites, IsSiteIn, sites_above, site_texts, site_of_place, site_named, site_at}

-- ---- the reader's results

named_place : (o : Option ℕ) (f : ℕ → ℕ) (site : ℕ) → Some site ≡ option_map f o → (i : ℕ) × (Some i ≡ o) × (f i ≡ site)
named_place None f site e = absurd cc
named_place (Some i) f site e = (i, refl, let same : f i ≡ site = cc in same)

unnamed_place : (o : Option ℕ) (f : ℕ → ℕ) → None ≡ option_map f o → None ≡ o
unnamed_place None f e = refl
unnamed_place (Some i) f e = absurd cc

pub site_place : (sites : List ℕ) (above : ℕ) (text : List ℕ) (site : ℕ) → Some site ≡ site_named sites above text → (i : ℕ) × (Some i ≡ place_of (site_texts sites above) text) × (site_of_place sites above i ≡ site)
site_place sites above text site e = named_place (place_of (site_texts sites above) text) (site_of_place sites above) site e

pub no_place : (sites : List ℕ) (above : ℕ) (text : List ℕ) → None ≡ site_named sites above text → None ≡ place_of (site_texts sites above) text
no_place sites above text e = unnamed_place (place_of (site_texts sites above) text) (site_of_place sites above) e

pub site_found : (sites : List ℕ) (above : ℕ) (bytes : List ℕ) (i site : ℕ) (rest : List ℕ) → among_at (site_texts sites above) bytes ≡ Ok (i, rest) → site_of_place sites above i ≡ site → site_at sites above bytes ≡ Ok (site, rest)
unfolding site_at
site_found sites above bytes i site rest e same = rw (e, same) refl

pub site_lost : (sites : List ℕ) (above : ℕ) (bytes : List ℕ) (left : ℕ) → among_at (site_texts sites above) bytes ≡ Err left → site_at sites above bytes ≡ Err left
unfolding site_at
site_lost sites above bytes left e = rw e refl

-- ---- what is in a list

pub has_cons : (x s : ℕ) (xs : List ℕ) → has (x ∷ xs) s ≡ true → (x ≡ s) ⊎ (has xs s ≡ true)
has_cons x s xs h = elim (or_cases (eqb x s) (has xs s) h) [ inl e ↦ inl (eqb-true x s e) | inr e ↦ inr e ]

pub has_here : (x s : ℕ) (xs : List ℕ) → x ≡ s → has (x ∷ xs) s ≡ true
has_here x s xs e = or_left (eqb x s) (has xs s) (eq-eqb x s e)

pub has_later : (x s : ℕ) (xs : List ℕ) → has xs s ≡ true → has (x ∷ xs) s ≡ true
has_later x s xs e = or_right (eqb x s) (has xs s) e

above_has : (sites : List ℕ) (above s : ℕ) → has (sites_above sites above) s ≡ true → (has sites s ≡ true) × (above < s)
above_has [] above s h = absurd (false≢true h)
above_has (x ∷ sites) above s h =
    let f : (b : Bool) → ltb above x ≡ b → has (cond b (x ∷ sites_above sites above) (sites_above sites above)) s ≡ true → (has (x ∷ sites) s ≡ true) × (above < s) = λ b. elim b as (λ b. ltb above x ≡ b → has (cond b (x ∷ sites_above sites above) (sites_above sites above)) s ≡ true → (has (x ∷ sites) s ≡ true) × (above < s)) [
      | true ↦ λ e g. elim (has_cons x s (sites_above sites above) g) [
        | inl same ↦ (has_here x s sites same, subst (λ (y : ℕ). above < y) same (ltb-true above x e))
        | inr rest ↦ let w = above_has sites above s rest in (has_later x s sites w.0, w.1)
      ]
      | false ↦ λ e g. let w = above_has sites above s g in (has_later x s sites w.0, w.1)
    ] in
    f (ltb above x) refl h

has_above : (sites : List ℕ) (above s : ℕ) → has sites s ≡ true → above < s → has (sites_above sites above) s ≡ true
has_above [] above s h lt = absurd (false≢true h)
has_above (x ∷ sites) above s h lt =
    let f : (b : Bool) → ltb above x ≡ b → has (cond b (x ∷ sites_above sites above) (sites_above sites above)) s ≡ true = λ b. elim b as (λ b. ltb above x ≡ b → has (cond b (x ∷ sites_above sites above) (sites_above sites above)) s ≡ true) [
      | true ↦ λ e. elim (has_cons x s sites h) [
        | inl same ↦ has_here x s (sites_above sites above) same
        | inr rest ↦ has_later x s (sites_above sites above) (has_above sites above s rest lt)
      ]
      | false ↦ λ e. elim (has_cons x s sites h) [
        | inl same ↦ absurd (false≢true (sym e ∙ lt-ltb above x (subst (λ (y : ℕ). above < y) (sym same) lt)))
        | inr rest ↦ has_above sites above s rest lt
      ]
    ] in
    f (ltb above x) refl

pub site_range : (sites : List ℕ) (s : ℕ) → AllSites sites → has sites s ≡ true → (1 ≤ s) × (s ≤ 16)
site_range [] s all h = absurd (false≢true h)
site_range (x ∷ sites) s all h = elim (has_cons x s sites h) [
  | inl same ↦ subst (λ (y : ℕ). (1 ≤ y) × (y ≤ 16)) same all.0
  | inr rest ↦ site_range sites s all.1 rest
]

-- ---- the texts of a list of numbers

placed_number : (xs : List ℕ) (i : ℕ) (t : List ℕ) → IsPlace (map (λ s. decimal s) xs) i t → (t ≡ decimal (get_or xs i 0)) × (has xs (get_or xs i 0) ≡ true)
placed_number [] i t h = absurd h
placed_number (x ∷ xs) zero t h = (h, has_here x x xs refl)
placed_number (x ∷ xs) (suc i) t h = let w = placed_number xs i t h.1 in (w.0, has_later x (get_or xs i 0) xs w.1)

abbrev Small : List ℕ → Type 0
Small xs = (s : ℕ) → has xs s ≡ true → s ≤ 16

number_placed : (xs : List ℕ) (s : ℕ) → Small xs → has xs s ≡ true → (i : ℕ) × IsPlace (map (λ s. decimal s) xs) i (decimal s) × (get_or xs i 0 ≡ s)
number_placed [] s small h = absurd (false≢true h)
number_placed (x ∷ xs) s small h =
    elim (cases_eq x s) [
      | inl same ↦ (0, ap decimal (sym same), same)
      | inr other ↦
          let rest : has xs s ≡ true = elim (has_cons x s xs h) [ inl same ↦ absurd (other same) | inr rest ↦ rest ] in
          let w = number_placed xs s (λ y k. small y (has_later x y xs k)) rest in
          let differs : decimal s ≢ decimal x = λ e. other (sym (decimal_injective s x (omega (arith, small s h)) (omega (arith, small x (has_here x x xs refl))) e)) in
          (suc w.0, (differs, w.1), w.2)
    ]

starts_nothing : (w : List ℕ) (ws : List (List ℕ)) → starts_any (w ∷ ws) [] ≡ true
starts_nothing [] ws = refl
starts_nothing (c ∷ w) ws = refl

starts_some : (xs : List ℕ) (s : ℕ) → has xs s ≡ true → starts_any (map (λ s. decimal s) xs) [] ≡ true
starts_some [] s h = absurd (false≢true h)
starts_some (x ∷ xs) s h = starts_nothing (decimal x) (map (λ s. decimal s) xs)

small_above : (sites : List ℕ) (above : ℕ) → AllSites sites → Small (sites_above sites above)
small_above sites above all = λ s h. (site_range sites s all (above_has sites above s h).0).1

-- ---- a site of the list is read exactly

site_to : (sites : List ℕ) (above s : ℕ) (t : List ℕ) → Made (IsPlace (site_texts sites above)) (site_of_place sites above) s t → IsSiteIn sites above s t
site_to sites above s t h =
    let w = placed_number (sites_above sites above) h.from t h.spelled in
    let k = above_has sites above (site_of_place sites above h.from) w.1 in
    subst (λ (x : ℕ). IsSiteIn sites above x t) (sym h.is) (record { is = w.0; stands = k.0; higher = k.1 })

site_from : (sites : List ℕ) (above : ℕ) → AllSites sites → (s : ℕ) (t : List ℕ) → IsSiteIn sites above s t → Made (IsPlace (site_texts sites above)) (site_of_place sites above) s t
site_from sites above all s t h =
    let w = number_placed (sites_above sites above) s (small_above sites above all) (has_above sites above s h.stands h.higher) in
    record { from = w.0; spelled = subst (IsPlace (site_texts sites above) w.0) (sym h.is) w.1; is = sym w.2 }

pub site_exact : (sites : List ℕ) (above : ℕ) → AllSites sites → (s : ℕ) → has sites s ≡ true → above < s → Exact (IsSiteIn sites above) (site_at sites above)
unfolding site_at
site_exact sites above all s stands lt =
    exact_as (site_to sites above) (site_from sites above all)
    (made_exact (site_of_place sites above) (among_exact (site_texts sites above) (starts_some (sites_above sites above) s (has_above sites above s stands lt))))

pub site_digits : (sites : List ℕ) (above s : ℕ) (t : List ℕ) → AllSites sites → IsSiteIn sites above s t → AllByRecursion IsDigit t
site_digits sites above s t all h =
    let r = site_range sites s all h.stands in
    subst (AllByRecursion IsDigit) (sym h.is) (decimal_digits s (omega (arith, r.1)))

pub site_goes : (sites : List ℕ) (above : ℕ) → AllSites sites → GoesOn is_digit (IsSiteIn sites above)
site_goes sites above all = λ a a2 text x r before longer.
    let digit = all_at IsDigit text x r (site_digits sites above a2 (text ++ x ∷ r) all longer) in
    and_from _ _ (le-leb 48 x digit.0) (le-leb x 57 digit.1)

-- ---- the digits of a site

pub two_digits : (n : ℕ) → 10 ≤ n → n ≤ 16 → decimal n ≡ (48 + n / 10) ∷ (48 + n % 10) ∷ []
two_digits n big small =
    let tens : n / 10 < 10 = omega arith in
    decimal_step n big (omega arith) ∙ ap (λ (x : List ℕ). x ++ (48 + n % 10) ∷ []) (decimal_digit (n / 10) tens)
