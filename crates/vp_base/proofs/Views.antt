-- Views are read exactly.
use Rattle.std.proofs.Common.{◌≡◌, ℕ, ◌-◌, ◌^◌, ◌≤◌, ◌<◌, Bool, true, false, cond, eqb, List, [], ◌∷◌, refl, sym, subst, arith, inl, inr}
use Rattle.std.proofs.lemmas.Bool.{cases_eq, eq-eqb, ne_eqb}
use Rattle.std.specs.Fmt.{decimal}
use Rattle.vp_text.specs.Tokens.{IsLiteral, IsNumber}
use Rattle.vp_text.specs.Reading.{is_digit}
use Rattle.vp_text.proofs.Exact.{Exact, Then, Made, made_exact, exact_as}
use Rattle.vp_text.proofs.Numbers.{number_exact}
use Rattle.vp_text.proofs.Fields.{literal_then, number_then, literal_outside}
use Rattle.vp_text.proofs.Choices.{GoesOn, goes_as, then_goes, literal_goes, made_goes, number_goes, number_one, follows_from}
use Rattle.vp_base.specs.declared.ids.ViewId.{ViewId}
use Rattle.vp_base.specs.Identifiers.{IsView, IsViewText, IsViewFrom}
use Rattle.vp_base.specs.Reading.{view_of, least_site, most_site, least_site_from, view_at, view_from_at}

abbrev ViewParts : ViewId → List ℕ → Type 0
ViewParts = Then (IsNumber 0 (2 ^ 64 - 1)) (λ number. Then (IsLiteral (64 ∷ [])) (λ _. Made (IsNumber (least_site number) (most_site number)) (view_of number)))

site_range : (number : ℕ) → (least_site number ≤ most_site number) × (most_site number < 2 ^ 64)
site_range number =
    let f : (b : Bool) → (cond b 0 1 ≤ cond b 0 16) × (cond b 0 16 < 2 ^ 64) = λ b. elim b as (λ b. (cond b 0 1 ≤ cond b 0 16) × (cond b 0 16 < 2 ^ 64)) [ true ↦ (omega arith, omega arith) | false ↦ (omega arith, omega arith) ] in
    f (eqb number 0)

view_allowed : (number site : ℕ) → number ≤ 2 ^ 64 - 1 → least_site number ≤ site → site ≤ most_site number → IsView (view_of number site)
view_allowed number site fits above below =
    elim (cases_eq number 0) [
      | inl none ↦
          let b : eqb number 0 ≡ true = eq-eqb number 0 none in
          let below : site ≤ 0 = (rw b at below) in
          record { number_fits = omega arith; site_fits = omega arith; opening = λ e. omega arith; made = λ e. absurd (omega arith) }
      | inr some ↦
          let b : eqb number 0 ≡ false = ne_eqb number 0 some in
          let above : 1 ≤ site = (rw b at above) in
          let below : site ≤ 16 = (rw b at below) in
          record { number_fits = omega arith; site_fits = omega arith; opening = λ e. absurd (some e); made = λ e. above }
    ]

-- the sites that a view with that number may have
pub view_sites : (number site : ℕ) → IsView (view_of number site) → (least_site number ≤ site) × (site ≤ most_site number)
view_sites number site v =
    elim (cases_eq number 0) [
      | inl none ↦ rw (eq-eqb number 0 none) (omega arith, omega (arith, v.opening none))
      | inr some ↦ rw (ne_eqb number 0 some) (v.made (omega arith), v.site_fits)
    ]

view_to : (v : ViewId) (t : List ℕ) → ViewParts v t → IsViewText v t
view_to v t h =
    let n = h.before in
    let s = h.after.after in
    subst (λ (v : ViewId). IsViewText v t) (sym s.is) (record {
      is = rw (h.parts, n.is, h.after.parts, h.after.before, s.spelled.is) refl;
      allowed = view_allowed h.first s.from n.below s.spelled.above s.spelled.below;
    })

view_from : (v : ViewId) (t : List ℕ) → IsViewText v t → ViewParts v t
view_from v t h =
    let sites = view_sites v.number v.site h.allowed in
    record {
      first = v.number;
      front = decimal v.number;
      back = 64 ∷ decimal v.site;
      before = record { is = refl; above = omega arith; below = omega (arith, h.allowed.number_fits) };
      after = record { first = tt; front = 64 ∷ []; back = decimal v.site; before = refl; after = record { from = v.site; spelled = record { is = refl; above = sites.0; below = sites.1 }; is = refl }; parts = refl };
      parts = h.is;
    }

pub view_exact : Exact IsViewText view_at
unfolding view_at
view_exact = exact_as view_to view_from (number_then 0 (2 ^ 64 - 1) (omega arith) (omega arith) (λ number. literal_outside is_digit (64 ∷ []) refl)
    (λ number. literal_then (64 ∷ []) (made_exact (view_of number) (number_exact (least_site number) (most_site number) (site_range number).0 (site_range number).1))))

-- ---- a view that isn't below the last one

abbrev FromParts : ViewId → ViewId → List ℕ → Type 0
FromParts last = Then (IsNumber last.number (2 ^ 64 - 1)) (λ number. Then (IsLiteral (64 ∷ [])) (λ _. Made (IsNumber (least_site_from last number) (most_site number)) (view_of number)))

from_range : (last : ViewId) (number : ℕ) → IsView last → (least_site_from last number ≤ most_site number) × (least_site number ≤ least_site_from last number)
from_range last number v =
    elim (cases_eq number last.number) [
      | inl same ↦
          let s = view_sites last.number last.site v in
          rw (eq-eqb number last.number same, same) (s.1, s.0)
      | inr other ↦ rw (ne_eqb number last.number other) ((site_range number).0, omega arith)
    ]

from_at : (last : ViewId) (number site : ℕ) → least_site_from last number ≤ site → number ≡ last.number → last.site ≤ site
from_at last number site le e = (rw (eq-eqb number last.number e) at le)

from_to : (last : ViewId) → IsView last → (v : ViewId) (t : List ℕ) → FromParts last v t → IsViewFrom last v t
from_to last good v t h =
    let n = h.before in
    let s = h.after.after in
    let range = from_range last h.first good in
    subst (λ (v : ViewId). IsViewFrom last v t) (sym s.is) (record {
      spelled = record {
        is = rw (h.parts, n.is, h.after.parts, h.after.before, s.spelled.is) refl;
        allowed = view_allowed h.first s.from n.below (omega (arith, range.1, s.spelled.above)) s.spelled.below;
      };
      number_from = n.above;
      site_from = λ e. from_at last h.first s.from s.spelled.above e;
    })

from_from : (last : ViewId) → (v : ViewId) (t : List ℕ) → IsViewFrom last v t → FromParts last v t
from_from last v t h =
    let sites = view_sites v.number v.site h.spelled.allowed in
    let above : least_site_from last v.number ≤ v.site = elim (cases_eq v.number last.number) [
      | inl same ↦ rw (eq-eqb v.number last.number same) (h.site_from same)
      | inr other ↦ rw (ne_eqb v.number last.number other) sites.0
    ] in
    record {
      first = v.number;
      front = decimal v.number;
      back = 64 ∷ decimal v.site;
      before = record { is = refl; above = h.number_from; below = omega (arith, h.spelled.allowed.number_fits) };
      after = record { first = tt; front = 64 ∷ []; back = decimal v.site; before = refl; after = record { from = v.site; spelled = record { is = refl; above = above; below = sites.1 }; is = refl }; parts = refl };
      parts = h.spelled.is;
    }

pub view_from_exact : (last : ViewId) → IsView last → Exact (IsViewFrom last) (view_from_at last)
unfolding view_from_at
view_from_exact last good = exact_as (from_to last good) (from_from last) (number_then last.number (2 ^ 64 - 1) (omega (arith, good.number_fits)) (omega arith) (λ number. literal_outside is_digit (64 ∷ []) refl)
    (λ number. literal_then (64 ∷ []) (made_exact (view_of number) (number_exact (least_site_from last number) (most_site number) (from_range last number good).0 (site_range number).1))))

-- ---- a view goes on only with digits

sites_go : (least number : ℕ) → GoesOn is_digit (Then (IsLiteral (64 ∷ [])) (λ _. Made (IsNumber least (most_site number)) (view_of number)))
sites_go least number = literal_goes is_digit (64 ∷ []) (made_goes is_digit (number_goes least (most_site number) (site_range number).1))

pub view_from_goes : (last : ViewId) → IsView last → GoesOn is_digit (IsViewFrom last)
view_from_goes last good =
    goes_as is_digit (from_from last) (then_goes is_digit (number_one last.number (2 ^ 64 - 1) (omega (arith, good.number_fits)) (omega arith))
    (follows_from is_digit (number_goes last.number (2 ^ 64 - 1) (omega arith)) (λ number. literal_outside is_digit (64 ∷ []) refl))
    (λ number. sites_go (least_site_from last number) number))
