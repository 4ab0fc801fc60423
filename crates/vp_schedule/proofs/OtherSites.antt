-- The sites of a list except one.
use Rattle.std.proofs.Common.{◌≡◌, ◌≢◌, ℕ, true, false, not, eqb, List, [], ◌∷◌, refl, sym, ap, ◌∙◌, inl, inr}
use Rattle.std.proofs.lemmas.Bool.{false≢true, eqb-true, eq-eqb, ne_eqb, cases_eq}
use Rattle.std.proofs.lemmas.Map.Views.{any-filter_same}
use Rattle.vp_model.specs.Words.{has}
use Rattle.vp_catalog.specs.Sites.{AllSites}
use Rattle.vp_schedule.specs.Events.{IsListed}
use Rattle.vp_schedule.specs.EventReading.{other_sites}

pub others_all : (sites : List ℕ) (site : ℕ) → AllSites sites → AllSites (other_sites sites site)
others_all [] site h = tt
others_all (s ∷ sites) site h = elim (cases_eq s site) [
  | inl same ↦ rw (eq-eqb s site same) (others_all sites site h.1)
  | inr other ↦ rw (ne_eqb s site other) (h.0, others_all sites site h.1)
]

has_others : (sites : List ℕ) (a b : ℕ) → a ≢ b → has (other_sites sites a) b ≡ has sites b
has_others sites a b other =
    any-filter_same (λ m. eqb m b) (λ s. not (eqb s a)) true (λ k e. let same = eqb-true k b e in rw (ne_eqb k a (λ h. other (sym h ∙ same))) refl) sites

has_not : (sites : List ℕ) (a : ℕ) → has (other_sites sites a) a ≡ false
has_not sites a = any-filter_same (λ m. eqb m a) (λ s. not (eqb s a)) false (λ k e. rw e refl) sites

pub other_listed : (sites : List ℕ) (a b : ℕ) → IsListed sites b → a ≢ b → IsListed (other_sites sites a) b
other_listed sites a b h other = has_others sites a b other ∙ h

pub listed_other : (sites : List ℕ) (a b : ℕ) → IsListed (other_sites sites a) b → IsListed sites b × (a ≢ b)
listed_other sites a b h = elim (cases_eq a b) [
  | inl same ↦ absurd (false≢true (sym (has_not sites a) ∙ ap (has (other_sites sites a)) same ∙ h))
  | inr other ↦ (sym (has_others sites a b other) ∙ h, other)
]
