-- A table that says by the number of a site whether it is kept, and the list of the sites that are kept.
use Rattle.std.proofs.Common.{◌≡◌, ◌∙◌, ℕ, ◌+◌, ◌<◌, Bool, true, false, eqb, ◌||◌, ◌&&◌, not, List, [], ◌∷◌, ◌++◌, length, take, get_or, filter, cond, sym, ap, inl, inr}
use Rattle.std.proofs.Math.Bool.{or-true, or-false, and-true, and-false}
use Rattle.std.proofs.Math.ListN.{set}
use Rattle.std.proofs.lemmas.Bool.Decides.{eqb_tells}
use Rattle.std.proofs.lemmas.Grind.{get_or-set_at}
use Rattle.std.proofs.lemmas.List.{append-nil, get_or-set_other}
use Rattle.std.proofs.lemmas.List.Elements.{filter_more}
use Rattle.std.proofs.lemmas.List.Folds.{list_any-append}
use Rattle.vp_model.specs.Words.{has}

has_push : (sites : List ℕ) (site q : ℕ) → has (sites ++ site ∷ []) q ≡ (has sites q || eqb site q)
has_push sites site q = list_any-append (λ m. eqb m q) sites (site ∷ []) ∙ ap (λ b. has sites q || b) (or-false (eqb site q))

pub marked : (marks : List Bool) (sites : List ℕ) (site q : ℕ) → site < length marks → get_or marks q false ≡ has sites q → get_or (set marks site true) q false ≡ has (sites ++ site ∷ []) q
marked marks sites site q inside before =
    elim (eqb_tells site q) [
      | inl same ↦ get_or-set_at marks site q true false (sym same.1) inside ∙ sym (has_push sites site q ∙ ap (λ b. has sites q || b) same.0 ∙ or-true (has sites q))
      | inr other ↦ get_or-set_other marks site q true false (λ e. other.1 (sym e)) ∙ before ∙ sym (has_push sites site q ∙ ap (λ b. has sites q || b) other.0 ∙ or-false (has sites q))
    ]

pub unmarked : (marks : List Bool) (site q : ℕ) (b : Bool) → site < length marks → get_or marks q false ≡ b → get_or (set marks site false) q false ≡ (b && not (eqb q site))
unmarked marks site q b inside before =
    elim (eqb_tells q site) [
      | inl same ↦ get_or-set_at marks site q false false same.1 inside ∙ sym (ap (λ e. b && not e) same.0 ∙ and-false b)
      | inr other ↦ get_or-set_other marks site q false false other.1 ∙ before ∙ sym (ap (λ e. b && not e) other.0 ∙ and-true b)
    ]

module _ (p : ℕ → Bool) (sites : List ℕ) (i site : ℕ) (inside : i < length sites) (here : site ≡ get_or sites i site) where
  -- what one more site adds
  more : (b : Bool) → p site ≡ b → filter p (take (i + 1) sites) ≡ filter p (take i sites) ++ cond b (site ∷ []) []
  more b e = filter_more p sites i site inside ∙ ap (λ x. filter p (take i sites) ++ cond (p x) (x ∷ []) []) (sym here) ∙ ap (λ (b : Bool). filter p (take i sites) ++ cond b (site ∷ []) []) e

  pub kept : (others : List ℕ) → p site ≡ true → others ≡ filter p (take i sites) → others ++ site ∷ [] ≡ filter p (take (i + 1) sites)
  kept others e before = ap (λ (l : List ℕ). l ++ site ∷ []) before ∙ sym (more true e)

  pub passed : (others : List ℕ) → p site ≡ false → others ≡ filter p (take i sites) → others ≡ filter p (take (i + 1) sites)
  passed others e before = before ∙ sym (more false e ∙ append-nil (filter p (take i sites)))
