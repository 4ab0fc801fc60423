-- A list that is read from front to back, one item more.
use Rattle.std.proofs.Common.{◌≡◌, ◌∙◌, ℕ, ◌+◌, ◌<◌, ◌≤◌, List, [], ◌∷◌, ◌++◌, length, get_or, take, drop, map, sym, ap}
use Rattle.std.proofs.lemmas.List.{drop_all, drop_more, map_more}

-- what is read from each item
pub read_more : {X Y : Type 0} (f : X → Y) (xs : List X) (i : ℕ) (x : X) (ys more : List Y) → i < length xs → x ≡ get_or xs i x → ys ≡ map f (take i xs) → more ≡ ys ++ f x ∷ [] → more ≡ map f (take (i + 1) xs)
read_more f xs i x ys more inside here before pushed = pushed ∙ ap (λ l. l ++ f x ∷ []) before ∙ ap (λ z. map f (take i xs) ++ f z ∷ []) here ∙ sym (map_more f xs i x inside)

module _ {X Y : Type 0} (f : List X → Y) (xs : List X) (i : ℕ) where
  -- what follows from the rest of the list, by its first item
  pub rest_says : (x : X) → i < length xs → x ≡ get_or xs i x → f (drop i xs) ≡ f xs → f (x ∷ drop (i + 1) xs) ≡ f xs
  rest_says x inside here before = ap f (sym (drop_more xs i x inside ∙ ap (λ y. y ∷ drop (i + 1) xs) (sym here))) ∙ before

  pub end_says : length xs ≤ i → f (drop i xs) ≡ f xs → f [] ≡ f xs
  end_says past before = ap f (sym (drop_all i xs past)) ∙ before
