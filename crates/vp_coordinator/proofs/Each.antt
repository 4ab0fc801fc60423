-- A loop that does something for each item in order, and may replace the item.
use Rattle.std.proofs.Common.{◌≡◌, ◌∙◌, ℕ, ◌+◌, ◌<◌, List, take, drop, get_or, set, length, sym, ap, arith}
use Rattle.std.proofs.lemmas.List.{get_or-drop, drop-drop, drop-set-lt}
use Rattle.std.proofs.lemmas.List.Sums.{fold_more}
use Rattle.vp_model.specs.Words.{for_each}

module _ {A : Type 0} (xs ys : List A) (i : ℕ) (x : A) (rest : drop i ys ≡ drop i xs) where
  same_item : get_or ys i x ≡ get_or xs i x
  same_item =
      let at : i + 0 ≡ i = omega arith in
      ap (λ n. get_or ys n x) (sym at) ∙ sym (get_or-drop i ys 0 x) ∙ ap (λ l. get_or l 0 x) rest ∙ get_or-drop i xs 0 x ∙ ap (λ n. get_or xs n x) at

  pub done_more : {B : Type 0} (f : A → B → B) (b : B) → i < length xs → f (get_or ys i x) (for_each (take i xs) f b) ≡ for_each (take (i + 1) xs) f b
  done_more f b lt =
      ap (λ y. f y (for_each (take i xs) f b)) same_item ∙ sym (fold_more (λ b item. f item b) b xs i x lt)

  pub rest_more : (z : A) → drop (i + 1) (set ys i z) ≡ drop (i + 1) xs
  rest_more z =
      drop-set-lt (i + 1) ys i z (omega arith) ∙ sym (drop-drop 1 i ys) ∙ ap (drop 1) rest ∙ drop-drop 1 i xs
