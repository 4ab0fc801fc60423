-- The `else` of the innermost `if`, which is the last one that was opened.
use Rattle.std.proofs.Common.{◌≡◌, ◌∙◌, ◌-◌, List, [], ◌∷◌, ◌++◌, Bool, true, length, refl, ap, ap₂, subst, arith}
use Rattle.std.specs.Prelude.{ℕ, reverse, set}
use Rattle.std.proofs.lemmas.List.{length-append, nil_from_length, reverse-append, reverse-reverse}
use Rattle.std.proofs.Math.Seq.{set-append_seam}
use Rattle.vp_procedure.specs.Procedures.{with_else}

set_last : (ys : List Bool) → reverse (set (reverse ys) (length (reverse ys) - 1) true) ≡ with_else ys
set_last [] = refl
set_last (y ∷ ys) =
    let r : reverse (y ∷ ys) ≡ reverse ys ++ y ∷ [] = reverse-append (y ∷ []) ys in
    let n : length (reverse (y ∷ ys)) - 1 ≡ length (reverse ys) = omega (arith, ap length r, length-append (reverse ys) (y ∷ [])) in
    ap reverse (ap₂ (λ (l : List Bool) (i : ℕ). set l i true) r n ∙ set-append_seam (reverse ys) y [] true) ∙ reverse-append (reverse ys) (true ∷ []) ∙ ap (λ (l : List Bool). true ∷ l) (reverse-reverse ys)

pub noted : (xs : List Bool) → reverse (set xs (length xs - 1) true) ≡ with_else (reverse xs)
noted xs = subst (λ (l : List Bool). reverse (set l (length l - 1) true) ≡ with_else (reverse xs)) (reverse-reverse xs) (set_last (reverse xs))

pub none_noted : (xs : List Bool) → length xs ≡ 0 → reverse xs ≡ with_else (reverse xs)
none_noted xs none = rw (nil_from_length xs none) refl
