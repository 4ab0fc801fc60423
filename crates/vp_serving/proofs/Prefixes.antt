-- Beginnings of lists.
use Rattle.std.proofs.Common.{◌∙◌, ℕ, ◌≤◌, List, ◌++◌, length, take, sym, ap, length-append}
use Rattle.std.proofs.Math.Seq.{take-append-add, take-append_seam, take-length}
use Rattle.std.proofs.lemmas.List.{length-take-le}
use Rattle.vp_serving.specs.Serving.{IsPrefix}

pub prefix_all : {X : Type 0} (xs : List X) → IsPrefix xs xs
prefix_all xs = sym (take-length xs)

pub prefix_front : {X : Type 0} (xs ys : List X) → IsPrefix xs (xs ++ ys)
prefix_front xs ys = sym (take-append_seam xs ys)

pub prefix_take : {X : Type 0} (n : ℕ) (xs : List X) → n ≤ length xs → IsPrefix (take n xs) xs
prefix_take n xs le = ap (λ m. take m xs) (sym (length-take-le n xs le))

-- both after the same list
pub prefix_after : {X : Type 0} (xs ys zs : List X) → IsPrefix ys zs → IsPrefix (xs ++ ys) (xs ++ zs)
prefix_after xs ys zs h = ap (λ l. xs ++ l) h ∙ sym (ap (λ m. take m (xs ++ zs)) (length-append xs ys) ∙ take-append-add xs zs (length ys))
