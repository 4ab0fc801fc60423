-- Lines that are joined.
use Rattle.std.proofs.Common.{◌≡◌, ◌∙◌, ℕ, ◌+◌, ◌<◌, List, [], ◌∷◌, ◌++◌, length, take, get_or, sym, ap, append-nil}
use Rattle.std.proofs.lemmas.List.{take_more}
use Rattle.std.proofs.lemmas.List.Folds.{concat-append}
use Rattle.std.specs.List.{concat}

-- one line more, after those before it
pub one_more : (lines : List (List ℕ)) (i : ℕ) (line : List ℕ) → line ≡ get_or lines i line → i < length lines → concat (take (i + 1) lines) ≡ concat (take i lines) ++ line
one_more lines i line is here =
    ap concat (take_more lines i line here) ∙ concat-append (take i lines) (get_or lines i line ∷ [])
    ∙ ap (λ l. concat (take i lines) ++ l) (append-nil (get_or lines i line) ∙ sym is)
