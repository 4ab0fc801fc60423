-- The words that may come, among those that were looked at.
use Rattle.std.proofs.Common.{◌≡◌, ◌∙◌, ◌+◌, ◌<◌, ℕ, Bool, true, false, cond, List, [], ◌∷◌, ◌++◌, filter, length, take, get_or, set, sym, ap, append-nil}
use Rattle.std.proofs.lemmas.List.{take_more, take_more_set}
use Rattle.std.proofs.lemmas.List.Elements.{filter-append}
use Rattle.vp_procedure.specs.declared.keyword.Keyword.{Keyword}

-- one word more is looked at
one_more : (p : Keyword → Bool) (words : List Keyword) (i : ℕ) (x d : Keyword) (b : Bool) → i < length words → x ≡ get_or words i d → p x ≡ b → filter p (take (i + 1) words) ≡ filter p (take i words) ++ cond b (x ∷ []) []
one_more p words i x d b within is may =
    let more : take (i + 1) words ≡ take i words ++ x ∷ [] = take_more words i d within ∙ ap (λ (y : Keyword). take i words ++ y ∷ []) (sym is) in
    ap (filter p) more ∙ filter-append p (take i words) (x ∷ []) ∙ ap (λ (b : Bool). filter p (take i words) ++ cond b (x ∷ []) []) may

pub kept_true : (p : Keyword → Bool) (words old new : List Keyword) (n i : ℕ) (x d : Keyword) → i < length words → n < length old → new ≡ set old n x → x ≡ get_or words i d → p x ≡ true → take n old ≡ filter p (take i words)
    → take (n + 1) new ≡ filter p (take (i + 1) words)
kept_true p words old new n i x d within room put is may before =
    ap (take (n + 1)) put ∙ take_more_set old n x room ∙ ap (λ (xs : List Keyword). xs ++ x ∷ []) before ∙ sym (one_more p words i x d true within is may)

pub kept_false : (p : Keyword → Bool) (words old : List Keyword) (n i : ℕ) (x d : Keyword) → i < length words → x ≡ get_or words i d → p x ≡ false → take n old ≡ filter p (take i words) → take n old ≡ filter p (take (i + 1) words)
kept_false p words old n i x d within is may before = before ∙ sym (append-nil (filter p (take i words))) ∙ sym (one_more p words i x d false within is may)
