-- The last site of a list.
use Rattle.std.proofs.Common.{◌≡◌, ℕ, suc, ◌-◌, ◌<◌, List, [], ◌∷◌, length, get_or, ap, ◌∙◌, arith}
use Rattle.vp_catalog.specs.Entries.{last_from}

pub last_is : (above : ℕ) (sites : List (ℕ × ℕ)) (site : ℕ × ℕ) → 0 < length sites → site ≡ get_or sites (length sites - 1) site → site.0 ≡ last_from above sites
last_is above [] site l is = absurd (omega arith)
last_is above (s ∷ []) site l is = ap (λ (x : ℕ × ℕ). x.0) is
last_is above (s ∷ t ∷ sites) site l is =
    let place : length (s ∷ t ∷ sites) - 1 ≡ suc (length (t ∷ sites) - 1) = omega arith in
    last_is s.0 (t ∷ sites) site (omega arith) (is ∙ ap (λ n. get_or (s ∷ t ∷ sites) n site) place)
