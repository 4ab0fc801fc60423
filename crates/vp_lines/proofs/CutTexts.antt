-- The same line is found however its bytes come.
use Rattle.std.proofs.Common.{◌≡◌, ℕ, List, [], ◌∷◌, ◌++◌, refl}
use Rattle.vp_text.specs.Documents.{HasNoNewline}

-- bytes with a newline after them, and what follows, are read in one way
pub read_alike : (text more body rest : List ℕ) → HasNoNewline text → HasNoNewline body → text ++ 10 ∷ more ≡ body ++ 10 ∷ rest → (text ≡ body) × (more ≡ rest)
read_alike [] more [] rest h k e = (refl, let same : more ≡ rest = cc in same)
read_alike [] more (c ∷ cs) rest h k e = absurd (k.0 (let same : c ≡ 10 = cc in same))
read_alike (c ∷ cs) more [] rest h k e = absurd (h.0 (let same : c ≡ 10 = cc in same))
read_alike (c ∷ cs) more (d ∷ ds) rest h k e =
    let head : c ≡ d = cc in
    let tail : cs ++ 10 ∷ more ≡ ds ++ 10 ∷ rest = cc in
    let others = read_alike cs more ds rest h.1 k.1 tail in
    (rw (head, others.0) refl, others.1)
