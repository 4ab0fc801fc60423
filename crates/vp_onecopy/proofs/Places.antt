-- The place of a name is below the number of names.
use Rattle.std.proofs.Common.{◌≡◌, ◌<◌, ℕ, zero, suc, List, [], ◌∷◌, length, Option, Some, None, Result, Ok, refl, ap, subst, arith}
use Rattle.vp_text.specs.Reading.{scan, whole_reading}
use Rattle.vp_text.proofs.Exact.{ok_value, at_err}
use Rattle.vp_base.specs.Words.{IsPlace}
use Rattle.vp_base.specs.Reading.{place_of, place_step, among_at}
use Rattle.vp_base.proofs.Among.{placed}

pub place_below : (names : List (List ℕ)) (i : ℕ) (name : List ℕ) → IsPlace names i name → i < length names
place_below [] i name h = absurd h
place_below (n ∷ names) zero name h = omega arith
place_below (n ∷ names) (suc i) name h = omega (arith, place_below names i name h.1)

ended_below : (names : List (List ℕ)) (text bytes : List ℕ) (i : ℕ) (rest : List ℕ) → whole_reading (place_of names text) bytes ≡ Ok (i, rest) → i < length names
ended_below names text bytes i rest e = go (place_of names text) refl e
  where
    go : (o : Option ℕ) → place_of names text ≡ o → whole_reading o bytes ≡ Ok (i, rest) → i < length names
    go None p q = absurd (at_err (whole_reading None bytes) (i, rest) (length bytes) q refl)
    go (Some k) p q = let same : k ≡ i = ap (λ (x : ℕ × List ℕ). x.0) (ok_value (k, bytes) (i, rest) q) in subst (λ n. n < length names) same (place_below names k text (placed names text k p))

scan_below : (names : List (List ℕ)) (text bytes : List ℕ) (i : ℕ) (rest : List ℕ) → scan (place_step names) (place_of names) text bytes ≡ Ok (i, rest) → i < length names
scan_below names text [] i rest e = ended_below names text [] i rest e
scan_below names text (c ∷ cs) i rest e = go (place_step names text c) (λ next. scan_below names next cs i rest) e
  where
    go : (o : Option (List ℕ)) → ((next : List ℕ) → scan (place_step names) (place_of names) next cs ≡ Ok (i, rest) → i < length names)
        → ◌≡◌ {A = Result (ℕ × List ℕ) ℕ} (elim o [ Some t ↦ scan (place_step names) (place_of names) t cs | None ↦ whole_reading (place_of names text) (c ∷ cs) ]) (Ok (i, rest)) → i < length names
    go (Some next) more q = more next q
    go None more q = ended_below names text (c ∷ cs) i rest q

pub among_below : (names : List (List ℕ)) (bytes : List ℕ) (i : ℕ) (rest : List ℕ) → among_at names bytes ≡ Ok (i, rest) → i < length names
unfolding among_at
among_below names bytes i rest e = scan_below names [] bytes i rest e
