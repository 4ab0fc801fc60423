-- Answers in order by site.
use Rattle.std.proofs.Common.{◌<◌, ℕ, suc, List, ◌∷◌, arith}
use Rattle.std.specs.List.{All}
use Rattle.vp_model.specs.Types.{Stored}
use Rattle.vp_refresh.specs.Newest.{Ascends}

pub head_ascends : (a : ℕ × Stored) (answers : List (ℕ × Stored)) → Ascends (a ∷ answers) → All (λ (b : ℕ × Stored). a.0 < b.0) answers
head_ascends a answers h = λ k d l. h 0 (suc k) d (omega arith) (omega (arith, l))

pub tail_ascends : (a : ℕ × Stored) (answers : List (ℕ × Stored)) → Ascends (a ∷ answers) → Ascends answers
tail_ascends a answers h = λ i j d b l. h (suc i) (suc j) d (omega (arith, b)) (omega (arith, l))
