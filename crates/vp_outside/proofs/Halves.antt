-- A log in two halves.
use Rattle.std.proofs.Common.{ℕ, zero, suc, List, refl}
use Rattle.vp_outside.specs.Disk.{Halves, InHalf}

-- a half that the step may leave as it is
pub InHalf-refl : (half : ℕ) (step : List ℕ → List ℕ → Type 0) (log : Halves) → ((old : List ℕ) → step old old) → InHalf half step log log
InHalf-refl zero step log h = (h log.0, refl)
InHalf-refl (suc n) step log h = (h log.1, refl)
