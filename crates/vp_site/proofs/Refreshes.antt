-- Copies under refresh.
use Rattle.std.proofs.Common.{◌≡◌, ℕ, List, [], ◌∷◌, arith}
use Rattle.std.specs.Prelude.{Some}
use Rattle.vp_model.specs.Types.{Refreshing}
use Rattle.vp_model.specs.Refresh.{refreshing_of}

-- a copy under refresh is found under its record
pub refreshing_rec : (rec : ℕ) (refresh : List Refreshing) (r : Refreshing) → refreshing_of rec refresh ≡ Some r → r.rec ≡ rec
refreshing_rec rec [] r e = cc
refreshing_rec rec (first ∷ refresh) r e = let rest = refreshing_rec rec refresh r in grind (arith, rest, e)
