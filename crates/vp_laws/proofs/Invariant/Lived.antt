-- Each site has begun a life, so one that starts again uses no view.
use Rattle.std.proofs.Common.{◌≡◌, ◌≢◌, ℕ}
use Rattle.std.specs.Prelude.{Some}
use Rattle.vp_model.specs.World.{Place, place_of}
use Rattle.vp_laws.proofs.Worlds.Scenes.{Scene, kept_at}

-- the world has the site
abbrev pub IsPlace : Scene → ℕ → Type 0
IsPlace w s = (p : Place) × (place_of s w.places ≡ Some p)

pub record InvLived (w : Scene) : Type 0 where
  -- each site, up or down, has begun a life
  pub lived : (s : ℕ) → IsPlace w s → (kept_at w s).life ≢ 0
