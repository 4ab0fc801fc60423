-- Which recordings are of nodes.
use Rattle.std.specs.Prelude.{◌≡◌, ⊤, ℕ, ◌^◌, ◌<◌, ◌==◌, if◌then◌else◌, List, [], ◌∷◌}
use Rattle.std.specs.List.{Contains}
use Rattle.vp_model.specs.Catalogue.{Catalogue, sites_of}
use Rattle.vp_recording.specs.declared.recording.Recording.{Recording}

-- The lives of that site are recorded in their order, each with a number above.
abbrev pub AreAbove : ℕ → ℕ → List Recording → Type 0
AreAbove site life [] = ⊤
AreAbove site life (r ∷ recordings) = ((r.site ≡ site) → life < r.life) × AreAbove site (if r.site == site then r.life else life) recordings

-- Each recording is of a site of the catalogue, and of a life above that of the one before it of that site.
pub record AreOfNodes (catalogue : Catalogue) (recordings : List Recording) : Type 0 where
  pub listed : (r : Recording) → Contains recordings r → Contains (sites_of catalogue) r.site
  pub lives : (r : Recording) → Contains recordings r → r.life < 2 ^ 32
  pub rise : (site : ℕ) → Contains (sites_of catalogue) site → AreAbove site 0 recordings
