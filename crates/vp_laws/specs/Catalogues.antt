-- What holds of a catalogue that was read, where a law needs it.
use Rattle.std.specs.Prelude.{◌≡◌, ℕ, true, List, [], ◌∷◌}
use Rattle.std.specs.List.{Contains}
use Rattle.vp_model.specs.Catalogue.{Catalogue, accessible, holders, sites_of}

-- no number is in the list twice
abbrev pub AreApart : List ℕ → Type 0
AreApart [] = Unit {0}
AreApart (n ∷ ns) = (Contains ns n → ⊥) × AreApart ns

pub record IsWhole (catalogue : Catalogue) : Type 0 where
  -- no site is there twice
  pub apart : AreApart (sites_of catalogue)
  -- a record that a site holds is accessible where all sites are
  pub opened : (rec site : ℕ) → Contains (holders catalogue rec) site → accessible catalogue rec (sites_of catalogue) ≡ true
