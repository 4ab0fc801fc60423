-- Positions, in pixels: the lifeline of a site, and the height of a line of text.
use Rattle.std.specs.Prelude.{ℕ, ◌+◌, ◌-◌, ◌*◌, ◌==◌, nat_lt, if◌then◌else◌, Option, Some, None}
use Rattle.std.specs.List.{position}
use Rattle.vp_model.specs.Catalogue.{Catalogue, sites_of}

-- the first of 16 lifelines is 60 from the left, each other one 280 to the right of the one before it
abbrev pub column_at : Option ℕ → ℕ
column_at None = 60
column_at (Some place) = if nat_lt place 16 then 60 + 280 * place else 60

abbrev pub column : Catalogue → ℕ → ℕ
column catalogue site = column_at (position (λ s. s == site) (sites_of catalogue))

-- the top of a line of text
abbrev pub top : ℕ → ℕ
top line = 12 + 18 * line

-- the edge of a lifeline on the side of another one, and the end of a stub that goes there
abbrev pub edge : ℕ → ℕ → ℕ
edge own other = if nat_lt own other then own + 5 else own - 5

abbrev pub stub_end : ℕ → ℕ → ℕ
stub_end own other = if nat_lt own other then own + 29 else own - 29
