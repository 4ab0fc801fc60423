-- The number of a site in a list.
use Rattle.std.specs.Prelude.{◌≡◌, ℕ, ◌≤◌, ◌<◌, List, true, map, filter, nat_lt, slice_index_or, Option, option_map, Result, Ok}
use Rattle.std.specs.List.{AllByRecursion}
use Rattle.std.specs.Fmt.{decimal}
use Rattle.vp_text.specs.Reading.{◌>>=◌}
use Rattle.vp_base.specs.Reading.{place_of, among_at}
use Rattle.vp_model.specs.Words.{has}

abbrev pub AllSites : List ℕ → Type 0
AllSites sites = AllByRecursion (λ s. (1 ≤ s) × (s ≤ 16)) sites

-- The text is the number of a site in the list that is above the given one.
pub record IsSiteIn (sites : List ℕ) (above : ℕ) (site : ℕ) (text : List ℕ) : Type 0 where
  pub is : text ≡ decimal site
  pub stands : has sites site ≡ true
  pub higher : above < site

-- ---- reading

abbrev pub sites_above : List ℕ → ℕ → List ℕ
sites_above sites above = filter (λ s. nat_lt above s) sites

abbrev pub site_texts : List ℕ → ℕ → List (List ℕ)
site_texts sites above = map (λ s. decimal s) (sites_above sites above)

abbrev pub site_of_place : List ℕ → ℕ → ℕ → ℕ
site_of_place sites above place = slice_index_or (sites_above sites above) place 0

-- the site above the given one whose number is the text
abbrev pub site_named : List ℕ → ℕ → List ℕ → Option ℕ
site_named sites above text = option_map (λ place. site_of_place sites above place) (place_of (site_texts sites above) text)

unfoldable pub site_at : List ℕ → ℕ → List ℕ → Result (ℕ × List ℕ) ℕ
site_at sites above bytes = do
  place ← among_at (site_texts sites above) bytes
  Ok (site_of_place sites above place.0, place.1)
