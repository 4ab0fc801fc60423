-- Worlds with a number left, and whole worlds: every site is up in one view of all, and nothing goes on.
use Rattle.std.specs.Prelude.{◌≡◌, ◌≢◌, ℕ, ◌<◌, ◌^◌, ◌-◌, true, false, List, [], Option, None, Some}
use Rattle.vp_model.specs.Types.{View}
use Rattle.vp_model.specs.Words.{has}
use Rattle.vp_model.specs.Catalogue.{Catalogue, sites_of}
use Rattle.vp_model.specs.Site.{SiteState}
use Rattle.vp_model.specs.World.{Place, WorldState, place_of, site_of, is_cut}

abbrev pub life_in : Option Place → ℕ
life_in None = 0
life_in (Some place) = place.durable.life

abbrev pub promised_number : Option Place → ℕ
promised_number None = 0
promised_number (Some place) = place.durable.promise.number

-- No number that mending needs at these sites is spent: of lives where a site is down, of views that one has promised or has seen.
pub record AreUnspent (ns : List ℕ) (w : WorldState) : Type 0 where
  pub lives : (q : ℕ) → has ns q ≡ true → site_of w q ≡ None → life_in (place_of q w.places) ≢ 2 ^ 32 - 1
  pub promised : (q : ℕ) → has ns q ≡ true → promised_number (place_of q w.places) < 2 ^ 64 - 1
  pub seen : (q : ℕ) (x : SiteState) → has ns q ≡ true → site_of w q ≡ Some x → x.seen < 2 ^ 64 - 1

-- The site is down, or has a name left for a transaction. (One that starts again has all of them.)
abbrev pub HasNameLeft : ℕ → WorldState → Type 0
HasNameLeft q w = (x : SiteState) → site_of w q ≡ Some x → x.seq < 2 ^ 32 - 1

-- It holds the view, and nothing is left: no lock, no refresh, no live transaction, no part, no doubt, and no decision that waits to be
-- acknowledged.
pub record IsAtRest (v : View) (x : SiteState) : Type 0 where
  pub held : x.held ≡ Some v
  pub locks : x.locks ≡ []
  pub refresh : x.refresh ≡ []
  pub live : x.live ≡ []
  pub parts : x.parts ≡ []
  pub doubts : x.doubts ≡ []
  pub decisions : x.decisions ≡ []

-- Every site is up, holds one view of all sites, and is at rest; no two are cut from each other.
pub record IsWhole (catalogue : Catalogue) (w : WorldState) : Type 0 where
  pub view : View
  pub members : (q : ℕ) → has view.members q ≡ has (sites_of catalogue) q
  pub joined : (a b : ℕ) → has (sites_of catalogue) a ≡ true → has (sites_of catalogue) b ≡ true → is_cut w a b ≡ false
  pub sites : (q : ℕ) → has (sites_of catalogue) q ≡ true → (x : SiteState) × (site_of w q ≡ Some x) × IsAtRest view x
