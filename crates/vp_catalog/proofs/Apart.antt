-- The sites of a catalogue are different numbers, so there are 16 of them at most.
use Rattle.std.proofs.Common.{◌≡◌, ℕ, ◌+◌, ◌≤◌, List, [], ◌∷◌, length, false, arith}
use Rattle.std.specs.Prelude.{nat_eq}
use Rattle.std.specs.List.{AllByRecursion, IsDistinct}
use Rattle.std.proofs.lemmas.Bool.{ne_eqb}
use Rattle.vp_model.specs.Words.{keys}
use Rattle.vp_model.specs.Catalogue.{Catalogue, sites_of}
use Rattle.vp_catalog.specs.Document.{AreSites, IsCatalogueSoFar}

none_again : (site above : ℕ) (sites : List (ℕ × ℕ)) → site ≤ above → AreSites above sites → AllByRecursion (λ n. nat_eq site n ≡ false) (keys sites)
none_again site above [] low h = tt
none_again site above (s ∷ sites) low h = (ne_eqb site s.0 (λ e. omega (arith, low, h.0.higher, e)), none_again site s.0 sites (omega (arith, low, h.0.higher)) h.1)

each_once : (above : ℕ) (sites : List (ℕ × ℕ)) → AreSites above sites → IsDistinct nat_eq (keys sites)
unfolding IsDistinct
each_once above [] h = tt
each_once above (s ∷ sites) h = (none_again s.0 s.0 sites (omega arith) h.1, each_once s.0 sites h.1)

pub sites_differ : (c : Catalogue) → IsCatalogueSoFar c → IsDistinct nat_eq (sites_of c)
sites_differ c h = each_once 0 c.sites h.sites_are

pub sites_few : (above : ℕ) (sites : List (ℕ × ℕ)) → AreSites above sites → above ≤ 16 → above + length sites ≤ 16
sites_few above [] h low = omega (arith, low)
sites_few above (s ∷ sites) h low = omega (arith, h.0.higher, sites_few s.0 sites h.1 h.0.fits)
