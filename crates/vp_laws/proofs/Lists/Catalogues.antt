-- The sites of a catalogue have different numbers.
use Rattle.std.proofs.Common.{◌≡◌, ℕ, List, [], ◌∷◌, refl, sym, ◌∙◌, false}
use Rattle.std.specs.Prelude.{nat_eq}
use Rattle.std.specs.List.{IsDistinct}
use Rattle.std.proofs.lemmas.Bool.{eq-eqb, false≢true}
use Rattle.vp_model.specs.Catalogue.{Catalogue, holders, sites_of}
use Rattle.vp_catalog.specs.Document.{IsCatalogueSoFar}
use Rattle.vp_catalog.proofs.Apart.{sites_differ}
use Rattle.vp_laws.specs.Catalogues.{AreApart, IsWhole}
use Rattle.vp_laws.proofs.Lists.Whole.{catalogue_whole}
use Rattle.vp_laws.proofs.Lists.Members.{has_of}
use Rattle.vp_laws.proofs.Lists.Items.{all_at}

distinct_apart : (ns : List ℕ) → IsDistinct nat_eq ns → AreApart ns
unfolding IsDistinct
distinct_apart [] h = tt
distinct_apart (n ∷ ns) h = ((λ again. false≢true (sym (all_at (λ m. nat_eq n m ≡ false) ns h.0 n (has_of ns n again)) ∙ eq-eqb n n refl)), distinct_apart ns h.1)

pub catalogue_apart : (c : Catalogue) → IsCatalogueSoFar c → AreApart (sites_of c)
catalogue_apart c h = distinct_apart (sites_of c) (sites_differ c h)

pub whole_catalogue : (c : Catalogue) → IsCatalogueSoFar c → IsWhole c
whole_catalogue c h = record { apart = catalogue_apart c h; opened = λ rec q held. catalogue_whole c h rec q (has_of (holders c rec) q held) }
