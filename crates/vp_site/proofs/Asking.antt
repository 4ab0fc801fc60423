-- Asking again for copies changes only the effects.
use Rattle.std.proofs.Common.{◌≡◌, List, [], ◌∷◌, refl}
use Rattle.vp_model.specs.Types.{ViewId, Refreshing}
use Rattle.vp_model.specs.Catalogue.{Catalogue}
use Rattle.vp_model.specs.Site.{Stepped}
use Rattle.vp_model.specs.Step.{ask_again, ask_again_all}
use Rattle.vp_site.specs.Asking.{ask_each}

module _ (catalogue : Catalogue) (view : ViewId) where
  pub asked_again : (refresh : List Refreshing) (o : Stepped) → record o { effects = ask_each catalogue o.site.id o.site.held view refresh o.effects } ≡ ask_again_all catalogue view refresh o
  unfolding ask_again
  asked_again [] o = refl
  asked_again (r ∷ refresh) o = asked_again refresh _
