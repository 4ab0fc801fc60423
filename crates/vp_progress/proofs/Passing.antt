-- A test that each event of a list passes, as one that computes.
use Rattle.std.proofs.Common.{◌≡◌, Bool, true, List, [], ◌∷◌}
use Rattle.std.specs.Prelude.{◌&&◌}
use Rattle.vp_model.specs.Types.{Event}
use Rattle.vp_model.specs.Catalogue.{Catalogue}
use Rattle.vp_model.specs.World.{WorldState, next}
use Rattle.vp_laws.proofs.Lists.Members.{both_true}
use Rattle.vp_progress.specs.Going.{EachPasses}

abbrev pub all_pass : Catalogue → (WorldState → Event → Bool) → WorldState → List Event → Bool
all_pass catalogue test w [] = true
all_pass catalogue test w (e ∷ more) = test w e && all_pass catalogue test (next catalogue e w).world more

pub each_passes : (catalogue : Catalogue) (test : WorldState → Event → Bool) (w : WorldState) (events : List Event) → all_pass catalogue test w events ≡ true → EachPasses catalogue test w events
each_passes catalogue test w [] e = tt
each_passes catalogue test w (a ∷ more) e = let b = both_true (test w a) (all_pass catalogue test (next catalogue a w).world more) e in (b.0, each_passes catalogue test (next catalogue a w).world more b.1)
