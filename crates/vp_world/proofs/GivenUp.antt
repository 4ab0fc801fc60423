-- What is left of a place whose step was given up.
use Rattle.std.proofs.Common.{◌≡◌, subst, refl, ℕ, List, arith}
use Rattle.std.specs.Prelude.{Option, Some, None, Result, Ok, Err, OnErr}
use Rattle.vp_model.specs.Types.{LogRecord, Input}
use Rattle.vp_model.specs.Catalogue.{Catalogue}
use Rattle.vp_model.specs.Durable.{DurableState}
use Rattle.vp_model.specs.Site.{SiteState, Stepped}
use Rattle.vp_model.specs.Step.{step}
use Rattle.vp_model.specs.World.{Place}
use Rattle.vp_records.specs.Applying.{AppliesSome}
use Rattle.vp_world.specs.Places.{KeepsSome, GivesUp}

pub on_err : {T E P : Type 0} (result : Result T E) → P → OnErr result P
on_err (Ok x) p = tt
on_err (Err e) p = p

abbrev place_with : ℕ → DurableState → Option SiteState → Place
place_with id durable up = record { id = id; durable = durable; up = up }

-- none of the records was kept
pub keeps_none : (records : List LogRecord) (place : Place) → KeepsSome records place place
keeps_none records place = (place.durable, (0, omega arith, refl), refl)

-- some of the records of the step were kept
pub keeps_some : (records : List LogRecord) (id : ℕ) (old new : DurableState) (up : Option SiteState) (place : Place) → place_with id old up ≡ place → AppliesSome records old new → KeepsSome records place (place_with id new up)
keeps_some records id old new up place is some = subst (λ place. KeepsSome records place (place_with id new up)) is (new, some, refl)

-- and these are records of that step
pub keeps_of : (o : Stepped) (records : List LogRecord) (old new : Place) → records ≡ o.effects.records → KeepsSome records old new → KeepsSome o.effects.records old new
keeps_of o records old new is kept = subst (λ records. KeepsSome records old new) is kept

-- the site was up, and is lent
pub gives_up : (catalogue : Catalogue) (given : Input) (id : ℕ) (durable : DurableState) (up gone : Option SiteState) (site : SiteState) (old new : Place) → place_with id durable up ≡ old → up ≡ Some site → gone ≡ None
    → KeepsSome (step catalogue site given).effects.records (place_with id durable gone) new → GivesUp catalogue given old new
gives_up catalogue given id durable up gone site old new is was none kept =
    subst (λ old. GivesUp catalogue given old new) is (site, was, subst (λ up. KeepsSome (step catalogue site given).effects.records (place_with id durable up) new) none kept)
