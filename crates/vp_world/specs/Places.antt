-- What a step of a site gives besides the site, and how a site starts again.
use Rattle.std.specs.Prelude.{◌≡◌, ◌+◌, ◌-◌, ◌^◌, ◌==◌, ◌&&◌, ℕ, Bool, not, if◌then◌else◌, is_some, List, Option, Some, None, option_map, option_and_then}
use Rattle.std.specs.Option.{option_map_or}
use Rattle.vp_model.specs.Types.{ViewId, View, Input, Shown, LogRecord}
use Rattle.vp_model.specs.Types.shown
use Rattle.vp_model.specs.Words.{same_view}
use Rattle.vp_model.specs.Catalogue.{Catalogue}
use Rattle.vp_model.specs.Durable.{DurableState}
use Rattle.vp_model.specs.Site.{SiteState, Stepped}
use Rattle.vp_model.specs.Step.{step}
use Rattle.vp_model.specs.World.{Place, place_of, change_place, after_step, restart_place}
use Rattle.vp_records.specs.Applying.{AppliesSome}
use Rattle.vp_world.specs.declared.place.PlaceEffects.{PlaceEffects}

-- the view that the site had invited to and holds now
abbrev pub newly_agreed : Option ViewId → Option View → Option View
newly_agreed (Some inviting) (Some view) = if same_view view.id inviting then Some view else None
newly_agreed (Some inviting) None = None
newly_agreed None held = None

-- what the step gives besides the site and its log
abbrev pub place_effects : SiteState → Stepped → PlaceEffects
place_effects before o = record { effects = o.effects; agreed = newly_agreed (option_map (λ inviting. inviting.0) before.inviting) o.site.held }

-- the site of these places with this number, if it is up
abbrev pub site_in : ℕ → List Place → Option SiteState
site_in id places = option_and_then (λ place. place.up) (place_of id places)

-- the place after the step of an input
abbrev pub stepped_place : Catalogue → Input → Place → Place
stepped_place catalogue given place = option_map_or (λ site. after_step (step catalogue site given) place) place.up place

-- what is done, if there is something to do
abbrev pub Did : {A S : Type 0} → (A → S → S → Type 0) → Option A → S → S → Type 0
Did does None old new = new ≡ old
Did does (Some a) old new = does a old new

-- the place after a crash of its site
abbrev pub crashed_place : Place → Place
crashed_place place = record place { up = None }

-- the log of the place keeps some of the first of these records, and all else is as it was
abbrev pub KeepsSome : List LogRecord → Place → Place → Type 0
KeepsSome records old new = (durable : DurableState) × AppliesSome records old.durable durable × (new ≡ record old { durable = durable })

-- A place whose site, which was up, gave its step up because memory ran out: it is down, as after a crash, and its log has some of the
-- first records of that step, maybe none.
abbrev pub GivesUp : Catalogue → Input → Place → Place → Type 0
GivesUp catalogue given old new = (site : SiteState) × (old.up ≡ Some site) × KeepsSome (step catalogue site given).effects.records (crashed_place old) new

-- the same of the place of this site, while all other places stay as they are
abbrev pub GivesUpAt : Catalogue → ℕ → Input → List Place → List Place → Type 0
GivesUpAt catalogue id given old new = (place : Place) × (left : Place) × (place_of id old ≡ Some place) × GivesUp catalogue given place left × (new ≡ change_place id (λ _. left) old)

-- the site is down and has a life left
abbrev pub restarts : Place → Bool
restarts place = not (is_some place.up) && not (place.durable.life == 2 ^ 32 - 1)

-- the place after a restart
abbrev pub restarted_place : Catalogue → Place → Place
restarted_place catalogue place = if restarts place then restart_place catalogue place else place

-- the line that the trace shows for its restart
abbrev pub restart_line : Place → Shown
restart_line place =
    if is_some place.up
    then shown.Up place.id
    else (if place.durable.life == 2 ^ 32 - 1 then shown.LivesSpent (2 ^ 32 - 1) else shown.Life (place.durable.life + 1))
