-- What a world asks of whoever does the steps of its sites.
use Rattle.std.specs.Prelude.{◌≡◌, ◌-◌, ◌^◌, ◌==◌, ℕ, if◌then◌else◌, is_some, Option, Some, None, Result, Ok, Err}
use Rattle.vp_model.specs.Types.{Event, Input}
use Rattle.vp_model.specs.Catalogue.{Catalogue}
use Rattle.vp_model.specs.Durable.{DurableState}
use Rattle.vp_model.specs.Site.{SiteState}
use Rattle.vp_model.specs.Step.{start}
use Rattle.vp_model.specs.World.{Place}
use Rattle.vp_site.specs.declared.fault.StartFault.{StartFault}
use Rattle.vp_site.specs.declared.fault.StartFault.TheVariants as fault

-- The step of this site, to which the event brings this input; a crash of the site with this number; or its restart, which gives this
-- site, or none where its lives are spent.
pub data Asked : Type 0 where
  steps : Event → SiteState → Input → Asked
  crashes : ℕ → Asked
  restarts : ℕ → Option SiteState → Asked

-- the site as it starts with this durable part, if a life is left
abbrev pub life_start : Catalogue → ℕ → DurableState → Option SiteState
life_start catalogue id d = if d.life == 2 ^ 32 - 1 then None else Some (start catalogue id d)

-- what a restart of the place asks for: its site, if it is down
abbrev pub restart_asked : Catalogue → Place → Option Asked
restart_asked catalogue place = if is_some place.up then None else Some (Asked.restarts place.id (life_start catalogue place.id place.durable))

-- what holds of the site that a restart gives, or of none where the lives are spent
abbrev pub IfStarted : Result SiteState StartFault → (Option SiteState → Type 0) → Type 0
IfStarted (Ok site) holds = holds (Some site)
IfStarted (Err (fault.LivesSpent life)) holds = (life ≡ 2 ^ 32 - 1) × holds None
IfStarted (Err fault.NoMemory) holds = Unit {0}
