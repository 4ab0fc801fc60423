-- How a site starts.
use Rattle.std.specs.Prelude.{ℕ, ◌≡◌, ◌<◌, ◌-◌, ◌^◌, Result, Ok, Err}
use Rattle.vp_model.specs.Types.{LogRecord}
use Rattle.vp_model.specs.Catalogue.{Catalogue}
use Rattle.vp_model.specs.Durable.{DurableState}
use Rattle.vp_model.specs.Site.{SiteState}
use Rattle.vp_model.specs.Step.{start, start_record}
use Rattle.vp_views.specs.Viewing.{Viewing}
use Rattle.vp_site.specs.declared.fault.StartFault.{StartFault}
use Rattle.vp_site.specs.declared.fault.StartFault.TheVariants as fault

-- a site as its views see it
abbrev pub viewing : SiteState → Viewing
viewing site = record { id = site.id; views = site.views }

-- the site begins its next life with its durable part, or its lives are spent
abbrev pub Starts : Catalogue → ℕ → DurableState → Result (SiteState × LogRecord) StartFault → Type 0
Starts catalogue id d (Ok (site, entry)) = (d.life < 2 ^ 32 - 1) × (site ≡ start catalogue id d) × (entry ≡ start_record d)
Starts catalogue id d (Err (fault.LivesSpent life)) = (d.life ≡ 2 ^ 32 - 1) × (life ≡ 2 ^ 32 - 1)
Starts catalogue id d (Err fault.NoMemory) = Unit {0}
