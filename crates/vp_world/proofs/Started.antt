-- What holds of the site that a restart gives.
use Rattle.std.specs.Prelude.{Option, Some, None, Result, Ok, Err}
use Rattle.vp_model.specs.Site.{SiteState}
use Rattle.vp_site.specs.declared.fault.StartFault.{StartFault}
use Rattle.vp_site.specs.declared.fault.StartFault.TheVariants as fault
use Rattle.vp_world.specs.Asked.{IfStarted}

-- and what follows from it
pub if_started_weaker : (r : Result SiteState StartFault) (P Q : Option SiteState → Type 0) → ((site : Option SiteState) → P site → Q site) → IfStarted r P → IfStarted r Q
if_started_weaker (Ok site) P Q f h = f (Some site) h
if_started_weaker (Err (fault.LivesSpent life)) P Q f h = (h.0, f None h.1)
if_started_weaker (Err fault.NoMemory) P Q f h = tt
