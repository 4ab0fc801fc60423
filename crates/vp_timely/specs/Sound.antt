-- All that holds of a schedule over a whole catalogue, for whoever ends with one.
use Rattle.std.specs.List.{Contains}
use Rattle.vp_model.specs.World.{Schedule, Moment, run_of, moments_of, journal_of}
use Rattle.vp_model.specs.Headline.{IsOneCopy, IsWeighed}
use Rattle.vp_laws.specs.Agreement.{ViewsAgree, ViewsGoOn}
use Rattle.vp_laws.specs.Decisions.{DecisionsAgree}
use Rattle.vp_timely.specs.Timely.{IsTimely}

-- This holds at each moment of the schedule.
pub record SitesAgree (s : Schedule) : Type 0 where
  -- the views agree before the step and after it
  pub views : (m : Moment) → Contains (moments_of s) m → ViewsAgree m.before × ViewsAgree m.after
  -- none of them goes back, in the step and from there to the end
  pub onward : (m : Moment) → Contains (moments_of s) m → ViewsGoOn m.before m.after × ViewsGoOn m.after (run_of s).world
  -- whatever comes next to a site, it ends its doubts as the journal says
  pub decisions : (m : Moment) → Contains (moments_of s) m → DecisionsAgree s.catalogue (journal_of s) m.before

-- It is one copy, also where its transactions change weights, its sites agree, and its commits come in time.
pub record IsSound (s : Schedule) : Type 0 where
  pub one_copy : IsOneCopy s
  pub weighed : IsWeighed s
  pub sites_agree : SitesAgree s
  pub timely : IsTimely s
