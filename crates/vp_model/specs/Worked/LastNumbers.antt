-- Sites whose counters have their highest value.
use Rattle.std.specs.Prelude.{◌-◌, ◌^◌, [], ◌∷◌, codes, None}
use Rattle.vp_model.specs.Catalogue.{Catalogue, start_copies}
use Rattle.vp_model.specs.Durable.{DurableState, empty_durable}
use Rattle.vp_model.specs.Types.{Answer}
use Rattle.vp_model.specs.Site.{SiteState, Stepped}
use Rattle.vp_model.specs.Step.{start}
use Rattle.vp_model.specs.World.{WorldState, start_world}
use Rattle.vp_model.specs.Worked.{stored, reply}

abbrev pub one_site : Catalogue
one_site = record { sites = ((1, 7001) ∷ []); records = (stored (codes "x") (codes "10") ((1, 1) ∷ []) ∷ []) }

abbrev fresh : DurableState
fresh = empty_durable (start_copies one_site 1)

-- it has begun as many transactions in this life as there are places in a life
abbrev pub last_transaction : SiteState
last_transaction = let site = start one_site 1 fresh in record site { coordinator = record site.coordinator { seq = 2 ^ 32 - 1 } }

-- another site has named the last number of a view
abbrev pub last_view : SiteState
last_view = let site = start one_site 1 fresh in record site { views = record site.views { seen = 2 ^ 64 - 1 } }

-- it is down, and its log has the last life
abbrev pub last_life : WorldState
last_life = record (start_world one_site) { places = (record { id = 1; durable = record fresh { life = 2 ^ 32 - 1 }; up = None }) ∷ [] }

-- the site as it was, with an answer and nothing else
abbrev pub only_answers : SiteState → Answer → Stepped
only_answers site answer = record { site = site; effects = record { records = []; commits = []; messages = []; replies = reply answer ∷ [] } }
