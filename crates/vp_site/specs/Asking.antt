-- The requests that ask again for copies under refresh.
use Rattle.std.specs.Prelude.{ℕ, List, Option}
use Rattle.vp_model.specs.Types.{ViewId, View, Refreshing, Effects}
use Rattle.vp_model.specs.Types.message
use Rattle.vp_model.specs.Words.{for_each}
use Rattle.vp_model.specs.Catalogue.{Catalogue}
use Rattle.vp_model.specs.Site.{with_messages}
use Rattle.vp_refresh.specs.Asking.{missing_of}

-- the other holders in the held view that have not answered are asked for their copies
abbrev pub ask : Catalogue → ℕ → Option View → ViewId → Refreshing → Effects → Effects
ask catalogue id held view r effects = with_messages id (message.RefreshRequest view r.rec) (missing_of catalogue id held r) effects

abbrev pub ask_each : Catalogue → ℕ → Option View → ViewId → List Refreshing → Effects → Effects
ask_each catalogue id held view refresh effects = for_each refresh (ask catalogue id held view) effects
