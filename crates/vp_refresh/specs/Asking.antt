-- Who has not answered for a copy under refresh.
use Rattle.std.specs.Prelude.{ℕ, not, List, filter, Option}
use Rattle.vp_model.specs.Types.{View, Refreshing}
use Rattle.vp_model.specs.Words.{has, keys}
use Rattle.vp_model.specs.Catalogue.{Catalogue}
use Rattle.vp_model.specs.Refresh.{other_holders_in}

-- the other holders in the held view that have not answered, as `unanswered` has it for a site
abbrev pub missing_of : Catalogue → ℕ → Option View → Refreshing → List ℕ
missing_of catalogue id held r = filter (λ q. not (has (keys r.answers) q)) (other_holders_in catalogue id held r.rec)
