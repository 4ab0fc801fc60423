-- How a transaction ends whose call is late.
use Rattle.std.specs.Prelude.{ℕ, Option, None}
use Rattle.std.specs.Option.{option_map_or}
use Rattle.vp_model.specs.Types.{Pending, Live}
use Rattle.vp_base.specs.declared.site.Ending.TheVariants.{TimedOut}
use Rattle.vp_model.specs.Words.{for_some, first}
use Rattle.vp_model.specs.Site.{Lent}
use Rattle.vp_model.specs.Transactions.{close}

-- the lowest site that the transaction's call waits for
abbrev pub waits_at : Live → Option ℕ
waits_at t = option_map_or (λ (p : Pending). first p.missing) t.pending None

-- the transaction is aborted where its call waits for a site
abbrev pub timed_out : ℕ → Live → Lent → Lent
timed_out id t l = for_some (waits_at t) (λ at. close id t (TimedOut at)) l
