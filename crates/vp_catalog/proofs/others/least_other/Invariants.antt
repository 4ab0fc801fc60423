use Rattle.std.proofs.Common.{◌≡◌, drop}
use Rattle.std.specs.Prelude.{◌==◌, ◌&&◌, not, find}
use Rattle.vp_model.specs.Words.{has}
use Rattle.vp_catalog.proofs.others.least_other.Given as goal

abbrev pub invariant-loop-site : goal.invariant-loop-site
invariant-loop-site l = find (λ q. has l.members q && not (q == l.id)) (drop l.site-index l.sites) ≡ find (λ q. has l.members q && not (q == l.id)) l.sites
