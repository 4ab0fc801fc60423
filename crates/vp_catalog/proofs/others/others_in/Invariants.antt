use Rattle.std.proofs.Common.{◌≡◌, filter, take}
use Rattle.std.specs.Prelude.{◌==◌, ◌&&◌, not}
use Rattle.vp_model.specs.Words.{has}
use Rattle.vp_catalog.proofs.others.others_in.Given as goal

abbrev pub invariant-loop-site : goal.invariant-loop-site
invariant-loop-site l = l.others.items ≡ filter (λ q. has l.members q && not (q == l.fn.id)) (take l.site-index l.sites)
