use Rattle.std.proofs.Common.{◌≡◌, take}
use Rattle.vp_model.specs.Words.{for_each, put_number}
use Rattle.vp_coordinator.proofs.changes.put_all.Given as goal

abbrev pub invariant-loop-site : goal.invariant-loop-site
invariant-loop-site l = l.list ≡ for_each (take l.site-index l.sites) put_number l.initial.list
