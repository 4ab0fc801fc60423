use Rattle.std.proofs.Common.{◌≡◌, None, length}
use Rattle.vp_base.specs.declared.site.Ending.TheVariants.{ViewChanged}
use Rattle.vp_model.specs.Types.{Live}
use Rattle.vp_model.specs.Transactions.{close_all}
use Rattle.vp_coordinator.proofs.coordinator.Coordinator.abort_each.Given as goal

-- ending what is left gives what ending all of them gives
abbrev pub invariant-loop-t : goal.invariant-loop-t
invariant-loop-t l =
    close_all l.id (λ (t : Live). ViewChanged l.id t.view None) l.live l.self ≡ close_all l.id (λ (t : Live). ViewChanged l.id t.view None) l.fn.live l.fn.self

abbrev pub decreases-loop-t : goal.decreases-loop-t
decreases-loop-t l = length l.live
