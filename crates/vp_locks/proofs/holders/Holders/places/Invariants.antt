use Rattle.std.proofs.Common.{◌≡◌, ◌++◌, map}
use Rattle.vp_locks.specs.Keys.{Holder}
use Rattle.vp_locks.specs.Holders.{places_between}
use Rattle.vp_locks.proofs.holders.Holders.places.Given as goal

abbrev pub invariant-loop-holder : goal.invariant-loop-holder
invariant-loop-holder l = l.places.items ++ map (λ (holder : Holder). holder.2) l.holder-iterator ≡ places_between l.rec l.fn.owner l.self.set
