use Rattle.std.proofs.Common.{◌≡◌, take}
use Rattle.vp_locks.specs.Places.{present_locks}
use Rattle.vp_locks.proofs.LocksCopyOf.copy_of.Given as goal

abbrev pub invariant-loop-slot : goal.invariant-loop-slot
invariant-loop-slot l = l.copy ≡ present_locks (take l.slot-index l.slot-items)
