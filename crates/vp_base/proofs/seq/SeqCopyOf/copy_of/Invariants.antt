use Rattle.std.proofs.Common.{◌≡◌, take}
use Rattle.vp_base.proofs.seq.SeqCopyOf.copy_of.Given as goal

abbrev pub invariant-loop-item : goal.invariant-loop-item
invariant-loop-item g l = l.copy ≡ take l.item-index l.self
