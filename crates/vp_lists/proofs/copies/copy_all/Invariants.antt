use Rattle.std.proofs.Common.{◌≡◌, take}
use Rattle.vp_lists.proofs.copies.copy_all.Given as goal

abbrev pub invariant-loop-item : goal.invariant-loop-item
invariant-loop-item g l = l.copy.items ≡ take l.item-index l.items
