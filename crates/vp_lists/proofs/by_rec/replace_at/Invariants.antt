use Rattle.std.proofs.Common.{◌≡◌, ◌++◌, take, drop}
use Rattle.vp_model.specs.Words.{replace_at}
use Rattle.vp_lists.proofs.by_rec.replace_at.Given as goal

abbrev pub invariant-loop-copy : goal.invariant-loop-copy
invariant-loop-copy l = l.copies ≡ replace_at l.rec l.stored (take l.copy-index l.fn.copies) ++ drop l.copy-index l.fn.copies
