use Rattle.std.proofs.Common.{◌≡◌, ◌++◌, take, drop}
use Rattle.vp_model.specs.Words.{change_at}
use Rattle.vp_model.specs.Durable.{changed}
use Rattle.vp_lists.proofs.by_rec.change_at.Given as goal

abbrev pub invariant-loop-copy : goal.invariant-loop-copy
invariant-loop-copy l = l.copies ≡ change_at l.rec (changed l.date l.change) (take l.copy-index l.fn.copies) ++ drop l.copy-index l.fn.copies
