use Rattle.std.proofs.Common.{◌≡◌, take}
use Rattle.vp_model.specs.Words.{for_each, replace_at}
use Rattle.vp_records.proofs.copies.restore.Given as goal

abbrev pub invariant-loop-copy : goal.invariant-loop-copy
invariant-loop-copy l = l.copies ≡ for_each (take l.copy-index l.saved) (λ c. replace_at c.0 c.1) l.fn.copies
