use Rattle.std.proofs.Common.{◌≡◌, take}
use Rattle.vp_model.specs.Words.{for_each}
use Rattle.vp_pictures.specs.Steps.{with_lock}
use Rattle.vp_pictures.proofs.sheet.Sheet.draw_locks.Given as goal

abbrev pub invariant-loop-rec : goal.invariant-loop-rec
invariant-loop-rec l = l.self ≡ for_each (take l.rec-index l.recs) (with_lock l.catalog l.y l.end l.site) l.fn.self
