use Rattle.std.proofs.Common.{◌≡◌, take}
use Rattle.vp_model.specs.Words.{for_each}
use Rattle.vp_pictures.specs.Places.{top}
use Rattle.vp_pictures.specs.Steps.{with_look}
use Rattle.vp_pictures.proofs.sheet.Sheet.draw_looks.Given as goal

abbrev pub invariant-loop-pair : goal.invariant-loop-pair
invariant-loop-pair l = l.self ≡ for_each (take l.pair-index l.looks) (with_look l.catalog l.y (top l.fn.self.lines)) l.fn.self
