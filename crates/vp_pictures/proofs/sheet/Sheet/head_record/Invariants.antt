use Rattle.std.proofs.Common.{◌≡◌, take}
use Rattle.vp_model.specs.Words.{for_each}
use Rattle.vp_pictures.specs.Heads.{weight_head}
use Rattle.vp_pictures.proofs.sheet.Sheet.head_record.Given as goal

abbrev pub invariant-loop-pair : goal.invariant-loop-pair
invariant-loop-pair l = l.self ≡ for_each (take l.pair-index l.catalog.sites) (weight_head l.catalog l.placed) l.fn.self
