use Rattle.std.proofs.Common.{◌≡◌, take}
use Rattle.vp_model.specs.Words.{for_each}
use Rattle.vp_pictures.specs.Heads.{site_head, record_head}
use Rattle.vp_pictures.proofs.sheet.Sheet.head.Given as goal

abbrev pub invariant-loop-pair : goal.invariant-loop-pair
invariant-loop-pair l = l.self ≡ for_each (take l.pair-index l.catalog.sites) (site_head l.catalog) l.fn.self

abbrev pub invariant-loop-placed : goal.invariant-loop-placed
invariant-loop-placed l = l.self ≡ for_each (take l.placed-index l.catalog.records) (record_head l.catalog) l.initial.self
