use Rattle.std.proofs.Common.{◌≡◌, take}
use Rattle.vp_model.specs.Words.{keys}
use Rattle.vp_model.specs.Refresh.{settle_all}
use Rattle.vp_site.proofs.stepped.Stepped.settle_written.Given as goal

abbrev pub invariant-loop-write : goal.invariant-loop-write
invariant-loop-write l = l.self ≡ settle_all l.catalog (keys (take l.write-index l.writes)) l.initial.self
