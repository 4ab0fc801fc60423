use Rattle.std.proofs.Common.{◌≡◌, take}
use Rattle.vp_model.specs.Refresh.{settle_all}
use Rattle.vp_site.proofs.stepped.Stepped.settle_all.Given as goal

abbrev pub invariant-loop-rec : goal.invariant-loop-rec
invariant-loop-rec l = l.self ≡ settle_all l.catalog (take l.rec-index l.recs) l.initial.self
