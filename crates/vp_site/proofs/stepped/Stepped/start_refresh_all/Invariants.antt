use Rattle.std.proofs.Common.{◌≡◌, take}
use Rattle.vp_model.specs.Refresh.{start_refresh_all}
use Rattle.vp_site.proofs.stepped.Stepped.start_refresh_all.Given as goal

abbrev pub invariant-loop-rec : goal.invariant-loop-rec
invariant-loop-rec l = l.self ≡ start_refresh_all l.catalog l.view (take l.rec-index l.recs) l.initial.self
