use Rattle.std.proofs.Common.{◌≡◌, take, map}
use Rattle.vp_model.specs.World.{start_place}
use Rattle.vp_world.proofs.places.start_all.Given as goal

abbrev pub invariant-loop-site : goal.invariant-loop-site
invariant-loop-site l = l.places.items ≡ map (start_place l.catalog) (take l.site-index l.site-items)
