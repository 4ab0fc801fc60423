use Rattle.std.proofs.Common.{◌≡◌, map, take}
use Rattle.vp_drawing.specs.Looks.{first_look}
use Rattle.vp_drawing.proofs.watch.first_looks.Given as goal

abbrev pub invariant-loop-site : goal.invariant-loop-site
invariant-loop-site l = l.looks.items ≡ map (λ site. (site, first_look)) (take l.site-index l.site-items)
