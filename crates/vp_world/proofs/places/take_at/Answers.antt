use Rattle.vp_world.specs.Places.{crashed_place}
use Rattle.vp_world.proofs.Changed.{changed_here}
use Rattle.vp_world.proofs.places.take_at.Goals as goal

pub returns-in-Some-clause-places : goal.returns-in-Some-clause-places
returns-in-Some-clause-places c =
    changed_here c.args.id c.in-Some.i crashed_place c.args.places.now c.place_at.result c.index-places-i.result c.take_site.new.self c.place_at.ensures.place c.in-Some.is c.take_site.ensures.place
