use Rattle.std.proofs.lemmas.Result.{on_err_weaker, on_ok_weaker}
use Rattle.vp_world.specs.Places.{stepped_place}
use Rattle.vp_world.proofs.Changed.{changed_here, gives_up_here}
use Rattle.vp_world.proofs.places.step_at.Goals as goal

pub returns-in-Some-clause-places : goal.returns-in-Some-clause-places
returns-in-Some-clause-places g c =
    on_ok_weaker c.step.result (λ e. changed_here c.args.id c.in-Some.i (stepped_place c.args.catalog.now c.args.input.now) c.args.places.now c.place_at.result c.index-places-i.result c.step.new.self c.place_at.ensures.place c.in-Some.is e) c.step.ensures.place

pub returns-in-Some-clause-left : goal.returns-in-Some-clause-left
returns-in-Some-clause-left g c =
    on_err_weaker c.step.result (λ gives. gives_up_here c.args.catalog.now c.args.id c.in-Some.i c.args.input.now c.args.places.now c.place_at.result c.index-places-i.result c.step.new.self c.place_at.ensures.place c.in-Some.is gives) c.step.ensures.left
