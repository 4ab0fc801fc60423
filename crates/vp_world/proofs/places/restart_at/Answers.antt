use Rattle.std.proofs.lemmas.Result.{on_err_weaker, on_ok_weaker}
use Rattle.vp_world.specs.Places.{restarted_place}
use Rattle.vp_world.proofs.Changed.{changed_here, stays_here}
use Rattle.vp_world.proofs.places.restart_at.Goals as goal

pub returns-in-Some-clause-places : goal.returns-in-Some-clause-places
returns-in-Some-clause-places g c =
    on_ok_weaker c.restart.result (λ e. changed_here c.args.id c.in-Some.i (restarted_place c.args.catalog.now) c.args.places.now c.place_at.result c.index-places-i.result c.restart.new.self c.place_at.ensures.place c.in-Some.is e) c.restart.ensures.place

pub returns-in-Some-clause-err : goal.returns-in-Some-clause-err
returns-in-Some-clause-err g c = on_err_weaker c.restart.result (λ e. stays_here c.in-Some.i c.args.places.now c.index-places-i.result c.restart.new.self e) c.restart.ensures.err
