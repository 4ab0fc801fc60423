use Rattle.std.proofs.Common.{refl}
use Rattle.vp_model.specs.World.{at_site}
use Rattle.vp_world.specs.Steps.{line_of}
use Rattle.vp_world.specs.contracts.state.State.{the_view}
use Rattle.vp_world.proofs.Moves.{at_site_gives, does_along}
use Rattle.vp_world.proofs.state.State.at_site.Goals as goal

pub returns-clause-does : goal.returns-clause-does
returns-clause-does g c =
    let w = the_view c.self.inside in
    let m = at_site_gives c.args.catalog.now c.args.id c.args.input.now w c.in_ok-taken.taken w.places c.step.new.self refl c.in_ok-taken.ensures.taken c.in_ok-taken.ensures.places in
    rw (← c.self.view_is) (does_along (at_site c.args.catalog.now c.args.id c.args.input.now w) (line_of c.args.id c.in_ok-taken.taken (record w { places = c.step.new.self })) c.line_of.new.self c.line_of.result m c.line_of.ensures)
