use Rattle.std.proofs.Common.{refl, sym}
use Rattle.vp_world.specs.contracts.state.State.{the_view}
use Rattle.vp_world.proofs.Moves.{crash_up, crash_down}
use Rattle.vp_world.proofs.state.State.crash.Goals as goal

pub returns-then-is_up-clause-shown : goal.returns-then-is_up-clause-shown
returns-then-is_up-clause-shown g c =
    let w = the_view c.self.inside in
    rw (← c.self.view_is) (sym (crash_up c.args.id w w.places refl c.is_up.result c.is_up.ensures c.if-is_up.true c.take_site.new.self c.take_site.ensures.places))

pub returns-else-is_up-clause-shown : goal.returns-else-is_up-clause-shown
returns-else-is_up-clause-shown g c =
    let w = the_view c.self.inside in
    rw (← c.self.view_is) (sym (crash_down c.args.id w w.places refl c.is_up.result c.is_up.ensures c.if-is_up.false))
