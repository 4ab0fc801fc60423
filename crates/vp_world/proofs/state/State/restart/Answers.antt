use Rattle.std.proofs.Common.{◌≡◌, refl, sym, ap, ◌∙◌}
use Rattle.std.specs.Option.{option_map_or}
use Rattle.vp_model.specs.Types.{Shown}
use Rattle.vp_model.specs.Types.shown
use Rattle.vp_model.specs.World.{WorldState, shows, place_of, restart}
use Rattle.vp_world.specs.Places.{restart_line}
use Rattle.vp_world.specs.Limits.{with_line}
use Rattle.vp_world.specs.contracts.state.State.{the_view}
use Rattle.vp_world.proofs.Moves.{restarts_so, restart_sends_none, both_ok}
use Rattle.vp_world.proofs.state.State.restart.Goals as goal

pub returns-clause-shown : goal.returns-clause-shown
returns-clause-shown g c =
    let w = the_view c.self.inside in
    let new : WorldState = record w { places = c.restart.new.self } in
    let named : Shown = option_map_or restart_line (place_of c.args.id w.places) shown.Nothing in
    rw (← c.self.view_is) (both_ok c.restart.result (λ line. line ≡ named) (λ line. shows (with_line line new) line ≡ restart c.args.catalog.now c.args.id w) (λ line e l. ap (λ s. shows (with_line s new) s) l ∙ ap (λ after. shows after named) (restart_sends_none (place_of c.args.id w.places) new) ∙ sym (restarts_so c.args.id w w.places refl c.args.catalog.now c.restart.new.self e)) c.restart.ensures.places c.restart.ensures.shown)
