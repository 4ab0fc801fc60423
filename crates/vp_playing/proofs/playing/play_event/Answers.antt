use Rattle.std.proofs.Common.{rules, ◌≡◌, sym, subst, Result, Err}
use Rattle.std.specs.List.{before_first}
use Rattle.vp_model.specs.Limits.{world_limits, is_over}
use Rattle.vp_model.specs.Texts.Trace.{own_line}
use Rattle.vp_model.specs.World.{one_event}
use Rattle.vp_world.specs.Known.{Known}
use Rattle.vp_world.specs.declared.end.WorldEnd.{WorldEnd}
use Rattle.vp_world.specs.declared.end.WorldEnd.TheVariants as end
use Rattle.vp_playing.specs.Played.{Sees, lines_in, run_in}
use Rattle.vp_playing.proofs.Seen.{some_first}
use Rattle.vp_playing.proofs.Stepping.{flow_is_ready, other_is_ready}
use Rattle.vp_playing.proofs.playing.play_event.Goals as goal

pub returns-in_err-show_own_line-clause-seen : goal.returns-in_err-show_own_line-clause-seen
returns-in_err-show_own_line-clause-seen g c =
    let run = one_event c.args.world.catalogue c.args.number c.args.event.now (run_in c.args.world.world) in
    let own = own_line c.args.number c.args.event.now in
    let is : c.from_residual.result ≡ Err end.NoMemory = search rules in
    subst (λ (r : Result Known WorldEnd). Sees g.O.Observer.sees g.O.Observer.begins c.args.world.catalogue own run r c.args.observer.now c.show_own_line.new.observer)
    (sym is)
    (some_first (g.O.Observer.sees c.args.world.catalogue) (g.O.Observer.begins c.args.world.catalogue) own (lines_in (before_first (is_over world_limits) run.moments)) c.args.observer.now c.show_own_line.new.observer (search rules))

pub play_flow-requires : goal.play_flow-requires
play_flow-requires g c =
    flow_is_ready g.S.Stepper.may g.S.Stepper.did c.args.world.catalogue c.args.number c.in-Flow.count c.args.event.now c.args.world.world c.args.stepper.now c.in-Flow.is c.requires.ready

pub play_step-requires : goal.play_step-requires
play_step-requires g c =
    other_is_ready g.S.Stepper.may g.S.Stepper.did c.args.world.catalogue c.args.number c.args.event.now c.args.world.world c.args.stepper.now c.in_default.not-Flow c.requires.ready
