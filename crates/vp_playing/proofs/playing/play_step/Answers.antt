use Rattle.std.proofs.Common.{rules, ◌≡◌, [], sym, subst, Result, Err}
use Rattle.vp_model.specs.World.{one_step}
use Rattle.vp_world.specs.Known.{Known}
use Rattle.vp_world.specs.declared.end.WorldEnd.{WorldEnd}
use Rattle.vp_world.specs.declared.end.WorldEnd.TheVariants as end
use Rattle.vp_playing.specs.Played.{Sees, run_in}
use Rattle.vp_playing.proofs.Turns.{step_ends, step_shows, step_is_left, step_was_seen}
use Rattle.vp_playing.proofs.Stepping.{step_did}
use Rattle.vp_playing.proofs.playing.play_step.Goals as goal

pub returns-in-Err-clause-seen : goal.returns-in-Err-clause-seen
returns-in-Err-clause-seen g c = step_ends g.O.Observer.sees g.O.Observer.begins c.args.world.catalogue c.args.number c.args.event.now c.args.world.world c.in-Err.end c.args.observer.now (search rules)

pub returns-in_err-see-in-Ok-clause-seen : goal.returns-in_err-see-in-Ok-clause-seen
returns-in_err-see-in-Ok-clause-seen g c =
    let is : c.from_residual.result ≡ Err end.NoMemory = search rules in
    subst (λ (r : Result Known WorldEnd). Sees g.O.Observer.sees g.O.Observer.begins c.args.world.catalogue [] (one_step c.args.world.catalogue c.args.number c.args.event.now (run_in c.args.world.world)) r c.args.observer.now c.see.new.self)
    (sym is)
    (step_is_left g.O.Observer.sees g.O.Observer.begins c.args.world.catalogue c.args.number c.args.event.now c.args.world.world (record { event = c.args.event.now; shown = c.in-Ok.happened.1 }) c.args.observer.now c.see.new.self (search rules) (search rules) (search rules))

pub returns-in_err-into_world-in-Ok-clause-seen : goal.returns-in_err-into_world-in-Ok-clause-seen
returns-in_err-into_world-in-Ok-clause-seen g c =
    let is : c.from_residual-in_err-into_world-in-Ok.result ≡ Err end.NoMemory = search rules in
    subst (λ (r : Result Known WorldEnd). Sees g.O.Observer.sees g.O.Observer.begins c.args.world.catalogue [] (one_step c.args.world.catalogue c.args.number c.args.event.now (run_in c.args.world.world)) r c.args.observer.now c.see.new.self)
    (sym is)
    (step_was_seen g.O.Observer.sees g.O.Observer.begins c.args.world.catalogue c.args.number c.args.event.now c.args.world.world (record { event = c.args.event.now; shown = c.in-Ok.happened.1 }) c.args.observer.now c.see.new.self (search rules) (search rules) (search rules))

pub returns-in_ok-into_world-in-Ok-clause-seen : goal.returns-in_ok-into_world-in-Ok-clause-seen
returns-in_ok-into_world-in-Ok-clause-seen g c =
    step_shows g.O.Observer.sees g.O.Observer.begins c.args.world.catalogue c.args.number c.args.event.now c.args.world.world c.in_ok-into_world-in-Ok.field-0 (record { event = c.args.event.now; shown = c.in-Ok.happened.1 }) c.args.observer.now c.see.new.self (search rules) (search rules) (search rules) (search rules)

pub returns-in_ok-into_world-in-Ok-clause-stepped : goal.returns-in_ok-into_world-in-Ok-clause-stepped
returns-in_ok-into_world-in-Ok-clause-stepped g c =
    step_did g.S.Stepper.did c.args.world.catalogue c.args.number c.args.event.now c.args.world.world c.args.stepper.now c.next_by.new.stepper (search rules)
