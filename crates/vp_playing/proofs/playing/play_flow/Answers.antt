use Rattle.std.proofs.Common.{rules, refl, sym, subst, ◌≡◌, [], Result, Err}
use Rattle.vp_world.specs.Known.{Known}
use Rattle.vp_world.specs.declared.end.WorldEnd.{WorldEnd}
use Rattle.vp_playing.specs.Played.{Sees, run_in}
use Rattle.vp_model.specs.World.{flow}
use Rattle.vp_playing.proofs.Turns.{flow_starts, flow_stops, flow_is_over, flow_shows, flow_turns_on, flow_ends}
use Rattle.vp_playing.proofs.Stepping.{delivering_starts, flow_stopped, flow_ended, delivery_is_ready, delivery_did}
use Rattle.vp_playing.proofs.playing.play_flow.Goals as goal

pub loop-init : goal.loop-init
loop-init g c = record {
  catalogue = refl;
  so_far = flow_starts g.O.Observer.sees c.args.world.catalogue c.args.number c.args.count c.args.world.world c.args.observer.now;
  stepped = delivering_starts g.S.Stepper.did c.args.world.catalogue c.args.number c.args.count c.args.world.world c.args.stepper.now;
}

pub returns-in-None-clause-seen : goal.returns-in-None-clause-seen
returns-in-None-clause-seen g c =
    let h = c.loop.invariant in
    flow_shows g.O.Observer.sees g.O.Observer.begins c.args.world.catalogue c.args.number c.args.count c.args.world.world c.loop.counter c.loop.world c.args.observer.now c.loop.observer h.catalogue h.so_far
    (flow_stops g.O.Observer.sees c.args.world.catalogue c.args.number c.args.count c.args.world.world c.loop.counter c.loop.world.world c.args.observer.now c.loop.observer h.so_far (search rules) (search rules))

pub returns-in-None-clause-stepped : goal.returns-in-None-clause-stepped
returns-in-None-clause-stepped g c =
    let h = c.loop.invariant in
    flow_stopped g.S.Stepper.did c.args.world.catalogue c.args.number c.args.count c.args.world.world c.loop.counter c.loop.world c.args.stepper.now c.loop.stepper h.catalogue h.stepped (search rules) (search rules)

pub play_step-requires : goal.play_step-requires
play_step-requires g c =
    let h = c.loop.invariant in
    delivery_is_ready g.S.Stepper.did c.args.world.catalogue c.args.number c.args.count c.args.world.world c.loop.counter c.loop.world c.args.stepper.now c.loop.stepper h.catalogue h.stepped c.in-Some.k (search rules) (search rules) g.S.Stepper.may c.requires

pub returns-in_err-world-in-Some-clause-seen : goal.returns-in_err-world-in-Some-clause-seen
returns-in_err-world-in-Some-clause-seen g c =
    let h = c.loop.invariant in
    let why = c.in_err-world-in-Some.field-0.0 in
    let is : c.from_residual.result ≡ Err why = search rules in
    subst (λ (r : Result Known WorldEnd). Sees g.O.Observer.sees g.O.Observer.begins c.args.world.catalogue [] (flow c.args.world.catalogue c.args.number c.args.count (run_in c.args.world.world)) r c.args.observer.now c.play_step.new.observer)
    (sym is)
    (flow_ends g.O.Observer.sees g.O.Observer.begins c.args.world.catalogue c.args.number c.args.count c.args.world.world c.loop.counter c.loop.world c.args.observer.now c.loop.observer h.catalogue h.so_far c.in-Some.k why c.play_step.new.observer (search rules) (search rules) (search rules))

pub loop-preserved : goal.loop-preserved
loop-preserved g c =
    let h = c.loop.invariant in
    let turn =
    flow_turns_on g.O.Observer.sees g.O.Observer.begins c.args.world.catalogue c.args.number c.args.count c.args.world.world c.loop.counter c.loop.world c.args.observer.now c.loop.observer h.catalogue h.so_far c.in-Some.k c.in_ok-world-in-Some.world c.play_step.new.observer (search rules) (search rules) (search rules) in
    let done =
    delivery_did g.S.Stepper.did c.args.world.catalogue c.args.number c.args.count c.args.world.world c.loop.counter c.loop.world c.args.stepper.now c.loop.stepper h.catalogue h.stepped c.in-Some.k (search rules) (search rules) g.O.Observer.sees g.O.Observer.begins [] c.in_ok-world-in-Some.world c.loop.observer c.play_step.new.observer c.play_step.new.stepper (search rules) (search rules) in
    record { catalogue = turn.0; so_far = turn.1; stepped = done }

pub returns-clause-seen : goal.returns-clause-seen
returns-clause-seen g c =
    let h = c.loop.invariant in
    flow_shows g.O.Observer.sees g.O.Observer.begins c.args.world.catalogue c.args.number c.args.count c.args.world.world c.loop.counter c.loop.world c.args.observer.now c.loop.observer h.catalogue h.so_far
    (flow_is_over g.O.Observer.sees c.args.world.catalogue c.args.number c.args.count c.args.world.world c.loop.counter c.loop.world.world c.args.observer.now c.loop.observer h.so_far (search rules))

pub returns-clause-stepped : goal.returns-clause-stepped
returns-clause-stepped g c =
    let h = c.loop.invariant in
    flow_ended g.S.Stepper.did c.args.world.catalogue c.args.number c.args.count c.args.world.world c.loop.counter c.loop.world c.args.stepper.now c.loop.stepper h.catalogue h.stepped (search rules)
