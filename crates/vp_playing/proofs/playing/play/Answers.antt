use Rattle.std.proofs.Common.{rules, refl, sym, subst, ap, ◌+◌, ◌≡◌, Result, Err}
use Rattle.vp_world.specs.Known.{Known}
use Rattle.vp_world.specs.declared.end.WorldEnd.{WorldEnd}
use Rattle.vp_playing.specs.Played.{Plays, schedule_of}
use Rattle.vp_world.specs.declared.end.WorldEnd.TheVariants as end
use Rattle.vp_model.specs.Limits.{world_limits, lines_within}
use Rattle.vp_playing.proofs.Seen.{sees_none}
use Rattle.vp_playing.proofs.Turns.{play_starts, play_goes_on, play_is_ended, play_is_over}
use Rattle.vp_model.specs.Texts.Trace.{own_line}
use Rattle.vp_playing.proofs.Stepping.{stepping_starts, stepping_ends, event_is_ready, event_did}
use Rattle.vp_playing.proofs.playing.play.Goals as goal

pub loop-event-init : goal.loop-event-init
loop-event-init g c =
    let start = c.in_ok-world.ensures in
    record {
      catalogue = ap (λ (k : Known). k.catalogue) start;
      count = refl;
      so_far = play_starts g.O.Observer.sees (schedule_of c.args.catalog c.args.events.now) c.in_ok-world.world.world c.args.observer.now (ap (λ (k : Known). k.world) start);
      stepped = stepping_starts g.S.Stepper.did (schedule_of c.args.catalog c.args.events.now) c.in_ok-world.world.world c.args.stepper.now (ap (λ (k : Known). k.world) start);
    }

pub returns-in_err-world-2-clause-played : goal.returns-in_err-world-2-clause-played
returns-in_err-world-2-clause-played g c =
    let s = schedule_of c.args.catalog c.args.events.now in
    let h = c.loop-event.invariant in
    let why = c.in_err-world-2.field-0.0 in
    let is : c.from_residual-in_err-world-2.result ≡ Err why = search rules in
    subst (λ (r : Result Known WorldEnd). Plays g.O.Observer.sees g.O.Observer.begins s r c.args.observer.now c.play_event.new.observer)
    (sym is)
    (play_is_ended g.O.Observer.sees g.O.Observer.begins s c.loop-event.event-index c.loop-event.number c.loop-event.world c.args.observer.now c.loop-event.observer h.catalogue h.count h.so_far c.event-item.result (search rules) (search rules) why c.play_event.new.observer (search rules))

pub play_event-requires : goal.play_event-requires
play_event-requires g c =
    let h = c.loop-event.invariant in
    record {
      ready = event_is_ready g.S.Stepper.did (schedule_of c.args.catalog c.args.events.now) c.loop-event.event-index c.loop-event.number c.loop-event.world c.args.stepper.now c.loop-event.stepper h.catalogue h.count h.stepped c.event-item.result (search rules) (search rules) g.S.Stepper.may c.requires.ready;
    }

pub loop-event-preserved : goal.loop-event-preserved
loop-event-preserved g c =
    let s = schedule_of c.args.catalog c.args.events.now in
    let h = c.loop-event.invariant in
    let turn =
    play_goes_on g.O.Observer.sees g.O.Observer.begins s c.loop-event.event-index c.loop-event.number c.loop-event.world c.args.observer.now c.loop-event.observer h.catalogue h.count h.so_far c.event-item.result (search rules) (search rules) c.in_ok-world-2.world c.play_event.new.observer (search rules) in
    let done =
    event_did g.S.Stepper.did s c.loop-event.event-index c.loop-event.number c.loop-event.world c.args.stepper.now c.loop-event.stepper h.catalogue h.count h.stepped c.event-item.result (search rules) (search rules) g.O.Observer.sees g.O.Observer.begins (own_line (c.loop-event.number + 1) c.event-item.result) c.in_ok-world-2.world c.loop-event.observer c.play_event.new.observer c.play_event.new.stepper (search rules) (search rules) in
    record { catalogue = turn.0; count = ap (λ n. n + 1) h.count; so_far = turn.1; stepped = done }

pub returns-clause-played : goal.returns-clause-played
returns-clause-played g c =
    let h = c.loop-event.invariant in
    play_is_over g.O.Observer.sees g.O.Observer.begins (schedule_of c.args.catalog c.args.events.now) c.loop-event.event-index c.loop-event.world c.args.observer.now c.loop-event.observer h.catalogue h.so_far (search rules)

pub returns-clause-stepped : goal.returns-clause-stepped
returns-clause-stepped g c =
    stepping_ends g.S.Stepper.did (schedule_of c.args.catalog c.args.events.now) c.loop-event.event-index c.loop-event.world.world c.args.stepper.now c.loop-event.stepper c.loop-event.invariant.stepped (search rules)

pub returns-in_err-world-clause-played : goal.returns-in_err-world-clause-played
returns-in_err-world-clause-played g c =
    let s = schedule_of c.args.catalog c.args.events.now in
    let is : c.from_residual.result ≡ Err end.NoMemory = search rules in
    subst (λ (r : Result Known WorldEnd). Plays g.O.Observer.sees g.O.Observer.begins s r c.args.observer.now c.args.observer.now)
    (sym is)
    (sees_none (g.O.Observer.sees c.args.catalog) (g.O.Observer.begins c.args.catalog) (lines_within world_limits s) c.args.observer.now c.args.observer.now refl)
