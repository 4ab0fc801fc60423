use Rattle.std.proofs.Common.{rules, ◌≡◌, ◌∙◌, ap, sym, subst, refl, ◌+◌, List, [], Err, Result}
use Rattle.vp_model.specs.Types.{Event}
use Rattle.vp_model.specs.Catalogue.{Catalogue}
use Rattle.vp_model.specs.World.{start_world}
use Rattle.vp_world.specs.Known.{Known}
use Rattle.vp_world.specs.declared.end.WorldEnd.{WorldEnd}
use Rattle.vp_replay.specs.Generated.{Makes}
use Rattle.vp_replay.specs.declared.generating.GeneratedRun.{GeneratedRun}
use Rattle.vp_replay.proofs.Making.{IsMaking, making_starts, making_goes_on, making_is_ended, making_is_over}
use Rattle.vp_playing.proofs.Stepping.{always_ready}
use Rattle.vp_replay.proofs.Shaped.{numbers_fit}
use Rattle.vp_replay.proofs.generating.GeneratedRun.make.Goals as goal

pub loop-init : goal.loop-init
loop-init c =
    let known = c.in_ok-world.ensures ∙ ap (λ (catalogue : Catalogue). record { catalogue = catalogue; world = start_world catalogue }) c.in_ok-generated_catalogue.ensures in
    record {
      counted = refl;
      making =
          subst (λ (m : GeneratedRun). IsMaking c.args.seed c.args.count 0 c.in_ok-world.world c.from_seed-draws.result m) (sym c.requires.fresh)
          (subst (λ s. IsMaking c.args.seed c.args.count 0 c.in_ok-world.world s (record { events = []; replies = [] })) (sym c.from_seed-draws.ensures)
          (making_starts c.args.seed c.args.count c.in_ok-world.world known));
    }

pub event-requires-clause-numbers : goal.event-requires-clause-numbers
event-requires-clause-numbers c = numbers_fit c.args.seed c.loop.counter c.loop.world.world c.loop.invariant.making.world

pub play_event-requires : goal.play_event-requires
play_event-requires c = record { ready = always_ready _ _ _ _ }

pub returns-in_err-world-2 : goal.returns-in_err-world-2
returns-in_err-world-2 c =
    let h = c.loop.invariant in
    let why = c.in_err-world-2.field-0.0 in
    let is : c.from_residual-in_err-world-2.result ≡ Err why = search rules in
    subst (λ (r : Result Known WorldEnd). Makes c.args.seed c.args.count r (record { events = c.loop.self.events; replies = c.play_event.new.observer }))
    (sym is)
    (making_is_ended c.args.seed c.args.count c.loop.counter c.loop.world c.loop.draws c.loop.self h.making c.loop-test.true c.in_ok-event.event c.event.new.self c.in_ok-event.ensures c.loop.number h.counted why c.play_event.new.observer (search rules))

pub loop-preserved : goal.loop-preserved
loop-preserved c =
    let h = c.loop.invariant in
    let turn =
    making_goes_on c.args.seed c.args.count c.loop.counter c.loop.world c.loop.draws c.loop.self h.making c.loop-test.true c.in_ok-event.event c.event.new.self c.in_ok-event.ensures c.loop.number h.counted c.in_ok-world-2.world c.play_event.new.observer (search rules) in
    record {
      counted = ap (λ n. n + 1) h.counted;
      making =
          subst (λ (es : List Event). IsMaking c.args.seed c.args.count (c.loop.counter + 1) c.in_ok-world-2.world c.event.new.self (record { events = es; replies = c.play_event.new.observer }))
          (sym c.in_ok-push.ensures.ok) turn;
    }

pub returns : goal.returns
returns c = making_is_over c.args.seed c.args.count c.loop.counter c.loop.world c.loop.draws c.loop.self c.loop.invariant.making (search rules)
