use Rattle.std.proofs.Common.{rules, refl, sym, subst, ap, ◌+◌, ◌≡◌, Result, Ok, Err}
use Rattle.vp_model.specs.World.{Schedule}
use Rattle.vp_pictures.specs.declared.sheet.Sheet.{Sheet}
use Rattle.vp_drawing.specs.Drawings.{DrawsSchedule}
use Rattle.vp_drawing.specs.declared.end.DrawingEnd.{DrawingEnd}
use Rattle.vp_drawing.proofs.Flowing.{draws_nothing, play_begins, play_ends, play_is_over, play_next, play_turns}
use Rattle.vp_drawing.proofs.drawing.draw_events.Goals as goal

pub loop-event-init : goal.loop-event-init
loop-event-init c =
    let s : Schedule = record { catalogue = c.args.catalog.now; events = c.args.events.now } in
    record { count = refl; so_far = play_begins s c.args.part c.in_ok-world.world c.in_ok-drawing.drawing (search rules) (search rules) (search rules) }

pub draw_event-requires : goal.draw_event-requires
draw_event-requires c = c.loop-event.invariant.so_far.so_far.is

pub returns-in_err-world-2 : goal.returns-in_err-world-2
returns-in_err-world-2 c =
    let s : Schedule = record { catalogue = c.args.catalog.now; events = c.args.events.now } in
    let h = c.loop-event.invariant in
    let why = c.in_err-world-2.field-0.0 in
    let is : c.from_residual-in_err-world-2.result ≡ Err why = search rules in
    let i = c.loop-event.event-index in
    let draws = play_next s c.args.part i c.loop-event.world c.loop-event.drawing h.so_far c.event-item.result (search rules) (search rules) (c.loop-event.number + 1) (ap (λ n. n + 1) h.count) (Err why) c.draw_event.new.self (search rules) in
    subst (λ (r : Result Sheet DrawingEnd). DrawsSchedule s c.args.part r) (sym is)
    (play_ends s c.args.part i c.loop-event.world c.loop-event.drawing h.so_far c.event-item.result (search rules) (search rules) why c.draw_event.new.self draws)

pub loop-event-preserved : goal.loop-event-preserved
loop-event-preserved c =
    let s : Schedule = record { catalogue = c.args.catalog.now; events = c.args.events.now } in
    let h = c.loop-event.invariant in
    let i = c.loop-event.event-index in
    let draws = play_next s c.args.part i c.loop-event.world c.loop-event.drawing h.so_far c.event-item.result (search rules) (search rules) (c.loop-event.number + 1) (ap (λ n. n + 1) h.count) (Ok c.in_ok-world-2.world) c.draw_event.new.self c.in_ok-world-2.ensures in
    record {
      count = ap (λ n. n + 1) h.count;
      so_far = play_turns s c.args.part i c.loop-event.world c.loop-event.drawing h.so_far c.event-item.result (search rules) (search rules) c.in_ok-world-2.world c.draw_event.new.self draws;
    }

pub returns-in_err-copy_of : goal.returns-in_err-copy_of
returns-in_err-copy_of c = draws_nothing (record { catalogue = c.args.catalog.now; events = c.args.events.now }) c.args.part _ (search rules)

pub returns-in_err-drawing : goal.returns-in_err-drawing
returns-in_err-drawing c = draws_nothing (record { catalogue = c.args.catalog.now; events = c.args.events.now }) c.args.part _ (search rules)

pub returns-in_err-copy_of-2 : goal.returns-in_err-copy_of-2
returns-in_err-copy_of-2 c = draws_nothing (record { catalogue = c.args.catalog.now; events = c.args.events.now }) c.args.part _ (search rules)

pub returns-in_err-world : goal.returns-in_err-world
returns-in_err-world c = draws_nothing (record { catalogue = c.args.catalog.now; events = c.args.events.now }) c.args.part _ (search rules)

pub returns : goal.returns
returns c =
    let s : Schedule = record { catalogue = c.args.catalog.now; events = c.args.events.now } in
    play_is_over s c.args.part c.loop-event.event-index c.loop-event.world c.loop-event.drawing c.loop-event.invariant.so_far (search rules)
