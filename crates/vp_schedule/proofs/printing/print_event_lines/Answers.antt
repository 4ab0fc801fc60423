use Rattle.std.proofs.Common.{◌++◌, ◌≡◌, arith, rules}
use Rattle.std.proofs.lemmas.Grind.{common_steps}
use Rattle.std.specs.List.{flat_map}
use Rattle.vp_model.specs.Texts.Schedule.{event_line}
use Rattle.vp_text.proofs.Printing.{begun_item, begun_whole}
use Rattle.vp_schedule.proofs.printing.print_event_lines.Goals as goal

pub returns-in_err-print_event_line : goal.returns-in_err-print_event_line
returns-in_err-print_event_line c = record {
  whole = search rules;
  begun = begun_item (event_line) c.args.events.now c.loop-event.event-index c.event-item.result _ _ _ c.loop-event-test.true c.event-item.is c.loop-event.invariant c.print_event_line.ensures.begun;
}

pub returns : goal.returns
returns c =
    let whole : c.loop-event.out.items ≡ c.args.out.now.items ++ flat_map (event_line) c.args.events.now = grind (arith, common_steps) in
    record { whole = whole; begun = begun_whole _ _ _ whole }
