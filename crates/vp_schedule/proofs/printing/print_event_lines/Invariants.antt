use Rattle.std.proofs.Common.{◌≡◌, ◌++◌, take}
use Rattle.std.specs.Prelude.{flat_map}
use Rattle.vp_model.specs.Texts.Schedule.{event_line}
use Rattle.vp_schedule.proofs.printing.print_event_lines.Given as goal

abbrev pub invariant-loop-event : goal.invariant-loop-event
invariant-loop-event l = l.out.items ≡ l.fn.out.items ++ flat_map event_line (take l.event-index l.events)
