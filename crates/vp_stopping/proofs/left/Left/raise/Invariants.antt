use Rattle.std.proofs.Common.{◌≡◌, ◌++◌, map}
use Rattle.std.specs.List.{AllByRecursion}
use Rattle.vp_runs.specs.Stopped.{raise_number}
use Rattle.vp_stopping.specs.Left.{CanRise}
use Rattle.vp_stopping.proofs.left.Left.raise.Given as goal

abbrev pub invariant-loop-event : goal.invariant-loop-event
invariant-loop-event l = record {
  all : l.events.items ++ map (raise_number l.first l.count) l.self-inside.events.items ≡ map (raise_number l.first l.count) l.initial.self-inside.events.items;
  rise : AllByRecursion CanRise l.self-inside.events.items;
}

abbrev pub decreases-loop-event : goal.decreases-loop-event
decreases-loop-event l = l.self-inside.events.len
