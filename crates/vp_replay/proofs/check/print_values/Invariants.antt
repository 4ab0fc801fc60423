use Rattle.std.proofs.Common.{◌≡◌, ◌++◌}
use Rattle.vp_replay.specs.Checked.{values_text}
use Rattle.vp_replay.proofs.check.print_values.Given as goal

abbrev pub invariant-loop-name : goal.invariant-loop-name
invariant-loop-name l =
    l.out.items ++ values_text l.name-iterator.a.rest.now l.name-iterator.b.rest.now ≡ l.fn.out.items ++ values_text l.names l.values
