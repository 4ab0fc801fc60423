use Rattle.std.proofs.Common.{◌≡◌, ◌++◌}
use Rattle.vp_world.proofs.state.put_commits.Given as goal

abbrev pub invariant-loop-commit : goal.invariant-loop-commit
invariant-loop-commit l = l.journal ≡ l.initial.journal ++ l.yielded
