use Rattle.std.proofs.Common.{◌≡◌, ◌++◌, take}
use Rattle.std.specs.List.{flat_map}
use Rattle.vp_model.specs.Texts.Trace.{commit_line}
use Rattle.vp_trace.proofs.trace.print_commits.Given as goal

abbrev pub invariant-loop-commit : goal.invariant-loop-commit
invariant-loop-commit l = l.out.items ≡ l.fn.out.items ++ flat_map commit_line (take l.commit-index l.commits)
