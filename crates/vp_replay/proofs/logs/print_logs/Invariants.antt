use Rattle.std.proofs.Common.{◌≡◌, ◌++◌, take}
use Rattle.std.specs.List.{flat_map}
use Rattle.vp_replay.specs.Logged.{log_line}
use Rattle.vp_replay.proofs.logs.print_logs.Given as goal

abbrev pub invariant-loop-log : goal.invariant-loop-log
invariant-loop-log l = l.out.items ≡ l.fn.out.items ++ flat_map log_line (take l.log-index l.logs)
