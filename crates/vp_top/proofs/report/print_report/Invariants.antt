use Rattle.std.proofs.Common.{◌≡◌, ◌++◌, take}
use Rattle.std.specs.List.{flat_map}
use Rattle.vp_audit.specs.Lines.{found_text}
use Rattle.vp_top.proofs.report.print_report.Given as goal

abbrev pub invariant-loop-found : goal.invariant-loop-found
invariant-loop-found l = l.out.items ≡ l.fn.out.items ++ flat_map (found_text l.fn.catalog) (take l.found-index l.report)
