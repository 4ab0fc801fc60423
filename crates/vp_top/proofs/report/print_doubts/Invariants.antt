use Rattle.std.proofs.Common.{◌≡◌, ◌++◌, take}
use Rattle.std.specs.List.{flat_map}
use Rattle.vp_audit.specs.Lines.{doubt_line}
use Rattle.vp_model.specs.Catalogue.{name_of}
use Rattle.vp_top.proofs.report.print_doubts.Given as goal

abbrev pub invariant-loop-doubt : goal.invariant-loop-doubt
invariant-loop-doubt l = l.out.items ≡ l.fn.out.items ++ flat_map (doubt_line (name_of l.fn.catalog l.fn.rec)) (take l.doubt-index l.doubts)
