use Rattle.std.proofs.Common.{◌≡◌, ◌++◌, take}
use Rattle.std.specs.List.{flat_map}
use Rattle.vp_pictures.specs.Pictures.{stub_text}
use Rattle.vp_pictures.proofs.sheet.Sheet.print_stubs.Given as goal

abbrev pub invariant-loop-mark : goal.invariant-loop-mark
invariant-loop-mark l = l.out.items ≡ l.fn.out.items ++ flat_map (stub_text l.catalog l.self.came) (take l.mark-index l.self.marks)
