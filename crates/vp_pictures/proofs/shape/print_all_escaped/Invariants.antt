use Rattle.std.proofs.Common.{◌≡◌, ◌++◌, take}
use Rattle.vp_pictures.specs.Shapes.{escape_bytes}
use Rattle.vp_pictures.proofs.shape.print_all_escaped.Given as goal

abbrev pub invariant-loop-byte : goal.invariant-loop-byte
invariant-loop-byte l = l.out.items ≡ l.fn.out.items ++ escape_bytes (take l.byte-index l.text)
