use Rattle.std.proofs.Common.{◌≡◌, ◌++◌, length, take}
use Rattle.std.specs.List.{flat_map}
use Rattle.vp_bytes.specs.Fields.{number_bytes}
use Rattle.vp_contents.specs.Copies.{copy_bytes}
use Rattle.vp_contents.proofs.copies.put_copies.Given as goal

abbrev pub invariant-loop-copy : goal.invariant-loop-copy
invariant-loop-copy g l = g.B.BufMut.written l.out ≡ g.B.BufMut.written l.fn.out ++ (number_bytes 2 (length l.copies) ++ flat_map (copy_bytes l.version) (take l.copy-index l.copies))
