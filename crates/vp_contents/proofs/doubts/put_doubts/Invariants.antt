use Rattle.std.proofs.Common.{◌≡◌, ◌++◌, length, take}
use Rattle.std.specs.List.{flat_map}
use Rattle.vp_bytes.specs.Fields.{number_bytes}
use Rattle.vp_contents.specs.Doubts.{doubt_bytes}
use Rattle.vp_contents.proofs.doubts.put_doubts.Given as goal

abbrev pub invariant-loop-doubt : goal.invariant-loop-doubt
invariant-loop-doubt g l = g.B.BufMut.written l.out ≡ g.B.BufMut.written l.fn.out ++ (number_bytes 8 (length l.doubts) ++ flat_map (doubt_bytes l.version) (take l.doubt-index l.doubts))
