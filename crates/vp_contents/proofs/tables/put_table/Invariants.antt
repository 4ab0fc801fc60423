use Rattle.std.proofs.Common.{◌≡◌, ◌++◌, ◌∷◌, length, take}
use Rattle.std.specs.List.{flat_map}
use Rattle.vp_contents.specs.Tables.{weight_bytes}
use Rattle.vp_contents.proofs.tables.put_table.Given as goal

abbrev pub invariant-loop-weight : goal.invariant-loop-weight
invariant-loop-weight g l = g.B.BufMut.written l.out ≡ g.B.BufMut.written l.fn.out ++ length l.shares ∷ flat_map weight_bytes (take l.weight-index l.shares)
