use Rattle.std.proofs.Common.{◌≡◌, ◌++◌, ◌∷◌, length, take}
use Rattle.std.specs.List.{flat_map}
use Rattle.vp_contents.specs.Changes.{write_bytes}
use Rattle.vp_contents.proofs.changes.put_writes.Given as goal

abbrev pub invariant-loop-write : goal.invariant-loop-write
invariant-loop-write g l = g.B.BufMut.written l.out ≡ g.B.BufMut.written l.fn.out ++ length l.writes ∷ flat_map (write_bytes l.version) (take l.write-index l.writes)
