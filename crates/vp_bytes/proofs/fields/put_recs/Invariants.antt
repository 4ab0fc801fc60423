use Rattle.std.proofs.Common.{◌≡◌, ◌++◌, ◌∷◌, length, take}
use Rattle.vp_bytes.proofs.fields.put_recs.Given as goal

abbrev pub invariant-loop-rec : goal.invariant-loop-rec
invariant-loop-rec g l = g.B.BufMut.written l.out ≡ g.B.BufMut.written l.fn.out ++ length l.recs ∷ take l.rec-index l.recs
