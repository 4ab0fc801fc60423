use Rattle.std.proofs.Common.{◌≡◌, ◌++◌, ◌∷◌, length, take}
use Rattle.vp_bytes.proofs.fields.put_sites.Given as goal

abbrev pub invariant-loop-site : goal.invariant-loop-site
invariant-loop-site g l = g.B.BufMut.written l.out ≡ g.B.BufMut.written l.fn.out ++ length l.sites ∷ take l.site-index l.sites
