use Rattle.std.proofs.Common.{◌≡◌, ◌++◌, take, drop}
use Rattle.vp_model.specs.Words.{put}
use Rattle.vp_lists.proofs.keyed.place_of.Given as goal

abbrev pub invariant-loop-i : goal.invariant-loop-i
invariant-loop-i g l =
    put g.T.HasKey.same g.T.HasKey.before l.item l.items ≡ take l.i l.items ++ put g.T.HasKey.same g.T.HasKey.before l.item (drop l.i l.items)
