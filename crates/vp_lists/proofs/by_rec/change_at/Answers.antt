use Rattle.std.proofs.lemmas.List.Edits.{map_over_more}
use Rattle.vp_lists.proofs.by_rec.change_at.Goals as goal

pub loop-copy-preserved : goal.loop-copy-preserved
loop-copy-preserved c =
    rw (c.in_ok-change_one.ensures, ← c.copy-item.is) (map_over_more _ _ _ _ c.copy-item.result c.loop-copy-test.true c.loop-copy.invariant c.copy-item.is)
