use Rattle.std.proofs.lemmas.List.Edits.{map_over_more}
use Rattle.vp_records.proofs.listed.acknowledge_all.Goals as goal

pub loop-decision-preserved : goal.loop-decision-preserved
loop-decision-preserved c =
    rw (c.acknowledge_one.ensures, ← c.decision-item.is) (map_over_more _ _ _ _ c.decision-item.result c.loop-decision-test.true c.loop-decision.invariant c.decision-item.is)
