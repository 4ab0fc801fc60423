use Rattle.std.proofs.Common.{◌≡◌, take}
use Rattle.vp_records.specs.Decided.{AreAwaited, IsHighest}
use Rattle.vp_records.proofs.awaited.table_of.Given as goal

abbrev pub invariant-loop-decision : goal.invariant-loop-decision
invariant-loop-decision l =
    (l.table ≡ take l.decision-index l.decisions) × AreAwaited (take l.decision-index l.decisions) × IsHighest l.highest (take l.decision-index l.decisions)
