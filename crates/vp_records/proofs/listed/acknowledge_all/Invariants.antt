use Rattle.std.proofs.Common.{◌≡◌, ◌==◌, ◌++◌, not, filter, map, take, drop, if◌then◌else◌}
use Rattle.vp_base.specs.declared.entry.Decision.{Decision}
use Rattle.vp_model.specs.Words.{same_txn}
use Rattle.vp_records.proofs.listed.acknowledge_all.Given as goal

abbrev pub invariant-loop-decision : goal.invariant-loop-decision
invariant-loop-decision l =
    l.decisions ≡ map (λ (d : Decision). if same_txn d.txn l.txn then record d { waiting = filter (λ q. not (q == l.site)) d.waiting } else d) (take l.decision-index l.fn.decisions) ++ drop l.decision-index l.fn.decisions
