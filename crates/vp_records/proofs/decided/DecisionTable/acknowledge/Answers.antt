use Rattle.std.proofs.Common.{sym, subst}
use Rattle.vp_records.specs.Decided.{AreAwaited, IsForm}
use Rattle.vp_records.proofs.Acknowledged.{awaited_left}
use Rattle.vp_records.proofs.decided.DecisionTable.acknowledge.Goals as goal
use Rattle.vp_records.proofs.decided.DecisionTable.acknowledge.Goals.{in-ByTxn, in-Listed}

pub invariant_of-self : goal.invariant_of-self
invariant_of-self c = elim c.match-self.branch [
  | in-ByTxn w ↦ subst (λ i. IsForm i.form) (sym w.self-inside-is) (subst AreAwaited (sym w.acknowledge.ensures) (awaited_left c.args.txn.now c.args.site w.in-ByTxn.table))
  | in-Listed w ↦ subst (λ i. IsForm i.form) (sym w.self-inside-is) tt
]
