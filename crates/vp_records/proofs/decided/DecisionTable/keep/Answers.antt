use Rattle.std.proofs.Common.{rules, ◌≡◌, false, sym, subst}
use Rattle.vp_model.specs.Words.{is_empty}
use Rattle.vp_records.specs.Decided.{IsForm}
use Rattle.vp_records.proofs.Acknowledged.{awaited_by}
use Rattle.vp_records.proofs.decided.DecisionTable.keep.Goals as goal
use Rattle.vp_records.proofs.decided.DecisionTable.keep.Goals.{in-ByTxn, in-Listed}

pub invariant_of-self : goal.invariant_of-self
invariant_of-self c =
    let some : is_empty c.args.waiting ≡ false = search rules in
    elim c.match-self.branch [
      | in-ByTxn w ↦ subst (λ i. IsForm i.form) (sym w.self-inside-is) (awaited_by w.put.result _ _ w.put.new.self (subst IsForm w.in-ByTxn.is c.self.invariant) some w.put.ensures.ok w.put.ensures.err)
      | in-Listed w ↦ subst (λ i. IsForm i.form) (sym w.self-inside-is) tt
    ]
