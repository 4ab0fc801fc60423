use Rattle.std.proofs.Common.{length, arith}
use Rattle.std.proofs.lemmas.Grind.{common_steps}
use Rattle.vp_bytes.specs.Decisions.{decision_bytes}
use Rattle.vp_bytes.specs.Fields.{number_bytes}
use Rattle.vp_text.proofs.Printing.{all_of, begun_err, begun_none}
use Rattle.vp_bytes.proofs.Writing.{begun_item, item_turn, no_turn}
use Rattle.vp_bytes.proofs.decisions.put_decisions.Goals as goal

pub returns-in_err-put_u64 : goal.returns-in_err-put_u64
returns-in_err-put_u64 g c = begun_err _ _ _ _ c.from_residual.ensures.0 (begun_none _ _ _ c.in_err-put_u64.ensures.err)

pub loop-decision-init : goal.loop-decision-init
loop-decision-init g c = no_turn _ _ _ c.in_ok-put_u64.ensures.ok

pub loop-decision-preserved : goal.loop-decision-preserved
loop-decision-preserved g c =
    item_turn decision_bytes (g.B.BufMut.written c.args.out.now) (number_bytes 8 (length c.args.decisions.now)) c.args.decisions.now c.loop-decision.decision-index c.decision-item.result _ _ c.loop-decision-test.true c.decision-item.is c.loop-decision.invariant c.in_ok-put_decision.ensures.whole

pub returns-in_err-put_decision : goal.returns-in_err-put_decision
returns-in_err-put_decision g c =
    let old = g.B.BufMut.written c.args.out.now in
    let begun = rw c.loop-decision.invariant at c.put_decision.ensures.begun in
    begun_err _ _ _ _ c.from_residual-in_err-put_decision.ensures.0 (begun_item decision_bytes old (number_bytes 8 (length c.args.decisions.now)) c.args.decisions.now c.loop-decision.decision-index c.decision-item.result _ c.loop-decision-test.true c.decision-item.is begun)

pub returns : goal.returns
returns g c = all_of _ _ _ (grind (arith, common_steps))
