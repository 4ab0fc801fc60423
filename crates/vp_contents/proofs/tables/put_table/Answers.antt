use Rattle.std.proofs.Common.{[], ◌∷◌, length, arith}
use Rattle.std.proofs.lemmas.Grind.{common_steps}
use Rattle.vp_contents.specs.Tables.{weight_bytes}
use Rattle.vp_text.proofs.Printing.{all_of, begun_err, begun_none}
use Rattle.vp_bytes.proofs.Writing.{begun_item, item_turn}
use Rattle.vp_contents.proofs.tables.put_table.Goals as goal

pub returns-in_err-put_byte : goal.returns-in_err-put_byte
returns-in_err-put_byte g c = begun_err _ _ _ _ c.from_residual.ensures.0 (begun_none _ _ _ c.in_err-put_byte.ensures.err)

pub loop-weight-init : goal.loop-weight-init
loop-weight-init g c = c.in_ok-put_byte.ensures.ok

pub loop-weight-preserved : goal.loop-weight-preserved
loop-weight-preserved g c =
    item_turn weight_bytes (g.B.BufMut.written c.args.out.now) (length c.as_slice-shares.result.now ∷ []) c.as_slice-shares.result.now c.loop-weight.weight-index c.weight-item.result _ _ c.loop-weight-test.true c.weight-item.is c.loop-weight.invariant c.in_ok-put_weight.ensures.whole

pub returns-in_err-put_weight : goal.returns-in_err-put_weight
returns-in_err-put_weight g c =
    let old = g.B.BufMut.written c.args.out.now in
    let begun = rw c.loop-weight.invariant at c.put_weight.ensures.begun in
    rw c.as_slice-shares.ensures.shares at (begun_err _ _ _ _ c.from_residual-in_err-put_weight.ensures.0 (begun_item weight_bytes old (length c.as_slice-shares.result.now ∷ []) c.as_slice-shares.result.now c.loop-weight.weight-index c.weight-item.result _ c.loop-weight-test.true c.weight-item.is begun))

pub returns : goal.returns
returns g c = all_of _ _ _ (grind (arith, common_steps))
