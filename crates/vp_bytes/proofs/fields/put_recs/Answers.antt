use Rattle.std.proofs.Common.{[], ◌∷◌, length, arith}
use Rattle.std.proofs.lemmas.Grind.{common_steps}
use Rattle.vp_text.proofs.Printing.{all_of, begun_err, begun_none}
use Rattle.vp_bytes.proofs.Writing.{begun_bytes, byte_turn}
use Rattle.vp_bytes.proofs.fields.put_recs.Goals as goal

pub returns-in_err-put_byte : goal.returns-in_err-put_byte
returns-in_err-put_byte g c = begun_err _ _ _ _ c.from_residual.ensures.0 (begun_none _ _ _ c.in_err-put_byte.ensures.err)

pub loop-rec-init : goal.loop-rec-init
loop-rec-init g c = c.in_ok-put_byte.ensures.ok

pub loop-rec-preserved : goal.loop-rec-preserved
loop-rec-preserved g c =
    let put = rw c.get.ensures.value at c.in_ok-put_byte-2.ensures.ok in
    byte_turn (g.B.BufMut.written c.args.out.now) (length c.args.recs.now ∷ []) c.args.recs.now c.loop-rec.rec-index c.rec-item.result _ _ c.loop-rec-test.true c.rec-item.is c.loop-rec.invariant put

pub returns-in_err-put_byte-2 : goal.returns-in_err-put_byte-2
returns-in_err-put_byte-2 g c =
    let old = g.B.BufMut.written c.args.out.now in
    let kept = rw c.loop-rec.invariant at c.in_err-put_byte-2.ensures.err in
    begun_err _ _ _ _ c.from_residual-in_err-put_byte-2.ensures.0 (begun_bytes old (length c.args.recs.now ∷ []) c.args.recs.now c.loop-rec.rec-index _ kept)

pub returns : goal.returns
returns g c = all_of _ _ _ (grind (arith, common_steps))
