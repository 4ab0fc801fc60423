use Rattle.std.proofs.Common.{length, sym, subst, arith}
use Rattle.std.proofs.lemmas.Grind.{common_steps}
use Rattle.vp_base.specs.declared.entry.Doubt.{Doubt}
use Rattle.vp_contents.specs.Changes.{IsWrites}
use Rattle.vp_contents.specs.Doubts.{doubt_bytes}
use Rattle.vp_bytes.specs.Fields.{number_bytes}
use Rattle.vp_text.proofs.Printing.{all_of, begun_err, begun_none}
use Rattle.vp_bytes.proofs.Writing.{begun_item, item_turn, no_turn}
use Rattle.vp_contents.proofs.doubts.put_doubts.Goals as goal

pub put_doubt-requires : goal.put_doubt-requires
put_doubt-requires g c = subst (λ (doubt : Doubt). IsWrites c.args.version doubt.writes) (sym c.doubt-item.is) (c.requires c.loop-doubt.doubt-index c.doubt-item.result c.loop-doubt-test.true)

pub returns-in_err-put_u64 : goal.returns-in_err-put_u64
returns-in_err-put_u64 g c = begun_err _ _ _ _ c.from_residual.ensures.0 (begun_none _ _ _ c.in_err-put_u64.ensures.err)

pub loop-doubt-init : goal.loop-doubt-init
loop-doubt-init g c = no_turn _ _ _ c.in_ok-put_u64.ensures.ok

pub loop-doubt-preserved : goal.loop-doubt-preserved
loop-doubt-preserved g c =
    item_turn (doubt_bytes c.args.version) (g.B.BufMut.written c.args.out.now) (number_bytes 8 (length c.args.doubts.now)) c.args.doubts.now c.loop-doubt.doubt-index c.doubt-item.result _ _ c.loop-doubt-test.true c.doubt-item.is c.loop-doubt.invariant c.in_ok-put_doubt.ensures.whole

pub returns-in_err-put_doubt : goal.returns-in_err-put_doubt
returns-in_err-put_doubt g c =
    let old = g.B.BufMut.written c.args.out.now in
    let begun = rw c.loop-doubt.invariant at c.put_doubt.ensures.begun in
    begun_err _ _ _ _ c.from_residual-in_err-put_doubt.ensures.0 (begun_item (doubt_bytes c.args.version) old (number_bytes 8 (length c.args.doubts.now)) c.args.doubts.now c.loop-doubt.doubt-index c.doubt-item.result _ c.loop-doubt-test.true c.doubt-item.is begun)

pub returns : goal.returns
returns g c = all_of _ _ _ (grind (arith, common_steps))
