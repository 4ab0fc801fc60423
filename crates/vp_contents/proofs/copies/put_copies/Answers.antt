use Rattle.std.proofs.Common.{ℕ, length, sym, subst, arith}
use Rattle.std.proofs.lemmas.Grind.{common_steps}
use Rattle.vp_base.specs.declared.entry.Stored.{Stored}
use Rattle.vp_contents.specs.Copies.{copy_bytes, IsStored}
use Rattle.vp_bytes.specs.Fields.{number_bytes}
use Rattle.vp_text.proofs.Printing.{all_of, begun_err, begun_none}
use Rattle.vp_bytes.proofs.Writing.{begun_item, item_turn, no_turn}
use Rattle.vp_contents.proofs.copies.put_copies.Goals as goal

pub put_copy-requires : goal.put_copy-requires
put_copy-requires g c =
    subst (λ (copy : ℕ × Stored). IsStored c.args.version copy.1) (sym c.copy-item.is) (c.requires.1 c.loop-copy.copy-index c.copy-item.result c.loop-copy-test.true).1

pub returns-in_err-put_u16 : goal.returns-in_err-put_u16
returns-in_err-put_u16 g c = begun_err _ _ _ _ c.from_residual.ensures.0 (begun_none _ _ _ c.in_err-put_u16.ensures.err)

pub loop-copy-init : goal.loop-copy-init
unfolding number_bytes
loop-copy-init g c = no_turn _ _ _ c.in_ok-put_u16.ensures.ok

pub loop-copy-preserved : goal.loop-copy-preserved
loop-copy-preserved g c =
    item_turn (copy_bytes c.args.version) (g.B.BufMut.written c.args.out.now) (number_bytes 2 (length c.args.copies.now)) c.args.copies.now c.loop-copy.copy-index c.copy-item.result _ _ c.loop-copy-test.true c.copy-item.is c.loop-copy.invariant c.in_ok-put_copy.ensures.whole

pub returns-in_err-put_copy : goal.returns-in_err-put_copy
returns-in_err-put_copy g c =
    let old = g.B.BufMut.written c.args.out.now in
    let begun = rw c.loop-copy.invariant at c.put_copy.ensures.begun in
    begun_err _ _ _ _ c.from_residual-in_err-put_copy.ensures.0 (begun_item (copy_bytes c.args.version) old (number_bytes 2 (length c.args.copies.now)) c.args.copies.now c.loop-copy.copy-index c.copy-item.result _ c.loop-copy-test.true c.copy-item.is begun)

pub returns : goal.returns
returns g c = all_of _ _ _ (grind (arith, common_steps))
