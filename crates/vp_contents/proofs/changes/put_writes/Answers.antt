use Rattle.std.proofs.Common.{ℕ, [], ◌∷◌, length, sym, subst, arith}
use Rattle.std.proofs.lemmas.Grind.{common_steps}
use Rattle.vp_base.specs.declared.entry.Change.{Change}
use Rattle.vp_contents.specs.Changes.{write_bytes, IsChange}
use Rattle.vp_contents.proofs.ChangesExact.{each_write}
use Rattle.vp_text.proofs.Printing.{all_of, begun_err, begun_none}
use Rattle.vp_bytes.proofs.Writing.{begun_item, item_turn}
use Rattle.vp_contents.proofs.changes.put_writes.Goals as goal

pub put_write-requires : goal.put_write-requires
put_write-requires g c =
    subst (λ (write : ℕ × Change). IsChange c.args.version write.1) (sym c.write-item.is) (each_write c.args.version 0 c.args.writes.now c.requires.1 c.loop-write.write-index c.write-item.result c.loop-write-test.true)

pub returns-in_err-put_byte : goal.returns-in_err-put_byte
returns-in_err-put_byte g c = begun_err _ _ _ _ c.from_residual.ensures.0 (begun_none _ _ _ c.in_err-put_byte.ensures.err)

pub loop-write-init : goal.loop-write-init
loop-write-init g c = c.in_ok-put_byte.ensures.ok

pub loop-write-preserved : goal.loop-write-preserved
loop-write-preserved g c =
    item_turn (write_bytes c.args.version) (g.B.BufMut.written c.args.out.now) (length c.args.writes.now ∷ []) c.args.writes.now c.loop-write.write-index c.write-item.result _ _ c.loop-write-test.true c.write-item.is c.loop-write.invariant c.in_ok-put_write.ensures.whole

pub returns-in_err-put_write : goal.returns-in_err-put_write
returns-in_err-put_write g c =
    let old = g.B.BufMut.written c.args.out.now in
    let begun = rw c.loop-write.invariant at c.put_write.ensures.begun in
    begun_err _ _ _ _ c.from_residual-in_err-put_write.ensures.0 (begun_item (write_bytes c.args.version) old (length c.args.writes.now ∷ []) c.args.writes.now c.loop-write.write-index c.write-item.result _ c.loop-write-test.true c.write-item.is begun)

pub returns : goal.returns
returns g c = all_of _ _ _ (grind (arith, common_steps))
