use Rattle.std.proofs.Common.{[], ◌∷◌, refl}
use Rattle.vp_text.proofs.Printing.{begun_err, begun_none}
use Rattle.vp_bytes.proofs.Writing.{following}
use Rattle.vp_contents.specs.Changes.{change_bytes}
use Rattle.vp_contents.proofs.changes.put_write.Goals as goal

pub returns-in_err-put_byte : goal.returns-in_err-put_byte
returns-in_err-put_byte g c = begun_err _ _ _ _ c.from_residual.ensures.0 (begun_none _ _ _ c.in_err-put_byte.ensures.err)

pub returns : goal.returns
returns g c =
    let change = rw (c.in_ok-put_byte.ensures.ok, c.get.ensures.value) at c.put_change.ensures in
    following c.put_change.result (g.B.BufMut.written c.args.out.now) (c.args.rec ∷ []) (change_bytes c.args.version c.args.change.now) _ _ refl change
