use Rattle.std.proofs.Common.{[], ◌∷◌, ◌++◌, refl}
use Rattle.vp_text.proofs.Printing.{all_or_none, begun_err, begun_none}
use Rattle.vp_bytes.specs.Fields.{number_bytes}
use Rattle.vp_bytes.proofs.Writing.{following}
use Rattle.vp_contents.proofs.tables.put_weight.Goals as goal

pub returns-in_err-put_byte : goal.returns-in_err-put_byte
returns-in_err-put_byte g c = begun_err _ _ _ _ c.from_residual.ensures.0 (begun_none _ _ _ c.in_err-put_byte.ensures.err)

pub returns : goal.returns
returns g c =
    let old = g.B.BufMut.written c.args.out.now in
    let number = number_bytes 2 c.args.weight in
    let ok = rw (c.in_ok-put_byte.ensures.ok, c.get.ensures.value) at c.put_u16.ensures.ok in
    let err = rw (c.in_ok-put_byte.ensures.ok, c.get.ensures.value) at c.put_u16.ensures.err in
    following c.put_u16.result old (c.args.site ∷ []) number _ _ refl (all_or_none c.put_u16.result (old ++ c.args.site ∷ []) number _ ok err)
