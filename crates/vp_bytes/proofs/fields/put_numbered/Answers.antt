use Rattle.std.proofs.Common.{◌++◌, refl}
use Rattle.vp_text.proofs.Printing.{all_or_none, begun_err, begun_first}
use Rattle.vp_bytes.specs.Fields.{number_bytes, txn_bytes}
use Rattle.vp_bytes.proofs.Writing.{following}
use Rattle.vp_bytes.proofs.fields.put_numbered.Goals as goal

pub returns-in_err-put_txn : goal.returns-in_err-put_txn
returns-in_err-put_txn g c =
    begun_err _ _ _ _ c.from_residual.ensures.0 (begun_first (g.B.BufMut.written c.args.out.now) (txn_bytes c.args.txn.now) (number_bytes 4 c.args.number) _ c.put_txn.ensures.begun)

pub returns : goal.returns
returns g c =
    let old = g.B.BufMut.written c.args.out.now in
    let txn = txn_bytes c.args.txn.now in
    let ok = rw (c.get.ensures.value, c.in_ok-put_txn.ensures.whole) at c.put_u32.ensures.ok in
    let err = rw c.in_ok-put_txn.ensures.whole at c.put_u32.ensures.err in
    following c.put_u32.result old txn (number_bytes 4 c.args.number) _ _ refl (all_or_none c.put_u32.result (old ++ txn) (number_bytes 4 c.args.number) _ ok err)
