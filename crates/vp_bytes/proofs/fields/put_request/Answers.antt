use Rattle.std.proofs.Common.{◌++◌, refl}
use Rattle.vp_text.proofs.Printing.{all_or_none, begun_err, begun_first}
use Rattle.vp_bytes.specs.Fields.{number_bytes, txn_bytes, view_bytes}
use Rattle.vp_bytes.proofs.Writing.{following, begun_part}
use Rattle.vp_bytes.proofs.fields.put_request.Goals as goal

pub returns-in_err-put_txn : goal.returns-in_err-put_txn
returns-in_err-put_txn g c =
    let a = c.args in
    begun_err _ _ _ _ c.from_residual.ensures.0 (begun_first (g.B.BufMut.written a.out.now) (txn_bytes a.txn.now) (view_bytes a.view.now ++ number_bytes 4 a.number) _ c.put_txn.ensures.begun)

pub returns-in_err-put_view : goal.returns-in_err-put_view
returns-in_err-put_view g c =
    let a = c.args in
    let begun = rw c.in_ok-put_txn.ensures.whole at c.put_view.ensures.begun in
    begun_err _ _ _ _ c.from_residual-in_err-put_view.ensures.0 (begun_part (g.B.BufMut.written a.out.now) (txn_bytes a.txn.now) (view_bytes a.view.now) (number_bytes 4 a.number) _ _ refl begun)

pub returns : goal.returns
returns g c =
    let a = c.args in
    let old = g.B.BufMut.written a.out.now in
    let result = c.put_u32.result in
    let txn = txn_bytes a.txn.now in
    let view = view_bytes a.view.now in
    let number = number_bytes 4 a.number in
    let ok = rw (c.get.ensures.value, c.in_ok-put_view.ensures.whole, c.in_ok-put_txn.ensures.whole) at c.put_u32.ensures.ok in
    let err = rw (c.in_ok-put_view.ensures.whole, c.in_ok-put_txn.ensures.whole) at c.put_u32.ensures.err in
    following result old txn (view ++ number) _ _ refl (following result (old ++ txn) view number _ _ refl (all_or_none result ((old ++ txn) ++ view) number _ ok err))
