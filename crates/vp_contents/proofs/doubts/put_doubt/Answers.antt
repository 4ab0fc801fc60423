use Rattle.std.proofs.Common.{◌++◌, refl}
use Rattle.vp_text.proofs.Printing.{begun_err, begun_first}
use Rattle.vp_bytes.specs.Fields.{txn_bytes, view_bytes}
use Rattle.vp_contents.specs.Changes.{writes_bytes}
use Rattle.vp_bytes.proofs.Writing.{following, begun_part}
use Rattle.vp_contents.proofs.doubts.put_doubt.Goals as goal

pub put_writes-requires : goal.put_writes-requires
put_writes-requires g c = rw c.as_slice.ensures c.requires

pub returns-in_err-put_txn : goal.returns-in_err-put_txn
returns-in_err-put_txn g c =
    let a = c.args in
    begun_err _ _ _ _ c.from_residual.ensures.0 (begun_first (g.B.BufMut.written a.out.now) (txn_bytes a.txn.now) (view_bytes a.view.now ++ writes_bytes a.version a.writes.now) _ c.put_txn.ensures.begun)

pub returns-in_err-put_view : goal.returns-in_err-put_view
returns-in_err-put_view g c =
    let a = c.args in
    let begun = rw c.in_ok-put_txn.ensures.whole at c.put_view.ensures.begun in
    begun_err _ _ _ _ c.from_residual-in_err-put_view.ensures.0 (begun_part (g.B.BufMut.written a.out.now) (txn_bytes a.txn.now) (view_bytes a.view.now) (writes_bytes a.version a.writes.now) _ _ refl begun)

pub returns : goal.returns
returns g c =
    let a = c.args in
    let old = g.B.BufMut.written a.out.now in
    let txn = txn_bytes a.txn.now in
    let view = view_bytes a.view.now in
    let writes = writes_bytes a.version a.writes.now in
    let last = rw (c.as_slice.ensures, c.in_ok-put_view.ensures.whole, c.in_ok-put_txn.ensures.whole) at c.put_writes.ensures in
    following c.put_writes.result old txn (view ++ writes) _ _ refl (following c.put_writes.result (old ++ txn) view writes _ _ refl last)
