use Rattle.std.proofs.Common.{refl}
use Rattle.vp_text.proofs.Printing.{begun_err, begun_first}
use Rattle.vp_bytes.proofs.Writing.{following}
use Rattle.vp_contents.specs.Changes.{put_bytes}
use Rattle.vp_contents.specs.Tables.{maybe_table_bytes}
use Rattle.vp_contents.proofs.changes.put_change.Goals as goal

pub returns-in_err-put_put : goal.returns-in_err-put_put
returns-in_err-put_put g c =
    let a = c.args in
    begun_err _ _ _ _ c.from_residual.ensures.0 (begun_first (g.B.BufMut.written a.out.now) (put_bytes a.version a.change.now.put) (maybe_table_bytes a.version a.change.now.table) _ c.put_put.ensures.begun)

pub returns : goal.returns
returns g c =
    let a = c.args in
    let last = rw c.in_ok-put_put.ensures.whole at c.put_maybe_table.ensures in
    following c.put_maybe_table.result (g.B.BufMut.written a.out.now) (put_bytes a.version a.change.now.put) (maybe_table_bytes a.version a.change.now.table) _ _ refl last
