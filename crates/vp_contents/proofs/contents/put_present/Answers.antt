use Rattle.std.proofs.Common.{refl}
use Rattle.vp_text.proofs.Printing.{begun_err, begun_first}
use Rattle.vp_bytes.proofs.Writing.{following}
use Rattle.vp_contents.specs.Contents.{mark_bytes}
use Rattle.vp_contents.specs.Values.{value_bytes}
use Rattle.vp_contents.proofs.contents.put_present.Goals as goal

pub returns-in_err-put_mark : goal.returns-in_err-put_mark
returns-in_err-put_mark g c =
    let a = c.args in
    begun_err _ _ _ _ c.from_residual.ensures.0 (begun_first (g.B.BufMut.written a.out.now) (mark_bytes a.version 1) (value_bytes a.version a.value.now) _ c.put_mark.ensures.begun)

pub returns : goal.returns
returns g c =
    let a = c.args in
    let last = rw c.in_ok-put_mark.ensures.whole at c.put_value.ensures in
    following c.put_value.result (g.B.BufMut.written a.out.now) (mark_bytes a.version 1) (value_bytes a.version a.value.now) _ _ refl last
