use Rattle.std.proofs.Common.{refl}
use Rattle.vp_text.proofs.Printing.{begun_err}
use Rattle.vp_bytes.specs.Fields.{view_bytes}
use Rattle.vp_bytes.proofs.Writing.{begun_part}
use Rattle.vp_contents.specs.Contents.{content_bytes}
use Rattle.vp_contents.specs.Tables.{maybe_table_bytes}
use Rattle.vp_contents.proofs.copies.put_stored.Goals as goal

pub returns-in_err-put_maybe_table : goal.returns-in_err-put_maybe_table
returns-in_err-put_maybe_table g c =
    let stored = c.args.stored.now in
    let begun = rw c.in_ok-put_content.ensures.whole at c.put_maybe_table.ensures.begun in
    begun_err _ _ _ _ c.from_residual-in_err-put_maybe_table.ensures.0 (begun_part (g.B.BufMut.written c.args.out.now) (content_bytes c.args.version stored.value) (maybe_table_bytes c.args.version stored.table) (view_bytes stored.date) _ _ refl begun)
