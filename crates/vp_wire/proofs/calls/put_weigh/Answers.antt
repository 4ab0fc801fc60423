use Rattle.std.proofs.Common.{refl}
use Rattle.vp_text.proofs.Printing.{begun_err}
use Rattle.vp_bytes.specs.Fields.{counted_bytes, numbered_bytes}
use Rattle.vp_bytes.proofs.Writing.{begun_part}
use Rattle.vp_contents.specs.Tables.{table_bytes}
use Rattle.vp_wire.proofs.calls.put_weigh.Goals as goal

pub returns-in_err-put_name : goal.returns-in_err-put_name
returns-in_err-put_name c =
    let begun = rw c.in_ok-put_numbered.ensures.whole at c.put_name.ensures.begun in
    begun_err _ _ _ _ c.from_residual-in_err-put_name.ensures.0 (begun_part c.args.out.now.items (numbered_bytes c.args.txn.now c.args.number) (counted_bytes c.args.name.now) (table_bytes c.args.table.now) _ _ refl begun)
