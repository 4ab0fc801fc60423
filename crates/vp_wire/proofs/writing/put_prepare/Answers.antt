use Rattle.std.proofs.Common.{refl}
use Rattle.vp_text.proofs.Printing.{begun_err}
use Rattle.vp_bytes.specs.Fields.{request_bytes, counted_bytes}
use Rattle.vp_contents.specs.Changes.{writes_bytes}
use Rattle.vp_bytes.proofs.Writing.{begun_part}
use Rattle.vp_wire.proofs.writing.put_prepare.Goals as goal

pub returns-in_err-put_recs : goal.returns-in_err-put_recs
returns-in_err-put_recs c =
    let begun = rw c.in_ok-put_request.ensures.whole at c.put_recs.ensures.begun in
    begun_err _ _ _ _ c.from_residual-in_err-put_recs.ensures.0 (begun_part c.args.out.now.items (request_bytes c.args.txn.now c.args.view.now c.args.number) (counted_bytes c.args.reads.now) (writes_bytes c.args.version c.args.writes.now) _ _ refl begun)
