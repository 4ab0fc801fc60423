use Rattle.std.proofs.Common.{refl}
use Rattle.vp_text.proofs.Printing.{begun_err, begun_first}
use Rattle.vp_bytes.specs.Fields.{counted_bytes, txn_bytes}
use Rattle.vp_bytes.proofs.Writing.{following}
use Rattle.vp_bytes.proofs.decisions.put_decision.Goals as goal

pub returns-in_err-put_txn : goal.returns-in_err-put_txn
returns-in_err-put_txn g c =
    let decision = c.args.decision.now in
    begun_err _ _ _ _ c.from_residual.ensures.0 (begun_first (g.B.BufMut.written c.args.out.now) (txn_bytes decision.txn) (counted_bytes decision.waiting) _ c.put_txn.ensures.begun)

pub returns : goal.returns
returns g c =
    let decision = c.args.decision.now in
    let waiting = rw (c.as_slice.ensures, c.in_ok-put_txn.ensures.whole) at c.put_sites.ensures in
    following c.put_sites.result (g.B.BufMut.written c.args.out.now) (txn_bytes decision.txn) (counted_bytes decision.waiting) _ _ refl waiting
