use Rattle.vp_outside.specs.Disk.{log_of}
use Rattle.vp_stable.proofs.Recoveries.{peeked, scan_can}
use Rattle.vp_stable.proofs.log.Log.peek.Goals as goal

pub returns-clause-answer : goal.returns-clause-answer
returns-clause-answer g c =
    peeked (log_of (g.D.Disk.state c.args.disk.now)) c.in_ok-current.current.half c.in_ok-current.current.bytes.items c.in_ok-scan.scan c.in_ok-current.ensures.told
    (rw c.deref.ensures.value at c.in_ok-scan.ensures.scanned)

pub returns-clause-batches : goal.returns-clause-batches
returns-clause-batches g c = scan_can c.in_ok-scan.scan c.deref.result.now c.in_ok-scan.ensures.scanned
