use Rattle.std.proofs.Common.{refl, sym, ◌∙◌, arith}
use Rattle.vp_stable.proofs.Opened.{second_first, second_stays}
use Rattle.vp_stable.proofs.Scanning.{bad_gate, one_more}
use Rattle.vp_stable.proofs.batches.read_batches.Goals as goal

pub returns-in_default-clause-scanned : goal.returns-in_default-clause-scanned
returns-in_default-clause-scanned c =
    let i = c.loop-scan.invariant in
    let none = rw c.in_default.is at c.in_ok-batch.ensures in
    (refl, bad_gate c.loop-scan.scan.batches c.loop-scan.scan.gate c.args.bytes.now (record { within = i.within; is = i.is; place = i.place; can = i.can }) c.loop-scan-test.true c.if-bytes-lt2.false none)

-- the first batch
pub loop-scan-preserved-then-scan-eq0 : goal.loop-scan-preserved-then-scan-eq0
loop-scan-preserved-then-scan-eq0 c =
    let i = c.loop-scan.invariant in
    let first = rw c.in-Some.is at c.in_ok-batch.ensures in
    let next = one_more c.loop-scan.scan.batches c.loop-scan.scan.gate c.args.bytes.now (record { within = i.within; is = i.is; place = i.place; can = i.can }) c.loop-scan-test.true c.in-Some.batch c.in-Some.next first in
    let second = next.place ∙ second_first c.loop-scan.scan.batches c.in-Some.batch (sym i.second ∙ c.if-scan-eq0.true) in
    rw c.in_ok-push.ensures.ok (record { within = next.within; is = next.is; place = next.place; can = next.can; second = second; before = omega arith })

-- a later one
pub loop-scan-preserved : goal.loop-scan-preserved
loop-scan-preserved c =
    let i = c.loop-scan.invariant in
    let first = rw c.in-Some.is at c.in_ok-batch.ensures in
    let next = one_more c.loop-scan.scan.batches c.loop-scan.scan.gate c.args.bytes.now (record { within = i.within; is = i.is; place = i.place; can = i.can }) c.loop-scan-test.true c.in-Some.batch c.in-Some.next first in
    let second = i.second ∙ second_stays c.loop-scan.scan.batches c.in-Some.batch (λ none. c.if-scan-eq0.false (i.second ∙ none)) in
    rw c.in_ok-push.ensures.ok (record { within = next.within; is = next.is; place = next.place; can = next.can; second = second; before = omega (arith, i.before) })
