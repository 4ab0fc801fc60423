use Rattle.std.proofs.Common.{◌<◌, ◌^◌, ◌-◌, ap, ◌∙◌, sym, take, drop, arith}
use Rattle.vp_stable.proofs.Measured.{made_first, same_place, stands_records}
use Rattle.vp_stable.proofs.batches.first_batch.Goals as goal

pub returns-in-Ok : goal.returns-in-Ok
returns-in-Ok c =
    let next = c.in-Some.ensures in
    let small : c.in-Some.next < 2 ^ 64 = omega arith in
    made_first c.in-Ok.batch c.in-Some.next c.args.bytes.now next.0 next.1 small next.2 c.in-Ok.ensures.is c.in-Ok.ensures.allowed

pub returns-in-Err-BadRecord : goal.returns-in-Err-BadRecord
returns-in-Err-BadRecord c batch place stands =
    let next = c.in-Some.ensures in
    let small : c.in-Some.next < 2 ^ 64 = omega arith in
    let same = same_place batch place c.in-Some.next c.args.bytes.now next.0 small next.2 stands in
    let refused = rw c.in-Err-BadRecord.field-0-is at c.in-Err-BadRecord.ensures in
    refused.none batch (record { is = ap (λ k. take (k - 8) (drop 8 c.args.bytes.now)) (sym same) ∙ stands_records batch place c.args.bytes.now stands; allowed = stands.can.records })
