use Rattle.std.proofs.Common.{◌≡◌, ◌-◌, ◌∙◌, arith}
use Rattle.vp_stable.proofs.Measured.{stands_within}
use Rattle.vp_stable.proofs.batches.next_gate.Goals as goal

pub returns-then-bytes-le-LENGTH_BYTES : goal.returns-then-bytes-le-LENGTH_BYTES
returns-then-bytes-le-LENGTH_BYTES c batch next stands =
    let within = stands_within batch next c.args.bytes.now stands in
    absurd (omega (arith, within.0, within.1, c.if-bytes-le-LENGTH_BYTES.true))

pub returns-then-length-bytes : goal.returns-then-length-bytes
returns-then-length-bytes c batch next stands =
    let within = stands_within batch next c.args.bytes.now stands in
    let read : c.read_u64-length.result ≡ next - 8 = c.read_u64-length.ensures ∙ within.2 in
    absurd (omega (arith, within.0, within.1, read, c.if-length-bytes.true))
