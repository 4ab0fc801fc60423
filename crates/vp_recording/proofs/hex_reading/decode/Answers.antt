use Rattle.std.proofs.Common.{◌≡◌, ◌∙◌, ap, sym, arith, ◌+◌, ◌*◌, ◌/◌, ◌<◌, length, take}
use Rattle.vp_recording.specs.Hex.{bytes_of}
use Rattle.vp_recording.proofs.Digits.{pairs_more, pairs_whole}
use Rattle.vp_recording.proofs.hex_reading.decode.Goals as goal

pub loop-k-preserved : goal.loop-k-preserved
loop-k-preserved c =
    let digits = c.args.digits.now in
    let k = c.loop-k.k in
    let below = c.loop-k-test.true in
    let room : 2 * k + 1 < length digits = omega (arith, below) in
    (omega (arith, below), rw (c.in_ok-push.ensures.items, c.loop-k.invariant.1, c.digit_value-high.ensures, c.digit_value-low.ensures) (sym (pairs_more digits k room)))

pub returns : goal.returns
returns c =
    let digits = c.args.digits.now in
    let h = c.loop-k.invariant in
    let done = c.loop-k-test.false in
    let all : c.loop-k.k ≡ length digits / 2 = (let le = h.0 in omega (arith, le, done)) in
    h.1 ∙ ap (λ n. bytes_of (take (2 * n) digits)) all ∙ pairs_whole digits
