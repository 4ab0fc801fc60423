use Rattle.std.proofs.Common.{sym, ap, ◌∙◌, arith}
use Rattle.vp_recording.specs.Hex.{bytes_at}
use Rattle.vp_recording.proofs.HexExact.{bytes_start, StopsAt, bytes_none, bytes_odd, bytes_done}
use Rattle.vp_recording.proofs.hex_reading.parse_bytes.Goals as goal
use Rattle.vp_recording.proofs.hex_reading.parse_bytes.Goals.{then-loop-count-test+then-count-text+else-is_digit, then-loop-count-test+else-count-text, else-loop-count-test, then-count-eq0-via-then-count-eq0, then-count-eq0-via-else-count-eq0+then-count-eq1}

pub loop-count-init : goal.loop-count-init
loop-count-init c = (omega arith, (omega arith), tt, bytes_start c.rest-text.result.now)

pub returns-then-count-eq0 : goal.returns-then-count-eq0
returns-then-count-eq0 c =
    let text = c.rest-text.result.now in
    let n = c.loop-count.count in
    let stops : StopsAt text n = elim c.loop-count-test.branch [
      | then-loop-count-test+then-count-text+else-is_digit w ↦ λ _ _. sym w.if-is_digit.ensures
      | then-loop-count-test+else-count-text w ↦ λ a b. absurd (omega arith)
      | else-loop-count-test w ↦ λ a b. absurd (omega arith)
    ] in
    ap bytes_at (sym c.rest-text.ensures) ∙ elim c.then-count-eq0.branch [
      | then-count-eq0-via-then-count-eq0 w ↦ bytes_none text n c.loop-count.invariant.0 w.if-count-eq0.true stops c.loop-count.invariant.3
      | then-count-eq0-via-else-count-eq0+then-count-eq1 w ↦ bytes_odd text n c.loop-count.invariant.0 w.if-count-eq1.true stops c.loop-count.invariant.3
    ]

pub returns : goal.returns
returns c =
    let text = c.rest-text.result.now in
    let n = c.loop-count.count in
    let stops : StopsAt text n = elim c.loop-count-test.branch [
      | then-loop-count-test+then-count-text+else-is_digit w ↦ λ _ _. sym w.if-is_digit.ensures
      | then-loop-count-test+else-count-text w ↦ λ a b. absurd (omega arith)
      | else-loop-count-test w ↦ λ a b. absurd (omega arith)
    ] in
    rw (c.advance.ensures, c.in_ok-frame.ensures)
    (bytes_done c.args.cursor.now text n c.decode.new.bytes.items c.rest-text.ensures c.loop-count.invariant.0 c.if-count-eq0.false c.if-count-eq1.false stops c.loop-count.invariant.3 c.in_ok-decode.ensures)
