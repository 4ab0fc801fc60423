use Rattle.std.proofs.Common.{sym, arith}
use Rattle.vp_bytes.specs.Reading.{word_run_at}
use Rattle.vp_bytes.proofs.Turns.{word_goes, word_fails, word_short, word_all}
use Rattle.vp_bytes.proofs.words.check_word.Goals as goal
use Rattle.vp_bytes.proofs.words.check_word.Goals.{then-good-bytes-via-then-good-bytes, then-good-bytes-via-else-good-bytes+then-not-has}

pub returns-then-good-bytes-clause-read : goal.returns-then-good-bytes-clause-read
returns-then-good-bytes-clause-read c =
    let total = word_run_at c.args.class c.args.count c.args.bytes.now in
    elim c.then-good-bytes.branch [
      | then-good-bytes-via-then-good-bytes w ↦ word_short c.args.class c.args.count c.loop-good.good c.args.bytes.now total c.loop-good-test.true w.if-good-bytes.true c.loop-good.invariant.2
      | then-good-bytes-via-else-good-bytes+then-not-has w ↦
          word_fails c.args.class c.args.count c.loop-good.good c.args.bytes.now total c.loop-good-test.true (omega (arith, c.loop-good.invariant.1, w.if-good-bytes.false)) (sym w.if-not-has.ensures) c.loop-good.invariant.2
    ]

pub loop-good-preserved : goal.loop-good-preserved
loop-good-preserved c =
    let total = word_run_at c.args.class c.args.count c.args.bytes.now in
    (omega (arith, c.loop-good-test.true), omega (arith, c.loop-good.invariant.1, c.if-good-bytes.false), word_goes c.args.class c.args.count c.loop-good.good c.args.bytes.now total c.loop-good-test.true (omega (arith, c.loop-good.invariant.1, c.if-good-bytes.false)) (sym c.if-not-has.ensures) c.loop-good.invariant.2)

pub returns-clause-read : goal.returns-clause-read
returns-clause-read c =
    let total = word_run_at c.args.class c.args.count c.args.bytes.now in
    word_all c.args.class c.args.count c.loop-good.good c.args.bytes.now total (omega (arith, c.loop-good.invariant.0, c.loop-good-test.false)) c.loop-good.invariant.2
