use Rattle.std.proofs.Common.{◌≡◌, ◌<◌, sym, ap, ◌∙◌, arith, length, get_or, false}
use Rattle.vp_text.specs.Classes.{has, most}
use Rattle.vp_text.proofs.Loops.{word_turn, word_starts, word_ends, word_fails}
use Rattle.vp_text.specs.Reading.{word_at}
use Rattle.vp_text.proofs.Classes.{read_word}
use Rattle.vp_text.proofs.cursor.Cursor.word.Goals as goal
use Rattle.vp_text.proofs.cursor.Cursor.word.Goals.{then-loop-count-test+then-count-self+else-has, then-loop-count-test+else-count-self, else-loop-count-test}

pub loop-count-init : goal.loop-count-init
loop-count-init c = (omega arith, sym (word_starts (has c.args.class) (most c.args.class) c.self.inside.rest.now))

pub loop-count-preserved : goal.loop-count-preserved
loop-count-preserved c = (omega arith, sym (word_turn (has c.args.class) (most c.args.class) c.self.inside.rest.now c.loop-count.count c.if-count-self.true (omega arith) (sym c.if-has.ensures)) ∙ c.loop-count.invariant.1)

pub returns-clause-read : goal.returns-clause-read
returns-clause-read c =
    let bytes = c.self.inside.rest.now in
    let n = c.loop-count.count in
    let stops : n < length bytes → n < most c.args.class → has c.args.class (get_or bytes n 0) ≡ false = elim c.loop-count-test.branch [
      | then-loop-count-test+then-count-self+else-has w ↦ λ _ _. sym w.if-has.ensures
      | then-loop-count-test+else-count-self w ↦ λ a b. absurd (omega arith)
      | else-loop-count-test w ↦ λ a b. absurd (omega arith)
    ] in
    rw (c.split_at.ensures.front, c.split_at.ensures.back) (ap (word_at (has c.args.class) (most c.args.class)) (sym c.self.view_is) ∙ sym c.loop-count.invariant.1 ∙ word_ends (has c.args.class) (most c.args.class) bytes n (omega arith) c.loop-count.invariant.0 stops)

pub returns-clause-allowed : goal.returns-clause-allowed
returns-clause-allowed c = read_word c.args.class c.args.self.now c.split_at.result.0.now c.split_at.result.1.now (returns-clause-read c)

pub returns-then-count-eq0-clause-read : goal.returns-then-count-eq0-clause-read
returns-then-count-eq0-clause-read c =
    let bytes = c.self.inside.rest.now in
    let n = c.loop-count.count in
    let stops : n < length bytes → n < most c.args.class → has c.args.class (get_or bytes n 0) ≡ false = elim c.loop-count-test.branch [
      | then-loop-count-test+then-count-self+else-has w ↦ λ _ _. sym w.if-has.ensures
      | then-loop-count-test+else-count-self w ↦ λ a b. absurd (omega arith)
      | else-loop-count-test w ↦ λ a b. absurd (omega arith)
    ] in
    ap (word_at (has c.args.class) (most c.args.class)) (sym c.self.view_is) ∙ sym c.loop-count.invariant.1 ∙ word_fails (has c.args.class) (most c.args.class) bytes n c.if-count-eq0.true stops
