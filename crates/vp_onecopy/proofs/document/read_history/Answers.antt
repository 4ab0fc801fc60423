use Rattle.std.proofs.Common.{rules, ◌<◌, ◌+◌, ◌^◌, ℕ, length, refl, ap, inl, inr}
use Rattle.vp_onecopy.specs.Passing.{AnsweredAll}
use Rattle.vp_onecopy.proofs.Only.{answer_is_only, bad_line}
use Rattle.vp_onecopy.proofs.Prints.{after_printed}
use Rattle.vp_onecopy.proofs.Whole.{after_whole, only_taken}
use Rattle.vp_onecopy.proofs.document.read_history.Goals as goal

pub returns-in-Ok-clause-only : goal.returns-in-Ok-clause-only
returns-in-Ok-clause-only c =
    let small : length c.args.text.now < 2 ^ 63 = search rules in
    let passes = rw (c.in-Ok.is, c.new-cursor.ensures) at c.pass_over.ensures.passes in
    let answered : AnsweredAll c.args.text.now c.read_after.result = (c.in-Ok.passed, passes.0, c.rest.result.now, passes.1, inl (rw c.rest.ensures passes.2, c.read_after.ensures)) in
    answer_is_only c.args.text.now small c.read_after.result answered

pub returns-in-Err-clause-only : goal.returns-in-Err-clause-only
returns-in-Err-clause-only c =
    let small : length c.args.text.now < 2 ^ 63 = search rules in
    let passes = rw (c.in-Err.is, c.new-cursor.ensures) at c.pass_over.ensures.passes in
    let answered : AnsweredAll c.args.text.now (bad_line (c.in-Err.passed + 1) (c.left.result + 1)) =
    (c.in-Err.passed, passes.0, c.pass_over.new.cursor, passes.1, inr (passes.2, (refl, ap (λ (n : ℕ). n + 1) c.left.ensures, passes.3))) in
    answer_is_only c.args.text.now small (bad_line (c.in-Err.passed + 1) (c.left.result + 1)) answered

pub returns-in-Ok-clause-printed : goal.returns-in-Ok-clause-printed
returns-in-Ok-clause-printed c =
    let passes = rw (c.in-Ok.is, c.new-cursor.ensures) at c.pass_over.ensures.passes in
    after_printed c.in-Ok.passed c.args.text.now passes.0 c.rest.result.now c.read_after.result passes.1 (rw c.rest.ensures passes.2) c.read_after.ensures

pub returns-in-Ok-clause-whole : goal.returns-in-Ok-clause-whole
returns-in-Ok-clause-whole c = after_whole c.in-Ok.passed c.rest.result.now c.read_after.result c.read_after.ensures

pub returns-in-Ok-clause-taken : goal.returns-in-Ok-clause-taken
returns-in-Ok-clause-taken c = only_taken c.args.text.now c.read_after.result (returns-in-Ok-clause-only c)

pub returns-in-Err-clause-taken : goal.returns-in-Err-clause-taken
returns-in-Err-clause-taken c = only_taken c.args.text.now (bad_line (c.in-Err.passed + 1) (c.left.result + 1)) (returns-in-Err-clause-only c)
