use Rattle.std.proofs.Common.{◌≡◌, ◌∙◌, ap}
use Rattle.std.proofs.lemmas.Result.{err_from_is_err_and}
use Rattle.std.specs.declared.alloc.AllocError.{AllocError}
use Rattle.vp_lines.specs.Ahead.{rest_found}
use Rattle.vp_lines.proofs.Finding.{found_whole, passed_rest, filled_more, ended_there, unfilled}
use Rattle.vp_lines.proofs.unread.ReadBuffer.next.Goals as goal

pub returns-then-whole-clause-finds : goal.returns-then-whole-clause-finds
returns-then-whole-clause-finds g c = found_whole _ _ _ _ _ _ _ _ c.loop-whole.invariant.so_far AllocError c.in_ok-whole.whole c.if-whole.true c.in_ok-whole.ensures

pub returns-in_err-more-clause-finds : goal.returns-in_err-more-clause-finds
returns-in_err-more-clause-finds g c =
    let h = passed_rest _ _ _ _ _ _ _ _ c.loop-whole.invariant.so_far AllocError c.in_ok-whole.whole c.if-whole.false c.in_ok-whole.ensures in
    let p = err_from_is_err_and c.from_residual-in_err-more.result c.from_residual-in_err-more.ensures.1 in
    rw (p.1, p.2) (unfilled _ _ _ _ c.fill.new.self _ _ _ h.0 h.1 c.in_err-more.field-0.0 c.in_err-more.ensures.fills)

pub returns-then-not-more-clause-finds : goal.returns-then-not-more-clause-finds
returns-then-not-more-clause-finds g c =
    let h = passed_rest _ _ _ _ _ _ _ _ c.loop-whole.invariant.so_far AllocError c.in_ok-whole.whole c.if-whole.false c.in_ok-whole.ensures in
    let is : c.rest_of.result ≡ rest_found c.pass.new.line.items = c.rest_of.ensures ∙ ap rest_found c.deref.ensures.value in
    ended_there _ _ _ _ _ _ _ _ h.0 h.1 c.requires.some c.in_ok-more.more c.if-not-more.true c.in_ok-more.ensures.fills c.rest_of.result is

pub loop-whole-preserved : goal.loop-whole-preserved
loop-whole-preserved g c =
    let h = passed_rest _ _ _ _ _ _ _ _ c.loop-whole.invariant.so_far AllocError c.in_ok-whole.whole c.if-whole.false c.in_ok-whole.ensures in
    record { so_far = filled_more _ _ _ _ _ _ _ _ h.0 h.1 c.in_ok-more.more c.if-not-more.false c.in_ok-more.ensures.fills }
