use Rattle.std.proofs.Common.{◌≡◌, ◌∙◌, ◌++◌, ℕ, List, length, ap, subst, sym, rules, arith, Result, Ok, Err, true, false}
use Rattle.std.proofs.lemmas.List.{length-take}
use Rattle.std.proofs.lemmas.Result.{err_from_is_err_and}
use Rattle.vp_gateway.specs.declared.end.GateEnd.{GateEnd}
use Rattle.vp_gateway.specs.Ends.{end_of_input}
use Rattle.vp_gateway.specs.Lines.{line_as}
use Rattle.vp_gateway.specs.Sessions.{talk}
use Rattle.vp_gateway.specs.Answering.{AnswersLine, AnswersLines}
use Rattle.vp_gateway.proofs.AllLines.{begun, unfound, goes_on, breaks, smaller, ended, ends_with}
use Rattle.vp_gateway.proofs.serving.answer_lines.Goals as goal

pub lines-init : goal.lines-init
lines-init g c = record {
  going = begun c.args.port c.args.site c.args.turns c.args.unread.now (g.S.Source.state c.args.source.now) (g.K.Sink.state c.args.sink.now) (g.L.Link.state c.args.link.now);
  bound = c.requires.bound;
}

pub returns-in_err-next-clause-answers : goal.returns-in_err-next-clause-answers
returns-in_err-next-clause-answers g c =
    let is : c.from_residual.result ≡ Err (end_of_input c.in_err-next.field-0.0) = search rules in
    subst (λ (r : Result (Unit {0}) GateEnd). AnswersLines c.args.port c.args.site c.args.turns c.args.unread.now (g.S.Source.state c.args.source.now) (g.S.Source.state c.next.new.source)
    (talk (g.K.Sink.state c.args.sink.now) (g.K.Sink.state c.lines.sink) (g.L.Link.state c.args.link.now) (g.L.Link.state c.lines.link)) r) (sym is)
    (unfound _ _ _ _ _ _ _ _ _ _ _ c.lines.invariant.going _ _ c.next.new.line.items c.in_err-next.field-0.0 c.in_err-next.ensures.finds)

pub returns-in-End-clause-answers : goal.returns-in-End-clause-answers
returns-in-End-clause-answers g c = let f = rw c.in-End.is at c.in_ok-next.ensures.finds in ended _ _ _ _ _ _ _ _ _ _ _ c.lines.invariant.going _ _ c.next.new.line.items tt f

pub answer-requires-clause-short : goal.answer-requires-clause-short
answer-requires-clause-short g c =
    let f = rw c.in-Rest.is at c.in_ok-next.ensures.finds in
    let kept = ap length (c.deref.ensures.value ∙ f.kept) in
    omega (arith, kept, length-take 4097 (c.lines.unread.unread ++ f.none.more))

pub returns-in-Rest-clause-answers : goal.returns-in-Rest-clause-answers
returns-in-Rest-clause-answers g c =
    let f = rw c.in-Rest.is at c.in_ok-next.ensures.finds in
    ends_with _ _ _ _ _ _ _ _ _ _ _ c.lines.invariant.going _ _ c.next.new.line.items f (g.K.Sink.state c.answer.new.sink) (g.L.Link.state c.answer.new.link) c.answer.result
    (subst (λ (l : List ℕ). AnswersLine c.args.port c.args.site c.args.turns (line_as false l)
    (talk (g.K.Sink.state c.lines.sink) (g.K.Sink.state c.answer.new.sink) (g.L.Link.state c.lines.link) (g.L.Link.state c.answer.new.link)) c.answer.result) c.deref.ensures.value c.answer.ensures.answers)

pub answer-requires-in-Line-clause-short : goal.answer-requires-in-Line-clause-short
answer-requires-in-Line-clause-short g c =
    let f = rw c.in-Line.is at c.in_ok-next.ensures.finds in
    let kept = ap length (c.deref-in-Line.ensures.value ∙ f.kept) in
    omega (arith, kept, length-take 4097 f.body)

pub lines-smaller : goal.lines-smaller
lines-smaller g c =
    let f = rw c.in-Line.is at c.in_ok-next.ensures.finds in
    smaller _ _ _ _ _ _ _ _ _ _ _ c.lines.invariant.going _ _ c.next.new.line.items f (g.K.Sink.state c.lines.sink) (g.L.Link.state c.lines.link)

pub lines-preserved : goal.lines-preserved
lines-preserved g c =
    let f = rw c.in-Line.is at c.in_ok-next.ensures.finds in
    record {
      going =
          goes_on _ _ _ _ _ _ _ _ _ _ _ c.lines.invariant.going _ _ c.next.new.line.items f (g.K.Sink.state c.answer-in-Line.new.sink) (g.L.Link.state c.answer-in-Line.new.link) tt
          (subst (λ (l : List ℕ). AnswersLine c.args.port c.args.site c.args.turns (line_as true l)
          (talk (g.K.Sink.state c.lines.sink) (g.K.Sink.state c.answer-in-Line.new.sink) (g.L.Link.state c.lines.link) (g.L.Link.state c.answer-in-Line.new.link)) (Ok tt)) c.deref-in-Line.ensures.value c.in_ok-answer-in-Line.ensures.answers);
      bound = c.answer-in-Line.ensures.stays.same_bound ∙ c.lines.invariant.bound;
    }

pub returns-in_err-answer-in-Line-clause-answers : goal.returns-in_err-answer-in-Line-clause-answers
returns-in_err-answer-in-Line-clause-answers g c =
    let f = rw c.in-Line.is at c.in_ok-next.ensures.finds in
    let p = err_from_is_err_and c.from_residual-in_err-answer-in-Line.result c.from_residual-in_err-answer-in-Line.ensures.1 in
    rw (p.1, p.2) (breaks _ _ _ _ _ _ _ _ _ _ _ c.lines.invariant.going _ _ c.next.new.line.items f (g.K.Sink.state c.answer-in-Line.new.sink) (g.L.Link.state c.answer-in-Line.new.link) c.in_err-answer-in-Line.field-0.0
    (subst (λ (l : List ℕ). AnswersLine c.args.port c.args.site c.args.turns (line_as true l)
    (talk (g.K.Sink.state c.lines.sink) (g.K.Sink.state c.answer-in-Line.new.sink) (g.L.Link.state c.lines.link) (g.L.Link.state c.answer-in-Line.new.link)) (Err c.in_err-answer-in-Line.field-0.0))
    c.deref-in-Line.ensures.value c.in_err-answer-in-Line.ensures.answers))
