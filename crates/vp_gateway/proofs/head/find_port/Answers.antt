use Rattle.std.proofs.Common.{◌≡◌, ◌∙◌, ◌⊎◌, ℕ, ◌≤◌, List, subst, sym, rules, arith, Result, Ok, Err}
use Rattle.vp_text.specs.Documents.{HasNoNewline, IsLine}
use Rattle.vp_gateway.specs.declared.end.GateEnd.{GateEnd}
use Rattle.vp_gateway.specs.declared.end.GateEnd.TheVariants as ends
use Rattle.vp_gateway.specs.Ends.{end_of_input, end_of_catalog}
use Rattle.vp_gateway.specs.Opening.{text_of, FindsPort, TakesLine}
use Rattle.vp_gateway.proofs.Heading.{few_lines, so_far, next_text, unfound, one, added, smaller, forgotten, refused, opened, lacking}
use Rattle.vp_gateway.proofs.head.find_port.Goals as goal

pub returns-in_err-found-clause-finds : goal.returns-in_err-found-clause-finds
returns-in_err-found-clause-finds g c =
    let is : c.from_residual.result ≡ Err (end_of_input c.in_err-found.field-0.0) = search rules in
    subst (λ (r : Result ℕ GateEnd). FindsPort c.args.site c.next.new.self (g.S.Source.state c.args.source.now) (g.S.Source.state c.next.new.source) r) (sym is)
    (unfound _ _ _ _ _ c.lines.invariant.heading _ _ c.next.new.line.items c.args.site c.lines-test.true c.in_err-found.field-0.0 c.in_err-found.ensures.finds)

pub returns-in_err-end_line-clause-finds : goal.returns-in_err-end_line-clause-finds
returns-in_err-end_line-clause-finds g c =
    let is : c.from_residual-in_err-end_line.result ≡ Err ends.NoMemory = search rules in
    let r = next_text _ _ _ _ _ c.lines.invariant.heading _ _ c.next.new.line.items c.in_ok-found.found c.in_ok-found.ensures.finds in
    subst (λ (r : Result ℕ GateEnd). FindsPort c.args.site c.next.new.self (g.S.Source.state c.args.source.now) (g.S.Source.state c.next.new.source) r) (sym is)
    (forgotten _ _ _ _ _ c.lines.invariant.heading _ _ _ r c.lines.head)

pub add_line-requires-clause-so_far : goal.add_line-requires-clause-so_far
add_line-requires-clause-so_far g c = so_far _ _ _ _ _ c.lines.invariant.heading

pub add_line-requires-clause-one : goal.add_line-requires-clause-one
add_line-requires-clause-one g c =
    let r = next_text _ _ _ _ _ c.lines.invariant.heading _ _ c.next.new.line.items c.in_ok-found.found c.in_ok-found.ensures.finds in
    let text : c.deref.result.now ≡ text_of c.in_ok-found.found c.next.new.line.items = c.deref.ensures.value ∙ c.in_ok-end_line.ensures in
    subst (λ (t : List ℕ). IsLine t ⊎ HasNoNewline t) (sym text) (one _ _ _ _ _ c.lines.invariant.heading _ _ _ r c.lines.head)

pub returns-in_err-add_line-clause-finds : goal.returns-in_err-add_line-clause-finds
returns-in_err-add_line-clause-finds g c =
    let r = next_text _ _ _ _ _ c.lines.invariant.heading _ _ c.next.new.line.items c.in_ok-found.found c.in_ok-found.ensures.finds in
    let text : c.deref.result.now ≡ text_of c.in_ok-found.found c.next.new.line.items = c.deref.ensures.value ∙ c.in_ok-end_line.ensures in
    let is : c.from_residual-in_err-add_line.result ≡ Err (end_of_catalog c.in_err-add_line.field-0.0) = search rules in
    let takes = subst (λ (t : List ℕ). TakesLine c.lines.head t c.lines.number c.add_line.new.head (Err c.in_err-add_line.field-0.0)) text c.in_err-add_line.ensures in
    subst (λ (r : Result ℕ GateEnd). FindsPort c.args.site c.next.new.self (g.S.Source.state c.args.source.now) (g.S.Source.state c.next.new.source) r) (sym is)
    (refused _ _ _ _ _ c.lines.invariant.heading _ _ _ r c.add_line.new.head c.args.site c.in_err-add_line.field-0.0 takes)

pub overflow_add-number : goal.overflow_add-number
overflow_add-number g c =
    let few : c.lines.number ≤ 16777217 = few_lines _ _ _ _ _ c.lines.invariant.heading in
    omega (arith, few)

pub lines-smaller : goal.lines-smaller
lines-smaller g c =
    let r = next_text _ _ _ _ _ c.lines.invariant.heading _ _ c.next.new.line.items c.in_ok-found.found c.in_ok-found.ensures.finds in
    let text : c.deref.result.now ≡ text_of c.in_ok-found.found c.next.new.line.items = c.deref.ensures.value ∙ c.in_ok-end_line.ensures in
    let takes = subst (λ (t : List ℕ). TakesLine c.lines.head t c.lines.number c.add_line.new.head (Ok c.in_ok-add_line.field-0)) text c.in_ok-add_line.ensures in
    smaller _ _ _ _ _ c.lines.invariant.heading _ _ _ r c.add_line.new.head c.in_ok-add_line.field-0 takes

pub lines-preserved : goal.lines-preserved
lines-preserved g c =
    let r = next_text _ _ _ _ _ c.lines.invariant.heading _ _ c.next.new.line.items c.in_ok-found.found c.in_ok-found.ensures.finds in
    let text : c.deref.result.now ≡ text_of c.in_ok-found.found c.next.new.line.items = c.deref.ensures.value ∙ c.in_ok-end_line.ensures in
    let takes = subst (λ (t : List ℕ). TakesLine c.lines.head t c.lines.number c.add_line.new.head (Ok c.in_ok-add_line.field-0)) text c.in_ok-add_line.ensures in
    record { heading = added _ _ _ _ _ c.lines.invariant.heading _ _ _ r c.add_line.new.head c.in_ok-add_line.field-0 takes }

pub returns-in-Some-clause-finds : goal.returns-in-Some-clause-finds
returns-in-Some-clause-finds g c = opened _ _ _ _ _ c.lines.invariant.heading c.args.site c.lines-test.false c.in-Some.port (sym c.port.ensures ∙ c.in-Some.is)

pub returns-clause-finds : goal.returns-clause-finds
returns-clause-finds g c = lacking _ _ _ _ _ c.lines.invariant.heading c.args.site c.lines-test.false (sym c.port.ensures ∙ c.in-None.is)
