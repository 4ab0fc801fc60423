use Rattle.std.proofs.Common.{◌∙◌, ◌≤◌, Bool, length, ap, sym, arith}
use Rattle.vp_gateway.specs.Lines.{line_as}
use Rattle.vp_gateway.proofs.Reading.{call_as, unended_as}
use Rattle.vp_gateway.proofs.asked.read_line.Goals as goal

pub returns-then-newline-clause-read : goal.returns-then-newline-clause-read
returns-then-newline-clause-read c =
    let short = c.if-line-gt-MOST_LINE.false in
    let le : length c.args.line.now ≤ 4096 = omega (arith, short) in
    sym (ap (λ (b : Bool). line_as b c.args.line.now) c.if-newline.true ∙ call_as c.args.line.now c.in-Ok.call le c.in-Ok.ensures)

pub returns-else-newline-clause-read : goal.returns-else-newline-clause-read
returns-else-newline-clause-read c =
    let short = c.if-line-gt-MOST_LINE.false in
    let le : length c.args.line.now ≤ 4096 = omega (arith, short) in
    sym (ap (λ (b : Bool). line_as b c.args.line.now) c.if-newline.false ∙ unended_as c.args.line.now c.in-Ok.call le c.in-Ok.ensures)
