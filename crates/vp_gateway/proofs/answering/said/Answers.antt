use Rattle.std.proofs.Common.{◌≡◌, List, [], ◌∷◌, ℕ, refl, subst, sym, rules}
use Rattle.vp_gateway.specs.declared.asked.LineRequest.{LineRequest}
use Rattle.vp_gateway.specs.declared.asked.LineRequest.TheVariants as asked
use Rattle.vp_gateway.specs.Lines.{line_as, bad_line, long_line}
use Rattle.vp_gateway.specs.Sessions.{IsSession}
use Rattle.vp_gateway.proofs.Talking.{bad_one, long_one}
use Rattle.vp_gateway.proofs.answering.said.Goals as goal

pub returns-in_ok-print_bad-in-Bad-clause-says : goal.returns-in_ok-print_bad-in-Bad-clause-says
returns-in_ok-print_bad-in-Bad-clause-says g c =
    let line : line_as c.args.newline c.args.line.now ≡ asked.Bad c.in-Bad.at = search rules in
    let text : c.in_ok-print_bad-in-Bad.field-0.items ≡ bad_line c.in-Bad.at = search rules in
    let link = g.L.Link.state c.args.link.now in
    subst (λ (a : LineRequest). IsSession c.args.port c.args.site c.args.turns (a ∷ []) c.in_ok-print_bad-in-Bad.field-0.items link link) (sym line)
    (subst (λ (t : List ℕ). IsSession c.args.port c.args.site c.args.turns (asked.Bad c.in-Bad.at ∷ []) t link link) (sym text) (bad_one c.args.port c.args.site c.args.turns link link c.in-Bad.at refl))

pub returns-in_ok-copied-in-Long-clause-says : goal.returns-in_ok-copied-in-Long-clause-says
returns-in_ok-copied-in-Long-clause-says g c =
    let line : line_as c.args.newline c.args.line.now ≡ asked.Long = search rules in
    let text : c.in_ok-copied-in-Long.field-0.items ≡ long_line = search rules in
    let link = g.L.Link.state c.args.link.now in
    subst (λ (a : LineRequest). IsSession c.args.port c.args.site c.args.turns (a ∷ []) c.in_ok-copied-in-Long.field-0.items link link) (sym line)
    (subst (λ (t : List ℕ). IsSession c.args.port c.args.site c.args.turns (asked.Long ∷ []) t link link) (sym text) (long_one c.args.port c.args.site c.args.turns link link refl))
