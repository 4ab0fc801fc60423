use Rattle.std.proofs.Common.{List, [], ◌∷◌, ℕ, refl, subst, sym}
use Rattle.std.specs.Prelude.{None}
use Rattle.vp_gateway.specs.declared.asked.LineRequest.TheVariants as asked
use Rattle.vp_gateway.specs.Sessions.{IsSession}
use Rattle.vp_gateway.proofs.Talking.{asked_one}
use Rattle.vp_gateway.proofs.answering.asked.Goals as goal

pub returns-in_ok-copied-in-Err-NoAnswer-clause-says : goal.returns-in_ok-copied-in-Err-NoAnswer-clause-says
returns-in_ok-copied-in-Err-NoAnswer-clause-says g c =
    let text = rw c.in_ok-copied-in-Err-NoAnswer.was at c.copied.ensures in
    let asks = rw c.in-Err-NoAnswer.field-0-is at c.in-Err-NoAnswer.ensures.asks in
    subst (λ (t : List ℕ). IsSession c.args.port c.args.site c.args.turns (asked.Call c.args.call.now ∷ []) t (g.L.Link.state c.args.link.now) (g.L.Link.state c.ask.new.link)) (sym text)
    (asked_one c.args.port c.args.site c.args.turns (g.L.Link.state c.args.link.now) (g.L.Link.state c.ask.new.link) c.args.call.now None (refl, asks.1))
