use Rattle.std.proofs.Common.{◌∙◌, Bool, ap, subst, sym, Err}
use Rattle.vp_gateway.specs.declared.end.GateEnd.{GateEnd}
use Rattle.vp_gateway.specs.Opening.{end_by_limit, Opens}
use Rattle.vp_gateway.proofs.Heading.{opens}
use Rattle.vp_gateway.proofs.head.open.Goals as goal

pub returns-in-Err-clause-opens : goal.returns-in-Err-clause-opens
returns-in-Err-clause-opens g c =
    subst (λ (e : GateEnd). Opens c.args.site c.find_port.new.unread (g.S.Source.state c.args.source.now) (g.S.Source.state c.find_port.new.source) (Err e))
    (sym (c.end_by_limit.ensures ∙ ap (λ (b : Bool). end_by_limit b c.in-Err.end) c.is_spent.ensures)) (opens _ _ _ _ c.in-Err.end c.in-Err.ensures.finds)
