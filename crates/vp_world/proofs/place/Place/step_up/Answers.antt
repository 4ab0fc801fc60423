use Rattle.std.proofs.Common.{◌∙◌, ap}
use Rattle.vp_model.specs.Step.{step}
use Rattle.vp_model.specs.Site.{Stepped}
use Rattle.vp_world.proofs.GivenUp.{keeps_none, keeps_of, on_err}
use Rattle.vp_world.proofs.place.Place.step_up.Goals as goal

pub returns-in_err-site-clause-left : goal.returns-in_err-site-clause-left
returns-in_err-site-clause-left g c = on_err c.from_residual.result (keeps_none (step c.args.catalog.now c.args.site c.args.input.now).effects.records c.args.self.now)

pub returns-in_err-agreed-clause-left : goal.returns-in_err-agreed-clause-left
returns-in_err-agreed-clause-left g c = on_err c.from_residual-in_err-agreed.result (keeps_none (step c.args.catalog.now c.args.site c.args.input.now).effects.records c.args.self.now)

pub returns-in_err-take_back-clause-left : goal.returns-in_err-take_back-clause-left
returns-in_err-take_back-clause-left g c =
    on_err c.from_residual-in_err-take_back.result
    (keeps_of (step c.args.catalog.now c.args.site c.args.input.now) c.as_slice.result.now c.args.self.now c.take_back.new.self (c.as_slice.ensures ∙ ap (λ (o : Stepped). o.effects.records) c.in_ok-site.ensures.stepped) c.in_err-take_back.ensures.left)
