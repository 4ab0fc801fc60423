use Rattle.std.proofs.Common.{◌∙◌, sym}
use Rattle.vp_world.proofs.GivenUp.{gives_up, on_err}
use Rattle.vp_world.proofs.place.Place.step.Goals as goal

pub returns-in_err-step_up-in-Some-clause-left : goal.returns-in_err-step_up-in-Some-clause-left
returns-in_err-step_up-in-Some-clause-left g c =
    on_err c.from_residual.result
    (gives_up c.args.catalog.now c.args.input.now c.self.inside.id c.self.inside.durable c.self.inside.up c.take.new.self c.in-Some.site c.args.self.now c.step_up.new.self c.self.view_is (sym c.take.ensures.value ∙ c.in-Some.is) c.take.ensures.after c.in_err-step_up-in-Some.ensures.left)
