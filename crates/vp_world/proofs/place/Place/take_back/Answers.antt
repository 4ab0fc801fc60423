use Rattle.vp_world.proofs.GivenUp.{keeps_some, on_err}
use Rattle.vp_world.proofs.place.Place.take_back.Goals as goal

pub returns-in_err-apply_all-clause-left : goal.returns-in_err-apply_all-clause-left
returns-in_err-apply_all-clause-left c =
    on_err c.from_residual.result (keeps_some c.args.records.now c.self.inside.id c.self.inside.durable c.apply_all.new.self c.self.inside.up c.args.self.now c.self.view_is c.in_err-apply_all.ensures.some)
