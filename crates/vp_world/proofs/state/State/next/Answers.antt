use Rattle.std.proofs.Common.{Err, refl, subst}
use Rattle.std.proofs.lemmas.Result.{err_from_is_err_and}
use Rattle.vp_model.specs.World.{WorldState, happens}
use Rattle.vp_world.specs.Limits.{Does}
use Rattle.vp_world.proofs.Limited.{steps_end, happens_end, happens_within}
use Rattle.vp_world.proofs.state.State.next.Goals as goal

pub returns-in_err-count_step-clause-end : goal.returns-in_err-count_step-clause-end
returns-in_err-count_step-clause-end g c =
    let p = err_from_is_err_and c.from_residual.result c.from_residual.ensures.1 in
    rw (p.1, p.2) (steps_end c.args.catalog.now c.args.event.now c.args.self.now (Err c.in_err-count_step.field-0.0) c.in_err-count_step.field-0.0 refl c.in_err-count_step.ensures.end)

pub returns-clause-within : goal.returns-clause-within
returns-clause-within g c =
    happens_within c.args.catalog.now c.args.event.now c.args.self.now c.in_ok-count_step.ensures.end c.happen.new.self c.happen.result (subst (λ (w : WorldState). Does (happens c.args.catalog.now c.args.event.now w) c.happen.new.self c.happen.result) c.in_ok-count_step.ensures.counted c.happen.ensures.does)

pub returns-clause-end : goal.returns-clause-end
returns-clause-end g c =
    happens_end c.args.catalog.now c.args.event.now c.args.self.now c.in_ok-count_step.ensures.end c.happen.new.self c.happen.result (subst (λ (w : WorldState). Does (happens c.args.catalog.now c.args.event.now w) c.happen.new.self c.happen.result) c.in_ok-count_step.ensures.counted c.happen.ensures.does)
