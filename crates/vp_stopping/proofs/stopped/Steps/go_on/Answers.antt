use Rattle.std.proofs.Common.{◌∙◌, ◌<◌, List, subst, sym}
use Rattle.vp_model.specs.Types.{Event}
use Rattle.vp_node.proofs.Faults.{gave_err}
use Rattle.vp_world.specs.Known.{Known}
use Rattle.vp_stopping.specs.AfterStop.{IsAfterStop}
use Rattle.vp_stopping.proofs.Going.{going_ends, going_first, going_on, going_over, left_falls, most_left, none_left}
use Rattle.vp_stopping.proofs.Waiting.{after_on, after_ready}
use Rattle.vp_stopping.proofs.stopped.Steps.go_on.Goals as goal

pub loop-steps-init : goal.loop-steps-init
loop-steps-init c = record { going = going_first c.args.self c.args.left; waits = c.requires }

pub step_by-requires : goal.step_by-requires
step_by-requires c = after_ready c.loop-steps.steps.world.catalogue c.loop-steps.steps.world.world c.loop-steps.following c.loop-steps.invariant.waits c.in-Some.event

pub returns-in_err-steps-clause-end : goal.returns-in_err-steps-clause-end
returns-in_err-steps-clause-end c =
    going_ends _ _ _ c.loop-steps.steps c.loop-steps.left c.loop-steps.invariant.going c.in-Some.event (sym c.in_ok-event.ensures.next ∙ c.in-Some.is)
    c.in_err-steps.field-0.0 c.from_residual-in_err-steps.result c.in_err-steps.ensures.end
    (gave_err c.from_residual-in_err-steps.result c.in_err-steps.field-0.0 c.from_residual-in_err-steps.ensures.1)

pub loop-steps-smaller : goal.loop-steps-smaller
loop-steps-smaller c =
    subst (λ (left : List Event). most_left left < most_left c.loop-steps.left) (sym c.in_ok-event.ensures.left)
    (left_falls c.loop-steps.steps.world.world c.loop-steps.left c.in-Some.event (sym c.in_ok-event.ensures.next ∙ c.in-Some.is))

pub loop-steps-preserved : goal.loop-steps-preserved
loop-steps-preserved c = record {
  going =
      going_on _ _ _ c.loop-steps.steps c.loop-steps.left c.loop-steps.invariant.going c.in-Some.event (sym c.in_ok-event.ensures.next ∙ c.in-Some.is)
      c.in_ok-steps.steps c.next.new.self c.in_ok-steps.ensures.done c.in_ok-steps.ensures.end c.in_ok-event.ensures.left;
  waits =
      subst (λ (k : Known). IsAfterStop k.catalogue k.world c.step_by.new.stepper) (sym c.in_ok-steps.ensures.done.0)
      (after_on c.loop-steps.steps.world.catalogue c.loop-steps.steps.world.world c.loop-steps.following c.step_by.new.stepper c.in-Some.event c.in_ok-steps.ensures.did c.loop-steps.invariant.waits);
}

pub returns-clause-done : goal.returns-clause-done
returns-clause-done c = (going_over _ _ _ c.loop-steps.steps c.loop-steps.left c.loop-steps.invariant.going (none_left _ _ c.in_ok-event.ensures.next c.in_default.not-Some)).0

pub returns-clause-end : goal.returns-clause-end
returns-clause-end c = (going_over _ _ _ c.loop-steps.steps c.loop-steps.left c.loop-steps.invariant.going (none_left _ _ c.in_ok-event.ensures.next c.in_default.not-Some)).1
