use Rattle.vp_cluster.proofs.Changing.{answered_so}
use Rattle.vp_node.proofs.Faults.{gave_err}
use Rattle.vp_stopping.proofs.Crashing.{kept_done, kept_ends, kept_ends_first, lost_done, lost_ends}
use Rattle.vp_stopping.proofs.stopped.Steps.crash.Goals as goal

pub returns-then-not-kept-clause-done : goal.returns-then-not-kept-clause-done
returns-then-not-kept-clause-done c = answered_so c.step.result _ _ (λ after h. lost_done c.args.self c.args.site c.args.event c.requires.taken c.args.kept after (cc) h) c.step.ensures.done

pub returns-then-not-kept-clause-end : goal.returns-then-not-kept-clause-end
returns-then-not-kept-clause-end c = lost_ends c.args.self c.args.site c.args.event c.requires.taken c.args.kept c.step.result (cc) c.step.ensures.end

pub returns-in_err-steps-clause-end : goal.returns-in_err-steps-clause-end
returns-in_err-steps-clause-end c =
    kept_ends_first c.args.self c.args.site c.args.event c.requires.taken c.args.kept c.in_err-steps.field-0.0 c.from_residual.result (cc) c.in_err-steps.ensures.end
    (gave_err c.from_residual.result c.in_err-steps.field-0.0 c.from_residual.ensures.1)

pub returns-clause-done : goal.returns-clause-done
returns-clause-done c =
    answered_so c.step-3.result _ _
    (λ after h. kept_done c.args.self c.args.site c.args.event c.requires.taken c.args.kept (cc) c.in_ok-steps.steps c.in_ok-steps.ensures.done c.in_ok-steps.ensures.end after h) c.step-3.ensures.done

pub returns-clause-end : goal.returns-clause-end
returns-clause-end c =
    kept_ends c.args.self c.args.site c.args.event c.requires.taken c.args.kept (cc) c.in_ok-steps.steps c.in_ok-steps.ensures.done c.in_ok-steps.ensures.end c.step-3.result c.step-3.ensures.end
