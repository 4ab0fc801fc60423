use Rattle.std.proofs.Common.{◌∙◌, refl, sym}
use Rattle.vp_world.proofs.Started.{if_started_weaker}
use Rattle.vp_stopping.proofs.Waiting.{is_that, is_other}
use Rattle.vp_stopping.proofs.after_stop.AfterStopStepper.restart.Goals as goal

pub restart-requires : goal.restart-requires
restart-requires c = (c.requires.0, c.requires.1 (is_that c.args.self.now.stopped c.args.id (sym c.waits.ensures ∙ c.if-waits.true)))

pub returns-then-waits-clause-did : goal.returns-then-waits-clause-did
returns-then-waits-clause-did c =
    if_started_weaker c.restart.result _ _ (λ site done. ((λ is. (done, refl)), (λ other. absurd (other (is_that c.args.self.now.stopped c.args.id (sym c.waits.ensures ∙ c.if-waits.true)))))) c.restart.ensures.did

pub returns-then-waits-clause-started : goal.returns-then-waits-clause-started
returns-then-waits-clause-started c = λ may. c.restart.ensures.started (may (is_that c.args.self.now.stopped c.args.id (sym c.waits.ensures ∙ c.if-waits.true)))

pub returns-else-waits-clause-did : goal.returns-else-waits-clause-did
returns-else-waits-clause-did c =
    if_started_weaker c.restart-else-waits.result _ _ (λ site done. ((λ is. absurd (is_other c.args.self.now.stopped c.args.id (sym c.waits.ensures ∙ c.if-waits.false) is)), (λ other. refl))) c.restart-else-waits.ensures.did
