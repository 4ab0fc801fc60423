use Rattle.std.proofs.Common.{false, sym, subst}
use Rattle.vp_model.specs.Site.{Stepped}
use Rattle.vp_laws.specs.Shapes.{AreShaped}
use Rattle.vp_runs.specs.Turns.{step_turn}
use Rattle.vp_node.specs.Taking.{Does}
use Rattle.vp_node.proofs.Taken.{are_frames, does}
use Rattle.vp_node.proofs.taking.step.Goals as goal

pub returns-clause-does : goal.returns-clause-does
returns-clause-does c =
    subst (λ (o : Stepped). Does c.args.catalog.now c.args.site.id (step_turn c.args.catalog.now c.args.site.id o) c.in_ok-site.site (record { effects = c.in_ok-site.effects; stop = false })) c.in_ok-site.ensures
    (does c.args.catalog.now c.args.site.id (record { site = c.in_ok-site.site; effects = c.in_ok-site.effects }))

pub returns-clause-frames : goal.returns-clause-frames
returns-clause-frames c =
    let shaped = (c.steps_are_shaped.ensures c.args.catalog.now c.args.site c.args.input c.requires.catalogue c.requires.site c.requires.input).1 in
    are_frames c.args.catalog.now c.args.site.id c.given_are_frames.ensures c.requires.catalogue c.requires.site.listed c.in_ok-site.effects
    (subst (λ (o : Stepped). AreShaped c.args.site.id o.effects) (sym c.in_ok-site.ensures) shaped)
