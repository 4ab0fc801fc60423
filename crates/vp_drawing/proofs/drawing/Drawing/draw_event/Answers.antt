use Rattle.vp_drawing.proofs.Flowing.{one_step_of, step_draws}
use Rattle.vp_drawing.proofs.drawing.Drawing.draw_event.Goals as goal

pub returns-in_default : goal.returns-in_default
returns-in_default c = λ run base so_far.
    rw (one_step_of c.args.world.catalogue c.args.number c.args.event.now run c.in_default.not-Flow)
    (step_draws c.args.world.catalogue c.args.number c.args.event.now run base c.args.world c.draw_step.result c.args.self.now c.draw_step.new.self so_far c.draw_step.ensures)
