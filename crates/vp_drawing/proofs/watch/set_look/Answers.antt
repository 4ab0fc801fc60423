use Rattle.vp_drawing.proofs.Looking.{looked_here}
use Rattle.vp_drawing.proofs.watch.set_look.Goals as goal

pub returns-in-Some : goal.returns-in-Some
returns-in-Some c = looked_here c.args.site c.in-Some.place c.args.look c.args.looks.now c.place_of.result c.index-looks-place.result c.place_of.ensures.place c.in-Some.is
