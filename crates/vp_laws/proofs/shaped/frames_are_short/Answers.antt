use Rattle.vp_laws.proofs.Shapes.Frames.{frames_short}
use Rattle.vp_laws.proofs.shaped.frames_are_short.Goals as goal

pub returns : goal.returns
returns c = frames_short
