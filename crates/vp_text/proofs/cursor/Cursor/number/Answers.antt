use Rattle.std.proofs.Common.{ap}
use Rattle.vp_text.specs.Reading.{number_at}
use Rattle.vp_text.proofs.cursor.Cursor.number.Goals as goal

pub loop-byte-init : goal.loop-byte-init
unfolding number_at
loop-byte-init c = ap (number_at c.args.least c.args.most) c.self.view_is
