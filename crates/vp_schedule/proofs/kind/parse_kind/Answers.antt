use Rattle.std.proofs.Common.{refl, arith}
use Rattle.vp_text.proofs.WordChoices.{among_start}
use Rattle.vp_schedule.specs.Kinds.{word}
use Rattle.vp_schedule.proofs.kind.parse_kind.Goals as goal

pub loop-kind-init : goal.loop-kind-init
loop-kind-init c = rw c.left.ensures (omega arith, refl, among_start word c.args.kinds.now c.args.cursor.now)
