use Rattle.std.proofs.Common.{arith}
use Rattle.std.proofs.lemmas.Grind.{common_steps}
use Rattle.vp_coordinator.proofs.endings.reply_with.Goals as goal

pub returns : goal.returns
returns c = grind (arith, common_steps)
