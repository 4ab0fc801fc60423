use Rattle.std.proofs.Common.{refl, arith}
use Rattle.vp_text.proofs.WordChoices.{among_start}
use Rattle.vp_procedure.specs.Keywords.{word}
use Rattle.vp_procedure.proofs.keyword.parse_keyword.Goals as goal

pub loop-keyword-init : goal.loop-keyword-init
loop-keyword-init c = rw c.left.ensures (omega arith, refl, among_start word c.args.keywords.now c.args.cursor.now)
