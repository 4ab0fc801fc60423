use Rattle.std.proofs.Common.{refl}
use Rattle.std.specs.Fmt.{digits}
use Rattle.vp_proc.specs.Scripts.{script_from, eval_after}
use Rattle.vp_proc.proofs.worked.differences_end_at_zero.Goals as goal

pub returns : goal.returns
unfolding script_from eval_after digits
returns c = refl
