use Rattle.std.proofs.Common.{refl}
use Rattle.std.specs.Fmt.{digits}
use Rattle.vp_proc.specs.Scripts.{script_from, eval_after}
use Rattle.vp_proc.proofs.worked.branches_are_taken.Goals as goal

pub returns-clause-passed : goal.returns-clause-passed
unfolding script_from eval_after digits
returns-clause-passed c = refl

pub returns-clause-done : goal.returns-clause-done
unfolding script_from eval_after digits
returns-clause-done c = refl

pub returns-clause-first : goal.returns-clause-first
unfolding script_from eval_after digits
returns-clause-first c = refl

pub returns-clause-second : goal.returns-clause-second
unfolding script_from eval_after digits
returns-clause-second c = refl
