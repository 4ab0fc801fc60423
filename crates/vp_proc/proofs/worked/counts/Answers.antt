use Rattle.std.proofs.Common.{refl}
use Rattle.std.specs.Fmt.{digits}
use Rattle.vp_proc.specs.Scripts.{script_from, eval_after}
use Rattle.vp_proc.proofs.worked.counts.Goals as goal

pub returns-clause-counted : goal.returns-clause-counted
unfolding script_from eval_after digits
returns-clause-counted c = refl

pub returns-clause-word : goal.returns-clause-word
unfolding script_from eval_after digits
returns-clause-word c = refl

pub returns-clause-absent : goal.returns-clause-absent
unfolding script_from eval_after digits
returns-clause-absent c = refl

pub returns-clause-last : goal.returns-clause-last
unfolding script_from eval_after digits
returns-clause-last c = refl
