use Rattle.vp_stable.proofs.Due.{due_is_of_the_batches, none_is_due_after_one}
use Rattle.vp_stable.proofs.laws.a_checkpoint_is_due_of_batches.Goals as goal

pub returns-clause-batches : goal.returns-clause-batches
returns-clause-batches c = due_is_of_the_batches

pub returns-clause-following : goal.returns-clause-following
returns-clause-following c = none_is_due_after_one
