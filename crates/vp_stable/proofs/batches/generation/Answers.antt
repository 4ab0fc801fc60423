use Rattle.vp_stable.proofs.Generations.{no_generation}
use Rattle.vp_stable.proofs.batches.generation.Goals as goal

pub returns-in-None : goal.returns-in-None
returns-in-None c = no_generation c.args.bytes.now (rw c.in-None.is at c.in_ok-batch.ensures)
