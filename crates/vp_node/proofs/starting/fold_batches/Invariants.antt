use Rattle.std.proofs.Common.{◌≡◌, take}
use Rattle.vp_runs.specs.Keeping.{durable_in}
use Rattle.vp_node.proofs.starting.fold_batches.Given as goal

abbrev pub invariant-loop-batch : goal.invariant-loop-batch
invariant-loop-batch l = l.durable ≡ durable_in l.fn.catalog l.fn.id (take l.batch-index l.batches)
