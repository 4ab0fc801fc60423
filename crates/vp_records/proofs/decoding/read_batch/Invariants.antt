use Rattle.std.proofs.Common.{length}
use Rattle.vp_records.specs.Reading.{batch_at}
use Rattle.vp_records.proofs.Batches.{BatchTurn}
use Rattle.vp_records.proofs.decoding.read_batch.Given as goal

abbrev pub invariant-loop-alloc : goal.invariant-loop-alloc
invariant-loop-alloc l = BatchTurn l.records.items l.cursor (batch_at l.fn.cursor)

abbrev pub decreases-loop-alloc : goal.decreases-loop-alloc
decreases-loop-alloc l = length l.cursor
