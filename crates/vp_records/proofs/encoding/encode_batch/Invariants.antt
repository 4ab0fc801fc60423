use Rattle.std.proofs.Common.{◌≡◌, ◌++◌, take}
use Rattle.vp_records.specs.Batches.{batch_bytes}
use Rattle.vp_records.proofs.encoding.encode_batch.Given as goal

abbrev pub invariant-loop-entry : goal.invariant-loop-entry
invariant-loop-entry l = l.out.items ≡ l.fn.out.items ++ batch_bytes (take l.entry-index l.entry-items)
