use Rattle.std.proofs.Common.{◌≡◌, ◌++◌, take}
use Rattle.vp_model.specs.Step.{locks_in_doubt}
use Rattle.vp_participant.proofs.doubts.lock_writes.Given as goal

abbrev pub invariant-loop-write : goal.invariant-loop-write
invariant-loop-write l = l.locks ≡ l.initial.locks ++ locks_in_doubt (record l.doubt { writes = take l.write-index l.write-items })
