use Rattle.std.proofs.Common.{◌≡◌, ◌++◌, take, flat_map}
use Rattle.vp_model.specs.Step.{locks_in_doubt}
use Rattle.vp_participant.proofs.doubts.lock_doubts.Given as goal

abbrev pub invariant-loop-doubt : goal.invariant-loop-doubt
invariant-loop-doubt l = l.locks ≡ l.initial.locks ++ flat_map locks_in_doubt (take l.doubt-index l.doubts)
