use Rattle.std.proofs.Common.{take}
use Rattle.vp_participant.specs.Doubts.{AreNamed}
use Rattle.vp_participant.proofs.doubts.names_of.Given as goal

abbrev pub invariant-loop-doubt : goal.invariant-loop-doubt
invariant-loop-doubt l = AreNamed l.names (take l.doubt-index l.doubts)
