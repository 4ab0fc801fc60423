use Rattle.std.proofs.Common.{[], take}
use Rattle.std.specs.List.{AllByRecursion}
use Rattle.vp_recording.specs.declared.recording.Recording.{Recording}
use Rattle.vp_recording.specs.declared.recording.Turn.{Turn}
use Rattle.vp_merge.specs.Numbers.{HasTurn, IsIndex}
use Rattle.vp_merge.proofs.merging.frames_of.Given as goal

abbrev pub invariant-loop-recording : goal.invariant-loop-recording
invariant-loop-recording l = record {
  index : IsIndex l.numbers [];
  there : AllByRecursion (λ (r : Recording). AllByRecursion (λ (turn : Turn). HasTurn l.numbers turn.frame) r.turns) (take l.recording-index l.recordings);
}
