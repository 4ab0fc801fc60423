use Rattle.std.proofs.Common.{ℕ, List, [], take}
use Rattle.std.specs.List.{AllByRecursion}
use Rattle.vp_recording.specs.declared.recording.Turn.{Turn}
use Rattle.vp_merge.specs.Numbers.{HasFrame, HasTurn, IsIndex}
use Rattle.vp_merge.proofs.merging.add_frames.Given as goal

abbrev pub invariant-loop-turn : goal.invariant-loop-turn
invariant-loop-turn l = record {
  index : IsIndex l.fn.numbers [] → IsIndex l.numbers [];
  there : AllByRecursion (λ (turn : Turn). HasTurn l.numbers turn.frame) (take l.turn-index l.turns);
  kept : (bytes : List ℕ) → HasFrame l.fn.numbers bytes → HasFrame l.numbers bytes;
}
