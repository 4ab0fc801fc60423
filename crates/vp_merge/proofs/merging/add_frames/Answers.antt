use Rattle.std.proofs.Common.{◌≡◌, ◌∙◌, ap, sym, subst, ◌+◌, List, [], ◌∷◌, ◌++◌, ◌<◌, length, take, ℕ, Some, None, arith}
use Rattle.std.proofs.lemmas.List.{take_more}
use Rattle.std.specs.Prelude.{if◌then◌else◌}
use Rattle.std.specs.Str.{bytes_eq}
use Rattle.std.specs.List.{AllByRecursion}
use Rattle.vp_text.proofs.Items.{all_each, all_push}
use Rattle.vp_recording.specs.declared.recording.Turn.{Turn}
use Rattle.vp_merge.specs.Numbers.{as_sent, entry_of, HasFrame, HasTurn, IsIndex}
use Rattle.vp_merge.specs.declared.numbers.FrameNumbers.{FrameNumbers}
use Rattle.vp_merge.proofs.Index.{added_index}
use Rattle.vp_merge.proofs.Starting.{added_kept, added_there}
use Rattle.vp_merge.proofs.merging.add_frames.Goals as goal
use Rattle.vp_merge.proofs.merging.add_frames.Goals.{then-as_slice-ge-SHORTEST_FRAME+in_ok-add, else-as_slice-ge-SHORTEST_FRAME}

pub loop-turn-preserved : goal.loop-turn-preserved
loop-turn-preserved c =
    let h = c.loop-turn.invariant in
    let old = c.loop-turn.numbers in
    let turn = c.turn-item.result in
    let more : take (c.loop-turn.turn-index + 1) c.args.turns.now ≡ take c.loop-turn.turn-index c.args.turns.now ++ turn ∷ [] = take_more c.args.turns.now c.loop-turn.turn-index turn c.loop-turn-test.true ∙ ap (λ (t : Turn). take c.loop-turn.turn-index c.args.turns.now ++ t ∷ []) (sym c.turn-item.is) in
    let frame = as_sent turn.frame in
    let now = c.if-as_slice-ge-SHORTEST_FRAME.numbers in
    let seen : c.as_slice-in-loop-turn.result.now ≡ frame = c.as_slice-in-loop-turn.ensures ∙ c.in_ok-frame.ensures ∙ ap as_sent c.as_slice.ensures in
    let step : (IsIndex old [] → IsIndex now []) × ((bytes : List ℕ) → HasFrame old bytes → HasFrame now bytes) × HasTurn now turn.frame =
    elim c.if-as_slice-ge-SHORTEST_FRAME.branch [
      | then-as_slice-ge-SHORTEST_FRAME+in_ok-add w ↦
          let new = w.add.new.self in
          let is : w.as_slice-then-as_slice-ge-SHORTEST_FRAME.result.now ≡ frame = w.as_slice-then-as_slice-ge-SHORTEST_FRAME.ensures ∙ c.in_ok-frame.ensures ∙ ap as_sent c.as_slice.ensures in
          let added : (bytes : List ℕ) → entry_of new bytes ≡ (if bytes_eq frame bytes then Some None else entry_of old bytes) = subst (λ (f : List ℕ). (bytes : List ℕ) → entry_of new bytes ≡ (if bytes_eq f bytes then Some None else entry_of old bytes)) is w.in_ok-add.ensures in
          subst (λ (n : FrameNumbers). (IsIndex old [] → IsIndex n []) × ((bytes : List ℕ) → HasFrame old bytes → HasFrame n bytes) × HasTurn n turn.frame) (sym w.numbers-is)
          (added_index old new frame added, added_kept old new frame added, λ long. added_there old new frame added)
      | else-as_slice-ge-SHORTEST_FRAME w ↦
          let short : length frame < 5 = subst (λ (f : List ℕ). length f < 5) seen w.if-as_slice-ge-SHORTEST_FRAME.false in
          subst (λ (n : FrameNumbers). (IsIndex old [] → IsIndex n []) × ((bytes : List ℕ) → HasFrame old bytes → HasFrame n bytes) × HasTurn n turn.frame) (sym w.numbers-is)
          ((λ index. index), (λ bytes there. there), λ long. absurd (omega (arith, short, long)))
    ] in
    record {
      index = λ index. step.0 (h.index index);
      there = subst (AllByRecursion (λ (turn : Turn). HasTurn now turn.frame)) (sym more) (all_push (λ (turn : Turn). HasTurn now turn.frame) (take c.loop-turn.turn-index c.args.turns.now) turn (all_each (λ (turn : Turn). HasTurn old turn.frame) (λ (turn : Turn). HasTurn now turn.frame) (λ t there long. step.1 (as_sent t.frame) (there long)) (take c.loop-turn.turn-index c.args.turns.now) h.there) step.2);
      kept = λ bytes there. step.1 bytes (h.kept bytes there);
    }
