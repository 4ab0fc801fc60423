use Rattle.std.proofs.Common.{◌≡◌, ◌∙◌, ap, sym, subst, ◌+◌, List, [], ◌∷◌, ◌++◌, take}
use Rattle.std.proofs.lemmas.List.{take_more}
use Rattle.std.specs.List.{AllByRecursion}
use Rattle.vp_text.proofs.Items.{all_each, all_push}
use Rattle.vp_recording.specs.declared.recording.Recording.{Recording}
use Rattle.vp_recording.specs.declared.recording.Turn.{Turn}
use Rattle.vp_merge.specs.Numbers.{as_sent, HasTurn}
use Rattle.vp_merge.proofs.merging.frames_of.Goals as goal

pub loop-recording-preserved : goal.loop-recording-preserved
loop-recording-preserved c =
    let h = c.loop-recording.invariant in
    let old = c.loop-recording.numbers in
    let new = c.add_frames.new.numbers in
    let recording = c.recording-item.result in
    let before : List Recording = take c.loop-recording.recording-index c.args.recordings.now in
    let done = c.in_ok-add_frames.ensures in
    let more : take (c.loop-recording.recording-index + 1) c.args.recordings.now ≡ before ++ recording ∷ [] = take_more c.args.recordings.now c.loop-recording.recording-index recording c.loop-recording-test.true ∙ ap (λ (r : Recording). before ++ r ∷ []) (sym c.recording-item.is) in
    record {
      index = done.index h.index;
      there = subst (AllByRecursion (λ (r : Recording). AllByRecursion (λ (turn : Turn). HasTurn new turn.frame) r.turns)) (sym more)
          (all_push (λ (r : Recording). AllByRecursion (λ (turn : Turn). HasTurn new turn.frame) r.turns) before recording
          (all_each (λ (r : Recording). AllByRecursion (λ (turn : Turn). HasTurn old turn.frame) r.turns) (λ (r : Recording). AllByRecursion (λ (turn : Turn). HasTurn new turn.frame) r.turns)
          (λ r. all_each (λ (turn : Turn). HasTurn old turn.frame) (λ (turn : Turn). HasTurn new turn.frame) (λ turn there long. done.kept (as_sent turn.frame) (there long)) r.turns) before h.there)
          (subst (AllByRecursion (λ (turn : Turn). HasTurn new turn.frame)) c.as_slice.ensures done.there));
    }
