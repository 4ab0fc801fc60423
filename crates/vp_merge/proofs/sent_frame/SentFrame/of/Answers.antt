use Rattle.std.proofs.Common.{rules, ◌≡◌, ◌∙◌, sym, ap, subst, false, ℕ, List, ◌++◌, Result, Ok, Err}
use Rattle.vp_text.specs.Meaning.{Answers}
use Rattle.vp_wire.specs.declared.fault.WireFault.{WireFault}
use Rattle.vp_wire.specs.declared.frame.Frame.{Frame}
use Rattle.vp_wire.specs.Decoded.{IsReadAs, read_frame}
use Rattle.vp_wire.specs.Faults.{wire_place}
use Rattle.vp_wire.specs.Grammar.{IsFrame, IsSpelling, frame_bytes}
use Rattle.vp_merge.specs.SentFrames.{is_read_only}
use Rattle.vp_merge.proofs.SentAgain.{later, no_frame, sent_form, stays}
use Rattle.vp_merge.proofs.sent_frame.SentFrame.of.Goals as goal

pub returns-then-not-is_read_only : goal.returns-then-not-is_read_only
returns-then-not-is_read_only c =
    let no : is_read_only c.args.recorded.now ≡ false = search rules in
    sym (stays c.args.recorded.now no)

pub encode-requires : goal.encode-requires
encode-requires c =
    let spelled : IsSpelling c.in-Ok.frame c.args.recorded.now = subst (λ (r : Result Frame WireFault). Answers IsSpelling (λ (f : Frame). f) wire_place c.args.recorded.now r) c.in-Ok.is c.decode.ensures in
    subst IsFrame (sym c.of.ensures) (sent_form c.in-Ok.frame spelled.allowed)

pub returns-in_ok-encode-in-Ok : goal.returns-in_ok-encode-in-Ok
returns-in_ok-encode-in-Ok c =
    let read : read_frame c.args.recorded.now ≡ Ok c.in-Ok.frame = subst (IsReadAs (read_frame c.args.recorded.now)) c.in-Ok.is (c.frames_are_read.ensures.answers c.args.recorded.now c.decode.result c.decode.ensures) in
    c.in_ok-encode-in-Ok.ensures.whole ∙ ap (λ (before : List ℕ). before ++ frame_bytes c.of.result) c.new-bytes.ensures.items ∙ ap frame_bytes c.of.ensures ∙ sym (later c.args.recorded.now c.in-Ok.frame read)

pub returns-in-Err-BadFrame : goal.returns-in-Err-BadFrame
returns-in-Err-BadFrame c =
    let is = c.in-Err-BadFrame.is ∙ ap Err c.in-Err-BadFrame.field-0-is in
    let read : read_frame c.args.recorded.now ≡ Err c.in-Err-BadFrame.field-0-0 = subst (IsReadAs (read_frame c.args.recorded.now)) is (c.frames_are_read.ensures.answers c.args.recorded.now c.decode.result c.decode.ensures) in
    sym (no_frame c.args.recorded.now c.in-Err-BadFrame.field-0-0 read)
