-- Reading frames: first the head, whose version and kind decide how the body is read.
use Rattle.std.specs.Prelude.{ℕ, List, Result, Ok}
use Rattle.vp_text.specs.Reading.{◌>>=◌}
use Rattle.vp_wire.specs.declared.frame.Frame.{Frame}
use Rattle.vp_wire.specs.Grammar.{frame_in}
use Rattle.vp_wire.specs.declared.frame.Body.{Body}
use Rattle.vp_wire.specs.declared.frame.Body.TheVariants as body
use Rattle.vp_wire.specs.declared.kind.FrameKind.{FrameKind}
use Rattle.vp_wire.specs.declared.kind.FrameKind.TheVariants as kinds
use Rattle.vp_contents.specs.Versions.{version_of}
use Rattle.vp_contents.specs.declared.version.Version.{Version}
use Rattle.vp_bytes.specs.Codes.{code_at}
use Rattle.vp_wire.specs.Kinds.{frame_kind, call_kind, answer_kind}
use Rattle.vp_bytes.specs.Reading.{byte_at, within}
use Rattle.vp_wire.specs.Messages.{message_at}
use Rattle.vp_wire.specs.Calls.{call_at}
use Rattle.vp_wire.specs.Answers.{answer_at}

-- The sender of a frame of the kind: messages and replies come from sites, and the rest from number 0.
abbrev pub least_from : FrameKind → ℕ
least_from (kinds.Message kind) = 1
least_from kinds.Call = 0
least_from kinds.Reply = 1
least_from kinds.Tick = 0
least_from kinds.ProbeNow = 0
least_from kinds.Stop = 0

abbrev pub most_from : FrameKind → ℕ
most_from (kinds.Message kind) = 16
most_from kinds.Call = 0
most_from kinds.Reply = 16
most_from kinds.Tick = 0
most_from kinds.ProbeNow = 0
most_from kinds.Stop = 0

-- The receiver: replies go to number 0, and the rest to sites.
abbrev pub least_to : FrameKind → ℕ
least_to (kinds.Message kind) = 1
least_to kinds.Call = 1
least_to kinds.Reply = 0
least_to kinds.Tick = 1
least_to kinds.ProbeNow = 1
least_to kinds.Stop = 1

abbrev pub most_to : FrameKind → ℕ
most_to (kinds.Message kind) = 16
most_to kinds.Call = 16
most_to kinds.Reply = 0
most_to kinds.Tick = 16
most_to kinds.ProbeNow = 16
most_to kinds.Stop = 16

-- a call, by its code
unfoldable pub coded_call_at : Version → List ℕ → Result (Body × List ℕ) ℕ
coded_call_at version bytes = do
  kind ← code_at (call_kind version) bytes
  call ← call_at version kind.0 kind.1
  Ok (body.Call call.0, call.1)

-- an answer, by its code
unfoldable pub coded_answer_at : Version → List ℕ → Result (Body × List ℕ) ℕ
coded_answer_at version bytes = do
  kind ← code_at (answer_kind version) bytes
  answer ← answer_at version kind.0 kind.1
  Ok (body.Reply answer.0, answer.1)

unfoldable pub body_at : Version → FrameKind → List ℕ → Result (Body × List ℕ) ℕ
body_at version (kinds.Message kind) bytes = message_at version kind bytes >>= λ message. Ok (body.Message message.0, message.1)
body_at version kinds.Call bytes = coded_call_at version bytes
body_at version kinds.Reply bytes = coded_answer_at version bytes
body_at version kinds.Tick bytes = Ok (body.Tick, bytes)
body_at version kinds.ProbeNow bytes = Ok (body.ProbeNow, bytes)
body_at version kinds.Stop bytes = Ok (body.Stop, bytes)

unfoldable pub frame_at : List ℕ → Result (Frame × List ℕ) ℕ
frame_at bytes = do
  magic ← byte_at (within 86 86) bytes
  version ← byte_at (within 1 2) magic.1
  kind ← code_at frame_kind version.1
  from ← byte_at (within (least_from kind.0) (most_from kind.0)) kind.1
  to ← byte_at (within (least_to kind.0) (most_to kind.0)) from.1
  body ← body_at (version_of version.0) kind.0 to.1
  Ok (frame_in version.0 from.0 to.0 body.0, body.1)
