-- The kinds of messages, calls, answers and frames, and the byte of each in a frame.
use Rattle.std.specs.Prelude.{ℕ, List, [], ◌∷◌, ◌==◌, Option, Some, None}
use Rattle.std.specs.List.{find}
use Rattle.vp_base.specs.declared.message.Message.{Message}
use Rattle.vp_base.specs.declared.message.Message.TheVariants as message
use Rattle.vp_base.specs.declared.event.Call.{Call}
use Rattle.vp_base.specs.declared.event.Call.TheVariants as call
use Rattle.vp_base.specs.declared.answer.Answer.{Answer}
use Rattle.vp_base.specs.declared.answer.Answer.TheVariants as answer
use Rattle.vp_wire.specs.declared.frame.Body.{Body}
use Rattle.vp_wire.specs.declared.frame.Body.TheVariants as body
use Rattle.vp_wire.specs.declared.kind.MessageKind.{MessageKind}
use Rattle.vp_wire.specs.declared.kind.MessageKind.TheVariants as messages
use Rattle.vp_wire.specs.declared.kind.CallKind.{CallKind}
use Rattle.vp_wire.specs.declared.kind.CallKind.TheVariants as calls
use Rattle.vp_wire.specs.declared.kind.AnswerKind.{AnswerKind}
use Rattle.vp_wire.specs.declared.kind.AnswerKind.TheVariants as answers
use Rattle.vp_wire.specs.declared.kind.FrameKind.{FrameKind}
use Rattle.vp_wire.specs.declared.kind.FrameKind.TheVariants as frames
use Rattle.vp_contents.specs.declared.version.Version.{Version}
use Rattle.vp_contents.specs.declared.version.Version.TheVariants as versions

-- the first of these kinds that has this code
abbrev pub kind_of_code : {K : Type 0} → (K → ℕ) → List K → ℕ → Option K
kind_of_code code kinds c = find (λ kind. code kind == c) kinds

-- a kind of both versions, or one that only the second has
abbrev pub or_later : {K : Type 0} → Version → Option K → Option K → Option K
or_later version (Some kind) later = Some kind
or_later versions.First None later = None
or_later versions.Second None later = later

-- ---- messages

abbrev pub message_code : MessageKind → ℕ
message_code messages.Invite = 1
message_code messages.Accept = 2
message_code messages.Stale = 3
message_code messages.ViewCommit = 4
message_code messages.ReadRequest = 5
message_code messages.ReadAnswer = 6
message_code messages.WriteRequest = 7
message_code messages.WriteAnswer = 8
message_code messages.Refuse = 9
message_code messages.Prepare = 10
message_code messages.Vote = 11
message_code messages.Outcome = 12
message_code messages.Ack = 13
message_code messages.Inquire = 14
message_code messages.RefreshRequest = 15
message_code messages.RefreshAnswer = 16
message_code messages.Probe = 17

abbrev pub message_kinds : List MessageKind
message_kinds = messages.Invite ∷ messages.Accept ∷ messages.Stale ∷ messages.ViewCommit ∷ messages.ReadRequest ∷ messages.ReadAnswer ∷ messages.WriteRequest ∷ messages.WriteAnswer ∷ messages.Refuse ∷ messages.Prepare ∷ messages.Vote ∷ messages.Outcome ∷ messages.Ack ∷ messages.Inquire ∷ messages.RefreshRequest ∷ messages.RefreshAnswer ∷ messages.Probe ∷ []

abbrev pub message_kind : ℕ → Option MessageKind
message_kind c = kind_of_code message_code message_kinds c

abbrev pub kind_of_message : Message → MessageKind
kind_of_message (message.Invite id) = messages.Invite
kind_of_message (message.Accept id) = messages.Accept
kind_of_message (message.Stale id promise) = messages.Stale
kind_of_message (message.ViewCommit id members) = messages.ViewCommit
kind_of_message (message.ReadRequest txn view number rec) = messages.ReadRequest
kind_of_message (message.ReadAnswer txn number value) = messages.ReadAnswer
kind_of_message (message.WriteRequest txn view number rec) = messages.WriteRequest
kind_of_message (message.WriteAnswer txn number) = messages.WriteAnswer
kind_of_message (message.Refuse txn number why) = messages.Refuse
kind_of_message (message.Prepare txn view number reads writes) = messages.Prepare
kind_of_message (message.Vote txn) = messages.Vote
kind_of_message (message.Outcome txn commit) = messages.Outcome
kind_of_message (message.Ack txn) = messages.Ack
kind_of_message (message.Inquire txn) = messages.Inquire
kind_of_message (message.RefreshRequest view rec) = messages.RefreshRequest
kind_of_message (message.RefreshAnswer view rec stored) = messages.RefreshAnswer
kind_of_message (message.Probe view) = messages.Probe

-- ---- calls

abbrev pub call_code : CallKind → ℕ
call_code calls.Begin = 1
call_code calls.Regroup = 2
call_code calls.Read = 3
call_code calls.Write = 4
call_code calls.Commit = 5
call_code calls.Abort = 6
call_code calls.Delete = 7
call_code calls.Weigh = 8

abbrev pub call_kinds : List CallKind
call_kinds = calls.Begin ∷ calls.Regroup ∷ calls.Read ∷ calls.Write ∷ calls.Commit ∷ calls.Abort ∷ []

-- those of the second version alone
abbrev pub later_calls : List CallKind
later_calls = calls.Delete ∷ calls.Weigh ∷ []

abbrev pub call_kind : Version → ℕ → Option CallKind
call_kind version c = or_later version (kind_of_code call_code call_kinds c) (kind_of_code call_code later_calls c)

abbrev pub kind_of_call : Call → CallKind
kind_of_call call.Begin = calls.Begin
kind_of_call call.Regroup = calls.Regroup
kind_of_call (call.Read txn number name) = calls.Read
kind_of_call (call.Write txn number name value) = calls.Write
kind_of_call (call.Commit txn number) = calls.Commit
kind_of_call (call.Abort txn number) = calls.Abort
kind_of_call (call.Delete txn number name) = calls.Delete
kind_of_call (call.Weigh txn number name table) = calls.Weigh

-- ---- answers

abbrev pub answer_code : AnswerKind → ℕ
answer_code answers.Begun = 1
answer_code answers.Value = 2
answer_code answers.Written = 3
answer_code answers.Committed = 4
answer_code answers.Aborted = 5
answer_code answers.Inviting = 6
answer_code answers.NoView = 7
answer_code answers.Unknown = 8
answer_code answers.Skipped = 9
answer_code answers.Busy = 10
answer_code answers.NoRecord = 11
answer_code answers.TooManyOps = 12
answer_code answers.Inaccessible = 13
answer_code answers.LockHeld = 14
answer_code answers.ViewChanged = 15
answer_code answers.TimedOut = 16
answer_code answers.Spent = 17
answer_code answers.TooManyLive = 18
answer_code answers.Absent = 19
answer_code answers.Deleted = 20
answer_code answers.Weighed = 21
answer_code answers.BadTable = 22

abbrev pub answer_kinds : List AnswerKind
answer_kinds = answers.Begun ∷ answers.Value ∷ answers.Written ∷ answers.Committed ∷ answers.Aborted ∷ answers.Inviting ∷ answers.NoView ∷ answers.Unknown ∷ answers.Skipped ∷ answers.Busy ∷ answers.NoRecord ∷ answers.TooManyOps ∷ answers.Inaccessible ∷ answers.LockHeld ∷ answers.ViewChanged ∷ answers.TimedOut ∷ answers.Spent ∷ answers.TooManyLive ∷ []

-- those of the second version alone
abbrev pub later_answers : List AnswerKind
later_answers = answers.Absent ∷ answers.Deleted ∷ answers.Weighed ∷ answers.BadTable ∷ []

abbrev pub answer_kind : Version → ℕ → Option AnswerKind
answer_kind version c = or_later version (kind_of_code answer_code answer_kinds c) (kind_of_code answer_code later_answers c)

abbrev pub kind_of_answer : Answer → AnswerKind
kind_of_answer (answer.Begun txn view) = answers.Begun
kind_of_answer (answer.Value txn number value) = answers.Value
kind_of_answer (answer.Written txn number) = answers.Written
kind_of_answer (answer.Committed txn number) = answers.Committed
kind_of_answer (answer.Aborted txn number) = answers.Aborted
kind_of_answer (answer.Inviting view) = answers.Inviting
kind_of_answer (answer.NoView promise) = answers.NoView
kind_of_answer (answer.Unknown txn) = answers.Unknown
kind_of_answer (answer.Skipped txn expected) = answers.Skipped
kind_of_answer (answer.Busy txn number) = answers.Busy
kind_of_answer (answer.NoRecord txn number) = answers.NoRecord
kind_of_answer (answer.TooManyOps txn number) = answers.TooManyOps
kind_of_answer (answer.Inaccessible txn number name inside total) = answers.Inaccessible
kind_of_answer (answer.LockHeld txn number name at owner) = answers.LockHeld
kind_of_answer (answer.ViewChanged txn number at held now) = answers.ViewChanged
kind_of_answer (answer.TimedOut txn number at) = answers.TimedOut
kind_of_answer (answer.Spent number) = answers.Spent
kind_of_answer answer.TooManyLive = answers.TooManyLive
kind_of_answer (answer.Absent txn number) = answers.Absent
kind_of_answer (answer.Deleted txn number) = answers.Deleted
kind_of_answer (answer.Weighed txn number) = answers.Weighed
kind_of_answer (answer.BadTable txn number) = answers.BadTable

-- ---- frames: messages by their codes, and the other kinds of frames

abbrev pub frame_code : FrameKind → ℕ
frame_code (frames.Message kind) = message_code kind
frame_code frames.Call = 32
frame_code frames.Reply = 33
frame_code frames.Tick = 34
frame_code frames.ProbeNow = 35
frame_code frames.Stop = 36

abbrev pub other_kinds : List FrameKind
other_kinds = frames.Call ∷ frames.Reply ∷ frames.Tick ∷ frames.ProbeNow ∷ frames.Stop ∷ []

-- the message of this kind, or another kind of frame
abbrev pub or_other : Option MessageKind → Option FrameKind → Option FrameKind
or_other (Some kind) other = Some (frames.Message kind)
or_other None other = other

abbrev pub frame_kind : ℕ → Option FrameKind
frame_kind c = or_other (message_kind c) (kind_of_code frame_code other_kinds c)

abbrev pub kind_of_body : Body → FrameKind
kind_of_body (body.Message message) = frames.Message (kind_of_message message)
kind_of_body (body.Call call) = frames.Call
kind_of_body (body.Reply answer) = frames.Reply
kind_of_body body.Tick = frames.Tick
kind_of_body body.ProbeNow = frames.ProbeNow
kind_of_body body.Stop = frames.Stop
