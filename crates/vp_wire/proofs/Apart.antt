-- No frame's encoding goes on to a longer one.
use Rattle.std.proofs.Common.{length, ap}
use Rattle.vp_text.proofs.Exact.{one_value, Made}
use Rattle.vp_wire.specs.declared.kind.MessageKind.{MessageKind}
use Rattle.vp_wire.specs.declared.kind.MessageKind.TheVariants as messages
use Rattle.vp_wire.specs.declared.kind.CallKind.{CallKind}
use Rattle.vp_wire.specs.declared.kind.CallKind.TheVariants as calls
use Rattle.vp_wire.specs.declared.kind.AnswerKind.{AnswerKind}
use Rattle.vp_wire.specs.declared.kind.AnswerKind.TheVariants as answers
use Rattle.vp_wire.specs.declared.kind.FrameKind.{FrameKind}
use Rattle.vp_wire.specs.declared.kind.FrameKind.TheVariants as kinds
use Rattle.vp_wire.specs.declared.frame.Body.TheVariants as body
use Rattle.vp_wire.specs.Grammar.{IsSpelling}
use Rattle.vp_wire.specs.Kinds.{call_code, call_kind, answer_code, answer_kind, frame_code, frame_kind}
use Rattle.vp_bytes.proofs.Free.{IsFree, even_free, then_free, made_free, free_as, byte_free, byte_one}
use Rattle.vp_bytes.proofs.Pairs.{pair_free}
use Rattle.vp_bytes.proofs.Codes.{Nothing, code_free, code_one}
use Rattle.vp_contents.specs.Versions.{version_of}
use Rattle.vp_contents.specs.declared.version.Version.{Version}
use Rattle.vp_contents.proofs.ValuesExact.{value_free}
use Rattle.vp_contents.proofs.ContentsExact.{content_free}
use Rattle.vp_contents.proofs.TablesExact.{table_free}
use Rattle.vp_contents.proofs.ChangesExact.{writes_free}
use Rattle.vp_contents.proofs.CopiesExact.{stored_free}
use Rattle.vp_bytes.proofs.Identifiers.{view_exact, txn_exact, txn_free, numbered_exact}
use Rattle.vp_bytes.proofs.Marked.{maybe_view_free, owner_free}
use Rattle.vp_bytes.proofs.Singles.{view_free, numbered_free, request_exact, request_free, site_exact, site_free, rec_exact, rec_free, number4_exact, number4_free, number8_free, outcome_free}
use Rattle.vp_wire.proofs.Obstacles.{obstacle_free}
use Rattle.vp_bytes.proofs.Items.{name_exact, name_free, sites_free, recs_exact, recs_free}
use Rattle.vp_wire.proofs.EachMessage.{MessageOf}
use Rattle.vp_wire.proofs.EachCall.{CallOf}
use Rattle.vp_wire.proofs.EachAnswer.{AnswerOf}
use Rattle.vp_wire.proofs.Frames.{BodyOf, frame_from}

nothing_free : {A : Type 0} (none : A) → IsFree (Nothing none)
nothing_free none = even_free {L = Nothing none} 0 (λ a t h. ap length h.0)

message_free : (version : Version) (kind : MessageKind) → IsFree (MessageOf version kind)
message_free version messages.Invite = made_free view_free
message_free version messages.Accept = made_free view_free
message_free version messages.Stale = made_free (pair_free (one_value view_exact) view_free view_free)
message_free version messages.ViewCommit = made_free (pair_free (one_value view_exact) view_free (sites_free 1))
message_free version messages.ReadRequest = made_free (pair_free (one_value request_exact) request_free rec_free)
message_free version messages.ReadAnswer = made_free (pair_free (one_value numbered_exact) numbered_free (content_free version))
message_free version messages.WriteRequest = made_free (pair_free (one_value request_exact) request_free rec_free)
message_free version messages.WriteAnswer = made_free numbered_free
message_free version messages.Refuse = made_free (pair_free (one_value numbered_exact) numbered_free (obstacle_free version))
message_free version messages.Prepare = made_free (pair_free (one_value request_exact) request_free (pair_free (one_value recs_exact) recs_free (writes_free version)))
message_free version messages.Vote = made_free txn_free
message_free version messages.Outcome = made_free (pair_free (one_value txn_exact) txn_free outcome_free)
message_free version messages.Ack = made_free txn_free
message_free version messages.Inquire = made_free txn_free
message_free version messages.RefreshRequest = made_free (pair_free (one_value view_exact) view_free rec_free)
message_free version messages.RefreshAnswer = made_free (pair_free (one_value view_exact) view_free (pair_free (one_value rec_exact) rec_free (stored_free version)))
message_free version messages.Probe = made_free view_free

call_free : (version : Version) (kind : CallKind) → IsFree (CallOf version kind)
call_free version calls.Begin = nothing_free _
call_free version calls.Regroup = nothing_free _
call_free version calls.Read = made_free (pair_free (one_value numbered_exact) numbered_free name_free)
call_free version calls.Write = made_free (pair_free (one_value numbered_exact) numbered_free (pair_free (one_value name_exact) name_free (value_free version)))
call_free version calls.Commit = made_free numbered_free
call_free version calls.Abort = made_free numbered_free
call_free version calls.Delete = made_free (pair_free (one_value numbered_exact) numbered_free name_free)
call_free version calls.Weigh = made_free (pair_free (one_value numbered_exact) numbered_free (pair_free (one_value name_exact) name_free table_free))

answer_free : (version : Version) (kind : AnswerKind) → IsFree (AnswerOf version kind)
answer_free version answers.Begun = made_free (pair_free (one_value txn_exact) txn_free view_free)
answer_free version answers.Value = made_free (pair_free (one_value numbered_exact) numbered_free (value_free version))
answer_free version answers.Written = made_free numbered_free
answer_free version answers.Committed = made_free numbered_free
answer_free version answers.Aborted = made_free numbered_free
answer_free version answers.Inviting = made_free view_free
answer_free version answers.NoView = made_free view_free
answer_free version answers.Unknown = made_free txn_free
answer_free version answers.Skipped = made_free numbered_free
answer_free version answers.Busy = made_free numbered_free
answer_free version answers.NoRecord = made_free numbered_free
answer_free version answers.TooManyOps = made_free numbered_free
answer_free version answers.Inaccessible = made_free (pair_free (one_value numbered_exact) numbered_free (pair_free (one_value name_exact) name_free (pair_free (one_value number4_exact) number4_free number4_free)))
answer_free version answers.LockHeld = made_free (pair_free (one_value numbered_exact) numbered_free (pair_free (one_value name_exact) name_free (pair_free (one_value site_exact) site_free owner_free)))
answer_free version answers.ViewChanged = made_free (pair_free (one_value numbered_exact) numbered_free (pair_free (one_value site_exact) site_free (pair_free (one_value view_exact) view_free (maybe_view_free view_free))))
answer_free version answers.TimedOut = made_free (pair_free (one_value numbered_exact) numbered_free site_free)
answer_free version answers.Spent = made_free number8_free
answer_free version answers.TooManyLive = nothing_free _
answer_free version answers.Absent = made_free numbered_free
answer_free version answers.Deleted = made_free numbered_free
answer_free version answers.Weighed = made_free numbered_free
answer_free version answers.BadTable = made_free numbered_free

body_free : (version : Version) (kind : FrameKind) → IsFree (BodyOf version kind)
body_free version (kinds.Message kind) = made_free (message_free version kind)
body_free version kinds.Call = then_free {M = λ kind. Made (CallOf version kind) (λ call. body.Call call)} (code_one call_code (call_kind version)) (code_free call_code (call_kind version)) (λ kind. made_free (call_free version kind))
body_free version kinds.Reply = then_free {M = λ kind. Made (AnswerOf version kind) (λ answer. body.Reply answer)} (code_one answer_code (answer_kind version)) (code_free answer_code (answer_kind version)) (λ kind. made_free (answer_free version kind))
body_free version kinds.Tick = nothing_free _
body_free version kinds.ProbeNow = nothing_free _
body_free version kinds.Stop = nothing_free _

pub frame_free : IsFree IsSpelling
frame_free =
    free_as frame_from (then_free byte_one byte_free (λ _. then_free byte_one byte_free (λ v. then_free (code_one frame_code frame_kind) (code_free frame_code frame_kind) (λ k.
    then_free byte_one byte_free (λ from. then_free byte_one byte_free (λ to. made_free (body_free (version_of v) k)))))))
