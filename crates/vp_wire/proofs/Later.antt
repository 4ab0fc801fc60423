-- What a frame of any version says can be said in the second one, in which it is sent.
use Rattle.std.proofs.Common.{ℕ}
use Rattle.vp_base.specs.declared.message.Obstacle.{Obstacle}
use Rattle.vp_base.specs.declared.message.Obstacle.TheVariants as obstacle
use Rattle.vp_base.specs.declared.message.Message.{Message}
use Rattle.vp_base.specs.declared.message.Message.TheVariants as message
use Rattle.vp_base.specs.declared.event.Call.{Call}
use Rattle.vp_base.specs.declared.event.Call.TheVariants as call
use Rattle.vp_base.specs.declared.answer.Answer.{Answer}
use Rattle.vp_base.specs.declared.answer.Answer.TheVariants as answer
use Rattle.vp_contents.specs.declared.version.Version.{Version}
use Rattle.vp_contents.specs.declared.version.Version.TheVariants as versions
use Rattle.vp_contents.proofs.Later.{value_later, content_later, writes_later, copy_later}
use Rattle.vp_wire.specs.declared.frame.Body.{Body}
use Rattle.vp_wire.specs.declared.frame.Body.TheVariants as body
use Rattle.vp_wire.specs.Grammar.{IsObstacle, IsMessage, IsCallIn, IsAnswer, IsBody}

obstacle_later : (version : Version) (o : Obstacle) → IsObstacle version o → IsObstacle versions.Second o
obstacle_later version (obstacle.Held owner) h = h
obstacle_later version (obstacle.OtherView now) h = h
obstacle_later version (obstacle.Barred inside total) h = (tt, h.1, h.2)

pub message_later : (version : Version) (m : Message) → IsMessage version m → IsMessage versions.Second m
message_later version (message.Invite id) h = h
message_later version (message.Accept id) h = h
message_later version (message.Stale id promise) h = h
message_later version (message.ViewCommit id members) h = h
message_later version (message.ReadRequest txn view number rec) h = h
message_later version (message.ReadAnswer txn number value) h = (h.0, content_later version value h.1)
message_later version (message.WriteRequest txn view number rec) h = h
message_later version (message.WriteAnswer txn number) h = h
message_later version (message.Refuse txn number why) h = (h.0, obstacle_later version why h.1)
message_later version (message.Prepare txn view number reads writes) h = (h.0, h.1, writes_later version writes h.2)
message_later version (message.Vote txn) h = h
message_later version (message.Outcome txn commit) h = h
message_later version (message.Ack txn) h = h
message_later version (message.Inquire txn) h = h
message_later version (message.RefreshRequest view rec) h = h
message_later version (message.RefreshAnswer view rec stored) h = (h.0, copy_later version (rec, stored) h.1)
message_later version (message.Probe view) h = h

pub call_later : (version : Version) (m : Call) → IsCallIn version m → IsCallIn versions.Second m
call_later version call.Begin h = h
call_later version call.Regroup h = h
call_later version (call.Read txn number name) h = h
call_later version (call.Write txn number name value) h = (h.0, h.1, value_later version value h.2)
call_later version (call.Commit txn number) h = h
call_later version (call.Abort txn number) h = h
call_later version (call.Delete txn number name) h = (tt, h.1, h.2)
call_later version (call.Weigh txn number name table) h = (tt, h.1, h.2, h.3)

pub answer_later : (version : Version) (m : Answer) → IsAnswer version m → IsAnswer versions.Second m
answer_later version (answer.Begun txn view) h = h
answer_later version (answer.Value txn number value) h = (h.0, value_later version value h.1)
answer_later version (answer.Written txn number) h = h
answer_later version (answer.Committed txn number) h = h
answer_later version (answer.Aborted txn number) h = h
answer_later version (answer.Inviting view) h = h
answer_later version (answer.NoView promise) h = h
answer_later version (answer.Unknown txn) h = h
answer_later version (answer.Skipped txn expected) h = h
answer_later version (answer.Busy txn number) h = h
answer_later version (answer.NoRecord txn number) h = h
answer_later version (answer.TooManyOps txn number) h = h
answer_later version (answer.Inaccessible txn number name inside total) h = h
answer_later version (answer.LockHeld txn number name at owner) h = h
answer_later version (answer.ViewChanged txn number at held now) h = h
answer_later version (answer.TimedOut txn number at) h = h
answer_later version (answer.Spent number) h = h
answer_later version answer.TooManyLive h = h
answer_later version (answer.Absent txn number) h = (tt, h.1)
answer_later version (answer.Deleted txn number) h = (tt, h.1)
answer_later version (answer.Weighed txn number) h = (tt, h.1)
answer_later version (answer.BadTable txn number) h = (tt, h.1)

pub body_later : (version : Version) (from to : ℕ) (b : Body) → IsBody version from to b → IsBody versions.Second from to b
body_later version from to (body.Message message) h = (h.0, h.1, message_later version message h.2)
body_later version from to (body.Call call) h = (h.0, h.1, call_later version call h.2)
body_later version from to (body.Reply answer) h = (h.0, h.1, answer_later version answer h.2)
body_later version from to body.Tick h = h
body_later version from to body.ProbeNow h = h
body_later version from to body.Stop h = h
