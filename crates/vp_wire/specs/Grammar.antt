-- Frames, the content of the datagrams of sites and clients: the bytes of each one, in two versions.
use Rattle.std.specs.Prelude.{◌≡◌, ℕ, ◌≤◌, ◌<◌, ◌^◌, List, [], ◌∷◌, ◌++◌}
use Rattle.vp_base.specs.Words.{IsName}
use Rattle.vp_base.specs.Identifiers.{IsView, IsTxn}
use Rattle.vp_base.specs.Calls.{IsNumbered}
use Rattle.vp_base.specs.declared.message.Obstacle.{Obstacle}
use Rattle.vp_base.specs.declared.message.Obstacle.TheVariants as obstacle
use Rattle.vp_base.specs.declared.message.Message.{Message}
use Rattle.vp_base.specs.declared.message.Message.TheVariants as message
use Rattle.vp_base.specs.declared.event.Call.{Call}
use Rattle.vp_base.specs.declared.event.Call.TheVariants as call
use Rattle.vp_base.specs.declared.answer.Answer.{Answer}
use Rattle.vp_base.specs.declared.answer.Answer.TheVariants as answer
use Rattle.vp_bytes.specs.Fields.{number_bytes, view_bytes, maybe_view_bytes, txn_bytes, owner_bytes, counted_bytes, numbered_bytes, request_bytes, outcome_byte, IsSite, IsRecord, IsMaybeView, IsOwner, IsSites, IsRecs, IsRequest, Spelled}
use Rattle.vp_contents.specs.Versions.{IsSecond, version_of}
use Rattle.vp_contents.specs.Values.{value_bytes, IsValueIn}
use Rattle.vp_contents.specs.Contents.{content_bytes, IsContent}
use Rattle.vp_base.specs.Tables.{IsTable}
use Rattle.vp_contents.specs.Tables.{table_bytes}
use Rattle.vp_contents.specs.Changes.{writes_bytes, IsWrites}
use Rattle.vp_contents.specs.Copies.{copy_bytes, IsCopy}
use Rattle.vp_contents.specs.declared.version.Version.{Version}
use Rattle.vp_wire.specs.declared.frame.Frame.{Frame}
use Rattle.vp_wire.specs.declared.frame.Body.{Body}
use Rattle.vp_wire.specs.declared.frame.Body.TheVariants as body
use Rattle.vp_wire.specs.Kinds.{call_code, kind_of_call, answer_code, kind_of_answer, frame_code, kind_of_body}

abbrev pub obstacle_bytes : Obstacle → List ℕ
obstacle_bytes (obstacle.Held owner) = 1 ∷ owner_bytes owner
obstacle_bytes (obstacle.OtherView now) = 2 ∷ maybe_view_bytes now
obstacle_bytes (obstacle.Barred inside total) = 3 ∷ (number_bytes 4 inside ++ number_bytes 4 total)

abbrev pub message_fields : Version → Message → List ℕ
message_fields version (message.Invite id) = view_bytes id
message_fields version (message.Accept id) = view_bytes id
message_fields version (message.Stale id promise) = view_bytes id ++ view_bytes promise
message_fields version (message.ViewCommit id members) = view_bytes id ++ counted_bytes members
message_fields version (message.ReadRequest txn view number rec) = request_bytes txn view number ++ rec ∷ []
message_fields version (message.ReadAnswer txn number value) = numbered_bytes txn number ++ content_bytes version value
message_fields version (message.WriteRequest txn view number rec) = request_bytes txn view number ++ rec ∷ []
message_fields version (message.WriteAnswer txn number) = numbered_bytes txn number
message_fields version (message.Refuse txn number why) = numbered_bytes txn number ++ obstacle_bytes why
message_fields version (message.Prepare txn view number reads writes) = request_bytes txn view number ++ (counted_bytes reads ++ writes_bytes version writes)
message_fields version (message.Vote txn) = txn_bytes txn
message_fields version (message.Outcome txn commit) = txn_bytes txn ++ outcome_byte commit ∷ []
message_fields version (message.Ack txn) = txn_bytes txn
message_fields version (message.Inquire txn) = txn_bytes txn
message_fields version (message.RefreshRequest view rec) = view_bytes view ++ rec ∷ []
message_fields version (message.RefreshAnswer view rec stored) = view_bytes view ++ copy_bytes version (rec, stored)
message_fields version (message.Probe view) = view_bytes view

abbrev pub call_fields : Version → Call → List ℕ
call_fields version call.Begin = []
call_fields version call.Regroup = []
call_fields version (call.Read txn number name) = numbered_bytes txn number ++ counted_bytes name
call_fields version (call.Write txn number name value) = numbered_bytes txn number ++ (counted_bytes name ++ value_bytes version value)
call_fields version (call.Commit txn number) = numbered_bytes txn number
call_fields version (call.Abort txn number) = numbered_bytes txn number
call_fields version (call.Delete txn number name) = numbered_bytes txn number ++ counted_bytes name
call_fields version (call.Weigh txn number name table) = numbered_bytes txn number ++ (counted_bytes name ++ table_bytes table)

-- a call: its code, and its fields
abbrev pub call_bytes : Version → Call → List ℕ
call_bytes version call = call_code (kind_of_call call) ∷ call_fields version call

abbrev pub answer_fields : Version → Answer → List ℕ
answer_fields version (answer.Begun txn view) = txn_bytes txn ++ view_bytes view
answer_fields version (answer.Value txn number value) = numbered_bytes txn number ++ value_bytes version value
answer_fields version (answer.Written txn number) = numbered_bytes txn number
answer_fields version (answer.Committed txn number) = numbered_bytes txn number
answer_fields version (answer.Aborted txn number) = numbered_bytes txn number
answer_fields version (answer.Inviting view) = view_bytes view
answer_fields version (answer.NoView promise) = view_bytes promise
answer_fields version (answer.Unknown txn) = txn_bytes txn
answer_fields version (answer.Skipped txn expected) = numbered_bytes txn expected
answer_fields version (answer.Busy txn number) = numbered_bytes txn number
answer_fields version (answer.NoRecord txn number) = numbered_bytes txn number
answer_fields version (answer.TooManyOps txn number) = numbered_bytes txn number
answer_fields version (answer.Inaccessible txn number name inside total) =
    numbered_bytes txn number ++ (counted_bytes name ++ (number_bytes 4 inside ++ number_bytes 4 total))
answer_fields version (answer.LockHeld txn number name at owner) = numbered_bytes txn number ++ (counted_bytes name ++ at ∷ owner_bytes owner)
answer_fields version (answer.ViewChanged txn number at held now) = numbered_bytes txn number ++ at ∷ (view_bytes held ++ maybe_view_bytes now)
answer_fields version (answer.TimedOut txn number at) = numbered_bytes txn number ++ at ∷ []
answer_fields version (answer.Spent number) = number_bytes 8 number
answer_fields version answer.TooManyLive = []
answer_fields version (answer.Absent txn number) = numbered_bytes txn number
answer_fields version (answer.Deleted txn number) = numbered_bytes txn number
answer_fields version (answer.Weighed txn number) = numbered_bytes txn number
answer_fields version (answer.BadTable txn number) = numbered_bytes txn number

-- an answer: its code, and its fields
abbrev pub answer_bytes : Version → Answer → List ℕ
answer_bytes version answer = answer_code (kind_of_answer answer) ∷ answer_fields version answer

abbrev pub fields : Version → Body → List ℕ
fields version (body.Message message) = message_fields version message
fields version (body.Call call) = call_bytes version call
fields version (body.Reply answer) = answer_bytes version answer
fields version body.Tick = []
fields version body.ProbeNow = []
fields version body.Stop = []

abbrev pub frame_in : ℕ → ℕ → ℕ → Body → Frame
frame_in version from to body = record { version = version; from = from; to = to; body = body }

-- the frame that is sent: it is of version 2
abbrev pub frame_of : ℕ → ℕ → Body → Frame
frame_of from to body = frame_in 2 from to body

abbrev pub frame_bytes : Frame → List ℕ
frame_bytes frame = 86 ∷ frame.version ∷ frame_code (kind_of_body frame.body) ∷ frame.from ∷ frame.to ∷ fields (version_of frame.version) frame.body

-- ---- which values frames have, by version

abbrev pub IsObstacle : Version → Obstacle → Type 0
IsObstacle version (obstacle.Held owner) = IsOwner owner
IsObstacle version (obstacle.OtherView now) = IsMaybeView now
IsObstacle version (obstacle.Barred inside total) = IsSecond version × (inside < 2 ^ 32) × (total < 2 ^ 32)

abbrev pub IsMessage : Version → Message → Type 0
IsMessage version (message.Invite id) = IsView id
IsMessage version (message.Accept id) = IsView id
IsMessage version (message.Stale id promise) = IsView id × IsView promise
IsMessage version (message.ViewCommit id members) = IsView id × IsSites 1 members
IsMessage version (message.ReadRequest txn view number rec) = IsRequest txn view number × IsRecord rec
IsMessage version (message.ReadAnswer txn number value) = IsNumbered txn number × IsContent version value
IsMessage version (message.WriteRequest txn view number rec) = IsRequest txn view number × IsRecord rec
IsMessage version (message.WriteAnswer txn number) = IsNumbered txn number
IsMessage version (message.Refuse txn number why) = IsNumbered txn number × IsObstacle version why
IsMessage version (message.Prepare txn view number reads writes) = IsRequest txn view number × IsRecs reads × IsWrites version writes
IsMessage version (message.Vote txn) = IsTxn txn
IsMessage version (message.Outcome txn commit) = IsTxn txn
IsMessage version (message.Ack txn) = IsTxn txn
IsMessage version (message.Inquire txn) = IsTxn txn
IsMessage version (message.RefreshRequest view rec) = IsView view × IsRecord rec
IsMessage version (message.RefreshAnswer view rec stored) = IsView view × IsCopy version (rec, stored)
IsMessage version (message.Probe view) = IsView view

abbrev pub IsCallIn : Version → Call → Type 0
IsCallIn version call.Begin = Unit {0}
IsCallIn version call.Regroup = Unit {0}
IsCallIn version (call.Read txn number name) = IsNumbered txn number × IsName name name
IsCallIn version (call.Write txn number name value) = IsNumbered txn number × IsName name name × IsValueIn version value
IsCallIn version (call.Commit txn number) = IsNumbered txn number
IsCallIn version (call.Abort txn number) = IsNumbered txn number
IsCallIn version (call.Delete txn number name) = IsSecond version × IsNumbered txn number × IsName name name
IsCallIn version (call.Weigh txn number name table) = IsSecond version × IsNumbered txn number × IsName name name × IsTable table

abbrev pub IsAnswer : Version → Answer → Type 0
IsAnswer version (answer.Begun txn view) = IsTxn txn × IsView view
IsAnswer version (answer.Value txn number value) = IsNumbered txn number × IsValueIn version value
IsAnswer version (answer.Written txn number) = IsNumbered txn number
IsAnswer version (answer.Committed txn number) = IsNumbered txn number
IsAnswer version (answer.Aborted txn number) = IsNumbered txn number
IsAnswer version (answer.Inviting view) = IsView view
IsAnswer version (answer.NoView promise) = IsView promise
IsAnswer version (answer.Unknown txn) = IsTxn txn
IsAnswer version (answer.Skipped txn expected) = IsNumbered txn expected
IsAnswer version (answer.Busy txn number) = IsNumbered txn number
IsAnswer version (answer.NoRecord txn number) = IsNumbered txn number
IsAnswer version (answer.TooManyOps txn number) = IsNumbered txn number
IsAnswer version (answer.Inaccessible txn number name inside total) = IsNumbered txn number × IsName name name × (inside < 2 ^ 32) × (total < 2 ^ 32)
IsAnswer version (answer.LockHeld txn number name at owner) = IsNumbered txn number × IsName name name × IsSite at × IsOwner owner
IsAnswer version (answer.ViewChanged txn number at held now) = IsNumbered txn number × IsSite at × IsView held × IsMaybeView now
IsAnswer version (answer.TimedOut txn number at) = IsNumbered txn number × IsSite at
IsAnswer version (answer.Spent number) = number < 2 ^ 64
IsAnswer version answer.TooManyLive = Unit {0}
IsAnswer version (answer.Absent txn number) = IsSecond version × IsNumbered txn number
IsAnswer version (answer.Deleted txn number) = IsSecond version × IsNumbered txn number
IsAnswer version (answer.Weighed txn number) = IsSecond version × IsNumbered txn number
IsAnswer version (answer.BadTable txn number) = IsSecond version × IsNumbered txn number

-- Messages go from site to site. A reply goes to number 0, and the rest comes from number 0.
abbrev pub IsBody : Version → ℕ → ℕ → Body → Type 0
IsBody version from to (body.Message message) = IsSite from × IsSite to × IsMessage version message
IsBody version from to (body.Call call) = (from ≡ 0) × IsSite to × IsCallIn version call
IsBody version from to (body.Reply answer) = IsSite from × (to ≡ 0) × IsAnswer version answer
IsBody version from to body.Tick = (from ≡ 0) × IsSite to
IsBody version from to body.ProbeNow = (from ≡ 0) × IsSite to
IsBody version from to body.Stop = (from ≡ 0) × IsSite to

-- The body can be said in the frame's version, which is 1 or 2.
abbrev pub IsFrame : Frame → Type 0
IsFrame frame = (1 ≤ frame.version) × (frame.version ≤ 2) × IsBody (version_of frame.version) frame.from frame.to frame.body

-- The bytes are the encoding of the frame.
abbrev pub IsSpelling : Frame → List ℕ → Type 0
IsSpelling = Spelled frame_bytes IsFrame
