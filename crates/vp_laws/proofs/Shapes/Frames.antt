-- How long the frames of what a step gives are.
use Rattle.std.proofs.Common.{◌≡◌, ◌≤◌, ℕ, List, [], ◌∷◌, ◌++◌, refl, arith, length}
use Rattle.std.specs.Prelude.{Option, Some, None}
use Rattle.std.specs.List.{AllByRecursion}
use Rattle.std.proofs.lemmas.List.{length-append}
use Rattle.vp_base.specs.Words.{IsName}
use Rattle.vp_bytes.specs.Fields.{number_bytes, view_bytes, maybe_view_bytes, txn_bytes, owner_bytes, counted_bytes, numbered_bytes, request_bytes, outcome_byte}
use Rattle.vp_contents.specs.Tables.{maybe_table_bytes}
use Rattle.vp_contents.specs.Values.{value_bytes, most_length, IsValueIn}
use Rattle.vp_contents.specs.Contents.{content_bytes, IsContent}
use Rattle.vp_contents.specs.Copies.{stored_bytes, copy_bytes}
use Rattle.vp_contents.specs.Changes.{writes_bytes}
use Rattle.vp_contents.specs.declared.version.Version.TheVariants as versions
use Rattle.vp_wire.specs.Grammar.{obstacle_bytes, message_fields, answer_fields, frame_bytes}
use Rattle.vp_model.specs.Types.{ViewId, TxnId, Stored, Owner, Obstacle, Message, Answer, Sent, Reply}
use Rattle.vp_model.specs.Types.answer
use Rattle.vp_model.specs.Types.message
use Rattle.vp_model.specs.Types.obstacle
use Rattle.vp_model.specs.Types.owner
use Rattle.vp_catalog.specs.Document.{IsCatalogue}
use Rattle.vp_model.specs.Types.{Input}
use Rattle.vp_model.specs.Catalogue.{Catalogue}
use Rattle.vp_model.specs.Site.{SiteState}
use Rattle.vp_model.specs.Step.{step}
use Rattle.vp_laws.specs.Shapes.{IsMessage, IsAnswer, IsStored, IsShort, IsInput, IsShaped, IsSent, IsReply}
use Rattle.vp_laws.proofs.Shapes.Steps.{step_forms}
use Rattle.vp_text.proofs.Items.{all_each}
use Rattle.vp_laws.specs.ShapeLaws.{message_frame, reply_frame}
use Rattle.vp_laws.proofs.Shapes.Sizes.{number_two, table_cost, table_length}

number_four : (n : ℕ) → length (number_bytes 4 n) ≡ 4
unfolding number_bytes
number_four n = refl

number_eight : (n : ℕ) → length (number_bytes 8 n) ≡ 8
unfolding number_bytes
number_eight n = refl

view_length : (view : ViewId) → length (view_bytes view) ≡ 9
unfolding view_bytes
view_length view = let a = length-append (number_bytes 8 view.number) (view.site ∷ []) in let b = number_eight view.number in omega (arith, a, b)

maybe_length : (view : Option ViewId) → length (maybe_view_bytes view) ≤ 10
maybe_length None = omega arith
maybe_length (Some view) = let a = view_length view in omega (arith, a)

txn_length : (txn : TxnId) → length (txn_bytes txn) ≡ 9
unfolding txn_bytes
txn_length txn =
    let a = length-append (number_bytes 4 txn.life) (number_bytes 4 txn.seq) in
    let b = number_four txn.life in
    let c = number_four txn.seq in
    omega (arith, a, b, c)

owner_length : (holder : Owner) → length (owner_bytes holder) ≤ 10
owner_length owner.Refresh = omega arith
owner_length (owner.Txn txn) = let a = txn_length txn in omega (arith, a)

numbered_length : (txn : TxnId) (number : ℕ) → length (numbered_bytes txn number) ≡ 13
numbered_length txn number =
    let a = length-append (txn_bytes txn) (number_bytes 4 number) in
    let b = txn_length txn in
    let c = number_four number in
    omega (arith, a, b, c)

request_length : (txn : TxnId) (view : ViewId) (number : ℕ) → length (request_bytes txn view number) ≡ 22
request_length txn view number =
    let a = length-append (txn_bytes txn) (view_bytes view ++ number_bytes 4 number) in
    let b = length-append (view_bytes view) (number_bytes 4 number) in
    let c = txn_length txn in
    let d = view_length view in
    let e = number_four number in
    omega (arith, a, b, c, d, e)

-- the longest value
longest : (n : ℕ) → n ≤ most_length versions.Second → n ≤ 1024
longest n h = omega (arith, h)

value_length : (value : List ℕ) → IsValueIn versions.Second value → length (value_bytes versions.Second value) ≤ 1026
value_length value h =
    let a = length-append (number_bytes 2 (length value)) value in
    let b = number_two (length value) in
    let c = longest (length value) h.short in
    omega (arith, a, b, c)

content_length : (value : Option (List ℕ)) → IsContent versions.Second value → length (content_bytes versions.Second value) ≤ 1027
content_length None h = omega arith
content_length (Some value) h = let a = value_length value h in omega (arith, a)

stored_length : (stored : Stored) → IsStored stored → length (stored_bytes versions.Second stored) ≤ 1087
stored_length stored h =
    let a = length-append (content_bytes versions.Second stored.value) (maybe_table_bytes versions.Second stored.table ++ view_bytes stored.date) in
    let b = length-append (maybe_table_bytes versions.Second stored.table) (view_bytes stored.date) in
    let c = content_length stored.value h.0 in
    let d = table_length stored.table h.1 in
    let e = cheap stored.table in
    let f = view_length stored.date in
    omega (arith, a, b, c, d, e, f)
  where
    cheap : (table : Option (List (ℕ × ℕ))) → table_cost table ≤ 50
    cheap None = omega arith
    cheap (Some table) = omega arith

obstacle_length : (why : Obstacle) → length (obstacle_bytes why) ≤ 11
obstacle_length (obstacle.Held holder) = let a = owner_length holder in omega (arith, a)
obstacle_length (obstacle.OtherView now) = let a = maybe_length now in omega (arith, a)
obstacle_length (obstacle.Barred inside total) =
    let a = length-append (number_bytes 4 inside) (number_bytes 4 total) in
    let b = number_four inside in
    let c = number_four total in
    omega (arith, a, b, c)

pub message_length : (m : Message) → IsMessage m → IsShort m → length (message_fields versions.Second m) ≤ 15768
message_length (message.Invite id) i s = let a = view_length id in omega (arith, a)
message_length (message.Accept id) i s = let a = view_length id in omega (arith, a)
message_length (message.Stale id promise) i s = let a = length-append (view_bytes id) (view_bytes promise) in let b = view_length id in let c = view_length promise in omega (arith, a, b, c)
message_length (message.ViewCommit id members) i s = let a = length-append (view_bytes id) (counted_bytes members) in let b = view_length id in let c = i.1.1 in omega (arith, a, b, c)
message_length (message.ReadRequest txn view number rec) i s = let a = length-append (request_bytes txn view number) (rec ∷ []) in let b = request_length txn view number in omega (arith, a, b)
message_length (message.ReadAnswer txn number value) i s = let a = length-append (numbered_bytes txn number) (content_bytes versions.Second value) in let b = numbered_length txn number in let c = content_length value i.1 in omega (arith, a, b, c)
message_length (message.WriteRequest txn view number rec) i s = let a = length-append (request_bytes txn view number) (rec ∷ []) in let b = request_length txn view number in omega (arith, a, b)
message_length (message.WriteAnswer txn number) i s = let a = numbered_length txn number in omega (arith, a)
message_length (message.Refuse txn number why) i s = let a = length-append (numbered_bytes txn number) (obstacle_bytes why) in let b = numbered_length txn number in let c = obstacle_length why in omega (arith, a, b, c)
message_length (message.Prepare txn view number reads writes) i s =
    let a = length-append (request_bytes txn view number) (counted_bytes reads ++ writes_bytes versions.Second writes) in
    let b = length-append (counted_bytes reads) (writes_bytes versions.Second writes) in
    let c = request_length txn view number in
    let d = i.1.0 in
    omega (arith, a, b, c, d, s)
message_length (message.Vote txn) i s = let a = txn_length txn in omega (arith, a)
message_length (message.Outcome txn commit) i s = let a = length-append (txn_bytes txn) (outcome_byte commit ∷ []) in let b = txn_length txn in omega (arith, a, b)
message_length (message.Ack txn) i s = let a = txn_length txn in omega (arith, a)
message_length (message.Inquire txn) i s = let a = txn_length txn in omega (arith, a)
message_length (message.RefreshRequest view rec) i s = let a = length-append (view_bytes view) (rec ∷ []) in let b = view_length view in omega (arith, a, b)
message_length (message.RefreshAnswer view rec stored) i s = let a = length-append (view_bytes view) (copy_bytes versions.Second (rec, stored)) in let b = view_length view in let c = stored_length stored i.1.1 in omega (arith, a, b, c)
message_length (message.Probe view) i s = let a = view_length view in omega (arith, a)

name_length : (name : List ℕ) → IsName name name → length (counted_bytes name) ≤ 17
name_length name h = let a = h.short in omega (arith, a)

pub answer_length : (a : Answer) → IsAnswer a → length (answer_fields versions.Second a) ≤ 15767
answer_length (answer.Begun txn view) i = let a = length-append (txn_bytes txn) (view_bytes view) in let b = txn_length txn in let c = view_length view in omega (arith, a, b, c)
answer_length (answer.Value txn number value) i = let a = length-append (numbered_bytes txn number) (value_bytes versions.Second value) in let b = numbered_length txn number in let c = value_length value i.1 in omega (arith, a, b, c)
answer_length (answer.Written txn number) i = let a = numbered_length txn number in omega (arith, a)
answer_length (answer.Committed txn number) i = let a = numbered_length txn number in omega (arith, a)
answer_length (answer.Aborted txn number) i = let a = numbered_length txn number in omega (arith, a)
answer_length (answer.Inviting view) i = let a = view_length view in omega (arith, a)
answer_length (answer.NoView promise) i = let a = view_length promise in omega (arith, a)
answer_length (answer.Unknown txn) i = let a = txn_length txn in omega (arith, a)
answer_length (answer.Skipped txn expected) i = let a = numbered_length txn expected in omega (arith, a)
answer_length (answer.Busy txn number) i = let a = numbered_length txn number in omega (arith, a)
answer_length (answer.NoRecord txn number) i = let a = numbered_length txn number in omega (arith, a)
answer_length (answer.TooManyOps txn number) i = let a = numbered_length txn number in omega (arith, a)
answer_length (answer.Inaccessible txn number name inside total) i =
    let a = length-append (numbered_bytes txn number) (counted_bytes name ++ (number_bytes 4 inside ++ number_bytes 4 total)) in
    let b = length-append (counted_bytes name) (number_bytes 4 inside ++ number_bytes 4 total) in
    let c = length-append (number_bytes 4 inside) (number_bytes 4 total) in
    let d = numbered_length txn number in
    let e = name_length name i.1 in
    let f = number_four inside in
    let g = number_four total in
    omega (arith, a, b, c, d, e, f, g)
answer_length (answer.LockHeld txn number name at holder) i =
    let a = length-append (numbered_bytes txn number) (counted_bytes name ++ at ∷ owner_bytes holder) in
    let b = length-append (counted_bytes name) (at ∷ owner_bytes holder) in
    let c = numbered_length txn number in
    let d = name_length name i.1 in
    let e = owner_length holder in
    omega (arith, a, b, c, d, e)
answer_length (answer.ViewChanged txn number at held now) i =
    let a = length-append (numbered_bytes txn number) (at ∷ (view_bytes held ++ maybe_view_bytes now)) in
    let b = length-append (view_bytes held) (maybe_view_bytes now) in
    let c = numbered_length txn number in
    let d = view_length held in
    let e = maybe_length now in
    omega (arith, a, b, c, d, e)
answer_length (answer.TimedOut txn number at) i = let a = length-append (numbered_bytes txn number) (at ∷ []) in let b = numbered_length txn number in omega (arith, a, b)
answer_length (answer.Spent number) i = let a = number_eight number in omega (arith, a)
answer_length answer.TooManyLive i = omega arith
answer_length (answer.Absent txn number) i = let a = numbered_length txn number in omega (arith, a)
answer_length (answer.Deleted txn number) i = let a = numbered_length txn number in omega (arith, a)
answer_length (answer.Weighed txn number) i = let a = numbered_length txn number in omega (arith, a)
answer_length (answer.BadTable txn number) i = let a = numbered_length txn number in omega (arith, a)

pub frames_sent : (ms : List Sent) → AllByRecursion (λ (sent : Sent). IsMessage sent.message) ms → AllByRecursion (λ (sent : Sent). IsShort sent.message) ms → AllByRecursion (λ (sent : Sent). length (frame_bytes (message_frame sent)) ≤ 15773) ms
frames_sent [] i s = tt
frames_sent (m ∷ ms) i s = let a = message_length m.message i.0 s.0 in (omega (arith, a), frames_sent ms i.1 s.1)

pub frames_replied : (id : ℕ) (rs : List Reply) → AllByRecursion (λ (reply : Reply). IsAnswer reply.answer) rs → AllByRecursion (λ (reply : Reply). length (frame_bytes (reply_frame id reply)) ≤ 15773) rs
frames_replied id [] i = tt
frames_replied id (r ∷ rs) i = let a = answer_length r.answer i.0 in (omega (arith, a), frames_replied id rs i.1)

-- of a step of a well-formed site
pub frames_short : (catalogue : Catalogue) (site : SiteState) (given : Input) → IsCatalogue catalogue → IsShaped catalogue site → IsInput given →
    AllByRecursion (λ sent. length (frame_bytes (message_frame sent)) ≤ 15773) (step catalogue site given).effects.messages
    × AllByRecursion (λ reply. length (frame_bytes (reply_frame site.id reply)) ≤ 15773) (step catalogue site given).effects.replies
frames_short catalogue site given k shaped came =
    let p = step_forms catalogue site given k shaped came in (
      frames_sent _ (all_each (IsSent site.id) (λ (sent : Sent). IsMessage sent.message) (λ sent i. i.2) _ p.gives.messages_are) p.gives.short_are,
      frames_replied site.id _ (all_each IsReply (λ (reply : Reply). IsAnswer reply.answer) (λ reply i. i.1) _ p.gives.replies_are),
    )
