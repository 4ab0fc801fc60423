-- The codes of kinds: the kind that is found by each one.
use Rattle.std.proofs.Common.{◌≡◌, ℕ, ◌==◌, Bool, true, false, cond, List, [], ◌∷◌, Option, Some, None, refl, ap, subst}
use Rattle.std.proofs.lemmas.Bool.{eqb-true}
use Rattle.vp_bytes.proofs.Codes.{Codes}
use Rattle.vp_wire.specs.Kinds.{kind_of_code, message_code, message_kind, message_kinds, call_code, call_kind, call_kinds, later_calls, kind_of_call, answer_code, answer_kind, answer_kinds, later_answers, kind_of_answer, frame_code, frame_kind, other_kinds, or_other, or_later}
use Rattle.vp_base.specs.declared.event.Call.{Call}
use Rattle.vp_base.specs.declared.event.Call.TheVariants as call
use Rattle.vp_base.specs.declared.answer.Answer.{Answer}
use Rattle.vp_base.specs.declared.answer.Answer.TheVariants as answer
use Rattle.vp_contents.specs.Versions.{IsSecond}
use Rattle.vp_contents.specs.declared.version.Version.{Version}
use Rattle.vp_contents.specs.declared.version.Version.TheVariants as versions
use Rattle.vp_wire.specs.Grammar.{IsCallIn, IsAnswer}
use Rattle.vp_wire.specs.declared.kind.MessageKind.{MessageKind}
use Rattle.vp_wire.specs.declared.kind.MessageKind.TheVariants as messages
use Rattle.vp_wire.specs.declared.kind.CallKind.{CallKind}
use Rattle.vp_wire.specs.declared.kind.CallKind.TheVariants as calls
use Rattle.vp_wire.specs.declared.kind.AnswerKind.{AnswerKind}
use Rattle.vp_wire.specs.declared.kind.AnswerKind.TheVariants as answers
use Rattle.vp_wire.specs.declared.kind.FrameKind.{FrameKind}
use Rattle.vp_wire.specs.declared.kind.FrameKind.TheVariants as frames

-- what is found by a code has this code
module _ {K : Type 0} (code : K → ℕ) where
  coded_at : (b : Bool) (c : ℕ) (first kind : K) (other : Option K) → (b ≡ true → code first ≡ c) → (other ≡ Some kind → code kind ≡ c) → cond b (Some first) other ≡ Some kind → code kind ≡ c
  coded_at true c first kind other same rest e = let is : first ≡ kind = cc in subst (λ (k : K). code k ≡ c) is (same refl)
  coded_at false c first kind other same rest e = rest e

  coded_only : (kinds : List K) (c : ℕ) (kind : K) → kind_of_code code kinds c ≡ Some kind → code kind ≡ c
  coded_only [] c kind e = absurd (let never : None ≡ Some kind = e in cc)
  coded_only (first ∷ kinds) c kind e = coded_at (code first == c) c first kind (kind_of_code code kinds c) (λ s. eqb-true (code first) c s) (λ r. coded_only kinds c kind r) e

message_found : (kind : MessageKind) → message_kind (message_code kind) ≡ Some kind
message_found messages.Invite = refl
message_found messages.Accept = refl
message_found messages.Stale = refl
message_found messages.ViewCommit = refl
message_found messages.ReadRequest = refl
message_found messages.ReadAnswer = refl
message_found messages.WriteRequest = refl
message_found messages.WriteAnswer = refl
message_found messages.Refuse = refl
message_found messages.Prepare = refl
message_found messages.Vote = refl
message_found messages.Outcome = refl
message_found messages.Ack = refl
message_found messages.Inquire = refl
message_found messages.RefreshRequest = refl
message_found messages.RefreshAnswer = refl
message_found messages.Probe = refl

-- ---- kinds of both versions, and of the second alone

module _ {K : Type 0} (code : K → ℕ) where
  later_only : (version : Version) (c : ℕ) (kind : K) (both later : Option K) → (both ≡ Some kind → code kind ≡ c) → (later ≡ Some kind → code kind ≡ c) → or_later version both later ≡ Some kind → code kind ≡ c
  later_only version c kind (Some k) later one two e = one e
  later_only versions.First c kind None later one two e = absurd (let never : None ≡ Some kind = e in cc)
  later_only versions.Second c kind None later one two e = two e

is_later : {K : Type 0} (version : Version) (both later : Option K) (kind : K) → both ≡ None → or_later version both later ≡ Some kind → IsSecond version
is_later version (Some k) later kind none e = absurd (let never : Some k ≡ None = none in cc)
is_later versions.First None later kind none e = absurd (let never : None ≡ Some kind = e in cc)
is_later versions.Second None later kind none e = tt

found_later : {K : Type 0} (version : Version) (later : Option K) → IsSecond version → or_later version None later ≡ later
found_later versions.First later h = absurd h
found_later versions.Second later h = refl

-- ---- calls

-- only the second version has the later kinds
pub later_call : (version : Version) (kind : CallKind) → kind_of_code call_code call_kinds (call_code kind) ≡ None → call_kind version (call_code kind) ≡ Some kind → IsSecond version
later_call version kind none found = is_later version (kind_of_code call_code call_kinds (call_code kind)) (kind_of_code call_code later_calls (call_code kind)) kind none found

pub call_found : (version : Version) (m : Call) → IsCallIn version m → call_kind version (call_code (kind_of_call m)) ≡ Some (kind_of_call m)
call_found version call.Begin a = refl
call_found version call.Regroup a = refl
call_found version (call.Read txn number name) a = refl
call_found version (call.Write txn number name value) a = refl
call_found version (call.Commit txn number) a = refl
call_found version (call.Abort txn number) a = refl
call_found version (call.Delete txn number name) a = found_later version (Some calls.Delete) a.0
call_found version (call.Weigh txn number name table) a = found_later version (Some calls.Weigh) a.0

pub call_codes : (version : Version) → Codes call_code (call_kind version)
call_codes version = record {
  only = λ c kind e. later_only call_code version c kind (kind_of_code call_code call_kinds c) (kind_of_code call_code later_calls c) (λ e. coded_only call_code call_kinds c kind e) (λ e. coded_only call_code later_calls c kind e) e;
  some = calls.Begin;
  there = refl;
}

-- ---- answers

pub later_answer : (version : Version) (kind : AnswerKind) → kind_of_code answer_code answer_kinds (answer_code kind) ≡ None → answer_kind version (answer_code kind) ≡ Some kind → IsSecond version
later_answer version kind none found = is_later version (kind_of_code answer_code answer_kinds (answer_code kind)) (kind_of_code answer_code later_answers (answer_code kind)) kind none found

pub answer_found : (version : Version) (m : Answer) → IsAnswer version m → answer_kind version (answer_code (kind_of_answer m)) ≡ Some (kind_of_answer m)
answer_found version (answer.Begun txn view) a = refl
answer_found version (answer.Value txn number value) a = refl
answer_found version (answer.Written txn number) a = refl
answer_found version (answer.Committed txn number) a = refl
answer_found version (answer.Aborted txn number) a = refl
answer_found version (answer.Inviting view) a = refl
answer_found version (answer.NoView promise) a = refl
answer_found version (answer.Unknown txn) a = refl
answer_found version (answer.Skipped txn expected) a = refl
answer_found version (answer.Busy txn number) a = refl
answer_found version (answer.NoRecord txn number) a = refl
answer_found version (answer.TooManyOps txn number) a = refl
answer_found version (answer.Inaccessible txn number name inside total) a = refl
answer_found version (answer.LockHeld txn number name at owner) a = refl
answer_found version (answer.ViewChanged txn number at held now) a = refl
answer_found version (answer.TimedOut txn number at) a = refl
answer_found version (answer.Spent number) a = refl
answer_found version answer.TooManyLive a = refl
answer_found version (answer.Absent txn number) a = found_later version (Some answers.Absent) a.0
answer_found version (answer.Deleted txn number) a = found_later version (Some answers.Deleted) a.0
answer_found version (answer.Weighed txn number) a = found_later version (Some answers.Weighed) a.0
answer_found version (answer.BadTable txn number) a = found_later version (Some answers.BadTable) a.0

pub answer_codes : (version : Version) → Codes answer_code (answer_kind version)
answer_codes version = record {
  only = λ c kind e. later_only answer_code version c kind (kind_of_code answer_code answer_kinds c) (kind_of_code answer_code later_answers c) (λ e. coded_only answer_code answer_kinds c kind e) (λ e. coded_only answer_code later_answers c kind e) e;
  some = answers.Begun;
  there = refl;
}

-- ---- frames

pub frame_found : (kind : FrameKind) → frame_kind (frame_code kind) ≡ Some kind
frame_found (frames.Message kind) = ap (λ (found : Option MessageKind). or_other found (kind_of_code frame_code other_kinds (message_code kind))) (message_found kind)
frame_found frames.Call = refl
frame_found frames.Reply = refl
frame_found frames.Tick = refl
frame_found frames.ProbeNow = refl
frame_found frames.Stop = refl

frame_only : (c : ℕ) (kind : FrameKind) (found : Option MessageKind) → message_kind c ≡ found → or_other found (kind_of_code frame_code other_kinds c) ≡ Some kind → frame_code kind ≡ c
frame_only c kind (Some message) same e = let is : frames.Message message ≡ kind = cc in subst (λ (k : FrameKind). frame_code k ≡ c) is (coded_only message_code message_kinds c message same)
frame_only c kind None same e = coded_only frame_code other_kinds c kind e

pub frame_codes : Codes frame_code frame_kind
frame_codes = record { only = λ c kind e. frame_only c kind (message_kind c) refl e; some = frames.Tick; there = refl }
