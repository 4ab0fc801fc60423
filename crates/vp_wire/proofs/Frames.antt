-- Frames are read exactly.
use Rattle.std.proofs.Common.{◌≡◌, ℕ, ◌≤◌, List, [], ◌∷◌, ◌++◌, refl, sym, ap, subst, ◌∙◌, arith}
use Rattle.vp_text.proofs.Exact.{Exact, Then, Made, made_exact, exact_as}
use Rattle.vp_wire.specs.declared.frame.Frame.{Frame}
use Rattle.vp_wire.specs.declared.frame.Body.{Body}
use Rattle.vp_wire.specs.declared.frame.Body.TheVariants as body
use Rattle.vp_wire.specs.declared.kind.MessageKind.{MessageKind}
use Rattle.vp_wire.specs.declared.kind.FrameKind.{FrameKind}
use Rattle.vp_wire.specs.declared.kind.FrameKind.TheVariants as kinds
use Rattle.vp_wire.specs.Grammar.{IsSpelling, IsBody, call_fields, answer_fields, frame_in, fields}
use Rattle.vp_wire.specs.Kinds.{call_code, call_kind, kind_of_call, answer_code, answer_kind, kind_of_answer, frame_code, frame_kind, kind_of_body}
use Rattle.vp_bytes.specs.Reading.{within}
use Rattle.vp_wire.specs.Frames.{least_from, most_from, least_to, most_to, coded_call_at, coded_answer_at, body_at, frame_at}
use Rattle.vp_bytes.proofs.Free.{IsByteOf, byte_free, free_then}
use Rattle.vp_bytes.proofs.Identifiers.{within_exact, within_from, within_to}
use Rattle.vp_bytes.proofs.Codes.{Nothing, nothing_exact, IsCode, code_exact, code_free}
use Rattle.vp_contents.specs.Versions.{version_of}
use Rattle.vp_contents.specs.declared.version.Version.{Version}
use Rattle.vp_wire.proofs.Codes.{call_codes, call_found, answer_codes, answer_found, frame_codes, frame_found}
use Rattle.vp_wire.proofs.EachMessage.{MessageOf, message_fields_exact, message_to, message_from}
use Rattle.vp_wire.proofs.EachCall.{CallOf, call_fields_exact, call_to, call_from}
use Rattle.vp_wire.proofs.EachAnswer.{AnswerOf, answer_fields_exact, answer_to, answer_from}

-- ---- calls and answers, by their codes

abbrev pub CallParts : Version → Body → List ℕ → Type 0
CallParts version = Then (IsCode call_code (call_kind version)) (λ kind. Made (CallOf version kind) (λ call. body.Call call))

call_parts_exact : (version : Version) → Exact (CallParts version) (coded_call_at version)
unfolding coded_call_at
call_parts_exact version = free_then (code_free call_code (call_kind version)) (code_exact call_code (call_kind version) (call_codes version)) (λ kind. made_exact (λ call. body.Call call) (call_fields_exact version kind))

abbrev pub AnswerParts : Version → Body → List ℕ → Type 0
AnswerParts version = Then (IsCode answer_code (answer_kind version)) (λ kind. Made (AnswerOf version kind) (λ answer. body.Reply answer))

answer_parts_exact : (version : Version) → Exact (AnswerParts version) (coded_answer_at version)
unfolding coded_answer_at
answer_parts_exact version = free_then (code_free answer_code (answer_kind version)) (code_exact answer_code (answer_kind version) (answer_codes version)) (λ kind. made_exact (λ answer. body.Reply answer) (answer_fields_exact version kind))

-- ---- bodies

abbrev pub BodyOf : Version → FrameKind → Body → List ℕ → Type 0
BodyOf version (kinds.Message kind) = Made (MessageOf version kind) (λ message. body.Message message)
BodyOf version kinds.Call = CallParts version
BodyOf version kinds.Reply = AnswerParts version
BodyOf version kinds.Tick = Nothing body.Tick
BodyOf version kinds.ProbeNow = Nothing body.ProbeNow
BodyOf version kinds.Stop = Nothing body.Stop

body_exact : (version : Version) (kind : FrameKind) → Exact (BodyOf version kind) (body_at version kind)
unfolding body_at
body_exact version (kinds.Message kind) = made_exact (λ message. body.Message message) (message_fields_exact version kind)
body_exact version kinds.Call = call_parts_exact version
body_exact version kinds.Reply = answer_parts_exact version
body_exact version kinds.Tick = nothing_exact body.Tick
body_exact version kinds.ProbeNow = nothing_exact body.ProbeNow
body_exact version kinds.Stop = nothing_exact body.Stop

-- The body is one of the kind, and goes from and to these numbers.
abbrev IsBodyOf : Version → ℕ → ℕ → FrameKind → Body → List ℕ → Type 0
IsBodyOf version from to k body text = (kind_of_body body ≡ k) × (text ≡ fields version body) × IsBody version from to body

-- codes of the same kind, with the same fields after them
coded_after : {K : Type 0} (code : K → ℕ) (a b : K) (s t : List ℕ) → a ≡ b → s ≡ t → code a ∷ s ≡ code b ∷ t
coded_after code a b s t kinds fields = rw (kinds, fields) refl

body_to : (version : Version) (from to : ℕ) (k : FrameKind) (b : Body) (t : List ℕ) → (least_from k ≤ from) × (from ≤ most_from k) → (least_to k ≤ to) × (to ≤ most_to k) → BodyOf version k b t → IsBodyOf version from to k b t
body_to version from to (kinds.Message kind) b t f g h =
    let m = message_to version kind h.from t h.spelled in
    subst (λ (b : Body). IsBodyOf version from to (kinds.Message kind) b t) (sym h.is) (ap (λ (k : MessageKind). kinds.Message k) m.0, m.1, (f, g, m.2))
body_to version from to kinds.Call b t f g h =
    let m = call_to version h.first h.after.from h.back h.before.found h.after.spelled in
    subst (λ (b : Body). IsBodyOf version from to kinds.Call b t) (sym h.after.is) (refl, h.parts ∙ ap (λ (x : List ℕ). x ++ h.back) h.before.is ∙ coded_after call_code h.first (kind_of_call h.after.from) h.back (call_fields version h.after.from) (sym m.0) m.1, (omega (arith, f.1), g, m.2))
body_to version from to kinds.Reply b t f g h =
    let m = answer_to version h.first h.after.from h.back h.before.found h.after.spelled in
    subst (λ (b : Body). IsBodyOf version from to kinds.Reply b t) (sym h.after.is) (refl, h.parts ∙ ap (λ (x : List ℕ). x ++ h.back) h.before.is ∙ coded_after answer_code h.first (kind_of_answer h.after.from) h.back (answer_fields version h.after.from) (sym m.0) m.1, (f, omega (arith, g.1), m.2))
body_to version from to kinds.Tick b t f g h = subst (λ (b : Body). IsBodyOf version from to kinds.Tick b t) (sym h.1) (refl, h.0, (omega (arith, f.1), g))
body_to version from to kinds.ProbeNow b t f g h = subst (λ (b : Body). IsBodyOf version from to kinds.ProbeNow b t) (sym h.1) (refl, h.0, (omega (arith, f.1), g))
body_to version from to kinds.Stop b t f g h = subst (λ (b : Body). IsBodyOf version from to kinds.Stop b t) (sym h.1) (refl, h.0, (omega (arith, f.1), g))

-- what holds of a body whose numbers are allowed
record IsFormed (version : Version) (from to : ℕ) (b : Body) : Type 0 where
  from_range : (least_from (kind_of_body b) ≤ from) × (from ≤ most_from (kind_of_body b))
  to_range : (least_to (kind_of_body b) ≤ to) × (to ≤ most_to (kind_of_body b))
  parts : BodyOf version (kind_of_body b) b (fields version b)

body_from : (version : Version) (from to : ℕ) (b : Body) → IsBody version from to b → IsFormed version from to b
body_from version from to (body.Message message) a = record {
  from_range = a.0;
  to_range = a.1;
  parts = record { from = message; spelled = message_from version message a.2; is = refl };
}
body_from version from to (body.Call call) a = record {
  from_range = (omega arith, omega (arith, a.0));
  to_range = a.1;
  parts = record { first = kind_of_call call; front = call_code (kind_of_call call) ∷ []; back = call_fields version call; before = record { is = refl; found = call_found version call a.2 }; after = record { from = call; spelled = call_from version call a.2; is = refl }; parts = refl };
}
body_from version from to (body.Reply answer) a = record {
  from_range = a.0;
  to_range = (omega arith, omega (arith, a.1));
  parts = record { first = kind_of_answer answer; front = answer_code (kind_of_answer answer) ∷ []; back = answer_fields version answer; before = record { is = refl; found = answer_found version answer a.2 }; after = record { from = answer; spelled = answer_from version answer a.2; is = refl }; parts = refl };
}
body_from version from to body.Tick a = record { from_range = (omega arith, omega (arith, a.0)); to_range = a.1; parts = (refl, refl) }
body_from version from to body.ProbeNow a = record { from_range = (omega arith, omega (arith, a.0)); to_range = a.1; parts = (refl, refl) }
body_from version from to body.Stop a = record { from_range = (omega arith, omega (arith, a.0)); to_range = a.1; parts = (refl, refl) }

-- ---- frames

abbrev pub FrameParts : Frame → List ℕ → Type 0
FrameParts =
    Then (IsByteOf (within 86 86)) (λ _. Then (IsByteOf (within 1 2)) (λ v. Then (IsCode frame_code frame_kind) (λ k. Then (IsByteOf (within (least_from k) (most_from k))) (λ from. Then (IsByteOf (within (least_to k) (most_to k))) (λ to. Made (BodyOf (version_of v) k) (frame_in v from to))))))

frame_to : (f : Frame) (t : List ℕ) → FrameParts f t → IsSpelling f t
frame_to f t h =
    let v = h.after in
    let k = v.after in
    let from = k.after in
    let to = from.after in
    let made = to.after in
    let magic = within_to 86 86 h.first h.before.admitted in
    let range = within_to 1 2 v.first v.before.admitted in
    let b = body_to (version_of v.first) from.first to.first k.first made.from to.back (within_to (least_from k.first) (most_from k.first) from.first from.before.admitted) (within_to (least_to k.first) (most_to k.first) to.first to.before.admitted) made.spelled in
    let code : frame_code (kind_of_body made.from) ≡ frame_code k.first = ap frame_code b.0 in
    let first : h.first ≡ 86 = omega (arith, magic.0, magic.1) in
    subst (λ (f : Frame). IsSpelling f t) (sym made.is) (record {
      is = rw (h.parts, h.before.is, v.parts, v.before.is, k.parts, k.before.is, from.parts, from.before.is, to.parts, to.before.is, first, ← code, b.1) refl;
      allowed = (range.0, range.1, b.2);
    })

pub frame_from : (f : Frame) (t : List ℕ) → IsSpelling f t → FrameParts f t
frame_from f t h =
    let v = version_of f.version in
    let b = body_from v f.from f.to f.body h.allowed.2 in
    let k = kind_of_body f.body in
    record {
      first = 86;
      front = 86 ∷ [];
      back = f.version ∷ frame_code (kind_of_body f.body) ∷ f.from ∷ f.to ∷ fields v f.body;
      before = record { is = refl; admitted = refl };
      after = record {
        first = f.version;
        front = f.version ∷ [];
        back = frame_code (kind_of_body f.body) ∷ f.from ∷ f.to ∷ fields v f.body;
        before = record { is = refl; admitted = within_from 1 2 f.version h.allowed.0 h.allowed.1 };
        after = record {
          first = k;
          front = frame_code (kind_of_body f.body) ∷ [];
          back = f.from ∷ f.to ∷ fields v f.body;
          before = record { is = refl; found = frame_found k };
          after = record {
            first = f.from;
            front = f.from ∷ [];
            back = f.to ∷ fields v f.body;
            before = record { is = refl; admitted = within_from (least_from k) (most_from k) f.from b.from_range.0 b.from_range.1 };
            after = record {
              first = f.to;
              front = f.to ∷ [];
              back = fields v f.body;
              before = record { is = refl; admitted = within_from (least_to k) (most_to k) f.to b.to_range.0 b.to_range.1 };
              after = record { from = f.body; spelled = b.parts; is = refl };
              parts = refl;
            };
            parts = refl;
          };
          parts = refl;
        };
        parts = refl;
      };
      parts = h.is;
    }

range_from : (k : FrameKind) → least_from k ≤ most_from k
range_from (kinds.Message kind) = omega arith
range_from kinds.Call = omega arith
range_from kinds.Reply = omega arith
range_from kinds.Tick = omega arith
range_from kinds.ProbeNow = omega arith
range_from kinds.Stop = omega arith

range_to : (k : FrameKind) → least_to k ≤ most_to k
range_to (kinds.Message kind) = omega arith
range_to kinds.Call = omega arith
range_to kinds.Reply = omega arith
range_to kinds.Tick = omega arith
range_to kinds.ProbeNow = omega arith
range_to kinds.Stop = omega arith

pub frame_exact : Exact IsSpelling frame_at
unfolding frame_at
frame_exact =
    exact_as frame_to frame_from
    (free_then byte_free (within_exact 86 86 (omega arith)) (λ _. free_then byte_free (within_exact 1 2 (omega arith)) (λ v. free_then (code_free frame_code frame_kind) (code_exact frame_code frame_kind frame_codes) (λ k.
    free_then byte_free (within_exact (least_from k) (most_from k) (range_from k)) (λ from. free_then byte_free (within_exact (least_to k) (most_to k) (range_to k)) (λ to. made_exact (frame_in v from to) (body_exact (version_of v) k)))))))
