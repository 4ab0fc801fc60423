-- Recorded frames as nodes send them.
use Rattle.std.proofs.Common.{◌≡◌, ◌≢◌, ◌∙◌, ap, sym, subst, ℕ, ◌≤◌, false, List, Result, Ok, Err, refl, arith}
use Rattle.std.specs.Prelude.{Some, ◌==◌}
use Rattle.std.proofs.lemmas.Bool.{false≢true}
use Rattle.vp_text.specs.Meaning.{Answers}
use Rattle.vp_contents.specs.Versions.{version_of}
use Rattle.vp_wire.specs.declared.frame.Frame.{Frame}
use Rattle.vp_wire.specs.Decoded.{read_frame}
use Rattle.vp_wire.specs.Grammar.{IsFrame, IsSpelling, frame_bytes, frame_in, frame_of}
use Rattle.vp_wire.proofs.Decoded.{bytes_are_read}
use Rattle.vp_wire.proofs.Later.{body_later}
use Rattle.vp_merge.specs.Numbers.{as_sent, sent_again}
use Rattle.vp_merge.specs.SentFrames.{is_read_only}

-- what can be said in one of the versions can be said in the second
pub sent_form : (f : Frame) → IsFrame f → IsFrame (frame_of f.from f.to f.body)
sent_form f h = (omega arith, omega arith, body_later (version_of f.version) f.from f.to f.body h.2)

not_one : (v : ℕ) → (v == 1) ≡ false → v ≢ 1
not_one v other is = false≢true (sym other ∙ ap (λ (n : ℕ). n == 1) is)

second_of : (v : ℕ) → 1 ≤ v → v ≤ 2 → (v == 1) ≡ false → v ≡ 2
second_of v least most other = let differs = not_one v other in omega (arith, least, most, differs)

-- bytes of no such version are sent as they are
pub stays : (bytes : List ℕ) → is_read_only bytes ≡ false → as_sent bytes ≡ bytes
unfolding as_sent
stays bytes e = go (read_frame bytes) (bytes_are_read bytes)
  where
    go : (read : Result Frame ℕ) → Answers IsSpelling (λ (f : Frame). f) (λ (at : ℕ). Some at) bytes read → sent_again read bytes ≡ bytes
    go (Ok f) a =
        let not_first : (f.version == 1) ≡ false = subst (λ (b : List ℕ). is_read_only b ≡ false) a.is e in
        let second : f.version ≡ 2 = second_of f.version a.allowed.0 a.allowed.1 not_first in
        ap (λ (v : ℕ). frame_bytes (frame_in v f.from f.to f.body)) (sym second) ∙ sym a.is
    go (Err at) a = refl

-- a frame of the first version is sent as one of the second
pub later : (bytes : List ℕ) (f : Frame) → read_frame bytes ≡ Ok f → as_sent bytes ≡ frame_bytes (frame_of f.from f.to f.body)
unfolding as_sent
later bytes f e = ap (λ (read : Result Frame ℕ). sent_again read bytes) e

-- bytes that are no frame are sent as they are
pub no_frame : (bytes : List ℕ) (at : ℕ) → read_frame bytes ≡ Err at → as_sent bytes ≡ bytes
unfolding as_sent
no_frame bytes at e = ap (λ (read : Result Frame ℕ). sent_again read bytes) e
