-- The answer in some bytes, by what decoding reads in them.
use Rattle.std.proofs.Common.{◌≡◌, ℕ, ◌∙◌, true, false, List, refl, Ok, Err, if◌then◌else◌, ◌==◌}
use Rattle.std.specs.Prelude.{None}
use Rattle.vp_text.specs.Meaning.{Answers}
use Rattle.vp_model.specs.Types.{Call}
use Rattle.vp_runs.specs.Asking.{answer_in, answer_of}
use Rattle.vp_wire.specs.declared.frame.Frame.{Frame}
use Rattle.vp_wire.specs.declared.fault.WireFault.TheVariants as faults
use Rattle.vp_wire.specs.Decoded.{read_frame}
use Rattle.vp_wire.specs.Faults.{wire_place}
use Rattle.vp_wire.specs.Grammar.{IsSpelling}
use Rattle.vp_wire.proofs.Decoded.{answers_are_read}
use Rattle.vp_laws.proofs.Lists.Numbers.{eq_self}

in_frame : (port site : ℕ) (words : Call) (bytes : List ℕ) (f : Frame) → IsSpelling f bytes
    → answer_of port site words (record { port = port; bytes = bytes }) ≡ (if f.from == site then answer_in words f.body else None)
unfolding answer_of
in_frame port site words bytes f h = let e : read_frame bytes ≡ Ok f = answers_are_read bytes (Ok f) h in rw (eq_self port, e) refl

pub found_in : (port site : ℕ) (words : Call) (bytes : List ℕ) (f : Frame) → IsSpelling f bytes → (f.from == site) ≡ true
    → answer_of port site words (record { port = port; bytes = bytes }) ≡ answer_in words f.body
found_in port site words bytes f h e = in_frame port site words bytes f h ∙ rw e refl

pub stray_in : (port site : ℕ) (words : Call) (bytes : List ℕ) (f : Frame) → IsSpelling f bytes → (f.from == site) ≡ false
    → answer_of port site words (record { port = port; bytes = bytes }) ≡ None
stray_in port site words bytes f h e = in_frame port site words bytes f h ∙ rw e refl

pub bad_in : (port site : ℕ) (words : Call) (bytes : List ℕ) (at : ℕ) → Answers IsSpelling (λ (f : Frame). f) wire_place bytes (Err (faults.BadFrame at))
    → answer_of port site words (record { port = port; bytes = bytes }) ≡ None
unfolding answer_of
bad_in port site words bytes at h = let e : read_frame bytes ≡ Err at = answers_are_read bytes (Err (faults.BadFrame at)) h in rw (eq_self port, e) refl
