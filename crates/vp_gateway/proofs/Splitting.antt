-- The lines of bytes that come one after the other.
use Rattle.std.proofs.Common.{◌≡◌, ◌∙◌, ℕ, ◌<◌, Bool, true, List, [], ◌∷◌, ◌++◌, length, take, map, refl, sym, ap, arith, append_assoc, inl, inr}
use Rattle.std.proofs.lemmas.Bool.{ne_eqb, cases_lt, lt-ltb}
use Rattle.std.proofs.lemmas.List.{take_all, length-take}
use Rattle.vp_text.specs.Documents.{HasNoNewline}
use Rattle.vp_lines.specs.Lines.{Split, with_byte, split}
use Rattle.vp_gateway.specs.declared.asked.LineRequest.{LineRequest}
use Rattle.vp_gateway.specs.Lines.{line_as, whole_lines, last_line, all_lines}

split_plain : (bytes : List ℕ) → HasNoNewline bytes → split bytes ≡ record { lines = []; rest = bytes }
split_plain [] h = refl
split_plain (c ∷ cs) h = rw (ne_eqb c 10 h.0) (ap (λ (s : Split). with_byte c s.lines s.rest) (split_plain cs h.1))

split_line : (line more : List ℕ) → HasNoNewline line → split (line ++ 10 ∷ more) ≡ record { lines = line ∷ (split more).lines; rest = (split more).rest }
split_line [] more h = refl
split_line (c ∷ cs) more h = rw (ne_eqb c 10 h.0) (ap (λ (s : Split). with_byte c s.lines s.rest) (split_line cs more h.1))

-- ---- what the lines ask

abbrev whole_of : Split → List LineRequest
whole_of s = map (λ (line : List ℕ). line_as true line) s.lines

pub none_whole : (bytes : List ℕ) → HasNoNewline bytes → whole_lines bytes ≡ []
none_whole bytes h = ap whole_of (split_plain bytes h)

pub last_alone : (bytes : List ℕ) → HasNoNewline bytes → all_lines bytes ≡ last_line bytes
last_alone bytes h = ap (λ (s : Split). whole_of s ++ last_line s.rest) (split_plain bytes h)

-- These bytes are whole lines that ask this, and what comes after them is after these lines.
pub record Asks (front : List ℕ) (done : List LineRequest) : Type 0 where
  pub whole : (more : List ℕ) → whole_lines (front ++ more) ≡ done ++ whole_lines more
  pub all : (more : List ℕ) → all_lines (front ++ more) ≡ done ++ all_lines more

pub asks_none : Asks [] []
asks_none = record { whole = λ more. refl; all = λ more. refl }

pub asks_more : (front : List ℕ) (done : List LineRequest) (line : List ℕ) → HasNoNewline line → Asks front done → Asks (front ++ (line ++ 10 ∷ [])) (done ++ line_as true line ∷ [])
asks_more front done line plain h = record {
  whole = λ more. ap whole_lines (joined more) ∙ h.whole (line ++ 10 ∷ more) ∙ ap (λ (s : Split). done ++ whole_of s) (split_line line more plain) ∙ sym (append_assoc done (line_as true line ∷ []) (whole_lines more));
  all = λ more.
      ap all_lines (joined more) ∙ h.all (line ++ 10 ∷ more) ∙ ap (λ (s : Split). done ++ (whole_of s ++ last_line s.rest)) (split_line line more plain)
      ∙ sym (append_assoc done (line_as true line ∷ []) (all_lines more));
}
  where
    joined : (more : List ℕ) → (front ++ (line ++ 10 ∷ [])) ++ more ≡ front ++ (line ++ 10 ∷ more)
    joined more = append_assoc front (line ++ 10 ∷ []) more ∙ ap (λ (l : List ℕ). front ++ l) (append_assoc line (10 ∷ []) more)

-- the front of a long line is enough
pub kept_as : (newline : Bool) (line : List ℕ) → line_as newline (take 4097 line) ≡ line_as newline line
kept_as newline line = elim (cases_lt 4096 (length line)) [
  | inl lt ↦
      let long : 4096 < length (take 4097 line) = omega (arith, length-take 4097 line, lt) in
      rw (lt-ltb 4096 (length line) lt, lt-ltb 4096 (length (take 4097 line)) long) refl
  | inr le ↦ ap (line_as newline) (take_all 4097 line (omega (arith, le)))
]
