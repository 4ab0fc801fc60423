-- Passing over lines.
use Rattle.std.proofs.Common.{◌≡◌, ℕ, suc, ◌+◌, ◌≤◌, ◌<◌, List, [], ◌∷◌, ◌++◌, length, take, drop, refl, sym, ap, subst, ◌∙◌, arith, append_assoc, Ok, Err, inl, inr}
use Rattle.std.proofs.lemmas.List.{length-append, take-append-drop, length-drop}
use Rattle.vp_text.specs.Reading.{literal_at}
use Rattle.vp_text.proofs.Words.{literal_exact}
use Rattle.vp_text.proofs.Exact.{Apart, at_err}
use Rattle.vp_text.specs.Documents.{IsLine, IsFaultyLine}
use Rattle.vp_onecopy.specs.History.{empty, after, Allowed, Onward, NamesAgain, Answered}
use Rattle.vp_onecopy.specs.declared.fault.HistoryFault.TheVariants as faults
use Rattle.vp_onecopy.proofs.Steps.{lines_le}
use Rattle.vp_onecopy.specs.Passing.{history_line, Passed, Passes}

pub record PassedSoFar (old new : List ℕ) (n : ℕ) : Type 0 where
  pub front : List ℕ
  pub passed : Passed n front
  pub parts : old ≡ front ++ new
  pub bound : n + length new ≤ length old

pub read_line : (old new rest : List ℕ) (n : ℕ) → PassedSoFar old new n → literal_at history_line new ≡ Ok (tt, rest) → Passes old rest (Ok n)
read_line old new rest n s e =
    let p = (literal_exact history_line).ok new tt rest e in
    (s.front, s.passed, s.parts ∙ ap (λ (x : List ℕ). s.front ++ x) (p.parts ∙ ap (λ (x : List ℕ). x ++ rest) p.spelled))

apart_none : (s r : List ℕ) → history_line ++ s ≡ history_line → Apart s r
apart_none [] r h = tt
apart_none (c ∷ s) r h = absurd (omega (arith, ap length h, length-append history_line (c ∷ s)))

not_history : (new : List ℕ) (left : ℕ) (r : List ℕ) → literal_at history_line new ≡ Err left → new ≡ history_line ++ r → ⊥
not_history new left r e h =
    let again : literal_at history_line (history_line ++ r) ≡ Ok (tt, r) = (literal_exact history_line).again tt history_line r refl (λ b s l. apart_none s r l) in
    at_err (literal_at history_line new) (tt, r) left (ap (literal_at history_line) h ∙ again) e

pub pass_line : (old new : List ℕ) (n size left : ℕ) → PassedSoFar old new n → literal_at history_line new ≡ Err left → 0 < size → size ≤ length new → IsLine (take size new) → PassedSoFar old (drop size new) (n + 1)
pass_line old new n size left s e some le line =
    let whole : new ≡ take size new ++ drop size new = sym (take-append-drop size new) in
    let step : suc n ≡ n + 1 = omega arith in
    subst (PassedSoFar old (drop size new)) step (record {
      front = s.front ++ take size new;
      passed = (s.front, take size new, s.passed, line, λ h. not_history new left (drop size new) e (whole ∙ ap (λ (x : List ℕ). x ++ drop size new) h), refl);
      parts = s.parts ∙ ap (λ (x : List ℕ). s.front ++ x) whole ∙ sym (append_assoc s.front (take size new) (drop size new));
      bound = omega (arith, s.bound, length-drop size new);
    })

pub read_shorter : (new rest : List ℕ) → literal_at history_line new ≡ Ok (tt, rest) → length rest ≤ length new
read_shorter new rest e =
    let p = (literal_exact history_line).ok new tt rest e in
    omega (arith, ap length p.parts, length-append p.text rest)

-- ---- how many lines there can be

pub bad_le : (text : List ℕ) (line at : ℕ) → Answered text (Err (faults.BadLine line at)) → line ≤ length text + 2
bad_le text line at a =
    elim a [
      | inl b ↦ omega (arith, lines_le b.lines b.front b.lines_are, ap length b.parts, length-append b.front b.rest, b.number)
      | inr b ↦ omega (arith, lines_le b.lines b.front b.lines_are, ap length b.parts, length-append b.front (b.last ++ b.rest), b.number)
    ]

pub twice_le : (text : List ℕ) (line : ℕ) → IsFaultyLine empty after Allowed Onward NamesAgain text line → line ≤ length text + 2
twice_le text line b = omega (arith, lines_le b.lines b.front b.lines_are, ap length b.parts, length-append b.front (b.faulty ++ b.rest), b.number)
