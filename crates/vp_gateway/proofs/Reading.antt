-- What a line asks, by the result of reading it as a call.
use Rattle.std.proofs.Common.{◌≡◌, ◌∙◌, ℕ, ◌+◌, ◌-◌, ◌≤◌, Bool, true, false, List, length, refl, ap, arith, Result, Ok, Err}
use Rattle.std.proofs.lemmas.Bool.{lt-ltb, le-ltb}
use Rattle.vp_text.specs.Meaning.{IsRefused}
use Rattle.vp_text.specs.Reading.{whole}
use Rattle.vp_text.proofs.Exact.{one_value}
use Rattle.vp_text.proofs.Whole.{whole_ok, whole_err}
use Rattle.vp_text.proofs.Determined.{longest_same}
use Rattle.vp_model.specs.Types.{Call}
use Rattle.vp_schedule.specs.Grammar.{IsCallText}
use Rattle.vp_schedule.specs.Reading.{call_at}
use Rattle.vp_schedule.proofs.Exact.{call_exact}
use Rattle.vp_gateway.specs.declared.asked.LineRequest.TheVariants as asked
use Rattle.vp_gateway.specs.Lines.{read_as, line_as}

pub long_as : (newline : Bool) (line : List ℕ) → 4097 ≤ length line → line_as newline line ≡ asked.Long
long_as newline line le = rw (lt-ltb 4096 (length line) (omega (arith, le))) refl

short_as : (newline : Bool) (line : List ℕ) → length line ≤ 4096 → line_as newline line ≡ read_as newline (length line) (whole call_at line)
short_as newline line le = rw (le-ltb 4096 (length line) le) refl

read_call : (line : List ℕ) (words : Call) → IsCallText words line → (read : Call × List ℕ) × (whole call_at line ≡ Ok read) × (read.0 ≡ words)
read_call line words h = at (whole call_at line) refl
  where
    at : (r : Result (Call × List ℕ) ℕ) → whole call_at line ≡ r → (read : Call × List ℕ) × (whole call_at line ≡ Ok read) × (read.0 ≡ words)
    at (Ok read) e = (read, e, one_value call_exact read.0 words line (whole_ok call_exact line read.0 read.1 e) h)
    at (Err left) e = absurd ((whole_err call_exact line left e).1.none words h)

pub call_as : (line : List ℕ) (words : Call) → length line ≤ 4096 → IsCallText words line → line_as true line ≡ asked.Call words
call_as line words le h =
    let it = read_call line words h in
    short_as true line le ∙ ap (read_as true (length line)) it.1 ∙ ap (λ (w : Call). asked.Call w) it.2

pub unended_as : (line : List ℕ) (words : Call) → length line ≤ 4096 → IsCallText words line → line_as false line ≡ asked.Bad (length line + 1)
unended_as line words le h =
    let it = read_call line words h in
    short_as false line le ∙ ap (read_as false (length line)) it.1

pub bad_as : (newline : Bool) (line : List ℕ) (at : ℕ) → length line ≤ 4096 → IsRefused IsCallText line at → line_as newline line ≡ asked.Bad (at + 1)
bad_as newline line at le h = short_as newline line le ∙ by (whole call_at line) refl
  where
    refused : (newline : Bool) (left : ℕ) → length line - left ≡ at → read_as newline (length line) (Err left) ≡ asked.Bad (at + 1)
    refused true left e = ap (λ n. asked.Bad (n + 1)) e
    refused false left e = ap (λ n. asked.Bad (n + 1)) e

    by : (r : Result (Call × List ℕ) ℕ) → whole call_at line ≡ r → read_as newline (length line) (whole call_at line) ≡ asked.Bad (at + 1)
    by (Ok read) e = absurd (h.none read.0 (whole_ok call_exact line read.0 read.1 e))
    by (Err left) e = ap (read_as newline (length line)) e ∙ refused newline left (longest_same line (length line - left) at (whole_err call_exact line left e).1.longest h.longest)
