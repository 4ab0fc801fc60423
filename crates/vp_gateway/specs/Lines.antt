-- The lines of a stream, and what each asks. It depends on the bytes alone, and not on how they came in parts.
use Rattle.std.specs.Prelude.{⊤, ℕ, ◌+◌, ◌-◌, Bool, true, false, nat_lt, if◌then◌else◌, List, [], ◌∷◌, ◌++◌, length, map, codes, Option, Some, None, Result, Ok, Err}
use Rattle.std.specs.Fmt.{decimal}
use Rattle.vp_text.specs.Reading.{whole}
use Rattle.vp_base.specs.Calls.{IsCall}
use Rattle.vp_model.specs.Types.{Answer, Call}
use Rattle.vp_model.specs.Texts.Answers.{answer_text}
use Rattle.vp_lines.specs.Lines.{split}
use Rattle.vp_schedule.specs.Reading.{call_at}
use Rattle.vp_gateway.specs.declared.asked.LineRequest.{LineRequest}
use Rattle.vp_gateway.specs.declared.asked.LineRequest.TheVariants as asked

-- ---- what a line asks

-- what a line of so many bytes asks, by the result of reading it as a call
abbrev pub read_as : Bool → ℕ → Result (Call × List ℕ) ℕ → LineRequest
read_as true size (Ok read) = asked.Call read.0
read_as false size (Ok read) = asked.Bad (size + 1)
read_as newline size (Err left) = asked.Bad (size - left + 1)

-- A line asks a call if its newline has come and it isn't long.
abbrev pub line_as : Bool → List ℕ → LineRequest
line_as newline line = if nat_lt 4096 (length line) then asked.Long else read_as newline (length line) (whole call_at line)

-- a call that may be sent, if it is a call
abbrev pub AsksCall : LineRequest → Type 0
AsksCall (asked.Call words) = IsCall words
AsksCall (asked.Bad at) = ⊤
AsksCall asked.Long = ⊤

-- ---- the lines of a stream

-- the lines whose newline is there
abbrev pub whole_lines : List ℕ → List LineRequest
whole_lines bytes = map (λ (line : List ℕ). line_as true line) (split bytes).lines

-- and, at the end, what comes after the last newline, if anything does
abbrev pub last_line : List ℕ → List LineRequest
last_line [] = []
last_line (c ∷ cs) = line_as false (c ∷ cs) ∷ []

abbrev pub all_lines : List ℕ → List LineRequest
all_lines bytes = whole_lines bytes ++ last_line (split bytes).rest

-- ---- what is answered

abbrev pub said_line : Option Answer → List ℕ
said_line (Some a) = answer_text a ++ 10 ∷ []
said_line None = codes "no answer\n"

abbrev pub bad_line : ℕ → List ℕ
bad_line at = codes "bad at " ++ decimal at ++ 10 ∷ []

abbrev pub long_line : List ℕ
long_line = codes "long\n"
