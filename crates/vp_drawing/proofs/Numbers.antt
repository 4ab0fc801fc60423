-- The number of an event line that a word is.
use Rattle.std.proofs.Common.{◌≡◌, ℕ, List, sym, ap}
use Rattle.std.specs.Prelude.{option_map, Result, Ok, Err}
use Rattle.std.specs.Result.{result_ok}
use Rattle.vp_text.specs.Reading.{Reads, number_at, whole}
use Rattle.vp_text.specs.declared.cursor.Unexpected.{Unexpected}
use Rattle.vp_drawing.specs.Words.{line_number, read_or_none}

pub line_number_is : (word after : List ℕ) (r : Result ℕ Unexpected) → Reads (λ n. n) (λ e. e.left) r after (whole (number_at 1 100000) word) → result_ok r ≡ line_number word
line_number_is word after (Ok n) read = sym (ap (λ it. option_map (λ (read : ℕ × List ℕ). read.0) (read_or_none it)) read)
line_number_is word after (Err e) read = sym (ap (λ it. option_map (λ (read : ℕ × List ℕ). read.0) (read_or_none it)) read)
