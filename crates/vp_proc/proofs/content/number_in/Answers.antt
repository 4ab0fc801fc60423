use Rattle.std.proofs.Common.{◌∙◌, List, ℕ, subst}
use Rattle.vp_text.specs.Reading.{Reads, number_at, whole}
use Rattle.vp_proc.specs.Scripts.{greatest}
use Rattle.vp_proc.proofs.Numbers.{number_read}
use Rattle.vp_proc.proofs.content.number_in.Goals as goal

pub returns-in-Some : goal.returns-in-Some
returns-in-Some c =
    let text = c.new-cursor.ensures ∙ c.as_bytes.ensures.bytes in
    let read = subst (λ (t : List ℕ). Reads (λ n. n) (λ e. e.left) c.parse_whole_number.result c.parse_whole_number.new.cursor (whole (number_at 0 greatest) t)) text c.parse_whole_number.ensures in
    rw c.in-Some.is (c.ok.ensures.value ∙ number_read c.in-Some.value c.parse_whole_number.new.cursor c.parse_whole_number.result read)
