use Rattle.std.proofs.Common.{◌∙◌, subst, List, ℕ}
use Rattle.vp_text.specs.Reading.{Reads, number_at, whole}
use Rattle.vp_drawing.proofs.Numbers.{line_number_is}
use Rattle.vp_drawing.proofs.words.line_number.Goals as goal

pub returns : goal.returns
returns c =
    let text = c.new-cursor.ensures ∙ c.as_slice.ensures in
    let read = subst (λ (word : List ℕ). Reads (λ n. n) (λ e. e.left) c.whole_number.result c.whole_number.new.cursor (whole (number_at 1 100000) word)) text c.whole_number.ensures in
    c.ok.ensures.value ∙ line_number_is c.args.word.now _ c.whole_number.result read
