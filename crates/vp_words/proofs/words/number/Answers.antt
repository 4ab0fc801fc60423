use Rattle.std.proofs.Common.{◌∙◌, ◌≤◌, arith, subst, sym, List, Option, ℕ}
use Rattle.std.specs.Option.{IfSome}
use Rattle.vp_text.specs.Reading.{Reads, whole, number_at}
use Rattle.vp_words.proofs.Numbers.{number_ok, some_in}
use Rattle.vp_words.proofs.words.number.Goals as goal

pub returns-clause-number : goal.returns-clause-number
returns-clause-number c =
    let text = c.new-cursor.ensures ∙ c.as_bytes.ensures.value in
    let read = subst (λ (word : List ℕ). Reads (λ n. n) (λ e. e.left) c.whole_number.result c.whole_number.new.cursor (whole (number_at c.args.least c.args.most) word)) text c.whole_number.ensures.read in
    c.ok.ensures.value ∙ number_ok c.args.least c.args.most c.args.text.now _ c.whole_number.result c.requires (omega (arith, c.ranges.most)) read

pub returns-clause-range : goal.returns-clause-range
returns-clause-range c =
    subst (λ (o : Option ℕ). IfSome o (λ n. (c.args.least ≤ n) × (n ≤ c.args.most))) (sym c.ok.ensures.value)
    (some_in (λ n. (c.args.least ≤ n) × (n ≤ c.args.most)) c.whole_number.result c.whole_number.ensures.range)
