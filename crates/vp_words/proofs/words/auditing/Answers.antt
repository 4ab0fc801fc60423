use Rattle.std.proofs.Common.{◌≡◌, ◌∙◌, ap, ap₂, codes, false, true}
use Rattle.std.specs.Prelude.{Option}
use Rattle.std.proofs.lemmas.Result.{IfOk-weaker}
use Rattle.clap.specs.Words.{Rule, rule_of, with_rule}
use Rattle.clap.specs.declared.builder.range.ValueRange.{ValueRange}
use Rattle.vp_words.specs.Parsed.{pairs_rule, required_rule}
use Rattle.vp_words.proofs.Pairs.{counts_from, some_range}
use Rattle.vp_words.proofs.words.auditing.Goals as goal

pub returns-clause-app : goal.returns-clause-app
returns-clause-app c =
    let counted = c.num_args-pairs.ensures in
    let local : c.num_args-pairs.result.global ≡ false = ap (λ a. a.global) counted.0 ∙ ap (λ a. a.global) c.required.ensures ∙ c.new.ensures.optional.1 in
    let required : rule_of c.required.result ≡ required_rule (codes "PAIRS") = ap rule_of c.required.ensures ∙ ap (λ (r : Rule). record r { required = true }) c.new.ensures.rule in
    let range = some_range _ _ counted.1 ∙ ap₂ counts_from c.new-2.ensures.start c.new-2.ensures.end in
    let rule : rule_of c.num_args-pairs.result ≡ pairs_rule = ap rule_of counted.0 ∙ ap₂ (λ (r : Rule) (range : Option ValueRange). record r { range = range }) required range in
    IfOk-weaker c.arg.result _ _ (λ r adds. adds.shape local ∙ ap₂ with_rule c.new-3.ensures.app rule) c.arg.ensures
