use Rattle.std.proofs.Common.{◌≡◌, ◌∙◌, ◌||◌, ap, ap₂, true, false}
use Rattle.clap.specs.Words.{Rule, rule_of}
use Rattle.vp_words.specs.Parsed.{required_rule}
use Rattle.vp_words.proofs.Apps.{operand_added}
use Rattle.vp_words.proofs.words.taking.Goals as goal

pub loop-operand-preserved : goal.loop-operand-preserved
loop-operand-preserved c =
    let adds = c.in_ok-command.ensures in
    let local : c.required.result.global ≡ false = ap (λ a. a.global) c.required.ensures ∙ c.new.ensures.optional.1 in
    let rule : rule_of c.required.result ≡ required_rule _ = ap rule_of c.required.ensures ∙ ap (λ (r : Rule). record r { required = true }) c.new.ensures.rule in (
      operand_added _ _ _ _ c.args.operands.now c.loop-operand.operand-index _ c.loop-operand-test.true c.loop-operand.invariant.0 (adds.shape local) rule,
      adds.globals ∙ ap₂ (λ a b. a || b) c.loop-operand.invariant.1 local,
    )
