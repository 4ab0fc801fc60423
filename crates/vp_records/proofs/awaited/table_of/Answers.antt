use Rattle.std.proofs.Common.{◌≡◌, ◌∙◌, ◌+◌, ◌∷◌, ◌++◌, [], not, true, ap, sym, subst, take, arith}
use Rattle.std.proofs.lemmas.Bool.Decides.{nat_tests}
use Rattle.std.proofs.lemmas.List.{take_more}
use Rattle.vp_model.specs.Durable.{put_decision}
use Rattle.vp_model.specs.Words.{is_empty, txn_before}
use Rattle.vp_records.specs.Decided.{AreAwaited, IsHighest}
use Rattle.vp_records.proofs.Acknowledged.{awaited_more}
use Rattle.vp_records.proofs.Highest.{highest_last, put_last}
use Rattle.vp_records.proofs.awaited.table_of.Goals as goal

pub loop-decision-preserved : goal.loop-decision-preserved
loop-decision-preserved c =
    let ds = c.args.decisions.now in
    let i = c.loop-decision.decision-index in
    let d = c.decision-item.result in
    let waits : not (is_empty d.waiting) ≡ true = grind (arith, nat_tests, c.follows.ensures, c.if-not-follows.false) in
    let after : txn_before c.loop-decision.highest d.txn ≡ true = grind (arith, nat_tests, c.follows.ensures, c.if-not-follows.false) in
    let before = c.loop-decision.invariant in
    let more : take (i + 1) ds ≡ take i ds ++ d ∷ [] = take_more ds i d c.loop-decision-test.true ∙ ap (λ e. take i ds ++ e ∷ []) (sym c.decision-item.is) in
    let put = c.in_ok-put.ensures.ok ∙ ap (λ e. put_decision e c.loop-decision.table) c.in_ok-copy_of.ensures ∙ ap (put_decision d) before.0 ∙ put_last c.loop-decision.highest d (take i ds) before.2 after in
    (put ∙ sym more, subst AreAwaited (sym more) (awaited_more d (take i ds) before.1 waits), subst (IsHighest d.txn) (sym more) (highest_last c.loop-decision.highest d (take i ds) before.2 after))
