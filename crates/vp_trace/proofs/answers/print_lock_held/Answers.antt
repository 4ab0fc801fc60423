use Rattle.std.proofs.Common.{[], ◌++◌, ◌∷◌}
use Rattle.std.specs.Fmt.{decimal}
use Rattle.std.specs.Prelude.{codes}
use Rattle.vp_model.specs.Texts.Answers.{numbered_text}
use Rattle.vp_catalog.proofs.Printed.{following, none_of, within}
use Rattle.vp_trace.proofs.answers.print_lock_held.Goals as goal

pub returns-in_err-print_numbered : goal.returns-in_err-print_numbered
returns-in_err-print_numbered c = within _ _ (numbered_text (codes "lockheld ") c.args.txn.now c.args.number) _ _ c.from_residual.ensures.0 c.print_numbered.ensures.begun

pub returns-in_err-push : goal.returns-in_err-push
returns-in_err-push c = following _ _ (numbered_text (codes "lockheld ") c.args.txn.now c.args.number) _ _ _ c.in_ok-print_numbered.ensures.whole (none_of _ _ _ _ c.from_residual-in_err-push.ensures.0 c.in_err-push.ensures.items)

pub returns-in_err-print : goal.returns-in_err-print
returns-in_err-print c = following _ _ (numbered_text (codes "lockheld ") c.args.txn.now c.args.number) _ _ _ c.in_ok-print_numbered.ensures.whole (following _ _ (32 ∷ []) _ _ _ c.in_ok-push.ensures.items (none_of _ _ _ _ c.from_residual-in_err-print.ensures.0 c.in_err-print.ensures.err))

pub returns-in_err-print_site : goal.returns-in_err-print_site
returns-in_err-print_site c = following _ _ (numbered_text (codes "lockheld ") c.args.txn.now c.args.number) _ _ _ c.in_ok-print_numbered.ensures.whole (following _ _ (32 ∷ []) _ _ _ c.in_ok-push.ensures.items (following _ _ c.args.name.now _ _ _ c.in_ok-print.ensures.ok (within _ _ (codes " at " ++ decimal c.args.at) _ _ c.from_residual-in_err-print_site.ensures.0 c.print_site.ensures.begun)))

pub returns-in_err-print_word : goal.returns-in_err-print_word
returns-in_err-print_word c = following _ _ (numbered_text (codes "lockheld ") c.args.txn.now c.args.number) _ _ _ c.in_ok-print_numbered.ensures.whole (following _ _ (32 ∷ []) _ _ _ c.in_ok-push.ensures.items (following _ _ c.args.name.now _ _ _ c.in_ok-print.ensures.ok (following _ _ (codes " at " ++ decimal c.args.at) _ _ _ c.in_ok-print_site.ensures.whole (none_of _ _ _ _ c.from_residual-in_err-print_word.ensures.0 c.in_err-print_word.ensures.err))))

pub returns : goal.returns
returns c = following _ _ (numbered_text (codes "lockheld ") c.args.txn.now c.args.number) _ _ _ c.in_ok-print_numbered.ensures.whole (following _ _ (32 ∷ []) _ _ _ c.in_ok-push.ensures.items (following _ _ c.args.name.now _ _ _ c.in_ok-print.ensures.ok (following _ _ (codes " at " ++ decimal c.args.at) _ _ _ c.in_ok-print_site.ensures.whole (following _ _ (codes " by ") _ _ _ c.in_ok-print_word.ensures.ok c.print_owner.ensures))))
