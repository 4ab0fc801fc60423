use Rattle.vp_text.proofs.Printing.{begun_err}
use Rattle.vp_model.specs.Texts.Trace.{commit_line}
use Rattle.vp_catalog.proofs.Printed.{all_items, item_begun, item_after}
use Rattle.vp_trace.proofs.trace.print_commits.Goals as goal

pub loop-commit-preserved : goal.loop-commit-preserved
loop-commit-preserved c = item_after commit_line c.args.commits.now c.loop-commit.commit-index c.commit-item.result _ _ _ c.loop-commit-test.true c.commit-item.is c.loop-commit.invariant c.in_ok-print_commit.ensures.whole

pub returns-in_err-print_commit : goal.returns-in_err-print_commit
returns-in_err-print_commit c = item_begun commit_line c.args.commits.now c.loop-commit.commit-index _ c.commit-item.result _ _ _ c.loop-commit-test.true c.commit-item.is c.loop-commit.invariant c.from_residual.ensures.0 (begun_err _ _ _ _ c.from_residual.ensures.0 c.print_commit.ensures.begun)

pub returns : goal.returns
returns c = all_items commit_line c.args.commits.now c.loop-commit.commit-index _ _ c.loop-commit-test.false c.loop-commit.invariant
