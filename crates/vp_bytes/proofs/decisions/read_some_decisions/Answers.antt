use Rattle.std.proofs.Common.{◌≡◌, ℕ, suc, ◌-◌, List, [], ◌∷◌, Err, ◌++◌, sym, subst, arith}
use Rattle.std.proofs.lemmas.Result.{err_from_is_err_and}
use Rattle.std.proofs.lemmas.Option.{IfSome_then}
use Rattle.vp_text.proofs.Repeats.{with_front}
use Rattle.vp_base.specs.Faults.{line_left}
use Rattle.vp_base.specs.declared.entry.Decision.{Decision}
use Rattle.vp_bytes.specs.Decisions.{decision_at}
use Rattle.vp_bytes.specs.Ranges.{next_rank, rank}
use Rattle.vp_bytes.specs.Reading.{run_at}
use Rattle.vp_bytes.proofs.Turns.{run_goes, run_ends, run_fails}
use Rattle.vp_bytes.proofs.decisions.read_some_decisions.Goals as goal

pub loop-left-preserved : goal.loop-left-preserved
loop-left-preserved c =
    let total = run_at (λ decision. rank decision.txn) decision_at c.args.count 0 c.args.cursor.now in
    let left : c.loop-left.left ≡ suc (c.loop-left.left - 1) = omega (arith, c.loop-left-test.true) in
    let so_far = subst (λ (n : ℕ). with_front c.loop-left.decisions (run_at (λ decision. rank decision.txn) decision_at n (next_rank c.loop-left.last) c.loop-left.cursor) ≡ total) left c.loop-left.invariant.3 in
    let step = run_goes (λ decision. rank decision.txn) decision_at c.loop-left.decisions (c.loop-left.left - 1) (next_rank c.loop-left.last) c.loop-left.cursor c.in_ok-decision.decision c.read_decision.new.cursor total c.in_ok-decision.ensures.read so_far in
    let items : c.loop-left.decisions ++ c.in_ok-decision.decision ∷ [] ≡ c.push.new.self = sym c.in_ok-push.ensures.ok in
    (omega (arith, c.loop-left.invariant.0), c.in_ok-decision.ensures.txn, omega (arith, c.in_ok-decision.ensures.range.1), subst (λ (xs : List Decision). with_front xs (run_at (λ decision. rank decision.txn) decision_at (c.loop-left.left - 1) (suc (rank c.in_ok-decision.decision.txn)) c.read_decision.new.cursor) ≡ total) items step)

pub returns : goal.returns
returns c =
    let none : c.loop-left.left ≡ 0 = omega (arith, c.loop-left-test.false) in
    let total = run_at (λ decision. rank decision.txn) decision_at c.args.count 0 c.args.cursor.now in
    let so_far = subst (λ (n : ℕ). with_front c.loop-left.decisions (run_at (λ decision. rank decision.txn) decision_at n (next_rank c.loop-left.last) c.loop-left.cursor) ≡ total) none c.loop-left.invariant.3 in
    run_ends (λ decision. rank decision.txn) decision_at c.loop-left.decisions (next_rank c.loop-left.last) c.loop-left.cursor total so_far

pub returns-in_err-decision : goal.returns-in_err-decision
returns-in_err-decision c =
    let total = run_at (λ decision. rank decision.txn) decision_at c.args.count 0 c.args.cursor.now in
    let left : c.loop-left.left ≡ suc (c.loop-left.left - 1) = omega (arith, c.loop-left-test.true) in
    let so_far = subst (λ (n : ℕ). with_front c.loop-left.decisions (run_at (λ decision. rank decision.txn) decision_at n (next_rank c.loop-left.last) c.loop-left.cursor) ≡ total) left c.loop-left.invariant.3 in
    let fails : (n : ℕ) → decision_at (c.loop-left.left - 1) (next_rank c.loop-left.last) c.loop-left.cursor ≡ Err n → total ≡ Err n = λ n h. run_fails (λ decision. rank decision.txn) decision_at c.loop-left.decisions (c.loop-left.left - 1) (next_rank c.loop-left.last) c.loop-left.cursor n total h so_far in
    let p = err_from_is_err_and c.from_residual.result c.from_residual.ensures.1 in
    rw (p.1, p.2) (IfSome_then (line_left c.in_err-decision.field-0.0) c.in_err-decision.ensures.read fails)
