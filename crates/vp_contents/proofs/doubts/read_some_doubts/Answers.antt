use Rattle.std.proofs.Common.{◌≡◌, ℕ, suc, ◌-◌, List, [], ◌∷◌, Err, ◌++◌, sym, subst, arith}
use Rattle.std.proofs.lemmas.Result.{err_from_is_err_and}
use Rattle.std.proofs.lemmas.Option.{IfSome_then}
use Rattle.vp_text.proofs.Repeats.{with_front}
use Rattle.vp_base.specs.Faults.{line_left}
use Rattle.vp_base.specs.declared.entry.Doubt.{Doubt}
use Rattle.vp_contents.specs.Doubts.{doubt_at}
use Rattle.vp_bytes.specs.Ranges.{next_rank, rank}
use Rattle.vp_bytes.specs.Reading.{run_at}
use Rattle.vp_bytes.proofs.Turns.{run_goes, run_ends, run_fails}
use Rattle.vp_contents.proofs.doubts.read_some_doubts.Goals as goal

pub loop-left-preserved : goal.loop-left-preserved
loop-left-preserved c =
    let total = run_at (λ doubt. rank doubt.txn) (doubt_at c.args.version) c.args.count 0 c.args.cursor.now in
    let left : c.loop-left.left ≡ suc (c.loop-left.left - 1) = omega (arith, c.loop-left-test.true) in
    let so_far = subst (λ (n : ℕ). with_front c.loop-left.doubts (run_at (λ doubt. rank doubt.txn) (doubt_at c.args.version) n (next_rank c.loop-left.last) c.loop-left.cursor) ≡ total) left c.loop-left.invariant.3 in
    let step = run_goes (λ doubt. rank doubt.txn) (doubt_at c.args.version) c.loop-left.doubts (c.loop-left.left - 1) (next_rank c.loop-left.last) c.loop-left.cursor c.in_ok-doubt.doubt c.read_doubt.new.cursor total c.in_ok-doubt.ensures.read so_far in
    let items : c.loop-left.doubts ++ c.in_ok-doubt.doubt ∷ [] ≡ c.push.new.self = sym c.in_ok-push.ensures.ok in
    (omega (arith, c.loop-left.invariant.0), c.in_ok-doubt.ensures.txn, omega (arith, c.in_ok-doubt.ensures.range.1), subst (λ (xs : List Doubt). with_front xs (run_at (λ doubt. rank doubt.txn) (doubt_at c.args.version) (c.loop-left.left - 1) (suc (rank c.in_ok-doubt.doubt.txn)) c.read_doubt.new.cursor) ≡ total) items step)

pub returns : goal.returns
returns c =
    let none : c.loop-left.left ≡ 0 = omega (arith, c.loop-left-test.false) in
    let total = run_at (λ doubt. rank doubt.txn) (doubt_at c.args.version) c.args.count 0 c.args.cursor.now in
    let so_far = subst (λ (n : ℕ). with_front c.loop-left.doubts (run_at (λ doubt. rank doubt.txn) (doubt_at c.args.version) n (next_rank c.loop-left.last) c.loop-left.cursor) ≡ total) none c.loop-left.invariant.3 in
    run_ends (λ doubt. rank doubt.txn) (doubt_at c.args.version) c.loop-left.doubts (next_rank c.loop-left.last) c.loop-left.cursor total so_far

pub returns-in_err-doubt : goal.returns-in_err-doubt
returns-in_err-doubt c =
    let total = run_at (λ doubt. rank doubt.txn) (doubt_at c.args.version) c.args.count 0 c.args.cursor.now in
    let left : c.loop-left.left ≡ suc (c.loop-left.left - 1) = omega (arith, c.loop-left-test.true) in
    let so_far = subst (λ (n : ℕ). with_front c.loop-left.doubts (run_at (λ doubt. rank doubt.txn) (doubt_at c.args.version) n (next_rank c.loop-left.last) c.loop-left.cursor) ≡ total) left c.loop-left.invariant.3 in
    let fails : (n : ℕ) → (doubt_at c.args.version) (c.loop-left.left - 1) (next_rank c.loop-left.last) c.loop-left.cursor ≡ Err n → total ≡ Err n = λ n h. run_fails (λ doubt. rank doubt.txn) (doubt_at c.args.version) c.loop-left.doubts (c.loop-left.left - 1) (next_rank c.loop-left.last) c.loop-left.cursor n total h so_far in
    let p = err_from_is_err_and c.from_residual.result c.from_residual.ensures.1 in
    rw (p.1, p.2) (IfSome_then (line_left c.in_err-doubt.field-0.0) c.in_err-doubt.ensures.read fails)
