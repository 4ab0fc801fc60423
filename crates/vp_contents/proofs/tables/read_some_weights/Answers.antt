use Rattle.std.proofs.Common.{◌≡◌, ℕ, suc, ◌+◌, ◌-◌, List, [], ◌∷◌, Err, ◌++◌, sym, subst, arith}
use Rattle.std.proofs.lemmas.Result.{err_from_is_err_and}
use Rattle.vp_text.proofs.Repeats.{with_front}
use Rattle.vp_bytes.specs.Reading.{run_at}
use Rattle.vp_contents.specs.Tables.{weight_at}
use Rattle.vp_bytes.proofs.Turns.{run_goes, run_ends, run_fails}
use Rattle.vp_contents.proofs.tables.read_some_weights.Goals as goal

pub loop-left-preserved : goal.loop-left-preserved
loop-left-preserved c =
    let total = run_at (λ weight. weight.0) weight_at c.args.count 1 c.args.cursor.now in
    let left : c.loop-left.left ≡ suc (c.loop-left.left - 1) = omega (arith, c.loop-left-test.true) in
    let so_far = subst (λ (n : ℕ). with_front c.loop-left.shares.items (run_at (λ weight. weight.0) weight_at n c.loop-left.least c.loop-left.cursor) ≡ total) left c.loop-left.invariant.3 in
    let step = run_goes (λ weight. weight.0) weight_at c.loop-left.shares.items (c.loop-left.left - 1) c.loop-left.least c.loop-left.cursor c.in_ok-weight.weight c.read_weight.new.cursor total c.in_ok-weight.ensures.read so_far in
    let least : suc c.in_ok-weight.weight.0 ≡ c.get-least.result + 1 = omega (arith, c.get-least.ensures.value) in
    let items : c.loop-left.shares.items ++ c.in_ok-weight.weight ∷ [] ≡ c.push.new.self.items = sym c.in_ok-push.ensures.items in
    (omega arith, omega (arith, c.loop-left.invariant.1), omega (arith, c.in_ok-weight.ensures.range, c.loop-left-test.true, c.loop-left.invariant.2, c.get-least.ensures.value), subst (λ (xs : List (ℕ × ℕ)). with_front xs (run_at (λ weight. weight.0) weight_at (c.loop-left.left - 1) (c.get-least.result + 1) c.read_weight.new.cursor) ≡ total) items (subst (λ (k : ℕ). with_front (c.loop-left.shares.items ++ c.in_ok-weight.weight ∷ []) (run_at (λ weight. weight.0) weight_at (c.loop-left.left - 1) k c.read_weight.new.cursor) ≡ total) least step))

pub returns : goal.returns
returns c =
    let none : c.loop-left.left ≡ 0 = omega (arith, c.loop-left-test.false) in
    let total = run_at (λ weight. weight.0) weight_at c.args.count 1 c.args.cursor.now in
    let so_far = subst (λ (n : ℕ). with_front c.loop-left.shares.items (run_at (λ weight. weight.0) weight_at n c.loop-left.least c.loop-left.cursor) ≡ total) none c.loop-left.invariant.3 in
    run_ends (λ weight. weight.0) weight_at c.loop-left.shares.items c.loop-left.least c.loop-left.cursor total so_far

pub returns-in_err-weight : goal.returns-in_err-weight
returns-in_err-weight c =
    let total = run_at (λ weight. weight.0) weight_at c.args.count 1 c.args.cursor.now in
    let left : c.loop-left.left ≡ suc (c.loop-left.left - 1) = omega (arith, c.loop-left-test.true) in
    let so_far = subst (λ (n : ℕ). with_front c.loop-left.shares.items (run_at (λ weight. weight.0) weight_at n c.loop-left.least c.loop-left.cursor) ≡ total) left c.loop-left.invariant.3 in
    let fails : (n : ℕ) → weight_at (c.loop-left.left - 1) c.loop-left.least c.loop-left.cursor ≡ Err n → total ≡ Err n = λ n h. run_fails (λ weight. weight.0) weight_at c.loop-left.shares.items (c.loop-left.left - 1) c.loop-left.least c.loop-left.cursor n total h so_far in
    let p = err_from_is_err_and c.from_residual.result c.from_residual.ensures.1 in
    rw (p.1, p.2) (fails c.in_err-weight.field-0.0.left c.in_err-weight.ensures.read)
