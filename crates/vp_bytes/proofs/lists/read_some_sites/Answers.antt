use Rattle.std.proofs.Common.{◌≡◌, ℕ, suc, ◌+◌, ◌-◌, List, [], ◌∷◌, Err, ◌++◌, sym, ap, subst, ◌∙◌, arith}
use Rattle.std.proofs.lemmas.Result.{err_from_is_err_and}
use Rattle.vp_text.proofs.Repeats.{with_front}
use Rattle.vp_bytes.specs.Reading.{ascending_at, run_at}
use Rattle.vp_bytes.proofs.Turns.{run_goes, run_ends, run_fails}
use Rattle.vp_bytes.proofs.lists.read_some_sites.Goals as goal

pub loop-left-preserved : goal.loop-left-preserved
loop-left-preserved c =
    let total = run_at (λ c. c) (ascending_at 16) c.args.count 1 c.args.cursor.now in
    let left : c.loop-left.left ≡ suc (c.loop-left.left - 1) = omega (arith, c.loop-left-test.true) in
    let so_far = subst (λ (n : ℕ). with_front c.loop-left.sites (run_at (λ c. c) (ascending_at 16) n c.loop-left.least c.loop-left.cursor) ≡ total) left c.loop-left.invariant.3 in
    let step = run_goes (λ c. c) (ascending_at 16) c.loop-left.sites (c.loop-left.left - 1) c.loop-left.least c.loop-left.cursor c.in_ok-site.site c.read_byte.new.cursor total c.in_ok-site.ensures.read so_far in
    let least : suc c.in_ok-site.site ≡ c.in_ok-site.site + 1 = omega (arith) in
    let items : c.loop-left.sites ++ c.in_ok-site.site ∷ [] ≡ c.push.new.self = ap (λ (x : ℕ). c.loop-left.sites ++ x ∷ []) (sym c.of.ensures) ∙ sym c.in_ok-push.ensures.ok in
    (omega arith, omega (arith, c.loop-left.invariant.1), omega (arith, c.in_ok-site.ensures.range, c.loop-left-test.true, c.loop-left.invariant.2), subst (λ (xs : List ℕ). with_front xs (run_at (λ c. c) (ascending_at 16) (c.loop-left.left - 1) (c.in_ok-site.site + 1) c.read_byte.new.cursor) ≡ total) items (subst (λ (k : ℕ). with_front (c.loop-left.sites ++ c.in_ok-site.site ∷ []) (run_at (λ c. c) (ascending_at 16) (c.loop-left.left - 1) k c.read_byte.new.cursor) ≡ total) least step))

pub returns : goal.returns
returns c =
    let none : c.loop-left.left ≡ 0 = omega (arith, c.loop-left-test.false) in
    let total = run_at (λ c. c) (ascending_at 16) c.args.count 1 c.args.cursor.now in
    let so_far = subst (λ (n : ℕ). with_front c.loop-left.sites (run_at (λ c. c) (ascending_at 16) n c.loop-left.least c.loop-left.cursor) ≡ total) none c.loop-left.invariant.3 in
    run_ends (λ c. c) (ascending_at 16) c.loop-left.sites c.loop-left.least c.loop-left.cursor total so_far

pub returns-in_err-site : goal.returns-in_err-site
returns-in_err-site c =
    let total = run_at (λ c. c) (ascending_at 16) c.args.count 1 c.args.cursor.now in
    let left : c.loop-left.left ≡ suc (c.loop-left.left - 1) = omega (arith, c.loop-left-test.true) in
    let so_far = subst (λ (n : ℕ). with_front c.loop-left.sites (run_at (λ c. c) (ascending_at 16) n c.loop-left.least c.loop-left.cursor) ≡ total) left c.loop-left.invariant.3 in
    let fails : (n : ℕ) → ascending_at 16 (c.loop-left.left - 1) c.loop-left.least c.loop-left.cursor ≡ Err n → total ≡ Err n = λ n h. run_fails (λ c. c) (ascending_at 16) c.loop-left.sites (c.loop-left.left - 1) c.loop-left.least c.loop-left.cursor n total h so_far in
    let p = err_from_is_err_and c.from_residual.result c.from_residual.ensures.1 in
    rw (p.1, p.2) (fails c.in_err-site.field-0.0.left c.in_err-site.ensures.read)
