use Rattle.std.proofs.Common.{◌≡◌, ℕ, suc, ◌+◌, ◌-◌, List, [], ◌∷◌, Err, ◌++◌, sym, subst, arith}
use Rattle.std.proofs.lemmas.Result.{err_from_is_err_and}
use Rattle.std.proofs.lemmas.Option.{IfSome_then}
use Rattle.vp_text.proofs.Repeats.{with_front}
use Rattle.vp_base.specs.Faults.{line_left}
use Rattle.vp_base.specs.declared.entry.Change.{Change}
use Rattle.vp_bytes.specs.Reading.{run_at}
use Rattle.vp_contents.specs.Changes.{write_at}
use Rattle.vp_bytes.proofs.Turns.{run_goes, run_ends, run_fails}
use Rattle.vp_contents.proofs.changes.read_some_writes.Goals as goal

pub loop-left-preserved : goal.loop-left-preserved
loop-left-preserved c =
    let total = run_at (λ write. write.0) (write_at c.args.version) c.args.count 0 c.args.cursor.now in
    let left : c.loop-left.left ≡ suc (c.loop-left.left - 1) = omega (arith, c.loop-left-test.true) in
    let so_far = subst (λ (n : ℕ). with_front c.loop-left.writes (run_at (λ write. write.0) (write_at c.args.version) n c.loop-left.least c.loop-left.cursor) ≡ total) left c.loop-left.invariant.2 in
    let step = run_goes (λ write. write.0) (write_at c.args.version) c.loop-left.writes (c.loop-left.left - 1) c.loop-left.least c.loop-left.cursor c.in_ok-write.write c.read_write.new.cursor total c.in_ok-write.ensures.read so_far in
    let least : suc c.in_ok-write.write.0 ≡ c.from-least.result + 1 = omega (arith, c.from-least.ensures, c.get.ensures.value) in
    let items : c.loop-left.writes ++ c.in_ok-write.write ∷ [] ≡ c.push.new.self = sym c.in_ok-push.ensures.ok in
    (omega (arith, c.loop-left.invariant.0), omega (arith, c.in_ok-write.ensures.range, c.loop-left-test.true, c.loop-left.invariant.1, c.from-least.ensures, c.get.ensures.value), subst (λ (xs : List (ℕ × Change)). with_front xs (run_at (λ write. write.0) (write_at c.args.version) (c.loop-left.left - 1) (c.from-least.result + 1) c.read_write.new.cursor) ≡ total) items (subst (λ (k : ℕ). with_front (c.loop-left.writes ++ c.in_ok-write.write ∷ []) (run_at (λ write. write.0) (write_at c.args.version) (c.loop-left.left - 1) k c.read_write.new.cursor) ≡ total) least step))

pub returns : goal.returns
returns c =
    let none : c.loop-left.left ≡ 0 = omega (arith, c.loop-left-test.false) in
    let total = run_at (λ write. write.0) (write_at c.args.version) c.args.count 0 c.args.cursor.now in
    let so_far = subst (λ (n : ℕ). with_front c.loop-left.writes (run_at (λ write. write.0) (write_at c.args.version) n c.loop-left.least c.loop-left.cursor) ≡ total) none c.loop-left.invariant.2 in
    run_ends (λ write. write.0) (write_at c.args.version) c.loop-left.writes c.loop-left.least c.loop-left.cursor total so_far

pub returns-in_err-write : goal.returns-in_err-write
returns-in_err-write c =
    let total = run_at (λ write. write.0) (write_at c.args.version) c.args.count 0 c.args.cursor.now in
    let left : c.loop-left.left ≡ suc (c.loop-left.left - 1) = omega (arith, c.loop-left-test.true) in
    let so_far = subst (λ (n : ℕ). with_front c.loop-left.writes (run_at (λ write. write.0) (write_at c.args.version) n c.loop-left.least c.loop-left.cursor) ≡ total) left c.loop-left.invariant.2 in
    let fails : (n : ℕ) → (write_at c.args.version) (c.loop-left.left - 1) c.loop-left.least c.loop-left.cursor ≡ Err n → total ≡ Err n = λ n h. run_fails (λ write. write.0) (write_at c.args.version) c.loop-left.writes (c.loop-left.left - 1) c.loop-left.least c.loop-left.cursor n total h so_far in
    let p = err_from_is_err_and c.from_residual.result c.from_residual.ensures.1 in
    rw (p.1, p.2) (IfSome_then (line_left c.in_err-write.field-0.0) c.in_err-write.ensures.read fails)
