use Rattle.std.proofs.Common.{◌≡◌, ℕ, ◌<◌, List, [], ◌∷◌, Err, ◌++◌, length, sym, subst, arith}
use Rattle.std.proofs.lemmas.Result.{err_from_is_err_and}
use Rattle.std.proofs.lemmas.Option.{IfSome_then}
use Rattle.vp_base.specs.Faults.{line_left}
use Rattle.vp_base.specs.declared.entry.LogRecord.{LogRecord}
use Rattle.vp_records.specs.Reading.{batch_at, record_at}
use Rattle.vp_records.proofs.Batches.{BatchTurn, batch_next, batch_shorter, batch_last, batch_fails}
use Rattle.vp_records.proofs.decoding.read_batch.Goals as goal

pub loop-alloc-smaller : goal.loop-alloc-smaller
loop-alloc-smaller c = batch_shorter c.loop-alloc.cursor c.in_ok-record.record c.read_record.new.cursor c.in_ok-record.ensures

pub loop-alloc-preserved : goal.loop-alloc-preserved
loop-alloc-preserved c =
    let total = batch_at c.args.cursor.now in
    let some : 0 < length c.loop-alloc.cursor = omega (arith, c.loop-alloc-test.true, c.left.ensures) in
    let next = batch_next c.loop-alloc.records.items c.loop-alloc.cursor total c.in_ok-record.record c.read_record.new.cursor some c.in_ok-record.ensures c.loop-alloc.invariant in
    let items : c.loop-alloc.records.items ++ c.in_ok-record.record ∷ [] ≡ c.push.new.self.items = sym c.in_ok-push.ensures.items in
    subst (λ (xs : List LogRecord). BatchTurn xs c.read_record.new.cursor total) items next

pub returns : goal.returns
returns c =
    let none : length c.loop-alloc.cursor ≡ 0 = omega (arith, c.loop-alloc-test.false, c.left.ensures) in
    rw c.from_vec.ensures (batch_last c.loop-alloc.records.items c.loop-alloc.cursor (batch_at c.args.cursor.now) none c.loop-alloc.invariant)

pub returns-in_err-record : goal.returns-in_err-record
returns-in_err-record c =
    let total = batch_at c.args.cursor.now in
    let some : 0 < length c.loop-alloc.cursor = omega (arith, c.loop-alloc-test.true, c.left.ensures) in
    let fails : (n : ℕ) → record_at c.loop-alloc.cursor ≡ Err n → total ≡ Err n = λ n h. batch_fails c.loop-alloc.records.items c.loop-alloc.cursor total n some h c.loop-alloc.invariant in
    let p = err_from_is_err_and c.from_residual.result c.from_residual.ensures.1 in
    rw (p.1, p.2) (IfSome_then (line_left c.in_err-record.field-0.0) c.in_err-record.ensures fails)
