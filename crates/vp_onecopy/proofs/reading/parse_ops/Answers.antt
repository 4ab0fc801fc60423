use Rattle.std.proofs.Common.{◌≡◌, ◌<◌, ◌+◌, ◌-◌, suc, sym, ap, ◌∙◌, arith, length, ℕ, subst, List, [], ◌∷◌}
use Rattle.vp_model.specs.Types.{Op}
use Rattle.std.proofs.lemmas.List.{length-append}
use Rattle.std.proofs.lemmas.Result.{err_from_is_err_and}
use Rattle.vp_text.proofs.Repeats.{with_front, items_start, items_go, items_end, items_fail}
use Rattle.vp_base.specs.Faults.{line_left}
use Rattle.vp_onecopy.specs.Lines.{some_names}
use Rattle.vp_onecopy.specs.Reading.{op_at, ops_at}
use Rattle.vp_onecopy.proofs.Exact.{next_shorter, some_weaker}
use Rattle.vp_onecopy.proofs.reading.parse_ops.Goals as goal

pub loop-ops-init : goal.loop-ops-init
loop-ops-init c =
    let n = length c.args.cursor.now in
    let whole : suc n ≡ suc (n - 0) = omega arith in
    let so_far = items_start (λ (u : Unit {0}). some_names c.args.names.now) (λ u op. u) (λ u. op_at c.args.names.now) (10 ∷ []) (suc n) tt c.args.cursor.now in
    rw c.new-ops.ensures.items (omega arith, subst (λ (k : ℕ). with_front [] (ops_at c.args.names.now k c.args.cursor.now) ≡ ops_at c.args.names.now (suc n) c.args.cursor.now) whole so_far)

shorter : (c : goal.In_ok-push) → length c.parse_next.new.cursor < length c.loop-ops.cursor
shorter c = next_shorter c.args.names.now c.requires.names c.loop-ops.cursor c.in-Some.op c.parse_next.new.cursor (rw c.in-Some.is at c.in_ok-op.ensures)

pub loop-ops-preserved : goal.loop-ops-preserved
loop-ops-preserved c =
    let less = shorter c in
    let more : length c.push.new.self.items ≡ length c.loop-ops.ops.items + 1 = ap length c.in_ok-push.ensures.items ∙ length-append c.loop-ops.ops.items (c.in-Some.op ∷ []) in
    let fuel : length c.args.cursor.now - length c.loop-ops.ops.items ≡ suc (length c.args.cursor.now - length c.push.new.self.items) = omega (arith, c.loop-ops.invariant.0) in
    let so_far = subst (λ (n : ℕ). with_front c.loop-ops.ops.items (ops_at c.args.names.now (suc n) c.loop-ops.cursor) ≡ ops_at c.args.names.now (suc (length c.args.cursor.now)) c.args.cursor.now) fuel c.loop-ops.invariant.1 in
    let step = items_go (λ (u : Unit {0}). some_names c.args.names.now) (λ u op. u) (λ u. op_at c.args.names.now) (10 ∷ []) c.loop-ops.ops.items (suc (length c.args.cursor.now - length c.push.new.self.items)) tt c.loop-ops.cursor c.in-Some.op c.parse_next.new.cursor
    (ops_at c.args.names.now (suc (length c.args.cursor.now)) c.args.cursor.now) (rw c.in-Some.is at c.in_ok-op.ensures) so_far in
    (omega (arith, c.loop-ops.invariant.0), subst (λ (xs : List Op). with_front xs (ops_at c.args.names.now (suc (length c.args.cursor.now - length c.push.new.self.items)) c.parse_next.new.cursor) ≡ ops_at c.args.names.now (suc (length c.args.cursor.now)) c.args.cursor.now) (sym c.in_ok-push.ensures.items) step)

pub loop-ops-smaller : goal.loop-ops-smaller
loop-ops-smaller c = shorter c

pub returns : goal.returns
returns c = rw c.from_vec.ensures (items_end (λ (u : Unit {0}). some_names c.args.names.now) (λ u op. u) (λ u. op_at c.args.names.now) (10 ∷ []) c.loop-ops.ops.items (length c.args.cursor.now - length c.loop-ops.ops.items) tt c.loop-ops.cursor c.parse_next.new.cursor
    (ops_at c.args.names.now (suc (length c.args.cursor.now)) c.args.cursor.now) (rw c.in_default.is at c.in_ok-op.ensures) c.loop-ops.invariant.1)

pub returns-in_err-op : goal.returns-in_err-op
returns-in_err-op c =
    let p = err_from_is_err_and c.from_residual.result c.from_residual.ensures.1 in
    rw (p.1, p.2) (some_weaker (line_left c.in_err-op.field-0.0) _ _ (λ n h. items_fail (λ (u : Unit {0}). some_names c.args.names.now) (λ u op. u) (λ u. op_at c.args.names.now) (10 ∷ []) c.loop-ops.ops.items (length c.args.cursor.now - length c.loop-ops.ops.items) tt c.loop-ops.cursor n
    (ops_at c.args.names.now (suc (length c.args.cursor.now)) c.args.cursor.now) h c.loop-ops.invariant.1) c.in_err-op.ensures)
