use Rattle.std.proofs.Common.{◌≡◌, ℕ, List, [], ◌∷◌, ◌++◌, refl, sym, subst, arith}
use Rattle.std.proofs.lemmas.Result.{err_from_is_err_and}
use Rattle.vp_schedule.specs.TableReading.{table_at}
use Rattle.vp_schedule.proofs.Tables.{Left, table_start, table_fails, shares_go, shares_end, shares_fail}
use Rattle.vp_schedule.proofs.table_reading.parse_shares.Goals as goal

pub returns-in_err-first : goal.returns-in_err-first
returns-in_err-first c =
    let p = err_from_is_err_and c.from_residual.result c.from_residual.ensures.1 in
    rw (p.1, p.2) (table_fails c.args.cursor.now _ c.in_err-first.ensures.read)

pub loop-cursor-init : goal.loop-cursor-init
loop-cursor-init c =
    let first = c.in_ok-first.first in
    let rest = c.parse_share.new.cursor in
    let total = table_at c.args.cursor.now in
    let begun = table_start c.args.cursor.now first rest c.in_ok-first.ensures.read in
    let above : first.0 ≡ c.get-above.result = omega (arith, c.get-above.ensures.value) in
    let items : c.push.new.self.items ≡ first ∷ [] = rw (c.in_ok-push.ensures.items, c.new-shares.ensures.items) refl in
    (subst (λ (xs : List (ℕ × ℕ)). Left xs c.get-above.result rest total) (sym items) (subst (λ (a : ℕ). Left (first ∷ []) a rest total) above begun), omega (arith, above, c.in_ok-first.ensures.range.1))

pub returns-in_err-share : goal.returns-in_err-share
returns-in_err-share c =
    let p = err_from_is_err_and c.from_residual-in_err-share.result c.from_residual-in_err-share.ensures.1 in
    rw (p.1, p.2) (shares_fail c.loop-cursor.shares.items c.loop-cursor.above c.loop-cursor.cursor _ (table_at c.args.cursor.now) (sym c.loop-cursor-test.ensures) c.in_err-share.ensures.read c.loop-cursor.invariant.0)

pub loop-cursor-preserved : goal.loop-cursor-preserved
loop-cursor-preserved c =
    let front = c.loop-cursor.shares.items in
    let share = c.in_ok-share.share in
    let rest = c.parse_share-in-loop-cursor.new.cursor in
    let total = table_at c.args.cursor.now in
    let gone = shares_go front c.loop-cursor.above c.loop-cursor.cursor share rest total (sym c.loop-cursor-test.ensures) c.in_ok-share.ensures.read c.in_ok-share.ensures.range.0 c.loop-cursor.invariant.0 in
    let above : share.0 ≡ c.get-above-in-loop-cursor.result = omega (arith, c.get-above-in-loop-cursor.ensures.value) in
    let items : front ++ share ∷ [] ≡ c.push-in-loop-cursor.new.self.items = sym c.in_ok-push-2.ensures.items in
    (subst (λ (xs : List (ℕ × ℕ)). Left xs c.get-above-in-loop-cursor.result rest total) items (subst (λ (a : ℕ). Left (front ++ share ∷ []) a rest total) above gone), omega (arith, above, c.in_ok-share.ensures.range.1))

pub returns : goal.returns
returns c = shares_end c.loop-cursor.shares.items c.loop-cursor.above c.loop-cursor.cursor (table_at c.args.cursor.now) (sym c.loop-cursor-test.ensures) c.loop-cursor.invariant.0
