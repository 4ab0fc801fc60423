use Rattle.std.proofs.Common.{◌∷◌, [], ◌++◌, length, arith}
use Rattle.std.proofs.lemmas.List.{length-append}
use Rattle.std.proofs.lemmas.Result.{err_from_is_err_and}
use Rattle.vp_text.proofs.Repeats.{items_fail}
use Rattle.vp_catalog.specs.EntryReading.{some_above, weight_at, weights_at}
use Rattle.vp_catalog.proofs.Holders.{Left, weights_start, weights_fail, stands_next, reads_less}
use Rattle.vp_catalog.proofs.reading.parse_weights.Goals as goal

pub returns-in_err-first-clause-read : goal.returns-in_err-first-clause-read
returns-in_err-first-clause-read c =
    let p = err_from_is_err_and c.from_residual.result c.from_residual.ensures.1 in
    rw (p.1, p.2) (weights_fail c.args.sites.now c.args.cursor.now c.in_err-first.field-0.0.left c.in_err-first.ensures.read)

pub loop-next-init : goal.loop-next-init
loop-next-init c =
    let first = c.in_ok-first.first in
    let rest = c.parse_weight.new.cursor in
    let start = weights_start c.args.sites.now c.args.cursor.now first rest c.in_ok-first.ensures.read in
    let left : Left c.args.sites.now (first ∷ []) first.0 rest (weights_at c.args.sites.now c.args.cursor.now) = (length rest, omega arith, start) in
    rw c.new-weights.ensures.items (left, c.in_ok-first.ensures.higher)

pub returns-in_err-next-clause-read : goal.returns-in_err-next-clause-read
returns-in_err-next-clause-read c =
    let p = err_from_is_err_and c.from_residual-in_err-next.result c.from_residual-in_err-next.ensures.1 in
    let weight = c.in-Some.weight in
    let here = rw c.in-Some.is at c.loop-next.invariant in
    let read = rw c.get-above.ensures.value at c.in_err-next.ensures.read in
    rw (p.1, p.2) (items_fail (some_above c.args.sites.now) (λ above weight. weight.0) (weight_at c.args.sites.now) (10 ∷ []) (c.loop-next.weights.items ++ weight ∷ []) here.0.0 weight.0 c.loop-next.cursor c.in_err-next.field-0.0.left (weights_at c.args.sites.now c.args.cursor.now) read here.0.2)

pub loop-next-smaller : goal.loop-next-smaller
loop-next-smaller c = rw c.in-Some.is (reads_less c.args.sites.now c.in-Some.weight.0 c.loop-next.cursor c.in_ok-next.next c.parse_next.new.cursor (rw c.get-above.ensures.value at c.in_ok-next.ensures.read))

pub loop-next-preserved : goal.loop-next-preserved
loop-next-preserved c =
    let weight = c.in-Some.weight in
    let items = c.loop-next.weights.items ++ weight ∷ [] in
    let here = rw c.in-Some.is at c.loop-next.invariant in
    let read = rw c.get-above.ensures.value at c.in_ok-next.ensures.read in
    let higher = rw c.get-above.ensures.value at c.in_ok-next.ensures.higher in
    let size = length-append c.loop-next.weights.items (weight ∷ []) in
    rw c.in_ok-push.ensures.items (stands_next c.args.sites.now items weight.0 c.loop-next.cursor c.in_ok-next.next c.parse_next.new.cursor (weights_at c.args.sites.now c.args.cursor.now) read higher here.0 (omega (arith, here.1, size)) (omega (arith, c.get-above.ensures.most, c.get-above.ensures.value)))

pub returns : goal.returns
returns c =
    let here = rw c.in_default.is at c.loop-next.invariant in
    record { read = here.0; few = here.1 }
