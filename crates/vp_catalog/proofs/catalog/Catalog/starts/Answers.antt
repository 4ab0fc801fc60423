use Rattle.std.proofs.Common.{◌∙◌, map, ap}
use Rattle.std.proofs.lemmas.List.{take_all}
use Rattle.std.proofs.lemmas.Result.{err_from_is_err_and}
use Rattle.vp_catalog.proofs.Onward.{read_more}
use Rattle.vp_catalog.proofs.catalog.Catalog.starts.Goals as goal

pub loop-placed-preserved : goal.loop-placed-preserved
loop-placed-preserved c = read_more (λ entry. entry.start) c.records-placed-items.result.now c.loop-placed.placed-index c.placed-item.result _ _ c.loop-placed-test.true c.placed-item.is c.loop-placed.invariant (rw (c.in_ok-copy_of.ensures, c.start.ensures) at c.in_ok-push.ensures.items)

pub returns-in_err-copy_of : goal.returns-in_err-copy_of
returns-in_err-copy_of c =
    let p = err_from_is_err_and c.from_residual.result c.from_residual.ensures.1 in
    rw p.1 tt

pub returns-in_err-push : goal.returns-in_err-push
returns-in_err-push c =
    let p = err_from_is_err_and c.from_residual-in_err-push.result c.from_residual-in_err-push.ensures.1 in
    rw p.1 tt

pub returns : goal.returns
returns c = (rw (take_all c.loop-placed.placed-index c.records-placed-items.result.now c.loop-placed-test.false) at c.loop-placed.invariant) ∙ ap (map (λ entry. entry.start)) c.records-placed-items.ensures
