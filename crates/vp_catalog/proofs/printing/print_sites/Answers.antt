use Rattle.std.proofs.Common.{[], ◌∷◌}
use Rattle.vp_model.specs.Texts.Schedule.{site_line}
use Rattle.vp_catalog.proofs.Printed.{all_items, begun_line, following, item_begun, item_after, joined, line_ends, none_of, site_parts}
use Rattle.vp_catalog.proofs.printing.print_sites.Goals as goal

pub loop-site-preserved : goal.loop-site-preserved
loop-site-preserved c =
    let line = joined _ (site_parts c.site-item.result) (10 ∷ []) _ _ c.in_ok-print_pair.ensures.whole c.in_ok-push.ensures.items in
    item_after site_line c.args.sites.now c.loop-site.site-index c.site-item.result _ _ _ c.loop-site-test.true c.site-item.is c.loop-site.invariant (rw (line_ends c.site-item.result) at line)

pub returns-in_err-print_pair : goal.returns-in_err-print_pair
returns-in_err-print_pair c = item_begun site_line c.args.sites.now c.loop-site.site-index _ c.site-item.result _ _ _ c.loop-site-test.true c.site-item.is c.loop-site.invariant c.from_residual.ensures.0 (begun_line _ _ c.site-item.result _ c.from_residual.ensures.0 c.print_pair.ensures.begun)

pub returns-in_err-push : goal.returns-in_err-push
returns-in_err-push c =
    let line = following _ _ (site_parts c.site-item.result) (10 ∷ []) _ _ c.in_ok-print_pair.ensures.whole (none_of _ _ _ _ c.from_residual-in_err-push.ensures.0 c.in_err-push.ensures.items) in
    item_begun site_line c.args.sites.now c.loop-site.site-index _ c.site-item.result _ _ _ c.loop-site-test.true c.site-item.is c.loop-site.invariant c.from_residual-in_err-push.ensures.0 (rw (line_ends c.site-item.result) at line)

pub returns : goal.returns
returns c = all_items site_line c.args.sites.now c.loop-site.site-index _ _ c.loop-site-test.false c.loop-site.invariant
