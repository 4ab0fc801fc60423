use Rattle.std.proofs.Common.{[], ◌∷◌}
use Rattle.vp_model.specs.Texts.Fields.{later_site_text}
use Rattle.vp_catalog.proofs.Printed.{all_items, following, item_begun, item_after, joined, none_of}
use Rattle.vp_trace.proofs.fields.print_later_sites.Goals as goal

pub loop-site-preserved : goal.loop-site-preserved
loop-site-preserved c = item_after later_site_text c.args.sites.now c.loop-site.site-index c.site-item.result _ _ _ c.loop-site-test.true c.site-item.is c.loop-site.invariant (joined _ (44 ∷ []) _ _ _ c.in_ok-push.ensures.items c.in_ok-print.ensures.ok)

pub returns-in_err-push : goal.returns-in_err-push
returns-in_err-push c = item_begun later_site_text c.args.sites.now c.loop-site.site-index _ c.site-item.result _ _ _ c.loop-site-test.true c.site-item.is c.loop-site.invariant c.from_residual.ensures.0 (none_of _ _ _ _ c.from_residual.ensures.0 c.in_err-push.ensures.items)

pub returns-in_err-print : goal.returns-in_err-print
returns-in_err-print c = item_begun later_site_text c.args.sites.now c.loop-site.site-index _ c.site-item.result _ _ _ c.loop-site-test.true c.site-item.is c.loop-site.invariant c.from_residual-in_err-print.ensures.0 (following _ _ (44 ∷ []) _ _ _ c.in_ok-push.ensures.items (none_of _ _ _ _ c.from_residual-in_err-print.ensures.0 c.in_err-print.ensures.err))

pub returns : goal.returns
returns c = all_items later_site_text c.args.sites.now c.loop-site.site-index _ _ c.loop-site-test.false c.loop-site.invariant
