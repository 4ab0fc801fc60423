use Rattle.std.proofs.Common.{rules, ◌∙◌}
use Rattle.vp_drawing.proofs.Looking.{looks_begun, looks_more}
use Rattle.vp_drawing.proofs.watch.first_looks.Goals as goal

pub loop-site-preserved : goal.loop-site-preserved
loop-site-preserved c =
    looks_more c.as_slice-site-items.result.now c.loop-site.site-index c.site-item.result c.first_look.result c.loop-site.looks.items c.push.new.self.items (search rules) (search rules) c.loop-site.invariant c.in_ok-push.ensures.items c.first_look.ensures

pub returns : goal.returns
returns c =
    looks_begun c.args.catalog.now c.as_slice-site-items.result.now c.loop-site.site-index c.loop-site.looks.items c.loop-site.invariant (search rules) (c.as_slice-site-items.ensures ∙ c.sites.ensures.sites)
