use Rattle.std.proofs.Common.{◌≡◌, drop}
use Rattle.vp_catalog.specs.Sites.{site_named}
use Rattle.vp_catalog.proofs.site.named.Given as goal

abbrev pub invariant-loop-site : goal.invariant-loop-site
invariant-loop-site l = site_named (drop l.site-index l.sites) l.above l.text ≡ site_named l.sites l.above l.text
