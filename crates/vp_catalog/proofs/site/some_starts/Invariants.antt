use Rattle.std.proofs.Common.{◌≡◌, drop}
use Rattle.vp_base.specs.Reading.{starts_any}
use Rattle.vp_catalog.specs.Sites.{site_texts}
use Rattle.vp_catalog.proofs.site.some_starts.Given as goal

abbrev pub invariant-loop-site : goal.invariant-loop-site
invariant-loop-site l = starts_any (site_texts (drop l.site-index l.sites) l.above) l.prefix ≡ starts_any (site_texts l.sites l.above) l.prefix
