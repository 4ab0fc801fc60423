use Rattle.std.proofs.Common.{rules, ◌∙◌}
use Rattle.vp_catalog.proofs.Entries.{last_is}
use Rattle.vp_catalog.proofs.catalog.Catalog.last_site.Goals as goal

pub returns-in-Some-clause-last : goal.returns-in-Some-clause-last
returns-in-Some-clause-last c = c.get.ensures.value ∙ last_is 0 c.args.self.now.sites c.in-Some.entry.now (search rules) (search rules)
