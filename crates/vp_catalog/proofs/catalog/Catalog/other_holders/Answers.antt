use Rattle.std.proofs.Common.{sym}
use Rattle.vp_model.specs.Catalogue.{holders}
use Rattle.vp_catalog.proofs.Least.{none_kept}
use Rattle.vp_catalog.proofs.catalog.Catalog.other_holders.Goals as goal

pub returns-in-None : goal.returns-in-None
returns-in-None c = rw (c.in-None.is, c.new-in-None.ensures) (sym (none_kept (holders c.args.self.now c.args.rec)))
