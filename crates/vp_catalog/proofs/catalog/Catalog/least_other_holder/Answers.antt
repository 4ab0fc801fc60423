use Rattle.std.proofs.Common.{sym, ap}
use Rattle.vp_model.specs.Words.{first}
use Rattle.vp_model.specs.Catalogue.{holders}
use Rattle.vp_catalog.proofs.Least.{none_kept}
use Rattle.vp_catalog.proofs.catalog.Catalog.least_other_holder.Goals as goal

pub returns-in-None : goal.returns-in-None
returns-in-None c = rw c.in-None.is (sym (ap first (none_kept (holders c.args.self.now c.args.rec))))
