use Rattle.vp_laws.proofs.Lists.Catalogues.{catalogue_apart}
use Rattle.vp_laws.proofs.claims.sites_are_apart.Goals as goal

pub returns : goal.returns
returns c = catalogue_apart
