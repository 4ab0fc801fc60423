use Rattle.vp_laws.proofs.Lists.Catalogues.{whole_catalogue}
use Rattle.vp_laws.proofs.claims.catalogues_are_whole.Goals as goal

pub returns : goal.returns
returns c = whole_catalogue
