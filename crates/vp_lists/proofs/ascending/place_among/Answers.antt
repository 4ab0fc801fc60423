use Rattle.vp_lists.proofs.Halving.{place_found}
use Rattle.vp_lists.proofs.ascending.place_among.Goals as goal

pub returns : goal.returns
returns g c = rw (c.ok.ensures.value) (place_found g.T.OfRec.rec c.args.items.now c.requires c.args.rec c.search.result c.search.ensures)
