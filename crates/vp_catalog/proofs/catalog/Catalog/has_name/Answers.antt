use Rattle.vp_catalog.proofs.Names.{name_known}
use Rattle.vp_catalog.proofs.catalog.Catalog.has_name.Goals as goal

pub returns : goal.returns
returns c =
    let known = name_known (λ k. k.items) c.args.name.now c.self.inside.names.keys c.self.inside.records.items c.self.invariant.1 in
    rw (← c.self.view_is, ← known) c.contains.ensures
