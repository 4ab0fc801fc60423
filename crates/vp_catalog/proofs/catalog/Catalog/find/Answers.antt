use Rattle.vp_catalog.proofs.Names.{name_place}
use Rattle.vp_catalog.proofs.catalog.Catalog.find.Goals as goal

pub returns-in-Some : goal.returns-in-Some
returns-in-Some c =
    let place = name_place (λ k. k.items) c.args.name.now c.self.inside.names.keys c.self.inside.records.items c.self.invariant.1 in
    rw (← c.self.view_is, c.new.ensures, ← place, ← c.as_bytes.ensures.bytes) c.in-Some.ensures.index

pub returns-in-None : goal.returns-in-None
returns-in-None c =
    let place = name_place (λ k. k.items) c.args.name.now c.self.inside.names.keys c.self.inside.records.items c.self.invariant.1 in
    rw (← c.self.view_is, ← place, ← c.as_bytes.ensures.bytes) c.in-None.ensures.index
