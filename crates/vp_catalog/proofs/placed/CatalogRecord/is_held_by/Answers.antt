use Rattle.vp_catalog.proofs.placed.CatalogRecord.is_held_by.Goals as goal

pub returns : goal.returns
returns c = rw (← c.self.view_is, ← c.self.invariant.0, ← c.as_slice.ensures) c.has_site.ensures
