use Rattle.std.proofs.Common.{◌∙◌}
use Rattle.std.specs.List.{each_same}
use Rattle.vp_catalog.proofs.Names.{bytes_copied}
use Rattle.vp_catalog.proofs.catalog.CatalogCopyOf.copy_of.Goals as goal

pub invariant_of-result : goal.invariant_of-result
invariant_of-result c =
    let ports = c.in_ok-from_slice.ensures.items ∙ c.deref.ensures.value in
    let records = c.in_ok-copy_records.ensures ∙ c.deref-2.ensures.value in
    let names = bytes_copied (λ k. k.items) _ (λ x y h. each_same x.items y.items h.0) c.self.inside.names.keys c.in_ok-clone.field-0.keys c.in_ok-clone.ensures.cases in
    (rw (c.in_ok-copy_of.ensures, ports) c.self.invariant.0, rw (records, names) c.self.invariant.1, rw (ports, records) c.self.invariant.2)
