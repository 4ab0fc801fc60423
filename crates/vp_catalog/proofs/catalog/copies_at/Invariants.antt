use Rattle.std.proofs.Common.{◌≡◌, ◌++◌, drop}
use Rattle.vp_model.specs.Catalogue.{copies_from}
use Rattle.vp_catalog.proofs.catalog.copies_at.Given as goal

abbrev pub invariant-loop-place : goal.invariant-loop-place
invariant-loop-place l = l.copies.items ++ copies_from l.place (drop l.place l.records) l.site ≡ copies_from 0 l.records l.site
