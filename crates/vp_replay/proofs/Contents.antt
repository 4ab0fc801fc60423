-- The contents that records start with are their values.
use Rattle.std.proofs.Common.{◌≡◌, List, [], ◌∷◌, Some, map, refl, ap}
use Rattle.vp_model.specs.Catalogue.{Catalogue, RecordEntry, start_values}

are_values : (records : List RecordEntry) → map Some (map (λ (entry : RecordEntry). entry.start) records) ≡ map (λ (entry : RecordEntry). Some entry.start) records
are_values [] = refl
are_values (entry ∷ records) = ap (λ contents. Some entry.start ∷ contents) (are_values records)

pub contents_start : (catalogue : Catalogue) → map Some (map (λ (entry : RecordEntry). entry.start) catalogue.records) ≡ start_values catalogue
contents_start catalogue = are_values catalogue.records
