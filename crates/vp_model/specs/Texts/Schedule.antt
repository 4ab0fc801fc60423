-- The text of a schedule: the catalogue's lines, the line `events`, and a line for each event.
use Rattle.std.specs.Prelude.{ℕ, List, [], ◌∷◌, ◌++◌, flat_map, codes}
use Rattle.std.specs.Fmt.{decimal}
use Rattle.vp_model.specs.Types.{Event}
use Rattle.vp_model.specs.Catalogue.{Catalogue, RecordEntry}
use Rattle.vp_model.specs.World.{Schedule}
use Rattle.vp_model.specs.Texts.Fields.{table_text}
use Rattle.vp_model.specs.Texts.Calls.{event_text}

abbrev pub site_line : ℕ × ℕ → List ℕ
site_line site = codes "site " ++ (decimal site.0 ++ 32 ∷ (decimal site.1 ++ 10 ∷ []))

abbrev pub record_line : RecordEntry → List ℕ
record_line entry = codes "record " ++ (entry.name ++ 32 ∷ (entry.start ++ (table_text entry.weights ++ 10 ∷ [])))

abbrev pub catalogue_text : Catalogue → List ℕ
catalogue_text catalogue = flat_map site_line catalogue.sites ++ flat_map record_line catalogue.records

abbrev pub event_line : Event → List ℕ
event_line event = event_text event ++ 10 ∷ []

abbrev pub schedule_text : Schedule → List ℕ
schedule_text s = catalogue_text s.catalogue ++ (codes "events\n" ++ flat_map event_line s.events)
