-- The batches that a log keeps as a site takes steps.
use Rattle.std.specs.Prelude.{ℕ, if◌then◌else◌, List, [], ◌∷◌, ◌++◌}
use Rattle.vp_model.specs.Types.{LogRecord}
use Rattle.vp_model.specs.Catalogue.{Catalogue, start_copies}
use Rattle.vp_model.specs.Durable.{DurableState, empty_durable}
use Rattle.vp_stable.specs.Halves.{apply_batches, due, save_batches}

-- the durable part of a site whose log has these batches
abbrev pub durable_in : Catalogue → ℕ → List (List LogRecord) → DurableState
durable_in catalogue id batches = apply_batches batches (empty_durable (start_copies catalogue id))

-- a checkpoint of this durable part is made if one is due
abbrev pub saved_if_due : DurableState → List (List LogRecord) → List (List LogRecord)
saved_if_due d batches = if due batches then save_batches d batches else batches

-- The batches after a step that forces these records and leaves this durable part. A step without records appends nothing.
abbrev pub kept_with : DurableState → List LogRecord → List (List LogRecord) → List (List LogRecord)
kept_with d [] batches = batches
kept_with d (r ∷ records) batches = saved_if_due d (batches ++ (r ∷ records) ∷ [])
