-- Worked reports: two sites that share a record.
use Rattle.std.specs.Prelude.{ℕ, true, List, [], ◌∷◌, codes, None}
use Rattle.vp_model.specs.Types.{ViewId, Change, LogRecord}
use Rattle.vp_model.specs.Types.log_record
use Rattle.vp_model.specs.Types.puts
use Rattle.vp_model.specs.Words.{opening}
use Rattle.vp_model.specs.Catalogue.{Catalogue, start_copies}
use Rattle.vp_model.specs.Durable.{DurableState, empty_durable, apply_all}
use Rattle.vp_model.specs.Worked.{txn, view, stored, value}

abbrev pub both : Catalogue
both = record { sites = (1, 7001) ∷ (2, 7002) ∷ []; records = stored (codes "x") (codes "10") ((1, 1) ∷ (2, 1) ∷ []) ∷ [] }

-- the site with what these log records leave
abbrev pub site : ℕ → List LogRecord → ℕ × DurableState
site id records = (id, apply_all records (empty_durable (start_copies both id)))

abbrev pub yes : ViewId → Change → LogRecord
yes view change = log_record.Yes (txn 1 1 1) view ((0, change) ∷ [])

-- one that never ran, one that is in doubt about a transaction of site 1, and one that has applied a transaction in a later view
abbrev pub blank_site : ℕ → ℕ × DurableState
blank_site id = site id []

abbrev pub in_doubt : ℕ × DurableState
in_doubt = site 2 (log_record.Start 1 ∷ yes opening (value (codes "11")) ∷ [])

abbrev pub applied : Change → ℕ × DurableState
applied change = site 2 (log_record.Start 1 ∷ yes (view 1 1) change ∷ log_record.Outcome (txn 1 1 1) true ∷ [])

abbrev pub applied_site : ℕ × DurableState
applied_site = applied (value (codes "11"))

-- one that has applied a deletion
abbrev pub deleted_site : ℕ × DurableState
deleted_site = applied (record { put = puts.Absent; table = None })

-- one that has applied a transaction in the first view
abbrev pub committed_site : ℕ × DurableState
committed_site = site 2 (log_record.Start 1 ∷ yes opening (value (codes "11")) ∷ log_record.Outcome (txn 1 1 1) true ∷ [])
