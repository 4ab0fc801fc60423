-- What the durable parts of some sites hold of each record.
use Rattle.std.specs.Prelude.{ℕ, ◌*◌, Bool, nat_lt, ◌==◌, ◌&&◌, ◌||◌, nat_le, if◌then◌else◌, false, List, [], ◌∷◌, length, map, filter, flat_map, slice_get, Option, Some, None, option_and_then, option_to_list}
use Rattle.std.specs.List.{list_any, range_with_len}
use Rattle.vp_model.specs.Types.{Stored, Doubt}
use Rattle.vp_model.specs.Words.{first_some, same_view, same_txn, txn_before, has, keys, put, value_at, for_each}
use Rattle.vp_model.specs.Catalogue.{Catalogue, Table, table_or, weight_inside, weight_total}
use Rattle.vp_model.specs.Durable.{DurableState}
use Rattle.vp_model.specs.Refresh.{newer, newest}
use Rattle.vp_audit.specs.declared.found.Can.{Can}
use Rattle.vp_audit.specs.declared.found.Can.TheVariants as can
use Rattle.vp_audit.specs.declared.found.DoubtAt.{DoubtAt}
use Rattle.vp_audit.specs.declared.found.Found.{Found}

-- sites with their durable parts, ascending by site
abbrev pub Parts : Type 0
Parts = List (ℕ × DurableState)

-- ---- copies

abbrev pub writes_to : ℕ → Doubt → Bool
writes_to rec u = has (keys u.writes) rec

-- a transaction in doubt writes the record
abbrev pub is_doubted : ℕ → DurableState → Bool
is_doubted rec d = list_any (writes_to rec) d.doubts

-- a copy is settled if no transaction in doubt writes the record
abbrev pub settled_copy : ℕ → DurableState → Option Stored
settled_copy rec d = if is_doubted rec d then None else value_at rec d.copies

abbrev pub settled_at : ℕ → ℕ × DurableState → List (ℕ × Stored)
settled_at rec part = map (λ copy. (part.0, copy)) (option_to_list (settled_copy rec part.1))

-- the settled copies of the record, by site
abbrev pub settled_on : ℕ → Parts → List (ℕ × Stored)
settled_on rec parts = flat_map (settled_at rec) parts

-- its copies, settled or not, by site
abbrev pub copy_at : ℕ → ℕ × DurableState → List (ℕ × Stored)
copy_at rec part = map (λ copy. (part.0, copy)) (option_to_list (value_at rec part.1.copies))

abbrev pub copies_on : ℕ → Parts → List (ℕ × Stored)
copies_on rec parts = flat_map (copy_at rec) parts

-- the newest one, of the least site where several have its date
abbrev pub newest_of : List (ℕ × Stored) → Option Stored
newest_of [] = None
newest_of (copy ∷ copies) = Some (newest copy.1 copies)

-- the newer of two copies, the first if they have the same date; if there is one copy, that one
abbrev pub with_copy : Option Stored → Option Stored → Option Stored
with_copy best None = best
with_copy None (Some copy) = Some copy
with_copy (Some best) (Some copy) = Some (newer best copy)

-- the sites whose settled copies have the date of this one
abbrev pub is_dated : Option Stored → Option Stored → Bool
is_dated (Some best) (Some copy) = same_view copy.date best.date
is_dated best copy = false

abbrev pub sites_dated : Option Stored → ℕ → Parts → List ℕ
sites_dated best rec parts = keys (filter (λ part. is_dated best (settled_copy rec part.1)) parts)

-- ---- doubts

abbrev pub same_row : DoubtAt → DoubtAt → Bool
same_row a b = same_txn a.txn b.txn && (a.site == b.site)

abbrev pub row_before : DoubtAt → DoubtAt → Bool
row_before a b = txn_before a.txn b.txn || (same_txn a.txn b.txn && nat_lt a.site b.site)

-- these doubts of a site are put among the others, in their order
abbrev pub rows_of : ℕ → List Doubt → List DoubtAt → List DoubtAt
rows_of site doubts rows = for_each doubts (λ u. put same_row row_before (record { txn = u.txn; view = u.view; site = site })) rows

abbrev pub rows_at : ℕ → ℕ × DurableState → List DoubtAt → List DoubtAt
rows_at rec part rows = rows_of part.0 (filter (writes_to rec) part.1.doubts) rows

-- the doubts on the record, by transaction, and those of one transaction by site
abbrev pub rows_on : ℕ → Parts → List DoubtAt
rows_on rec parts = for_each parts (rows_at rec) []

-- ---- whether a value is sure

-- The table by which it is judged: that of the newest settled copy or, where none is settled, of the newest copy.
abbrev pub judging_copy : ℕ → Parts → Option Stored
judging_copy rec parts = first_some (newest_of (settled_on rec parts)) (newest_of (copies_on rec parts))

abbrev pub table_on : Catalogue → ℕ → Parts → Table
table_on catalogue rec parts = table_or catalogue rec (option_and_then (λ (copy : Stored). copy.table) (judging_copy rec parts))

-- With no more than half of the weight it isn't. Else a transaction in doubt has to end before, the least one first.
abbrev pub waits : Option DoubtAt → Can
waits None = can.Yes
waits (Some row) = can.Wait row.txn

abbrev pub can_of : ℕ → ℕ → List DoubtAt → Can
can_of inside total rows = if nat_le (2 * inside) total then can.No inside total else waits (slice_get rows 0)

-- ---- a report

abbrev pub finding_of : Catalogue → Parts → ℕ → Found
finding_of catalogue parts rec =
    let best = newest_of (settled_on rec parts) in
    let rows = rows_on rec parts in
    let t = table_on catalogue rec parts in
    record {
      rec = rec;
      newest = best;
      sites = sites_dated best rec parts;
      doubts = rows;
      can = can_of (weight_inside (keys parts) t) (weight_total t) rows;
    }

-- what is found of each record, in catalogue order
abbrev pub audit_of : Catalogue → Parts → List Found
audit_of catalogue parts = map (finding_of catalogue parts) (range_with_len 0 (length catalogue.records))
