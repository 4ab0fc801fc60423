-- The record of a call.
use Rattle.std.specs.Prelude.{ℕ, Bool, false, ◌==◌, ◌||◌, List, nat_le, if◌then◌else◌, length, Option, Result, Ok, Err}
use Rattle.std.specs.Option.{option_map_or}
use Rattle.vp_model.specs.Types.{View, Answer, Op, Pending, Live}
use Rattle.vp_model.specs.Types.answer
use Rattle.vp_model.specs.Types.op
use Rattle.vp_model.specs.Catalogue.{Catalogue, find_record}
use Rattle.vp_model.specs.Site.{Bars}
use Rattle.vp_model.specs.Transactions.{Deed}
use Rattle.vp_model.specs.Calls.{is_bad_table, is_too_large, short}

-- the record, where the transaction may do this with it; else the answer that refuses its use
abbrev pub usable_as : Catalogue → Option View → Bars → Live → Pending → List ℕ → ℕ → Deed → Result ℕ Answer
usable_as catalogue held bars t p name rec deed =
    if is_bad_table catalogue deed
    then Err (answer.BadTable t.txn p.number)
    else (if nat_le 64 (length t.answers) || is_too_large t deed
    then Err (answer.TooManyOps t.txn p.number)
    else option_map_or
    (λ (weights : ℕ × ℕ). Err (answer.Inaccessible t.txn p.number name weights.0 weights.1))
    (short catalogue held bars rec deed)
    (Ok rec))

abbrev pub usable_record : Catalogue → Option View → Bars → Live → Pending → List ℕ → (ℕ → Deed) → Result ℕ Answer
usable_record catalogue held bars t p name asked =
    option_map_or (λ rec. usable_as catalogue held bars t p name rec (asked rec)) (find_record catalogue name) (Err (answer.NoRecord t.txn p.number))

-- the operation is a write of the record
abbrev pub writes : ℕ → Op → Bool
writes rec (op.Read other value) = false
writes rec (op.Write other value) = other == rec
