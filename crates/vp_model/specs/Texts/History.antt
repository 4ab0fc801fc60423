-- A history: the starting value of each record, and the committed transactions with their operations.
use Rattle.std.specs.Prelude.{ℕ, List, [], ◌∷◌, ◌++◌, length, map, flat_map, codes, slice_index_or, Some, None}
use Rattle.std.specs.Fmt.{decimal}
use Rattle.vp_model.specs.Types.{Op, Commit}
use Rattle.vp_model.specs.Types.op
use Rattle.vp_model.specs.OneCopy.{order}
use Rattle.vp_model.specs.World.{Schedule, journal_of}
use Rattle.vp_model.specs.Texts.Fields.{view_text, txn_text}

abbrev pub op_text : List (List ℕ) → Op → List ℕ
op_text names (op.Read rec (Some value)) = codes " r " ++ (slice_index_or names rec [] ++ 32 ∷ value)
op_text names (op.Read rec None) = codes " a " ++ slice_index_or names rec []
op_text names (op.Write rec (Some value)) = codes " w " ++ (slice_index_or names rec [] ++ 32 ∷ value)
op_text names (op.Write rec None) = codes " d " ++ slice_index_or names rec []

abbrev pub commit_text : List (List ℕ) → Commit → List ℕ
commit_text names commit =
    codes "commit " ++ (txn_text commit.txn ++ 32 ∷ (view_text commit.view ++ (flat_map (op_text names) commit.ops ++ 10 ∷ [])))

abbrev pub start_text : List ℕ → List ℕ → List ℕ
start_text name value = codes "start " ++ (name ++ 32 ∷ (value ++ 10 ∷ []))

abbrev pub starts_text : List (List ℕ) → List (List ℕ) → List ℕ
starts_text [] values = []
starts_text (name ∷ names) [] = []
starts_text (name ∷ names) (value ∷ values) = start_text name value ++ starts_text names values

-- the line `history` and the lines of the history, from the names of the records, their values and the transactions in order
abbrev pub history_lines : List (List ℕ) → List (List ℕ) → List Commit → List ℕ
history_lines names start commits =
    codes "history\n"
    ++ (starts_text names start ++ (flat_map (commit_text names) commits ++ (codes "end " ++ (decimal (length commits) ++ 10 ∷ []))))

-- the history of a schedule: its committed transactions by view and then by moment of commit
abbrev pub history_text : Schedule → List ℕ
history_text s = history_lines (map (λ entry. entry.name) s.catalogue.records) (map (λ entry. entry.start) s.catalogue.records) (order (journal_of s))
