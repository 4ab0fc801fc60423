-- Reading the lines of a history from left to right.
use Rattle.std.specs.Prelude.{ℕ, suc, List, [], ◌∷◌, length, cond, codes, Some, None, Result, Ok}
use Rattle.vp_text.specs.Reading.{◌>>=◌, literal_at, number_at, word_at, either, items_at}
use Rattle.vp_text.specs.Classes.{has, most}
use Rattle.vp_text.specs.declared.class.Class.TheVariants as classes
use Rattle.vp_base.specs.Reading.{among_at, txn_at, view_from_at}
use Rattle.vp_model.specs.Types.{ViewId, TxnId, Op, Commit}
use Rattle.vp_model.specs.Types.op
use Rattle.vp_onecopy.specs.declared.line.HistoryLine.{HistoryLine}
use Rattle.vp_onecopy.specs.declared.line.HistoryLine.TheVariants as kind
use Rattle.vp_onecopy.specs.Lines.{Before, some_names, may_start}

unfoldable pub read_at : List (List ℕ) → List ℕ → Result (Op × List ℕ) ℕ
read_at names bytes = do
  key ← literal_at (codes " r ") bytes
  rec ← among_at names key.1
  space ← literal_at (32 ∷ []) rec.1
  value ← word_at (has classes.Value) (most classes.Value) space.1
  Ok (op.Read rec.0 (Some value.0), value.1)

unfoldable pub write_at : List (List ℕ) → List ℕ → Result (Op × List ℕ) ℕ
write_at names bytes = do
  key ← literal_at (codes " w ") bytes
  rec ← among_at names key.1
  space ← literal_at (32 ∷ []) rec.1
  value ← word_at (has classes.Value) (most classes.Value) space.1
  Ok (op.Write rec.0 (Some value.0), value.1)

unfoldable pub absent_at : List (List ℕ) → List ℕ → Result (Op × List ℕ) ℕ
absent_at names bytes = do
  key ← literal_at (codes " a ") bytes
  rec ← among_at names key.1
  Ok (op.Read rec.0 None, rec.1)

unfoldable pub delete_at : List (List ℕ) → List ℕ → Result (Op × List ℕ) ℕ
delete_at names bytes = do
  key ← literal_at (codes " d ") bytes
  rec ← among_at names key.1
  Ok (op.Write rec.0 None, rec.1)

unfoldable pub bare_op_at : List (List ℕ) → List ℕ → Result (Op × List ℕ) ℕ
bare_op_at names bytes = either (absent_at names bytes) (delete_at names bytes)

unfoldable pub later_op_at : List (List ℕ) → List ℕ → Result (Op × List ℕ) ℕ
later_op_at names bytes = either (write_at names bytes) (bare_op_at names bytes)

unfoldable pub op_at : List (List ℕ) → List ℕ → Result (Op × List ℕ) ℕ
op_at names bytes = either (read_at names bytes) (later_op_at names bytes)

abbrev pub ops_at : List (List ℕ) → ℕ → List ℕ → Result (List Op × List ℕ) ℕ
ops_at names fuel bytes = items_at (λ (u : Unit {0}). some_names names) (λ u op. u) (λ u. op_at names) (10 ∷ []) fuel tt bytes

unfoldable pub start_at : List ℕ → Result (HistoryLine × List ℕ) ℕ
start_at bytes = do
  key ← literal_at (codes "start ") bytes
  name ← word_at (has classes.Name) (most classes.Name) key.1
  space ← literal_at (32 ∷ []) name.1
  value ← word_at (has classes.Value) (most classes.Value) space.1
  end ← literal_at (10 ∷ []) value.1
  Ok (kind.Start name.0 value.0, end.1)

abbrev pub commit_of : TxnId → ViewId → List Op → Commit
commit_of txn view ops = record { txn = txn; view = view; ops = ops; tables = [] }

unfoldable pub commit_at : List (List ℕ) → ViewId → List ℕ → Result (HistoryLine × List ℕ) ℕ
commit_at names last bytes = do
  key ← literal_at (codes "commit ") bytes
  txn ← txn_at key.1
  space ← literal_at (32 ∷ []) txn.1
  view ← view_from_at last space.1
  ops ← ops_at names (suc (length view.1)) view.1
  Ok (kind.Commit (commit_of txn.0 view.0 ops.0), ops.1)

unfoldable pub ending_at : ℕ → List ℕ → Result (HistoryLine × List ℕ) ℕ
ending_at commits bytes = do
  key ← literal_at (codes "end ") bytes
  count ← number_at commits commits key.1
  end ← literal_at (10 ∷ []) count.1
  Ok (kind.End, end.1)

unfoldable pub later_at : Before → List ℕ → Result (HistoryLine × List ℕ) ℕ
later_at before bytes = either (commit_at before.names before.last bytes) (ending_at before.commits bytes)

unfoldable pub line_at : Before → List ℕ → Result (HistoryLine × List ℕ) ℕ
line_at before bytes = cond (may_start before) (either (start_at bytes) (later_at before bytes)) (later_at before bytes)
