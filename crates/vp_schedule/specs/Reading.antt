-- Reading calls from left to right.
use Rattle.std.specs.Prelude.{ℕ, ◌^◌, ◌-◌, List, [], ◌∷◌, codes, Result, Ok}
use Rattle.vp_text.specs.Reading.{◌>>=◌, literal_at, number_at, word_at, either}
use Rattle.vp_text.specs.Classes.{has, most}
use Rattle.vp_text.specs.declared.class.Class.TheVariants as classes
use Rattle.vp_base.specs.Reading.{txn_at}
use Rattle.vp_model.specs.Types.{TxnId, Call}
use Rattle.vp_model.specs.Types.call
use Rattle.vp_schedule.specs.TableReading.{table_at}

-- ---- a call that names no transaction

unfoldable pub begin_at : List ℕ → Result (Call × List ℕ) ℕ
begin_at bytes = do
  key ← literal_at (codes "begin") bytes
  Ok (call.Begin, key.1)

unfoldable pub regroup_at : List ℕ → Result (Call × List ℕ) ℕ
regroup_at bytes = do
  key ← literal_at (codes "regroup") bytes
  Ok (call.Regroup, key.1)

unfoldable pub bare_at : List ℕ → Result (Call × List ℕ) ℕ
bare_at bytes = either (begin_at bytes) (regroup_at bytes)

-- ---- what a call does, after its transaction and its number

unfoldable pub read_at : TxnId → ℕ → List ℕ → Result (Call × List ℕ) ℕ
read_at txn number bytes = do
  key ← literal_at (codes " read ") bytes
  name ← word_at (has classes.Name) (most classes.Name) key.1
  Ok (call.Read txn number name.0, name.1)

unfoldable pub write_at : TxnId → ℕ → List ℕ → Result (Call × List ℕ) ℕ
write_at txn number bytes = do
  key ← literal_at (codes " write ") bytes
  name ← word_at (has classes.Name) (most classes.Name) key.1
  space ← literal_at (32 ∷ []) name.1
  value ← word_at (has classes.Value) (most classes.Value) space.1
  Ok (call.Write txn number name.0 value.0, value.1)

unfoldable pub delete_at : TxnId → ℕ → List ℕ → Result (Call × List ℕ) ℕ
delete_at txn number bytes = do
  key ← literal_at (codes " delete ") bytes
  name ← word_at (has classes.Name) (most classes.Name) key.1
  Ok (call.Delete txn number name.0, name.1)

unfoldable pub commit_at : TxnId → ℕ → List ℕ → Result (Call × List ℕ) ℕ
commit_at txn number bytes = do
  key ← literal_at (codes " commit") bytes
  Ok (call.Commit txn number, key.1)

unfoldable pub abort_at : TxnId → ℕ → List ℕ → Result (Call × List ℕ) ℕ
abort_at txn number bytes = do
  key ← literal_at (codes " abort") bytes
  Ok (call.Abort txn number, key.1)

unfoldable pub ending_at : TxnId → ℕ → List ℕ → Result (Call × List ℕ) ℕ
ending_at txn number bytes = either (commit_at txn number bytes) (abort_at txn number bytes)

unfoldable pub removal_at : TxnId → ℕ → List ℕ → Result (Call × List ℕ) ℕ
removal_at txn number bytes = either (delete_at txn number bytes) (ending_at txn number bytes)

unfoldable pub weigh_at : TxnId → ℕ → List ℕ → Result (Call × List ℕ) ℕ
weigh_at txn number bytes = do
  key ← literal_at (codes " weigh ") bytes
  name ← word_at (has classes.Name) (most classes.Name) key.1
  table ← table_at name.1
  Ok (call.Weigh txn number name.0 table.0, table.1)

unfoldable pub other_change_at : TxnId → ℕ → List ℕ → Result (Call × List ℕ) ℕ
other_change_at txn number bytes = either (weigh_at txn number bytes) (removal_at txn number bytes)

unfoldable pub change_at : TxnId → ℕ → List ℕ → Result (Call × List ℕ) ℕ
change_at txn number bytes = either (write_at txn number bytes) (other_change_at txn number bytes)

unfoldable pub deed_at : TxnId → ℕ → List ℕ → Result (Call × List ℕ) ℕ
deed_at txn number bytes = either (read_at txn number bytes) (change_at txn number bytes)

-- ---- a call

unfoldable pub numbered_at : List ℕ → Result (Call × List ℕ) ℕ
numbered_at bytes = do
  txn ← txn_at bytes
  space ← literal_at (32 ∷ []) txn.1
  number ← number_at 1 (2 ^ 32 - 1) space.1
  deed_at txn.0 number.0 number.1

unfoldable pub call_at : List ℕ → Result (Call × List ℕ) ℕ
call_at bytes = either (bare_at bytes) (numbered_at bytes)
