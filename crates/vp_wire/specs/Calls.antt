-- Reading the fields of a call, by the version and its kind.
use Rattle.std.specs.Prelude.{ℕ, List, Result, Ok}
use Rattle.vp_text.specs.Reading.{◌>>=◌}
use Rattle.vp_base.specs.declared.event.Call.{Call}
use Rattle.vp_base.specs.declared.event.Call.TheVariants as call
use Rattle.vp_wire.specs.declared.kind.CallKind.{CallKind}
use Rattle.vp_wire.specs.declared.kind.CallKind.TheVariants as kinds
use Rattle.vp_contents.specs.Values.{value_at}
use Rattle.vp_contents.specs.Tables.{table_at}
use Rattle.vp_contents.specs.declared.version.Version.{Version}
use Rattle.vp_bytes.specs.Reading.{numbered_at, name_at}

unfoldable pub call_at : Version → CallKind → List ℕ → Result (Call × List ℕ) ℕ
call_at version kinds.Begin bytes = Ok (call.Begin, bytes)
call_at version kinds.Regroup bytes = Ok (call.Regroup, bytes)
call_at version kinds.Read bytes = do
  numbered ← numbered_at bytes
  name ← name_at numbered.1
  Ok (call.Read numbered.0.0 numbered.0.1 name.0, name.1)
call_at version kinds.Write bytes = do
  numbered ← numbered_at bytes
  name ← name_at numbered.1
  value ← value_at version name.1
  Ok (call.Write numbered.0.0 numbered.0.1 name.0 value.0, value.1)
call_at version kinds.Commit bytes = do
  numbered ← numbered_at bytes
  Ok (call.Commit numbered.0.0 numbered.0.1, numbered.1)
call_at version kinds.Abort bytes = do
  numbered ← numbered_at bytes
  Ok (call.Abort numbered.0.0 numbered.0.1, numbered.1)
call_at version kinds.Delete bytes = do
  numbered ← numbered_at bytes
  name ← name_at numbered.1
  Ok (call.Delete numbered.0.0 numbered.0.1 name.0, name.1)
call_at version kinds.Weigh bytes = do
  numbered ← numbered_at bytes
  name ← name_at numbered.1
  table ← table_at name.1
  Ok (call.Weigh numbered.0.0 numbered.0.1 name.0 table.0, table.1)
