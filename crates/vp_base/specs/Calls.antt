-- What the calls of clients are.
use Rattle.std.specs.Prelude.{ℕ, ◌≤◌, ◌<◌, ◌^◌}
use Rattle.vp_base.specs.Words.{IsName, IsValue}
use Rattle.vp_base.specs.Identifiers.{IsTxn}
use Rattle.vp_base.specs.Tables.{IsTable}
use Rattle.vp_base.specs.declared.ids.TxnId.{TxnId}
use Rattle.vp_base.specs.declared.event.Call.{Call}
use Rattle.vp_base.specs.declared.event.Call.TheVariants as call

-- The calls on a transaction have numbers from 1 to 4294967295.
pub record IsNumbered (txn : TxnId) (number : ℕ) : Type 0 where
  pub txn_is : IsTxn txn
  pub some : 1 ≤ number
  pub fits : number < 2 ^ 32

abbrev pub IsCall : Call → Type 0
IsCall call.Begin = Unit {0}
IsCall call.Regroup = Unit {0}
IsCall (call.Read txn number name) = IsNumbered txn number × IsName name name
IsCall (call.Write txn number name value) = IsNumbered txn number × IsName name name × IsValue value value
IsCall (call.Commit txn number) = IsNumbered txn number
IsCall (call.Abort txn number) = IsNumbered txn number
IsCall (call.Delete txn number name) = IsNumbered txn number × IsName name name
IsCall (call.Weigh txn number name table) = IsNumbered txn number × IsName name name × IsTable table
