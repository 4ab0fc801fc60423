-- The calls of clients are those that the second version can say.
use Rattle.vp_base.specs.Calls.{IsCall}
use Rattle.vp_base.specs.declared.event.Call.{Call}
use Rattle.vp_base.specs.declared.event.Call.TheVariants as call
use Rattle.vp_contents.specs.declared.version.Version.TheVariants as versions
use Rattle.vp_wire.specs.Grammar.{IsCallIn}

pub call_in : (words : Call) → IsCall words → IsCallIn versions.Second words
call_in call.Begin h = h
call_in call.Regroup h = h
call_in (call.Read txn number name) h = h
call_in (call.Write txn number name value) h = h
call_in (call.Commit txn number) h = h
call_in (call.Abort txn number) h = h
call_in (call.Delete txn number name) h = (tt, h.0, h.1)
call_in (call.Weigh txn number name table) h = (tt, h.0, h.1, h.2)

pub call_of : (words : Call) → IsCallIn versions.Second words → IsCall words
call_of call.Begin h = h
call_of call.Regroup h = h
call_of (call.Read txn number name) h = h
call_of (call.Write txn number name value) h = h
call_of (call.Commit txn number) h = h
call_of (call.Abort txn number) h = h
call_of (call.Delete txn number name) h = (h.1, h.2)
call_of (call.Weigh txn number name table) h = (h.1, h.2, h.3)
