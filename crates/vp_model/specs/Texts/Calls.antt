-- The texts of calls and events, as a schedule has them.
use Rattle.std.specs.Prelude.{ℕ, List, ◌∷◌, ◌++◌, codes}
use Rattle.std.specs.Fmt.{decimal}
use Rattle.vp_model.specs.Types.{Call, Event}
use Rattle.vp_model.specs.Types.call
use Rattle.vp_model.specs.Types.event
use Rattle.vp_model.specs.Texts.Fields.{call_name_text, table_text}

abbrev pub call_text : Call → List ℕ
call_text call.Begin = codes "begin"
call_text call.Regroup = codes "regroup"
call_text (call.Read txn number name) = call_name_text txn number ++ (codes " read " ++ name)
call_text (call.Write txn number name value) = call_name_text txn number ++ (codes " write " ++ (name ++ 32 ∷ value))
call_text (call.Delete txn number name) = call_name_text txn number ++ (codes " delete " ++ name)
call_text (call.Weigh txn number name table) = call_name_text txn number ++ (codes " weigh " ++ (name ++ table_text table))
call_text (call.Commit txn number) = call_name_text txn number ++ codes " commit"
call_text (call.Abort txn number) = call_name_text txn number ++ codes " abort"

-- a word and the two sites of a pair
abbrev pub pair_text : List ℕ → ℕ → ℕ → List ℕ
pair_text word a b = word ++ (decimal a ++ 32 ∷ decimal b)

abbrev pub event_text : Event → List ℕ
event_text (event.Call site words) = codes "call " ++ (decimal site ++ 32 ∷ call_text words)
event_text (event.Deliver k) = codes "deliver " ++ decimal k
event_text (event.Flow count) = codes "flow " ++ decimal count
event_text (event.Tick site) = codes "tick " ++ decimal site
event_text (event.Probe site) = codes "probe " ++ decimal site
event_text (event.Cut a b) = pair_text (codes "cut ") a b
event_text (event.Heal a b) = pair_text (codes "heal ") a b
event_text (event.Crash site) = codes "crash " ++ decimal site
event_text (event.Restart site) = codes "restart " ++ decimal site
