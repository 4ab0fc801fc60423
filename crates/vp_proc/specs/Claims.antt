-- What follows for every one copy on which the reads are as they were told.
use Rattle.std.specs.Prelude.{◌≡◌, ⊤, List, [], ◌∷◌, ◌++◌, Some}
use Rattle.vp_model.specs.Types.{TxnId, Op}
use Rattle.vp_model.specs.Types.op
use Rattle.vp_model.specs.OneCopy.{Values, play}
use Rattle.vp_client.specs.Conversations.{Exchange}
use Rattle.vp_procedure.specs.declared.procedure.Procedure.{Procedure}
use Rattle.vp_proc.specs.declared.ended.End.{End}
use Rattle.vp_proc.specs.declared.ended.End.TheVariants as ends
use Rattle.vp_proc.specs.declared.ended.Ended.{Ended}
use Rattle.vp_proc.specs.Scripts.{Script, script, Evaluated, content_at, eval}
use Rattle.vp_proc.specs.Telling.{Tells}

-- The reads of these operations are as told on the map, which the operations leave so.
abbrev pub AreAsTold : Values → List Op → Values → Type 0
AreAsTold m ops now = play m ops ≡ Some now

-- The operations begin with these.
abbrev pub BeginWith : List Op → List Op → Type 0
BeginWith ops front = (back : List Op) × (ops ≡ front ++ back)

-- what the evaluation is, by what is left of the script after these operations, on the map that they leave: a read or a write that is
-- left is the next of its operations, and an end that is left is its end
abbrev pub IsEvaluation : Evaluated → List Op → Values → Script → Type 0
IsEvaluation e ops now (Script.reads rec name go) = BeginWith e.ops (ops ++ op.Read rec (content_at now rec) ∷ [])
IsEvaluation e ops now (Script.writes rec name value more) = BeginWith e.ops (ops ++ op.Write rec (Some value) ∷ [])
IsEvaluation e ops now (Script.gives n) = e ≡ record { ops = ops; last = now; end = ends.Done n }
IsEvaluation e ops now (Script.stops end) = e ≡ record { ops = ops; last = now; end = end }

-- Whatever was told is the evaluation, as far as it goes, on each map on which the reads are as they were told.
abbrev pub RunsAreEvaluations : Type 0
RunsAreEvaluations =
    (p : Procedure) (txn : TxnId) (exchanges : List Exchange) (ops : List Op) (left : Script) (m now : Values) →
    Tells txn 1 (script p) exchanges ops left → AreAsTold m ops now → IsEvaluation (eval p m) ops now left

-- ---- of a run that has ended

-- It is an end that the procedure comes to by itself.
abbrev pub IsItsOwn : End → Type 0
IsItsOwn (ends.Refused a) = ⊥
IsItsOwn end = ⊤

-- On each map on which the reads are as they were told, the evaluation begins with the operations; and where no call was refused, it is
-- these operations, the map that they leave, and this end.
pub record IsEvaluated (p : Procedure) (it : Ended) : Type 0 where
  pub begins : (m now : Values) → AreAsTold m it.ops now → BeginWith (eval p m).ops it.ops
  pub is : (m now : Values) → AreAsTold m it.ops now → IsItsOwn it.end → eval p m ≡ record { ops = it.ops; last = now; end = it.end }
