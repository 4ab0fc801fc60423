-- How a procedure runs over a link: what was asked, what was answered, and the end.
use Rattle.std.specs.Prelude.{◌≡◌, ◌≢◌, ◌⊎◌, ⊤, ℕ, ◌+◌, true, false, List, [], length, Some, None, Result, Ok, Err}
use Rattle.vp_model.specs.Types.{TxnId, Op, Answer}
use Rattle.vp_model.specs.Types.call
use Rattle.vp_outside.specs.Links.{LinkState}
use Rattle.vp_client.specs.Asked.{Asks}
use Rattle.vp_client.specs.Conversations.{Exchange, Conversed}
use Rattle.vp_client.specs.declared.asking.AskFault.{AskFault}
use Rattle.vp_client.specs.declared.asking.AskFault.TheVariants as faults
use Rattle.vp_procedure.specs.declared.procedure.Procedure.{Procedure}
use Rattle.vp_proc.specs.declared.ended.End.{End}
use Rattle.vp_proc.specs.declared.ended.End.TheVariants as ends
use Rattle.vp_proc.specs.declared.ended.Ended.{Ended}
use Rattle.vp_proc.specs.Scripts.{Script, script}
use Rattle.vp_proc.specs.Telling.{next_call, begun_in, is_committed, is_end, Refuses, Tells}

-- The script of a procedure is run by asking a site, from this state of the link on.
module _ (port site turns : ℕ) (p : Procedure) (old : LinkState) where
  -- The transaction was begun, these operations were asked and told, and this is left of the script.
  pub record HasTold (txn : TxnId) (ops : List Op) (left : Script) (now : LinkState) : Type 0 where
    pub first : Answer
    pub named : begun_in first ≡ Some txn
    pub begun : LinkState
    pub opened : Asks port site call.Begin turns old begun (Ok first)
    pub exchanges : List Exchange
    pub tells : Tells txn 1 (script p) exchanges ops left
    pub conversed : Conversed port site turns exchanges begun now

  -- Then the next call was asked, with this result. Calls are numbered from 1.
  abbrev pub AsksNext : TxnId → List Op → Script → LinkState → LinkState → Result Answer AskFault → Type 0
  AsksNext txn ops left now new answered = Asks port site (next_call txn (length ops + 1) left) turns now new answered

  -- That call was answered otherwise.
  pub record WasRefused (txn : TxnId) (ops : List Op) (a : Answer) (new : LinkState) : Type 0 where
    pub left : Script
    pub now : LinkState
    pub has_told : HasTold txn ops left now
    pub asks : AsksNext txn ops left now new (Ok a)
    pub refuses : Refuses left a

  -- ---- the abort

  -- The transaction is still to be aborted for this end.
  abbrev pub IsDue : TxnId → List Op → End → LinkState → Type 0
  IsDue txn ops (ends.Done number) now = ⊥
  IsDue txn ops (ends.Refused a) now = WasRefused txn ops a now × (is_end a ≡ false)
  IsDue txn ops end now = HasTold txn ops (Script.stops end) now

  -- The abort was asked, with this result.
  pub record AsksAbort (ops : List Op) (end : End) (new : LinkState) (answered : Result Answer AskFault) : Type 0 where
    pub txn : TxnId
    pub now : LinkState
    pub due : IsDue txn ops end now
    pub asks : Asks port site (call.Abort txn (length ops + 1)) turns now new answered

  -- It was asked, and its result changes nothing, except for want of memory.
  abbrev pub HasAborted : List Op → End → LinkState → Type 0
  HasAborted ops end new = (answered : Result Answer AskFault) × AsksAbort ops end new answered × (answered ≢ Err faults.NoMemory)

  -- ---- the ends

  -- The result was reached, and the commit was answered.
  pub record HasCommitted (ops : List Op) (number : ℕ) (new : LinkState) : Type 0 where
    pub txn : TxnId
    pub now : LinkState
    pub has_told : HasTold txn ops (Script.gives number) now
    pub said : Answer
    pub asks : AsksNext txn ops (Script.gives number) now new (Ok said)
    pub committed : is_committed said ≡ true

  -- No transaction was begun.
  pub record HasNotBegun (ops : List Op) (a : Answer) (new : LinkState) : Type 0 where
    pub none : ops ≡ []
    pub asks : Asks port site call.Begin turns old new (Ok a)
    pub refuses : begun_in a ≡ None

  -- The refusal ended the transaction.
  pub record HasClosed (ops : List Op) (a : Answer) (new : LinkState) : Type 0 where
    pub txn : TxnId
    pub refused : WasRefused txn ops a new
    pub closed : is_end a ≡ true

  abbrev pub Ends : List Op → End → LinkState → Type 0
  Ends ops (ends.Done number) new = HasCommitted ops number new
  Ends ops (ends.Refused a) new = HasNotBegun ops a new ⊎ (HasClosed ops a new ⊎ HasAborted ops (ends.Refused a) new)
  Ends ops end new = HasAborted ops end new

  -- ---- the faults

  -- it is a call whose answer matters
  abbrev pub IsWanted : Script → Type 0
  IsWanted (Script.stops end) = ⊥
  IsWanted left = ⊤

  -- The next call broke it off, which is the last one.
  pub record HasBroken (fault : AskFault) (new : LinkState) : Type 0 where
    pub txn : TxnId
    pub ops : List Op
    pub left : Script
    pub now : LinkState
    pub has_told : HasTold txn ops left now
    pub wanted : IsWanted left
    pub asks : AsksNext txn ops left now new (Err fault)

  -- Memory ran out between two calls, or in the abort.
  pub record HasRunOut (new : LinkState) : Type 0 where
    pub txn : TxnId
    pub ops : List Op
    pub last : ((left : Script) × HasTold txn ops left new) ⊎ ((end : End) × AsksAbort ops end new (Err faults.NoMemory))

  abbrev pub Breaks : AskFault → LinkState → Type 0
  Breaks fault new = Asks port site call.Begin turns old new (Err fault) ⊎ (HasBroken fault new ⊎ ((fault ≡ faults.NoMemory) × HasRunOut new))

  -- ---- the run

  abbrev pub Runs : LinkState → Result Ended AskFault → Type 0
  Runs new (Ok ended) = Ends ended.ops ended.end new
  Runs new (Err fault) = Breaks fault new
