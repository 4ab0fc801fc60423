-- The steps of a run, each from what was told before it.
use Rattle.std.specs.Prelude.{◌≡◌, ◌+◌, ◌≤◌, length, Option, Some, None, Result, Ok, Err}
use Rattle.vp_model.specs.Types.{Answer}
use Rattle.vp_outside.specs.Links.{LinkState}
use Rattle.vp_client.specs.declared.asking.AskFault.{AskFault}
use Rattle.vp_client.specs.declared.asking.AskFault.TheVariants as faults
use Rattle.vp_procedure.specs.declared.procedure.Procedure.{Procedure}
use Rattle.vp_proc.specs.declared.ended.End.{End}
use Rattle.vp_proc.specs.declared.session.Session.{Session}
use Rattle.vp_proc.specs.Scripts.{Script}
use Rattle.vp_proc.specs.Ran.{HasTold, WasRefused, IsDue, AsksAbort, HasAborted, Ends, Breaks}

-- The session is of a run of this procedure that began with this state of the link.
module _ (s : Session) (p : Procedure) (old : LinkState) where
  -- It has told its operations, and this is left of the script.
  abbrev pub IsAt : Script → LinkState → Type 0
  IsAt left now = HasTold s.port s.site s.turns p old s.txn s.ops left now

  -- Its last call was answered otherwise.
  abbrev pub IsRefused : Answer → LinkState → Type 0
  IsRefused a now = WasRefused s.port s.site s.turns p old s.txn s.ops a now

  -- It is still to be aborted.
  abbrev pub IsToAbort : End → LinkState → Type 0
  IsToAbort end now = IsDue s.port s.site s.turns p old s.txn s.ops end now

  abbrev pub Aborts : {T E : Type 0} → End → LinkState → Result T E → Type 0
  Aborts end new (Ok u) = HasAborted s.port s.site s.turns p old s.ops end new
  Aborts end new (Err e) = AsksAbort s.port s.site s.turns p old s.ops end new (Err faults.NoMemory)

  -- That is its end, or its fault.
  abbrev pub Finishes : LinkState → Result End AskFault → Type 0
  Finishes new (Ok end) = Ends s.port s.site s.turns p old s.ops end new
  Finishes new (Err fault) = Breaks s.port s.site s.turns p old fault new

  -- It goes on, with this left of the script; or that is its end, or its fault.
  abbrev pub GoesOn : Script → LinkState → Result (Option End) AskFault → Type 0
  GoesOn left new (Ok None) = IsAt left new
  GoesOn left new (Ok (Some end)) = Ends s.port s.site s.turns p old s.ops end new
  GoesOn left new (Err fault) = Breaks s.port s.site s.turns p old fault new

-- A session is the same, but for at most one operation more.
pub record Grows (old new : Session) : Type 0 where
  pub same : new ≡ record old { ops = new.ops }
  pub few : length new.ops ≤ length old.ops + 1
