-- What `proc` prints of a procedure, or of an input that is none.
use Rattle.std.specs.Prelude.{◌≡◌, ◌⊎◌, ℕ, List, [], ◌∷◌, ◌++◌, codes, Some, None, Result, Ok, Err}
use Rattle.std.specs.Fmt.{decimal}
use Rattle.vp_model.specs.Words.{value_at}
use Rattle.vp_model.specs.Texts.Answers.{answer_text}
use Rattle.vp_outside.specs.Links.{LinkState}
use Rattle.vp_client.specs.declared.asking.AskFault.{AskFault}
use Rattle.vp_client.specs.declared.asking.AskFault.TheVariants as faults
use Rattle.vp_procedure.specs.Document.{Answered, IsOnly}
use Rattle.vp_procedure.specs.declared.draft.ProcedureInput.{ProcedureInput}
use Rattle.vp_procedure.specs.declared.fault.ProcedureFault.{ProcedureFault}
use Rattle.vp_procedure.specs.declared.fault.ProcedureFault.TheVariants as texts
use Rattle.vp_procedure.specs.declared.procedure.Procedure.{Procedure}
use Rattle.vp_proc.specs.Ran.{Runs}
use Rattle.vp_proc.specs.declared.ended.End.{End}
use Rattle.vp_proc.specs.declared.ended.End.TheVariants as ends
use Rattle.vp_proc.specs.declared.ended.Ended.{Ended}
use Rattle.vp_gateway.specs.Served.{bound_at}
use Rattle.vp_status.specs.Lines.{link_fault_text, no_answer_text}
use Rattle.vp_status.specs.Refused.{bad_line_text, limit_text, twice_text}
use Rattle.vp_status.specs.declared.status.Status.{Status}
use Rattle.vp_status.specs.declared.status.Status.TheVariants as status
use Rattle.vp_top.specs.Asked.{IsBound, IsUnbound}

-- ---- what a run comes to

-- the word and the number of an end, as its line
abbrev pub number_line : List ℕ → ℕ → List ℕ
number_line word n = word ++ (decimal n ++ 10 ∷ [])

abbrev pub end_line : End → List ℕ
end_line (ends.Done number) = number_line (codes "done ") number
end_line (ends.NotNumber line) = number_line (codes "notnumber ") line
end_line (ends.Overflow line) = number_line (codes "overflow ") line
end_line (ends.Failed code) = number_line (codes "failed ") code
end_line (ends.Refused a) = answer_text a ++ 10 ∷ []

abbrev pub end_status : End → Status
end_status (ends.Done number) = status.Done
end_status end = status.NoResult

-- the status and the line of a run
abbrev pub TellsRun : Result Ended AskFault → Status → List ℕ → Type 0
TellsRun (Ok ended) end text = (end ≡ end_status ended.end) × (text ≡ end_line ended.end)
TellsRun (Err (faults.NoAnswer count)) end text = (end ≡ status.NoAnswer) × (text ≡ no_answer_text)
TellsRun (Err faults.LinkFault) end text = (end ≡ status.LinkFault) × (text ≡ link_fault_text)
TellsRun (Err faults.NoMemory) end text = ⊥

-- ---- from the client's own port

module _ (own turns port site : ℕ) (p : Procedure) (old new : LinkState) where
  -- The procedure was run, with this result.
  pub record HasRun (answered : Result Ended AskFault) : Type 0 where
    pub bound : IsBound own new
    pub runs : Runs port site turns p (bound_at own old) new answered

  -- the text of `proc` for a procedure, at each status
  abbrev pub ProcedureGives : Status → List ℕ → Type 0
  ProcedureGives end text =
      ((answered : Result Ended AskFault) × HasRun answered × TellsRun answered end text)
      ⊎ (IsUnbound own old new × (end ≡ status.LinkFault) × (text ≡ link_fault_text))

  -- If memory runs out, the procedure was run with some result, or its port couldn't be bound.
  abbrev pub ProcedureLeaves : Type 0
  ProcedureLeaves = ((answered : Result Ended AskFault) × HasRun answered) ⊎ IsUnbound own old new

-- ---- the input

-- the status and the text of a fault
abbrev pub TellsProcedure : ProcedureFault → Status → List ℕ → Type 0
TellsProcedure (texts.BadLine line at) end text = (end ≡ status.BadLine) × (text ≡ bad_line_text line at)
TellsProcedure (texts.Twice line) end text = (end ≡ status.BadLine) × (text ≡ twice_text line)
TellsProcedure (texts.TooMany line limit) end text = (end ≡ status.Limit) × (text ≡ limit_text limit)
TellsProcedure texts.NoMemory end text = ⊥

-- The bytes are no procedure's: this is their one fault, in the first line that has one.
pub record IsNoProcedure (bytes : List ℕ) (end : Status) (text : List ℕ) : Type 0 where
  pub fault : ProcedureFault
  pub answered : Answered bytes (Err fault)
  pub only : IsOnly bytes (Err fault)
  pub told : TellsProcedure fault end text

-- The bytes are the text of this procedure and of no other.
pub record IsInput (bytes : List ℕ) (it : ProcedureInput) : Type 0 where
  pub spelled : Answered bytes (Ok it)
  pub only : IsOnly bytes (Ok it)

-- Its catalogue lacks the site.
abbrev pub LacksSite : List ℕ → ℕ → Type 0
LacksSite bytes site = (it : ProcedureInput) × IsInput bytes it × (value_at site it.catalog.sites ≡ None)

-- Its catalogue has the site, with a port by which that is so.
abbrev pub IsAtSite : List ℕ → ℕ → (Procedure → ℕ → Type 0) → Type 0
IsAtSite bytes site Told = (it : ProcedureInput) × IsInput bytes it × (port : ℕ) × (value_at site it.catalog.sites ≡ Some port) × Told it.procedure port
