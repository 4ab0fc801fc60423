-- What follows from the contract of `ask` alone.
use Rattle.std.specs.Prelude.{◌≡◌, ◌⊎◌, ℕ, List, take, Some, Result, Ok, Err}
use Rattle.vp_model.specs.Types.{Answer, Call}
use Rattle.vp_outside.specs.Links.{LinkState}
use Rattle.vp_outside.specs.declared.datagram.Datagram.{Datagram}
use Rattle.vp_runs.specs.Asking.{answer_of, first_answer}
use Rattle.vp_laws.specs.Shapes.{IsAnswer}
use Rattle.vp_client.specs.Asked.{HasFailed, Asks}
use Rattle.vp_client.specs.declared.asking.AskFault.{AskFault}
use Rattle.vp_client.specs.declared.asking.AskFault.TheVariants as faults

-- If no call of the link failed, and the answer is among the first datagrams that it has left, that answer is given, or memory ran out.
abbrev pub AnswersAreGiven : Type 0
AnswersAreGiven = (port site : ℕ) (words : Call) (turns : ℕ) (old new : LinkState) (result : Result Answer AskFault) (left : List Datagram) (a : Answer) →
    Asks port site words turns old new result → (HasFailed old new → ⊥) → old.left ≡ Some left → first_answer port site words (take turns left) ≡ Some a →
    (result ≡ Ok a) ⊎ (result ≡ Err faults.NoMemory)

-- The answer that a datagram has is one that a site may give.
abbrev pub AnswersAreShaped : Type 0
AnswersAreShaped = (port site : ℕ) (words : Call) (d : Datagram) (a : Answer) → answer_of port site words d ≡ Some a → IsAnswer a
