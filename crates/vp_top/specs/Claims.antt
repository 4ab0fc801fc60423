-- What follows from the contracts of a client's call and of signals alone, if no call of the link fails.
use Rattle.std.specs.Prelude.{◌≡◌, ℕ, List, [], ◌∷◌, ◌++◌, take, Some}
use Rattle.vp_model.specs.Types.{Answer, Call}
use Rattle.vp_model.specs.Texts.Answers.{answer_text}
use Rattle.vp_outside.specs.Links.{LinkState}
use Rattle.vp_outside.specs.declared.datagram.Datagram.{Datagram}
use Rattle.vp_runs.specs.Asking.{first_answer}
use Rattle.vp_client.specs.Asked.{HasFailed}
use Rattle.vp_top.specs.Asked.{ClientGives, SignalGives}
use Rattle.vp_words.specs.declared.words.Signal.{Signal}
use Rattle.vp_status.specs.declared.status.Status.{Status}
use Rattle.vp_status.specs.declared.status.Status.TheVariants as status

-- The answer that is among the datagrams that a link has left, as many as are waited for, is printed.
abbrev pub AnswersAreTold : Type 0
AnswersAreTold = (own turns port site : ℕ) (words : Call) (old new : LinkState) (end : Status) (text : List ℕ) (left : List Datagram) (a : Answer) →
    ClientGives own turns port site words old new end text → (HasFailed old new → ⊥) → old.left ≡ Some left → first_answer port site words (take turns left) ≡ Some a →
    (end ≡ status.Done) × (text ≡ answer_text a ++ 10 ∷ [])

-- A signal is sent.
abbrev pub SignalsAreDone : Type 0
SignalsAreDone = (port site : ℕ) (given : Signal) (old new : LinkState) (end : Status) (text : List ℕ) →
    SignalGives port site given old new end text → (HasFailed old new → ⊥) → end ≡ status.Done
