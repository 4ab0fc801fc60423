-- How asking ends: which datagrams came, and what was handed over.
use Rattle.std.specs.Prelude.{◌≡◌, ◌⊎◌, ◌≤◌, ℕ, List, [], ◌∷◌, ◌++◌, length, Some, None, Result, Ok, Err}
use Rattle.vp_model.specs.Types.{Answer, Call}
use Rattle.vp_outside.specs.Causes.{Rose, count_after}
use Rattle.vp_outside.specs.Links.{LinkState, Gave, Hands, HandsNow}
use Rattle.vp_outside.specs.declared.sink.OutFault.{OutFault}
use Rattle.vp_outside.specs.declared.sink.OutFault.TheVariants as output
use Rattle.vp_outside.specs.declared.datagram.Datagram.{Datagram}
use Rattle.vp_runs.specs.Asking.{first_answer, call_datagram}
use Rattle.vp_client.specs.declared.asking.AskFault.{AskFault}
use Rattle.vp_client.specs.declared.asking.AskFault.TheVariants as faults

-- These datagrams came, at most `turns` of them.
pub record Came (turns : ℕ) (arrived : List Datagram) (old new : LinkState) : Type 0 where
  pub gave : Gave old.left new.left arrived
  pub counted : new.given ≡ count_after old.given (length arrived)
  pub few : length arrived ≤ turns

-- a call of the link failed
abbrev pub HasFailed : LinkState → LinkState → Type 0
HasFailed old new = Rose old.faults new.faults ⊎ Rose old.losses new.losses

-- the one frame of the call was handed over, to that port, before any datagram came
abbrev pub IsSent : ℕ → ℕ → Call → LinkState → LinkState → Type 0
IsSent port site words old new = HandsNow old new (call_datagram port site words ∷ [])

-- that frame or nothing was handed over
abbrev pub MaySent : ℕ → ℕ → Call → LinkState → LinkState → Type 0
MaySent port site words old new = IsSent port site words old new ⊎ Hands old.handed new.handed []

module _ (port site : ℕ) (words : Call) (turns : ℕ) (old new : LinkState) where
  -- The last datagram that came has the answer, and none before it has one.
  pub record IsAnswered (a : Answer) : Type 0 where
    pub sent : IsSent port site words old new
    pub front : List Datagram
    pub last : Datagram
    pub came : Came turns (front ++ last ∷ []) old new
    pub none_before : first_answer port site words front ≡ None
    pub is : first_answer port site words (front ++ last ∷ []) ≡ Some a

  -- None of the datagrams that came has an answer.
  pub record IsUnanswered (arrived : List Datagram) : Type 0 where
    pub sent : IsSent port site words old new
    pub came : Came turns arrived old new
    pub none : first_answer port site words arrived ≡ None

  abbrev pub Asks : Result Answer AskFault → Type 0
  Asks (Ok a) = IsAnswered a
  Asks (Err (faults.NoAnswer count)) = (count ≡ turns) × ((arrived : List Datagram) × IsUnanswered arrived × (length arrived ≡ turns))
  Asks (Err faults.LinkFault) = HasFailed old new × ((arrived : List Datagram) × IsUnanswered arrived)
  Asks (Err faults.NoMemory) = MaySent port site words old new × ((arrived : List Datagram) × Came turns arrived old new)

-- the fault of asking that a fault of sending becomes
abbrev pub of_output : OutFault → AskFault
of_output output.Failed = faults.LinkFault
of_output output.NoMemory = faults.NoMemory
