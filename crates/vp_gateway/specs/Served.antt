-- How serving a session ends.
use Rattle.std.specs.Prelude.{◌≡◌, ◌⊎◌, ℕ, ◌≤◌, ◌<◌, true, false, List, ◌++◌, length, take, Some}
use Rattle.vp_outside.specs.Causes.{Rose}
use Rattle.vp_outside.specs.Input.{SourceState, IsEnded, Took}
use Rattle.vp_outside.specs.Output.{SinkState}
use Rattle.vp_outside.specs.Links.{LinkState, GivesNone, HandsNone}
use Rattle.vp_gateway.specs.Lines.{whole_lines, all_lines}
use Rattle.vp_gateway.specs.Sessions.{Talk, talk, HasAnswered, HasLost, HasCut, HasRunOut}
use Rattle.vp_gateway.specs.Opening.{most, IsHead, HasTaken, HasFailed, HasTakenTooMany, IsRefused}
use Rattle.vp_gateway.specs.declared.end.GateEnd.{GateEnd}
use Rattle.vp_gateway.specs.declared.end.GateEnd.TheVariants as ends

-- The source, the sink and the link as serving began and as it returned.
pub record Gate : Type 0 where
  pub source : SourceState
  pub source' : SourceState
  pub sink : SinkState
  pub sink' : SinkState
  pub link : LinkState
  pub link' : LinkState

abbrev pub gate : SourceState → SourceState → SinkState → SinkState → LinkState → LinkState → Gate
gate source source' sink sink' link link' = record { source = source; source' = source'; sink = sink; sink' = sink'; link = link; link' = link' }

-- the link after this port was bound
abbrev pub bound_at : ℕ → LinkState → LinkState
bound_at own link = record link { asked = Some own; bound = true }

module _ (own site turns : ℕ) (g : Gate) where
  -- Neither the sink nor the link was called.
  pub record IsUncalled : Type 0 where
    pub sink : g.sink' ≡ g.sink
    pub link : g.link' ≡ g.link

  -- These bytes were taken; as far as the input may go, they are a head and a body.
  pub record HasBegun : Type 0 where
    pub bytes : List ℕ
    pub took : Took bytes g.source g.source'
    pub head : List ℕ
    pub port : ℕ
    pub is : IsHead site port head
    pub body : List ℕ
    pub parts : take most bytes ≡ head ++ body

  -- after the head: the gateway's own port was bound first
  abbrev pub bound : Talk
  bound = talk g.sink g.sink' (bound_at own g.link) g.link'

  -- The port couldn't be bound.
  pub record IsUnbound : Type 0 where
    pub sink : g.sink' ≡ g.sink
    pub asked : g.link'.asked ≡ Some own
    pub unbound : g.link'.bound ≡ false
    pub rose : Rose g.link.faults g.link'.faults
    pub gives_none : GivesNone g.link g.link'
    pub hands_none : HandsNone g.link g.link'

  -- ---- the ends

  -- All lines were answered, to the end of the input.
  abbrev pub IsDone : Type 0
  IsDone = (b : HasBegun) × (length b.bytes ≤ most) × IsEnded g.source' × HasAnswered b.port site turns bound (all_lines b.body)

  -- The source failed: whatever whole lines it gave are answered, so a line is answered before more is taken.
  abbrev pub IsReadFault : Type 0
  IsReadFault =
      (IsUncalled × HasFailed site g.source g.source')
      ⊎ (Rose g.source.faults g.source'.faults × ((b : HasBegun) × HasAnswered b.port site turns bound (whole_lines b.body)))

  -- More bytes were taken than an input may have: the lines that end within those are answered.
  abbrev pub IsLimit : Type 0
  IsLimit =
      (IsUncalled × HasTakenTooMany site g.source g.source')
      ⊎ ((b : HasBegun) × (most < length b.bytes) × HasAnswered b.port site turns bound (whole_lines b.body))

  abbrev pub IsWriteFault : Type 0
  IsWriteFault = Rose g.sink.faults g.sink'.faults × ((b : HasBegun) × HasCut b.port site turns bound (all_lines b.body))

  abbrev pub IsLinkFault : Type 0
  IsLinkFault = (b : HasBegun) × (IsUnbound ⊎ HasLost b.port site turns bound (all_lines b.body))

  abbrev pub IsOutOfMemory : Type 0
  IsOutOfMemory = (IsUncalled × HasTaken g.source g.source') ⊎ ((b : HasBegun) × HasRunOut b.port site turns bound (all_lines b.body))

  abbrev pub Serves : GateEnd → Type 0
  Serves ends.Done = IsDone
  Serves ends.ReadFault = IsReadFault
  Serves ends.WriteFault = IsWriteFault
  Serves ends.LinkFault = IsLinkFault
  Serves ends.Limit = IsLimit
  Serves ends.NoMemory = IsOutOfMemory
  Serves end = IsUncalled × IsRefused site g.source g.source' end
