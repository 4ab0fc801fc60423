-- What a gateway prints for the bytes that its source has: the answers to the lines of the session, and the line after them, whatever
-- ends it.
use Rattle.std.specs.Prelude.{◌≡◌, ◌⊎◌, ◌<◌, ◌≤◌, ℕ, List, [], ◌∷◌, ◌++◌, length, take, Option, Some, None, Err}
use Rattle.vp_model.specs.Types.{Call}
use Rattle.vp_outside.specs.Causes.{Rose}
use Rattle.vp_outside.specs.Input.{SourceState, IsEnded}
use Rattle.vp_outside.specs.Links.{LinkState}
use Rattle.vp_client.specs.Asked.{Asks}
use Rattle.vp_client.specs.declared.asking.AskFault.{AskFault}
use Rattle.vp_client.specs.declared.asking.AskFault.TheVariants as faults
use Rattle.vp_gateway.specs.Lines.{all_lines, whole_lines}
use Rattle.vp_gateway.specs.Opening.{IsHead, LacksHead, Refuses}
use Rattle.vp_gateway.specs.Served.{bound_at}
use Rattle.vp_gateway.specs.Sessions.{IsSession}
use Rattle.vp_gateway.specs.declared.asked.LineRequest.{LineRequest}
use Rattle.vp_gateway.specs.declared.asked.LineRequest.TheVariants as asked
use Rattle.vp_gateway.specs.declared.end.GateEnd.{GateEnd}
use Rattle.vp_gateway.specs.declared.end.GateEnd.TheVariants as ends
use Rattle.vp_serving.specs.Serving.{Outside}
use Rattle.vp_status.specs.Printing.{Prints}
use Rattle.vp_status.specs.declared.status.Status.{Status}
use Rattle.vp_top.specs.Asked.{IsUnbound}
use Rattle.vp_top.specs.GatewayEnds.{last_line, status_of}
use Rattle.vp_top.specs.Program.{most_bytes}

-- the line after the answers, or nothing where there is none
abbrev pub line_after : Option (List ℕ) → List ℕ
line_after None = []
line_after (Some text) = text

-- ---- some first lines of a session

module _ (port site turns : ℕ) (lines : List LineRequest) (said : List ℕ) (old new : LinkState) where
  -- The first of these lines were answered.
  pub record IsFront : Type 0 where
    pub front : List LineRequest
    pub back : List LineRequest
    pub parts : lines ≡ front ++ back
    pub session : IsSession port site turns front said old new

  -- The first of them were answered, and asking the next one came to this fault.
  pub record IsBroken (fault : AskFault) : Type 0 where
    pub front : List LineRequest
    pub words : Call
    pub back : List LineRequest
    pub parts : lines ≡ front ++ asked.Call words ∷ back
    pub now : LinkState
    pub session : IsSession port site turns front said old now
    pub asks : Asks port site words turns now new (Err fault)

-- ---- what was taken

-- The source had these bytes, and this much of them was taken.
pub record IsTaken (bytes : List ℕ) (source' : SourceState) : Type 0 where
  pub taken : List ℕ
  pub rest : List ℕ
  pub parts : bytes ≡ taken ++ rest
  pub left : source'.left ≡ Some rest

module _ (own turns site : ℕ) (bytes : List ℕ) (source source' : SourceState) (o : Outside) where
  -- As far as an input may go, that is a head with the site, and a body.
  pub record IsOpened : Type 0 where
    pub it : IsTaken bytes source'
    pub head : List ℕ
    pub port : ℕ
    pub is : IsHead site port head
    pub body : List ℕ
    pub split : take most_bytes it.taken ≡ head ++ body

  -- Nothing was answered, and the link was not called.
  pub record IsUnasked (said : List ℕ) : Type 0 where
    pub none_said : said ≡ []
    pub uncalled : o.link' ≡ o.link

  -- No head with the site begins it.
  pub record IsUnopened (said : List ℕ) : Type 0 where
    pub it : IsTaken bytes source'
    pub lacks : LacksHead site (take most_bytes it.taken)
    pub unasked : IsUnasked said

  -- It is no longer than an input may be, and its head is at fault.
  pub record IsRefused (end : GateEnd) (said : List ℕ) : Type 0 where
    pub it : IsTaken bytes source'
    pub few : length it.taken ≤ most_bytes
    pub refused : Refuses site source' it.taken end
    pub unasked : IsUnasked said

  -- ---- what was answered, at each end

  abbrev pub bound : LinkState
  bound = bound_at own o.link

  abbrev pub AnswersSo : GateEnd → List ℕ → Type 0
  AnswersSo ends.Done said =
      (s : IsOpened) × (bytes ≡ s.head ++ s.body) × IsEnded source' × IsSession s.port site turns (all_lines s.body) said bound o.link'
  AnswersSo ends.ReadFault said =
      Rose source.faults source'.faults × (IsUnopened said ⊎ ((s : IsOpened) × IsSession s.port site turns (whole_lines s.body) said bound o.link'))
  AnswersSo ends.Limit said =
      ((u : IsUnopened said) × (most_bytes < length u.it.taken))
      ⊎ ((s : IsOpened) × (most_bytes < length s.it.taken) × IsSession s.port site turns (whole_lines s.body) said bound o.link')
  AnswersSo ends.WriteFault said =
      Rose o.sink.faults o.sink'.faults × ((s : IsOpened) × IsFront s.port site turns (all_lines s.body) said bound o.link')
  AnswersSo ends.LinkFault said =
      (s : IsOpened) × ((IsUnbound own o.link o.link' × (said ≡ [])) ⊎ IsBroken s.port site turns (all_lines s.body) said bound o.link' faults.LinkFault)
  AnswersSo ends.NoMemory said =
      IsUnasked said
      ⊎ ((s : IsOpened) × (IsFront s.port site turns (all_lines s.body) said bound o.link' ⊎ IsBroken s.port site turns (all_lines s.body) said bound o.link' faults.NoMemory))
  AnswersSo end said = IsRefused end said

  -- ---- what was printed

  -- The answers were printed and the line after them, with the status of the end; or the sink failed in that, or memory ran out.
  pub record IsToldSession (told : Status) : Type 0 where
    pub end : GateEnd
    pub said : List ℕ
    pub answers : AnswersSo end said
    pub prints : Prints (status_of end) (said ++ line_after (last_line end)) o.sink o.sink' told
