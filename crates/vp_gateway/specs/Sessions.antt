-- The lines of a session with their answers, by the datagrams that come.
use Rattle.std.specs.Prelude.{◌≡◌, ◌⊎◌, ℕ, List, [], ◌∷◌, ◌++◌, Option, Err}
use Rattle.std.specs.Io.KnownBytes.{Appends}
use Rattle.vp_model.specs.Types.{Answer, Call}
use Rattle.vp_outside.specs.Output.{SinkState, AppendsPrefix}
use Rattle.vp_outside.specs.Links.{LinkState}
use Rattle.vp_client.specs.Asked.{Asks}
use Rattle.vp_client.specs.Conversations.{Exchange, Conversed}
use Rattle.vp_client.specs.declared.asking.AskFault.TheVariants as faults
use Rattle.vp_gateway.specs.declared.asked.LineRequest.{LineRequest}
use Rattle.vp_gateway.specs.declared.asked.LineRequest.TheVariants as asked
use Rattle.vp_gateway.specs.Lines.{said_line, bad_line, long_line}

-- The calls of these lines, with these answers, and the text of the answers in the order of the lines.
pub data Answers : List LineRequest → List Exchange → List ℕ → Type 0 where
  none : Answers [] [] []
  asks : (words : Call) (said : Option Answer) (more : List LineRequest) (exchanges : List Exchange) (text : List ℕ) →
      Answers more exchanges text → Answers (asked.Call words ∷ more) ((words, said) ∷ exchanges) (said_line said ++ text)
  bad : (at : ℕ) (more : List LineRequest) (exchanges : List Exchange) (text : List ℕ) → Answers more exchanges text → Answers (asked.Bad at ∷ more) exchanges (bad_line at ++ text)
  long : (more : List LineRequest) (exchanges : List Exchange) (text : List ℕ) → Answers more exchanges text → Answers (asked.Long ∷ more) exchanges (long_line ++ text)

-- These lines were answered with this text: their calls were asked of the site, one after the other, and nothing else was done with the
-- link.
pub record IsSession (port site turns : ℕ) (lines : List LineRequest) (text : List ℕ) (old new : LinkState) : Type 0 where
  pub exchanges : List Exchange
  pub answers : Answers lines exchanges text
  pub conversed : Conversed port site turns exchanges old new

-- The sink and the link before some lines were answered and after it.
pub record Talk : Type 0 where
  pub sink : SinkState
  pub sink' : SinkState
  pub link : LinkState
  pub link' : LinkState

abbrev pub talk : SinkState → SinkState → LinkState → LinkState → Talk
talk sink sink' link link' = record { sink = sink; sink' = sink'; link = link; link' = link' }

module _ (port site turns : ℕ) (t : Talk) (lines : List LineRequest) where
  -- These lines were answered, all of them, and no other call was made to the sink or the link.
  pub record HasAnswered : Type 0 where
    pub text : List ℕ
    pub session : IsSession port site turns lines text t.link t.link'
    pub writes : Appends t.sink.held t.sink'.held text

  -- Lines were answered, and then a call failed, which is the last one.
  pub record HasLost : Type 0 where
    pub front : List LineRequest
    pub words : Call
    pub back : List LineRequest
    pub parts : lines ≡ front ++ asked.Call words ∷ back
    pub text : List ℕ
    pub now : LinkState
    pub session : IsSession port site turns front text t.link now
    pub asks : Asks port site words turns now t.link' (Err faults.LinkFault)
    pub writes : Appends t.sink.held t.sink'.held text

  -- Lines were asked, and the answer to the last one was put in part.
  pub record HasCut : Type 0 where
    pub front : List LineRequest
    pub back : List LineRequest
    pub parts : lines ≡ front ++ back
    pub text : List ℕ
    pub session : IsSession port site turns front text t.link t.link'
    pub writes : AppendsPrefix t.sink.held t.sink'.held text

  -- Memory ran out, in a call or between two.
  pub record HasRunOut : Type 0 where
    pub front : List LineRequest
    pub back : List LineRequest
    pub parts : lines ≡ front ++ back
    pub text : List ℕ
    pub now : LinkState
    pub session : IsSession port site turns front text t.link now
    pub last : (t.link' ≡ now) ⊎ ((words : Call) × (more : List LineRequest) × (back ≡ asked.Call words ∷ more) × Asks port site words turns now t.link' (Err faults.NoMemory))
    pub writes : AppendsPrefix t.sink.held t.sink'.held text
