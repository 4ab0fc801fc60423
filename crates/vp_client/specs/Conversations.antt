-- Calls that are asked one after the other on one link, with the answer to each.
use Rattle.std.specs.Prelude.{◌≡◌, ℕ, List, [], ◌∷◌, ◌++◌, map, Option, Some, None, Result, Ok, Err}
use Rattle.vp_model.specs.Types.{Answer, Call}
use Rattle.vp_outside.specs.Links.{LinkState, Hands}
use Rattle.vp_outside.specs.declared.datagram.Datagram.{Datagram}
use Rattle.vp_outside.specs.declared.datagram.Dispatch.{Dispatch}
use Rattle.vp_runs.specs.Asking.{call_datagram}
use Rattle.vp_client.specs.Asked.{Asks}
use Rattle.vp_client.specs.declared.asking.AskFault.{AskFault}
use Rattle.vp_client.specs.declared.asking.AskFault.TheVariants as faults

-- a call, and its answer if one came
abbrev pub Exchange : Type 0
Exchange = Call × Option Answer

-- the result of `ask` then
abbrev pub as_asked : ℕ → Option Answer → Result Answer AskFault
as_asked turns (Some a) = Ok a
as_asked turns None = Err (faults.NoAnswer turns)

-- These calls were asked of the site, in order, each with this answer in the datagrams that came after those of the calls before, and
-- nothing else was done with the link.
abbrev pub Conversed : ℕ → ℕ → ℕ → List Exchange → LinkState → LinkState → Type 0
Conversed port site turns [] old new = new ≡ old
Conversed port site turns (x ∷ more) old new = (mid : LinkState) × Asks port site x.0 turns old mid (as_asked turns x.1) × Conversed port site turns more mid new

-- their frames, each to the site's port
abbrev pub frames_of : ℕ → ℕ → List Exchange → List Datagram
frames_of port site exchanges = map (λ (x : Exchange). call_datagram port site x.0) exchanges

-- ---- the laws

-- Two conversations, one after the other, are one conversation.
abbrev pub ConversationsJoin : Type 0
ConversationsJoin = (port site turns : ℕ) (front back : List Exchange) (old mid new : LinkState) →
    Conversed port site turns front old mid → Conversed port site turns back mid new → Conversed port site turns (front ++ back) old new

-- A conversation hands over the frames of its calls, in order, one for each, and no others.
abbrev pub ConversationsHandOver : Type 0
ConversationsHandOver = (port site turns : ℕ) (exchanges : List Exchange) (old new : LinkState) → Conversed port site turns exchanges old new →
    (handed : List Dispatch) × Hands old.handed new.handed handed × (map (λ (h : Dispatch). h.datagram) handed ≡ frames_of port site exchanges)
