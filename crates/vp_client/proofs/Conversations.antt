-- Conversations go on, and hand over their frames.
use Rattle.std.proofs.Common.{ℕ, List, [], ◌∷◌, refl, ap, subst}
use Rattle.std.specs.Prelude.{Option, Some, None}
use Rattle.vp_model.specs.Types.{Answer, Call}
use Rattle.vp_outside.specs.Links.{LinkState}
use Rattle.vp_outside.specs.declared.datagram.Datagram.{Datagram}
use Rattle.vp_outside.specs.declared.datagram.Dispatch.{Dispatch}
use Rattle.vp_outside.proofs.Passed.{hands_none, hands_then}
use Rattle.vp_runs.specs.Asking.{call_datagram}
use Rattle.vp_client.specs.Asked.{IsSent, Asks}
use Rattle.vp_client.specs.Conversations.{as_asked, Conversed, ConversationsJoin, ConversationsHandOver}

pub conversations_join : ConversationsJoin
conversations_join port site turns [] back old mid new h k = subst (λ (s : LinkState). Conversed port site turns back s new) h k
conversations_join port site turns (x ∷ front) back old mid new h k = (h.0, h.1, conversations_join port site turns front back h.0 mid new h.2 k)

pub asked_sent : (port site turns : ℕ) (words : Call) (said : Option Answer) (old new : LinkState) → Asks port site words turns old new (as_asked turns said) → IsSent port site words old new
asked_sent port site turns words (Some a) old new h = h.sent
asked_sent port site turns words None old new h = h.1.1.sent

pub conversations_hand_over : ConversationsHandOver
conversations_hand_over port site turns [] old new h = ([], hands_none old.handed new.handed (ap (λ (s : LinkState). s.handed) h), refl)
conversations_hand_over port site turns (x ∷ more) old new h =
    let first = asked_sent port site turns x.0 x.1 old h.0 h.1 in
    let rest = conversations_hand_over port site turns more h.0 new h.2 in
    let frame : Dispatch = record { after = old.given; datagram = call_datagram port site x.0 } in
    (frame ∷ rest.0, hands_then old.handed h.0.handed new.handed (frame ∷ []) rest.0 first rest.1, ap (λ (ds : List Datagram). call_datagram port site x.0 ∷ ds) rest.2)
