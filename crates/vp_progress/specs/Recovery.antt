-- A procedure that brings all sites together: which events, round by round. It computes, and no law speaks of it.
use Rattle.std.specs.Prelude.{ℕ, ◌+◌, Bool, true, false, if◌then◌else◌, List, [], ◌∷◌, ◌++◌, map}
use Rattle.vp_model.specs.Types.{ViewId, Sent, Message, Event}
use Rattle.vp_model.specs.Types.call
use Rattle.vp_model.specs.Types.event
use Rattle.vp_model.specs.Types.message
use Rattle.vp_model.specs.Words.{◌|>◌, for_each, same_view, view_before, opening}
use Rattle.vp_model.specs.Catalogue.{Catalogue, sites_of}
use Rattle.vp_model.specs.World.{Place, WorldState}
use Rattle.vp_progress.specs.Going.{world_after}

-- the events so far, and the world after them
pub record Course : Type 0 where
  pub events : List Event
  pub world : WorldState

-- one more round: its events are chosen in the world in which it begins
abbrev pub round : Catalogue → (WorldState → List Event) → Course → Course
round catalogue choose c = record { events = c.events ++ choose c.world; world = world_after catalogue (choose c.world) c.world }

-- the numbers of the messages that pass the test, the first of them with this number
abbrev pub numbers_of : (Message → Bool) → ℕ → List Sent → List ℕ
numbers_of test k [] = []
numbers_of test k (m ∷ ms) = if test m.message then k ∷ numbers_of test (k + 1) ms else numbers_of test (k + 1) ms

-- each message that passes the test and was ever sent
abbrev pub deliveries : (Message → Bool) → WorldState → List Event
deliveries test w = map event.Deliver (numbers_of test 1 w.sent)

-- ---- who invites

-- the greater of these promises, with its site
abbrev pub higher : Place → ℕ × ViewId → ℕ × ViewId
higher place best = if view_before best.1 place.durable.promise then (place.id, place.durable.promise) else best

abbrev pub greatest_in : List Place → ℕ × ViewId
greatest_in [] = (0, opening)
greatest_in (place ∷ places) = for_each places higher (place.id, place.durable.promise)

-- the first site with the greatest promise invites
abbrev pub inviter : WorldState → ℕ
inviter w = (greatest_in w.places).0

abbrev pub newest_view : WorldState → ViewId
newest_view w = (greatest_in w.places).1

-- ---- kinds of messages, of a view where they name one

abbrev pub is_invite : ViewId → Message → Bool
is_invite id (message.Invite i) = same_view i id
is_invite id m = false

abbrev pub is_accept : ViewId → Message → Bool
is_accept id (message.Accept i) = same_view i id
is_accept id m = false

abbrev pub is_view_commit : ViewId → Message → Bool
is_view_commit id (message.ViewCommit i members) = same_view i id
is_view_commit id m = false

abbrev pub is_inquire : Message → Bool
is_inquire (message.Inquire txn) = true
is_inquire m = false

abbrev pub is_outcome : Message → Bool
is_outcome (message.Outcome txn commit) = true
is_outcome m = false

abbrev pub is_refresh_request : ViewId → Message → Bool
is_refresh_request id (message.RefreshRequest view rec) = same_view view id
is_refresh_request id m = false

abbrev pub is_refresh_answer : ViewId → Message → Bool
is_refresh_answer id (message.RefreshAnswer view rec stored) = same_view view id
is_refresh_answer id m = false

-- ---- the rounds

abbrev pub tick_all : Catalogue → WorldState → List Event
tick_all catalogue w = map event.Tick (sites_of catalogue)

abbrev pub of_newest : (ViewId → Message → Bool) → WorldState → List Event
of_newest test w = deliveries (test (newest_view w)) w

-- Pairs are joined and sites start; the site with the greatest promise invites, all accept, it fixes the view, all join; each doubt is
-- asked about and ended; each copy is asked for and refreshed.
abbrev pub recovery : Catalogue → WorldState → Course
recovery catalogue w =
    record { events = []; world = w }
    |> round catalogue (λ w. map (λ (pair : ℕ × ℕ). event.Heal pair.0 pair.1) w.cuts)
    |> round catalogue (λ w. map event.Restart (sites_of catalogue))
    |> round catalogue (λ w. event.Call (inviter w) call.Regroup ∷ [])
    |> round catalogue (of_newest is_invite)
    |> round catalogue (of_newest is_accept)
    |> round catalogue (λ w. event.Tick (newest_view w).site ∷ [])
    |> round catalogue (of_newest is_view_commit)
    |> round catalogue (tick_all catalogue)
    |> round catalogue (deliveries is_inquire)
    |> round catalogue (deliveries is_outcome)
    |> round catalogue (tick_all catalogue)
    |> round catalogue (of_newest is_refresh_request)
    |> round catalogue (of_newest is_refresh_answer)
