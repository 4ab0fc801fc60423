-- Any one site can lead the others: it regroups twice, and they wait for its view.
use Rattle.std.specs.Prelude.{◌≡◌, ◌≢◌, ℕ, ◌+◌, ◌<◌, ◌≤◌, ◌^◌, ◌-◌, Bool, true, false, ◌==◌, ◌&&◌, List, [], ◌∷◌, length, Some}
use Rattle.vp_model.specs.Types.{ViewId, Event}
use Rattle.vp_model.specs.Types.event
use Rattle.vp_model.specs.Words.{has}
use Rattle.vp_model.specs.Catalogue.{sites_of}
use Rattle.vp_model.specs.Site.{SiteState}
use Rattle.vp_model.specs.World.{WorldState, Schedule, place_of, site_of, moments_of}
use Rattle.vp_progress.specs.Going.{goes_on, EachPasses, AreFresh, is_regroup, mends}
use Rattle.vp_progress.specs.Whole.{promised_number, AreUnspent}
use Rattle.vp_progress.specs.Progress.{world_of}

-- what mends these sites where this one alone regroups, and none is ticked, since a tick may invite too
abbrev pub gathers : ℕ → List ℕ → WorldState → Event → Bool
gathers leader sites w (event.Call site words) = (site == leader) && is_regroup words
gathers leader sites w (event.Tick site) = false
gathers leader sites w e = mends sites w e

abbrev pub calls_in : List Event → ℕ
calls_in [] = 0
calls_in (event.Call site words ∷ more) = calls_in more + 1
calls_in (e ∷ more) = calls_in more

-- Each of these sites is up. The leader invites to a view that each of them has accepted, and the others wait for it.
pub record IsAwaited (sites : List ℕ) (leader : ℕ) (w : WorldState) : Type 0 where
  pub id : ViewId
  pub accepted : List ℕ
  pub inviting : (x : SiteState) × (site_of w leader ≡ Some x) × (x.inviting ≡ Some (id, accepted))
  pub all : (q : ℕ) → has sites q ≡ true → has accepted q ≡ true
  pub waiting : (q : ℕ) → has sites q ≡ true → q ≢ leader
      → (x : SiteState) × (site_of w q ≡ Some x) × (x.waiting ≡ Some id)

pub record CanGather (s : Schedule) (sites : List ℕ) (leader : ℕ) : Type 0 where
  pub more : List Event
  pub gathering : EachPasses s.catalogue (gathers leader sites) (world_of s) more
  pub fresh : AreFresh (world_of s) more
  pub twice : calls_in more ≤ 2
  pub awaited : IsAwaited sites leader (world_of (goes_on s more))

-- Two numbers of views are left at these sites, which two invitations take.
pub record HaveViewsLeft (sites : List ℕ) (w : WorldState) : Type 0 where
  pub unspent : AreUnspent sites w
  pub promised : (q : ℕ) → has sites q ≡ true → promised_number (place_of q w.places) < 2 ^ 64 - 2
  pub seen : (q : ℕ) (x : SiteState) → has sites q ≡ true → site_of w q ≡ Some x → x.seen < 2 ^ 64 - 2

-- Whichever of these sites leads, whatever the others have promised.
abbrev pub AnyoneCanLead : Type 0
AnyoneCanLead =
    (s : Schedule) (sites : List ℕ) (leader : ℕ)
    → ((q : ℕ) → has sites q ≡ true → has (sites_of s.catalogue) q ≡ true)
    → has sites leader ≡ true
    → HaveViewsLeft sites (world_of s)
    → CanGather s sites leader

-- A run of fewer steps than there are lives leaves them.
abbrev pub AnyoneCanLeadShortly : Type 0
AnyoneCanLeadShortly =
    (s : Schedule) (sites : List ℕ) (leader : ℕ)
    → ((q : ℕ) → has sites q ≡ true → has (sites_of s.catalogue) q ≡ true)
    → has sites leader ≡ true
    → length (moments_of s) < 2 ^ 32 - 2
    → CanGather s sites leader
