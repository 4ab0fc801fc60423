-- What a site keeps of views, and what each call does to that and to the effects.
use Rattle.std.specs.Prelude.{ℕ, ◌+◌, ◌≡◌, Bool, true, false, not, ◌==◌, ◌&&◌, if◌then◌else◌, is_some, List, [], filter, Option, Some, None, option_map, Result, Ok, Err}
use Rattle.std.specs.Option.{option_map_or}
use Rattle.vp_model.specs.Types.{ViewId, View, Effects}
use Rattle.vp_model.specs.Types.log_record
use Rattle.vp_model.specs.Types.message
use Rattle.vp_model.specs.Words.{has, is_view, opening, put_number, view_before}
use Rattle.vp_model.specs.Catalogue.{Catalogue, sites_of}
use Rattle.vp_model.specs.Site.{ViewState, with_entry, with_message, with_messages}
use Rattle.vp_model.specs.Views.{highest, is_spent, other_sites, with_invitation, with_view}
use Rattle.vp_model.specs.Messages.{with_wait, with_heard}
use Rattle.vp_model.specs.Step.{with_monitor, is_odd}
use Rattle.vp_views.specs.declared.fault.Spent.{Spent}
use Rattle.vp_views.specs.declared.fault.InviteFault.{InviteFault}
use Rattle.vp_views.specs.declared.fault.InviteFault.TheVariants as fault
use Rattle.vp_views.specs.declared.standing.Standing.{Standing}
use Rattle.vp_views.specs.declared.standing.Standing.TheVariants as standing

-- the site, and what it knows of views
pub record Viewing : Type 0 where
  pub id : ℕ
  pub views : ViewState
  pub open views use *

-- the same with what a step has given so far
pub record Viewed : Type 0 where
  pub at : Viewing
  pub effects : Effects

abbrev pub view_step : Viewing → Effects → Viewed
view_step at effects = record { at = at; effects = effects }

abbrev pub change : (ViewState → ViewState) → Viewing → Viewing
change f v = record v { views = f v.views }

-- what the definitions keep of a site's views, by what the code keeps
abbrev pub state : ViewId → ℕ → Standing → ViewState
state promise seen standing.Apart =
    record { promise = promise; seen = seen; held = None; waiting = None; inviting = None; monitor = None }
state promise seen (standing.Holding view heard) =
    record { promise = promise; seen = seen; held = Some view; waiting = None; inviting = None; monitor = heard }
state promise seen standing.Waiting =
    record { promise = promise; seen = seen; held = None; waiting = Some promise; inviting = None; monitor = None }
state promise seen (standing.Inviting accepted) =
    record { promise = promise; seen = seen; held = None; waiting = None; inviting = Some (promise, accepted); monitor = None }

-- what each event does to a `Standing`
abbrev pub awaits : Standing → Bool
awaits standing.Apart = false
awaits (standing.Holding view heard) = false
awaits standing.Waiting = true
awaits (standing.Inviting accepted) = false

abbrev pub held_in : Standing → Option ViewId
held_in standing.Apart = None
held_in (standing.Holding view heard) = Some view.id
held_in standing.Waiting = None
held_in (standing.Inviting accepted) = None

abbrev pub accepted_by : ℕ → Standing → Standing
accepted_by site standing.Apart = standing.Apart
accepted_by site (standing.Holding view heard) = standing.Holding view heard
accepted_by site standing.Waiting = standing.Waiting
accepted_by site (standing.Inviting accepted) = standing.Inviting (put_number site accepted)

abbrev pub heard_by : ℕ → Standing → Standing
heard_by site standing.Apart = standing.Apart
heard_by site (standing.Holding view heard) = standing.Holding view (option_map (put_number site) heard)
heard_by site standing.Waiting = standing.Waiting
heard_by site (standing.Inviting accepted) = standing.Inviting accepted

abbrev pub listening : Standing → Standing
listening standing.Apart = standing.Apart
listening (standing.Holding view heard) = standing.Holding view (Some [])
listening standing.Waiting = standing.Waiting
listening (standing.Inviting accepted) = standing.Inviting accepted

-- the view that is held is the promised one
abbrev pub IsPromised : ViewId → Standing → Type 0
IsPromised promise standing.Apart = Unit {0}
IsPromised promise (standing.Holding view heard) = view.id ≡ promise
IsPromised promise standing.Waiting = Unit {0}
IsPromised promise (standing.Inviting accepted) = Unit {0}

-- the site neither holds a view, nor waits for or invites to one
pub record IsApart (v : ViewState) : Type 0 where
  pub held : v.held ≡ None
  pub waiting : v.waiting ≡ None
  pub inviting : v.inviting ≡ None

-- a site that starts: in the opening view, or in no view
abbrev pub start_views : Catalogue → ViewId → Bool → ViewState
start_views catalogue promise is_opening =
    record {
      promise = promise;
      seen = 0;
      held = if is_opening then Some (record { id = opening; members = sites_of catalogue }) else None;
      waiting = None;
      inviting = None;
      monitor = None;
    }

abbrev pub next_view : Viewing → ViewId
next_view v = record { number = highest v.views + 1; site = v.id }

-- the identifier of the next invitation, as long as there is one
abbrev pub invitable : Viewing → Result ViewId Spent
invitable v = if is_spent v.views then Err (record { number = highest v.views }) else Ok (next_view v)

abbrev pub inviting_to : Catalogue → ViewId → Viewed → Viewed
inviting_to catalogue id o =
    view_step
    (change (with_invitation id o.at.id) o.at)
    (with_messages o.at.id (message.Invite id) (other_sites catalogue o.at.id) (with_entry (log_record.Promise id) o.effects))

-- an invitation is made, unless all numbers were given
abbrev pub Invites : Catalogue → Result ViewId InviteFault → Viewed → Viewed → Type 0
Invites catalogue (Ok id) old new = (is_spent old.at.views ≡ false) × (id ≡ next_view old.at) × (new ≡ inviting_to catalogue id old)
Invites catalogue (Err (fault.Spent number)) old new = (is_spent old.at.views ≡ true) × (number ≡ highest old.at.views) × (new ≡ old)
Invites catalogue (Err fault.NoMemory) old new = Unit {0}

abbrev pub accepting : ℕ → ViewId → Viewed → Viewed
accepting from id o =
    view_step (change (with_wait id) o.at) (with_message o.at.id (message.Accept id) from (with_entry (log_record.Promise id) o.effects))

-- an invitation that comes: one above the promise is accepted, a lower one is answered with the promise, and the one that is waited
-- for is accepted again
abbrev pub receive_invite : ℕ → ViewId → Viewed → Viewed
receive_invite from id o =
    if view_before o.at.promise id
    then accepting from id o
    else (if view_before id o.at.promise
    then view_step o.at (with_message o.at.id (message.Stale id o.at.promise) from o.effects)
    else (if is_view o.at.waiting id
    then view_step o.at (with_message o.at.id (message.Accept id) from o.effects)
    else o))

-- a view that comes is held where it is waited for and this site is a member
abbrev pub joins : View → Viewing → Bool
joins view v = is_view v.waiting view.id && has view.members v.id

abbrev pub fixing : ViewId × List ℕ → Viewed → Viewed
fixing inviting o =
    view_step
    (change (with_view (record { id = inviting.0; members = inviting.1 })) o.at)
    (with_messages o.at.id (message.ViewCommit inviting.0 inviting.1) (filter (λ q. not (q == o.at.id)) inviting.1) o.effects)

-- the members are fixed as the sites that have accepted
abbrev pub fix_members : Viewed → Viewed
fix_members o = option_map_or (λ inviting. fixing inviting o) o.at.inviting o

abbrev pub hearing : ℕ → Viewing → Viewing
hearing from v = if is_some v.held then change (with_heard from) v else v

-- another view is wanted: a member was not heard since the last probes, or a site that is not a member was
abbrev pub wants : Viewing → Bool
wants v = option_map_or (λ view. option_map_or (is_odd v.id view.members) v.monitor false) v.held false

abbrev pub probing : Catalogue → Viewed → Viewed
probing catalogue o =
    option_map_or
    (λ view. view_step (change with_monitor o.at) (with_messages o.at.id (message.Probe view.id) (other_sites catalogue o.at.id) o.effects))
    o.at.held
    o
