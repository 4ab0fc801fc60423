-- The moves of views keep a site well formed.
use Rattle.std.proofs.Common.{◌≡◌, ◌<◌, ℕ, ◌-◌, ◌^◌, false, List, [], ◌∷◌, refl, arith}
use Rattle.std.specs.Prelude.{Option, Some, None, IfSome, filter, not, option_map, ◌==◌}
use Rattle.std.specs.List.{AllByRecursion}
use Rattle.std.proofs.lemmas.Bool.Decides.{nat_tests}
use Rattle.vp_base.specs.Identifiers.{IsView}
use Rattle.vp_base.specs.Calls.{IsCall}
use Rattle.vp_bytes.specs.Fields.{IsSite}
use Rattle.vp_catalog.specs.Document.{IsCatalogue}
use Rattle.vp_model.specs.Types.{ViewId, View, Call, Message, Input}
use Rattle.vp_model.specs.Types.answer
use Rattle.vp_model.specs.Types.call
use Rattle.vp_model.specs.Types.log_record
use Rattle.vp_model.specs.Types.input
use Rattle.vp_model.specs.Types.message
use Rattle.vp_model.specs.Words.{same_view, put_number}
use Rattle.vp_model.specs.Catalogue.{Catalogue}
use Rattle.vp_model.specs.Site.{SiteState, Stepped, begin_step, send, send_all, reply, change_views}
use Rattle.vp_model.specs.Views.{outlasts, without_view, with_invitation, with_view, without_parts, highest, other_sites, is_spent, drop_view, start_inviting, hold}
use Rattle.vp_model.specs.Messages.{with_wait, accept, with_acceptance, with_accepted, on_accept, with_seen, on_stale, with_heard}
use Rattle.vp_model.specs.Step.{fix, without_wait, with_monitor, probe_all}
use Rattle.vp_laws.proofs.Moves.Table.{Comes, next_view}
use Rattle.vp_laws.specs.Shapes.{IsMessage, IsShort, IsInput, IsInviting, AreViews, IsLock, IsShaped}
use Rattle.vp_laws.proofs.Lists.Items.{all_filter}
use Rattle.vp_laws.proofs.Shapes.Numbers.{each_site, put_sites, put_some, some_sites}
use Rattle.vp_laws.proofs.Shapes.Catalogue.{listed_is, other_sites_are}
use Rattle.vp_laws.proofs.Shapes.Moves.{Forms, gives_entry, gives_message, gives_each, gives_reply, with_gives, with_views, with_locks, with_participant, with_refresh, with_bars, some_at}
use Rattle.vp_laws.proofs.Lists.Keeps.{by_test}

-- what came has its form
pub came_is : (given : Input) (from : ℕ) (m : Message) → IsInput given → Comes given from m → IsSite from × IsMessage m
came_is given from m i c = rw c at i

pub called_is : (given : Input) (port : ℕ) (words : Call) → IsInput given → given ≡ input.Call port words → (port < 2 ^ 16) × IsCall words
called_is given port words i c = rw c at i

-- the next identifier
pub next_is : (x : SiteState) → IsSite x.id → AreViews x.views → is_spent x.views ≡ false → IsView (next_view x)
next_is x s v e =
    let bound : highest x.views < 2 ^ 64 = (let a = v.promise_is.number_fits in let b = v.seen_fits in omega (arith, a, b)) in
    let other : highest x.views < 2 ^ 64 - 1 = grind (arith, nat_tests, e, bound) in
    record { number_fits = omega (arith, other); site_fits = s.1; opening = λ q. absurd (omega (arith, q)); made = λ q. s.0 }

module _ (catalogue : Catalogue) (k : IsCatalogue catalogue) (x : SiteState) (sx : IsShaped catalogue x) (given : Input) (came : IsInput given) where
  abbrev F : Stepped → Type 0
  F = Forms catalogue x

  pub id_is : IsSite x.id
  id_is = listed_is catalogue k x.id sx.listed

  pub starts : F (begin_step x)
  starts = record { site_is = sx; same = refl; gives = record { records_are = tt; messages_are = tt; short_are = tt; replies_are = tt } }

  pub sends : (message : Message) (to : ℕ) (o : Stepped) → F o → IsSite to → IsMessage message → IsShort message → F (send message to o)
  sends message to o p s i small = with_gives catalogue x o p _ (gives_message x.id o.effects p.gives o.site.id message to p.same s i small)

  pub sends_all : (message : Message) (sites : List ℕ) (o : Stepped) → F o → AllByRecursion IsSite sites → IsMessage message → IsShort message → F (send_all message sites o)
  sends_all message sites o p s i small = with_gives catalogue x o p _ (gives_each x.id o.effects p.gives o.site.id (λ q. message) sites p.same s (λ q. i) (λ q. small))

  pub drops : (o : Stepped) → F o → F (drop_view o)
  unfolding drop_view
  drops o p =
      let s = p.site_is in
      let v = s.views_are in
      let a = with_locks catalogue x o p (filter (outlasts o.site.participant)) (all_filter IsLock (outlasts o.site.participant) o.site.here.locks s.locks_are) in
      let b = with_participant catalogue x _ a without_parts tt s.doubts_are in
      let c = with_refresh catalogue x _ b (λ refresh. []) tt in
      let d = with_bars catalogue x _ c (λ bars. []) tt in
      with_views catalogue x _ d without_view (record { promise_is = v.promise_is; seen_fits = v.seen_fits; held_is = tt; waiting_is = tt; inviting_is = tt })

  pub invites : (o : Stepped) → is_spent x.views ≡ false → F o → F (start_inviting catalogue (next_view x) o)
  unfolding start_inviting
  invites o e p =
      let v = p.site_is.views_are in
      let i : IsView (next_view x) = next_is x id_is sx.views_are e in
      let own : IsSite o.site.id = listed_is catalogue k o.site.id p.site_is.listed in
      let a = with_views catalogue x o p (with_invitation (next_view x) o.site.id) (record { promise_is = i; seen_fits = v.seen_fits; held_is = v.held_is; waiting_is = v.waiting_is; inviting_is = (i, some_sites (o.site.id ∷ []) refl (own.0, own.1, tt)) }) in
      let b = with_gives catalogue x _ a _ (gives_entry x.id _ a.gives (log_record.Promise (next_view x)) i) in
      sends_all (message.Invite (next_view x)) (other_sites catalogue o.site.id) _ b (other_sites_are catalogue k o.site.id) i tt

  pub accepts : (from : ℕ) (id : ViewId) (o : Stepped) → Comes given from (message.Invite id) → F o → F (accept from id o)
  unfolding accept
  accepts from id o c p =
      let v = p.site_is.views_are in
      let m = came_is given from (message.Invite id) came c in
      let a = with_views catalogue x o p (with_wait id) (record { promise_is = m.1; seen_fits = v.seen_fits; held_is = v.held_is; waiting_is = m.1; inviting_is = v.inviting_is }) in
      let b = with_gives catalogue x _ a _ (gives_entry x.id _ a.gives (log_record.Promise id) m.1) in
      sends (message.Accept id) from _ b m.0 m.1 tt

  accepted_is : (from : ℕ) (id : ViewId) (o : Option (ViewId × List ℕ)) → IsSite from → IfSome o IsInviting → IfSome (option_map (with_acceptance from id) o) IsInviting
  accepted_is from id None s i = tt
  accepted_is from id (Some inviting) s i = by_test IsInviting (same_view inviting.0 id) (inviting.0, put_number from inviting.1) inviting (λ e. (i.0, some_sites (put_number from inviting.1) (put_some from inviting.1) (put_sites from inviting.1 s i.1.2))) (λ e. i)

  pub accepted : (from : ℕ) (id : ViewId) → Comes given from (message.Accept id) → F (on_accept from id (begin_step x))
  unfolding on_accept
  accepted from id c =
      let v = sx.views_are in
      let m = came_is given from (message.Accept id) came c in
      with_views catalogue x _ starts (with_accepted from id) (record { promise_is = v.promise_is; seen_fits = v.seen_fits; held_is = v.held_is; waiting_is = v.waiting_is; inviting_is = accepted_is from id x.inviting m.0 v.inviting_is })

  pub seen_now : (from : ℕ) (id promise : ViewId) → Comes given from (message.Stale id promise) → F (on_stale promise (begin_step x))
  unfolding on_stale
  seen_now from id promise c =
      let v = sx.views_are in
      let m = came_is given from (message.Stale id promise) came c in
      let new = m.1.1.number_fits in
      let old = v.seen_fits in
      with_views catalogue x _ starts (with_seen promise) (record { promise_is = v.promise_is; seen_fits = omega (arith, new, old); held_is = v.held_is; waiting_is = v.waiting_is; inviting_is = v.inviting_is })

  pub holds_now : (view : View) (o : Stepped) → IsView view.id → F o → F (hold view o)
  unfolding hold
  holds_now view o i p = let v = p.site_is.views_are in with_views catalogue x o p (with_view view) (record { promise_is = v.promise_is; seen_fits = v.seen_fits; held_is = i; waiting_is = tt; inviting_is = tt })

  pub hears : (from : ℕ) → F (change_views (with_heard from) (begin_step x))
  hears from = let v = sx.views_are in with_views catalogue x _ starts (with_heard from) (record { promise_is = v.promise_is; seen_fits = v.seen_fits; held_is = v.held_is; waiting_is = v.waiting_is; inviting_is = v.inviting_is })

  pub fixes : (view : View) → x.inviting ≡ Some (view.id, view.members) → F (fix view (begin_step x))
  unfolding fix hold
  fixes view e =
      let i : IsInviting (view.id, view.members) = some_at IsInviting x.inviting (view.id, view.members) sx.views_are.inviting_is e in
      let a = holds_now view (begin_step x) i.0 starts in
      sends_all (message.ViewCommit view.id view.members) (filter (λ q. not (q == (hold view (begin_step x)).site.id)) view.members) (hold view (begin_step x)) a (all_filter IsSite _ view.members (each_site view.members i.1.2)) i tt

  pub waits_no_more : F (change_views without_wait (begin_step x))
  waits_no_more = let v = sx.views_are in with_views catalogue x _ starts without_wait (record { promise_is = v.promise_is; seen_fits = v.seen_fits; held_is = v.held_is; waiting_is = tt; inviting_is = v.inviting_is })

  pub probes : (view : View) → x.held ≡ Some view → F (probe_all catalogue view (begin_step x))
  probes view e =
      let v = sx.views_are in
      let i : IsView view.id = some_at (λ (view : View). IsView view.id) x.held view v.held_is e in
      let a = with_views catalogue x _ starts with_monitor (record { promise_is = v.promise_is; seen_fits = v.seen_fits; held_is = v.held_is; waiting_is = v.waiting_is; inviting_is = v.inviting_is }) in
      sends_all (message.Probe view.id) (other_sites catalogue x.id) _ a (other_sites_are catalogue k x.id) i tt

  pub says_inviting : (port : ℕ) (o : Stepped) → given ≡ input.Call port call.Regroup → is_spent x.views ≡ false → F o → F (reply (answer.Inviting (next_view x)) port o)
  says_inviting port o c e p = with_gives catalogue x o p _ (gives_reply x.id o.effects p.gives (answer.Inviting (next_view x)) port (called_is given port call.Regroup came c).0 (next_is x id_is sx.views_are e))
