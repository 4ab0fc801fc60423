-- A whole step consists of the small moves that clients see and of moves that they don't see.
use Rattle.std.proofs.Common.{◌≡◌, ◌∙◌, sym, subst, ℕ, Bool, true, false, List, [], refl, arith}
use Rattle.std.specs.Prelude.{Option, Some, None, map}
use Rattle.vp_model.specs.Types.{Change, ViewId, View, TxnId, Stored, Owner, Commit, Reply, Call, Message, Input, Refreshing, Part, Decision, Doubt}
use Rattle.vp_model.specs.Types.log_record
use Rattle.vp_model.specs.Types.obstacle
use Rattle.vp_model.specs.Types.call
use Rattle.vp_model.specs.Types.input
use Rattle.vp_model.specs.Types.message
use Rattle.vp_model.specs.Words.{for_each, keys}
use Rattle.vp_model.specs.Catalogue.{Catalogue}
use Rattle.vp_model.specs.Durable.{doubt_of}
use Rattle.vp_model.specs.Site.{CoordinatorState, SiteState, Lent, Stepped, begin_step, lent, put_back, send, force, change_views, change_refresh, change_participant}
use Rattle.vp_model.specs.Refresh.{unlist, end_refresh, settle_one, settle, settle_all, start_refresh, start_refresh_all, refreshing_of}
use Rattle.vp_model.specs.Views.{drop_view, leave, start_inviting, invite, refresh_here, hold, join, is_spent}
use Rattle.vp_model.specs.Calls.{on_regroup, on_call}
use Rattle.vp_model.specs.Messages.{with_heard, refuse_view, with_vote, with_new_doubt, doubted_records, with_answer, accept, on_invite, on_accept, on_stale, on_view_commit, on_probe_message, grant, lock_copy, on_request, on_read_request, on_write_request, first_vote, on_prepare, end_here, end_part, on_outcome, on_refresh_request, on_refresh_answer, answered, on_message}
use Rattle.vp_model.specs.Step.{time_out_calls, fix, fix_view, ask_again, ask_again_all, time_out, without_wait, tick_view, resend_one, resend, resend_decisions, inquire, inquire_all, on_tick, probe_in, probe_all, on_probe, on_input, step}
use Rattle.vp_laws.proofs.Lists.Keeps.{for_each-same, by_some, by_test}
use Rattle.vp_laws.proofs.Moves.Frames.{judged, take-cases}
use Rattle.vp_laws.proofs.Moves.Table.{Comes, lent_at}
use Rattle.vp_laws.proofs.Moves.Reasons.{Tells, Front}
use Rattle.vp_laws.proofs.Moves.FrontRows.{abandon-front, time_out_calls-front, own_call-front, on_answer-front}

-- what a move shows: the coordinator's state, the replies and the entries so far
pub record Seen : Type 0 where
  pub coordinator : CoordinatorState
  pub replies : List Reply
  pub commits : List Commit

abbrev pub seen : Stepped → Seen
seen o = record { coordinator = o.site.coordinator; replies = o.effects.replies; commits = o.effects.commits }

-- nothing is seen of a move from o to e
pub record Unseen (o e : Stepped) : Type 0 where
  pub same : seen e ≡ seen o

unseen_then : (o u e : Stepped) → Unseen o u → Unseen u e → Unseen o e
unseen_then o u e p q = record { same = q.same ∙ p.same }

each_unseen : {A : Type 0} (f : A → Stepped → Stepped) → ((a : A) (o : Stepped) → Unseen o (f a o)) → (items : List A) (o : Stepped) → Unseen o (for_each items f o)
each_unseen f all items o = record { same = for_each-same seen f (λ a o. (all a o).same) items o }

shut : {o e : Stepped} → seen e ≡ seen o → Unseen o e
shut e = record { same = e }

nothing : (o : Stepped) → Unseen o o
nothing o = record { same = refl }

judged-seen : (catalogue : Catalogue) (r : Refreshing) (own : Stored) (o : Stepped) → Unseen o (judged catalogue r own o)
judged-seen catalogue r own o = take-cases (Unseen o) catalogue r own o (shut refl) (shut refl) (shut refl)

end_refresh-seen : (catalogue : Catalogue) (r : Refreshing) (own : Stored) (o : Stepped) → Unseen o (end_refresh catalogue r own o)
unfolding end_refresh unlist
end_refresh-seen catalogue r own o = shut (judged-seen catalogue r own o).same

settle_one-seen : (catalogue : Catalogue) (r : Refreshing) (o : Stepped) → Unseen o (settle_one catalogue r o)
unfolding settle_one
settle_one-seen catalogue r o = let self = nothing o in grind (arith, end_refresh-seen catalogue r, self)

settle-seen : (catalogue : Catalogue) (rec : ℕ) (o : Stepped) → Unseen o (settle catalogue rec o)
unfolding settle
settle-seen catalogue rec o = by_some (Unseen o) (refreshing_of rec o.site.refresh) (settle_one catalogue) o (λ r e. settle_one-seen catalogue r o) (nothing o)

settle_all-seen : (catalogue : Catalogue) (recs : List ℕ) (o : Stepped) → Unseen o (settle_all catalogue recs o)
settle_all-seen catalogue recs o = each_unseen (settle catalogue) (settle-seen catalogue) recs o

start_refresh-seen : (catalogue : Catalogue) (view : View) (rec : ℕ) (o : Stepped) → Unseen o (start_refresh catalogue view rec o)
unfolding start_refresh
start_refresh-seen catalogue view rec o = (shut refl)

refresh_here-seen : (catalogue : Catalogue) (view : View) (o : Stepped) → Unseen o (refresh_here catalogue view o)
unfolding refresh_here
refresh_here-seen catalogue view o =
    unseen_then o (start_refresh_all catalogue view (keys o.site.copies) o) _ (each_unseen (start_refresh catalogue view) (start_refresh-seen catalogue view) (keys o.site.copies) o)
    (settle_all-seen catalogue (keys o.site.copies) (start_refresh_all catalogue view (keys o.site.copies) o))

join-seen : (catalogue : Catalogue) (view : View) (o : Stepped) → Unseen o (join catalogue view o)
unfolding join hold
join-seen catalogue view o = shut (refresh_here-seen catalogue view (hold view o)).same

fix_view-seen : (catalogue : Catalogue) (inviting : ViewId × List ℕ) (o : Stepped) → Unseen o (fix_view catalogue inviting o)
unfolding fix_view fix hold
fix_view-seen catalogue inviting o = shut (refresh_here-seen catalogue (record { id = inviting.0; members = inviting.1 }) (fix (record { id = inviting.0; members = inviting.1 }) o)).same

grant-seen : (txn : TxnId) (view : ViewId) (rec : ℕ) (exclusive : Bool) (from : ℕ) (o : Stepped) (words : Message) → Unseen o (grant txn view rec exclusive words from o)
unfolding grant
grant-seen txn view rec exclusive from o words = shut refl

on_request-seen : (txn : TxnId) (view : ViewId) (number rec : ℕ) (exclusive : Bool) (reply_with : Stored → Message) (from : ℕ) (o : Stepped) → Unseen o (on_request txn view number rec exclusive reply_with from o)
unfolding on_request lock_copy
on_request-seen txn view number rec exclusive reply_with from o =
    let self = nothing o in
    let other_view : Unseen o (refuse_view txn number from o) = shut refl in
    let blocked : (holder : Owner) → Unseen o (send (message.Refuse txn number (obstacle.Held holder)) from o) = λ holder. shut refl in
    let barred : (bar : ℕ × ℕ) → Unseen o (send (message.Refuse txn number (obstacle.Barred bar.0 bar.1)) from o) = λ bar. shut refl in
    let granted = grant-seen txn view rec exclusive from o in
    grind (arith, self, other_view, blocked, barred, granted)

on_prepare-seen : (from : ℕ) (txn : TxnId) (view : ViewId) (number : ℕ) (reads : List ℕ) (writes : List (ℕ × Change)) (o : Stepped) → Unseen o (on_prepare from txn view number reads writes o)
unfolding on_prepare first_vote
on_prepare-seen from txn view number reads writes o =
    let self = nothing o in
    let other_view : Unseen o (refuse_view txn number from o) = shut refl in
    let sends : (words : Message) → Unseen o (send words from o) = λ words. shut refl in
    let reading : (part : Part) → Unseen o (send (message.Vote part.txn) from (change_participant (with_vote part) o)) = λ part. shut refl in
    let writing : (part : Part) → Unseen o (send (message.Vote part.txn) from (force (log_record.Yes part.txn part.view writes) (change_participant (with_new_doubt part writes) o))) = λ part. shut refl in
    grind (arith, self, other_view, sends, reading, writing)

end_here-seen : (from : ℕ) (txn : TxnId) (commit : Bool) (doubt : Option Doubt) (o : Stepped) → Unseen o (end_here from txn commit doubt o)
unfolding end_here
end_here-seen from txn true None o = (shut refl)
end_here-seen from txn false None o = (shut refl)
end_here-seen from txn true (Some d) o = (shut refl)
end_here-seen from txn false (Some d) o = (shut refl)

on_outcome-seen : (catalogue : Catalogue) (from : ℕ) (txn : TxnId) (commit : Bool) (o : Stepped) → Unseen o (on_outcome catalogue from txn commit o)
unfolding on_outcome end_part
on_outcome-seen catalogue from txn commit o =
    let doubt = doubt_of txn o.site.doubts in unseen_then o (end_here from txn commit doubt o) _ (end_here-seen from txn commit doubt o) (settle_all-seen catalogue (doubted_records doubt) (end_here from txn commit doubt o))

on_refresh_request-seen : (from : ℕ) (view : ViewId) (rec : ℕ) (o : Stepped) → Unseen o (on_refresh_request from view rec o)
unfolding on_refresh_request
on_refresh_request-seen from view rec o =
    let self = nothing o in
    let sends : (words : Message) → Unseen o (send words from o) = λ words. shut refl in
    grind (arith, self, sends)

on_refresh_answer-seen : (catalogue : Catalogue) (from : ℕ) (view : ViewId) (rec : ℕ) (stored : Stored) (o : Stepped) → Unseen o (on_refresh_answer catalogue from view rec stored o)
unfolding on_refresh_answer
on_refresh_answer-seen catalogue from view rec stored o =
    let self = nothing o in
    let kept : Unseen o (settle catalogue rec (change_refresh (map (with_answer rec from stored)) o)) = shut (settle-seen catalogue rec (change_refresh (map (with_answer rec from stored)) o)).same in
    grind (arith, self, kept)

ask_again_all-seen : (catalogue : Catalogue) (view : ViewId) (refresh : List Refreshing) (o : Stepped) → Unseen o (ask_again_all catalogue view refresh o)
unfolding ask_again
ask_again_all-seen catalogue view refresh o = each_unseen (ask_again catalogue view) (λ r o. shut refl) refresh o

-- the same of the coordinator's part
abbrev lent_seen : Lent → Seen
lent_seen l = record { coordinator = l.coordinator; replies = l.effects.replies; commits = l.effects.commits }

resend-seen : (id : ℕ) (decisions : List Decision) (o : Stepped) → Unseen o (put_back o (resend id decisions (lent o)))
unfolding resend_one
resend-seen id decisions o = shut (for_each-same lent_seen (resend_one id) (λ d l. refl) decisions (lent o))

ticked-seen : (o : Stepped) → Unseen o (inquire_all (resend_decisions o))
unfolding inquire
ticked-seen o = shut (resend-seen o.site.id o.site.decisions o).same

module _ (catalogue : Catalogue) (x : SiteState) (given : Input) (after : SiteState) (G : CoordinatorState → List Reply → List Commit → Type 0) (k : Front catalogue x given after G) (h : G x.coordinator [] []) where
  abbrev OfSeen : Seen → Type 0
  OfSeen s = G s.coordinator s.replies s.commits

  -- where the step leaves the site with this view held
  record P (o : Stepped) : Type 0 where
    kept : after.held ≡ o.site.held → OfSeen (seen o)

  by : {o : Stepped} → (after.held ≡ o.site.held → OfSeen (seen o)) → P o
  by f = record { kept = f }

  unseen : (o : Stepped) → Unseen (begin_step x) o → P o
  unseen o u = by (λ held. subst OfSeen (sym u.same) h)

  leave-front : after.held ≡ None → OfSeen (seen (leave (begin_step x)))
  unfolding leave drop_view
  leave-front gone = (abandon-front catalogue x given after G k h gone).0

  leave-commits : after.held ≡ None → (leave (begin_step x)).effects.commits ≡ []
  unfolding leave drop_view
  leave-commits gone = (abandon-front catalogue x given after G k h gone).1

  invite-front : P (invite catalogue (begin_step x))
  unfolding invite start_inviting leave drop_view
  invite-front = by_test P (is_spent x.views) _ _ (λ e. by (λ held. h)) (λ e. by leave-front)

  accept-front : (from : ℕ) (id : ViewId) → P (accept from id (leave (begin_step x)))
  unfolding accept leave drop_view
  accept-front from id = by leave-front

  stays : P (begin_step x)
  stays = by (λ held. h)

  sends : (from : ℕ) (words : Message) → P (send words from (begin_step x))
  sends from words = by (λ held. h)

  on_invite-front : (from : ℕ) (id : ViewId) → P (on_invite from id (begin_step x))
  unfolding on_invite
  on_invite-front from id = grind (arith, stays, sends from, accept-front from)

  answered-front : (from : ℕ) (m : Message) → Comes given from m → P (answered catalogue from m (begin_step x))
  answered-front from m c = by (λ held. on_answer-front catalogue x given after G k h from m c)

  on_view_commit-front : (id : ViewId) (members : List ℕ) → P (on_view_commit catalogue id members (begin_step x))
  unfolding on_view_commit
  on_view_commit-front id members =
      let joined = unseen (join catalogue (record { id = id; members = members }) (begin_step x)) (join-seen catalogue (record { id = id; members = members }) (begin_step x)) in
      grind (arith, stays, joined)

  on_probe_message-front : (from : ℕ) → P (on_probe_message from (begin_step x))
  unfolding on_probe_message
  on_probe_message-front from = let heard : P (change_views (with_heard from) (begin_step x)) = by (λ held. h) in grind (arith, stays, heard)

  on_message-front : (from : ℕ) (m : Message) → Comes given from m → P (on_message catalogue from m (begin_step x))
  unfolding on_message on_accept on_stale on_read_request on_write_request
  on_message-front from (message.Invite id) c = on_invite-front from id
  on_message-front from (message.Accept id) c = unseen _ (shut refl)
  on_message-front from (message.Stale id promise) c = unseen _ (shut refl)
  on_message-front from (message.ViewCommit id members) c = on_view_commit-front id members
  on_message-front from (message.ReadRequest txn view number rec) c = unseen _ (on_request-seen txn view number rec false _ from (begin_step x))
  on_message-front from (message.WriteRequest txn view number rec) c = unseen _ (on_request-seen txn view number rec true _ from (begin_step x))
  on_message-front from (message.Prepare txn view number reads writes) c = unseen _ (on_prepare-seen from txn view number reads writes (begin_step x))
  on_message-front from (message.Outcome txn commit) c = unseen _ (on_outcome-seen catalogue from txn commit (begin_step x))
  on_message-front from (message.RefreshRequest view rec) c = unseen _ (on_refresh_request-seen from view rec (begin_step x))
  on_message-front from (message.RefreshAnswer view rec stored) c = unseen _ (on_refresh_answer-seen catalogue from view rec stored (begin_step x))
  on_message-front from (message.Probe view) c = on_probe_message-front from
  on_message-front from m c = answered-front from m c

  on_regroup-front : (port : ℕ) → given ≡ input.Call port call.Regroup → P (on_regroup catalogue port (begin_step x))
  unfolding on_regroup invite start_inviting leave drop_view
  on_regroup-front port c = by_test P (is_spent x.views) _ _ (λ e. by (λ held. k.tells _ port (Tells.plain _ refl port call.Regroup c refl)))
      (λ e. by (rw e (λ held. let none = leave-commits held in rw none (k.inviting _ _ port c (rw none at (leave-front held))))))

  time_out-front : (view : View) → P (time_out catalogue view (begin_step x))
  unfolding time_out
  time_out-front view = by (λ held. subst OfSeen (sym (ask_again_all-seen catalogue view.id x.refresh (put_back (begin_step x) (time_out_calls x.id (lent_at x)))).same) (time_out_calls-front catalogue x given after G k h))

  tick_view-front : P (tick_view catalogue (begin_step x))
  unfolding tick_view
  tick_view-front =
      let fixed = λ (inviting : ViewId × List ℕ). unseen (fix_view catalogue inviting (begin_step x)) (fix_view-seen catalogue inviting (begin_step x)) in
      let ended : P (change_views without_wait (begin_step x)) = by (λ held. h) in
      grind (arith, stays, fixed, ended, time_out-front, invite-front)

  on_tick-front : P (on_tick catalogue (begin_step x))
  unfolding on_tick inquire
  on_tick-front = by (λ held. subst OfSeen (sym (ticked-seen (tick_view catalogue (begin_step x))).same) (tick_view-front.kept held))

  on_probe-front : P (on_probe catalogue (begin_step x))
  unfolding on_probe probe_in
  on_probe-front =
      let probed : (view : View) → P (probe_all catalogue view (begin_step x)) = λ view. by (λ held. h) in
      grind (arith, stays, probed, invite-front)

  on_call-front : (port : ℕ) (words : Call) → given ≡ input.Call port words → P (on_call catalogue port words (begin_step x))
  unfolding on_call
  on_call-front port call.Regroup c = on_regroup-front port c
  on_call-front port words c = by (λ held. own_call-front catalogue x given after G k h port words c)

  on_input-front : (g : Input) → given ≡ g → P (on_input catalogue g (begin_step x))
  unfolding on_input
  on_input-front (input.Call port words) c = on_call-front port words c
  on_input-front (input.Message from m) c = on_message-front from m c
  on_input-front input.Tick c = on_tick-front
  on_input-front input.Probe c = on_probe-front

pub step-front : (catalogue : Catalogue) (x : SiteState) (given : Input) (G : CoordinatorState → List Reply → List Commit → Type 0) → let o = step catalogue x given in Front catalogue x given o.site G → G x.coordinator [] [] → G o.site.coordinator o.effects.replies o.effects.commits
unfolding step
step-front catalogue x given G k h = (on_input-front catalogue x given (step catalogue x given).site G k h given refl).kept refl
