-- Every row of the table consists of the small moves, so a step keeps a property that survives these.
use Rattle.std.proofs.Common.{◌≡◌, ℕ, Bool, true, false, List, [], ◌∷◌, refl, arith, inl, inr, map, subst}
use Rattle.std.specs.Prelude.{Option, Some, None, ◌&&◌}
use Rattle.std.specs.Option.{option_map_or}
use Rattle.vp_model.specs.Types.{Change, ViewId, TxnId, View, Stored, Owner, Call, Message, Input, Part, Refreshing, Decision, Sent}
use Rattle.vp_base.specs.declared.site.Ending.TheVariants.{ViewChanged}
use Rattle.vp_model.specs.Types.answer
use Rattle.vp_model.specs.Types.call
use Rattle.vp_model.specs.Types.input
use Rattle.vp_model.specs.Types.message
use Rattle.vp_model.specs.Words.{keys, is_view, view_before, has, has_txn, value_at}
use Rattle.vp_model.specs.Catalogue.{Catalogue}
use Rattle.vp_model.specs.Durable.{doubt_of}
use Rattle.vp_model.specs.Site.{SiteState, Lent, Stepped, begin_step, lent, put_back, change_views, letters}
use Rattle.vp_model.specs.Refresh.{is_open, is_doubtful, refreshing_of, settle_one, settle, settle_all, start_refresh, start_refresh_all, unanswered}
use Rattle.vp_model.specs.Views.{part_of, has_doubt, abandon, highest, is_spent, drop_view, leave, invite, refresh_here, hold, join}
use Rattle.vp_model.specs.Locks.{conflict}
use Rattle.vp_model.specs.Calls.{on_regroup, on_call}
use Rattle.vp_model.specs.Messages.{holds_view, doubted_records, on_invite, on_view_commit, on_probe_message, lock_copy, on_request, on_read_request, on_write_request, first_vote, on_prepare, end_part, on_outcome, on_refresh_request, on_refresh_answer, answered, on_message}
use Rattle.vp_model.specs.Step.{fix, without_wait, fix_view, ask_again, ask_again_all, time_out_calls, time_out, tick_view, resend_one, resend, resend_decisions, on_tick, probe_in, on_probe, on_input, step, known, inquire}
use Rattle.vp_laws.proofs.Lists.Members.{Has, has_first, has_more, both_true, map_has}
use Rattle.vp_laws.proofs.Lists.Views.{is_view_is}
use Rattle.vp_laws.proofs.Moves.Frames.{close_all-beside, close_all-none}
use Rattle.vp_laws.proofs.Moves.Table.{Comes, Replies, Answered, Says, Left, Joined, Requests, Asks, SendsBack, lent_at, Back, Table, AsksAgain}
use Rattle.vp_laws.proofs.Moves.Coordinator.{abandon-closed, abandon-kept, time_out_calls-kept, own_call-kept, on_answer-kept}
use Rattle.vp_laws.proofs.Moves.LocalViews.{letter}
use Rattle.vp_laws.proofs.Lists.Keeps.{by_test}

-- a record without a bar is open
not_barred : (x : SiteState) (rec : ℕ) → value_at rec x.bars ≡ None → is_open x rec ≡ true
not_barred x rec e = rw e refl

module _ (catalogue : Catalogue) (x : SiteState) (given : Input) (P : Stepped → Type 0) (k : Table catalogue x given P) (h : P (begin_step x)) where
  -- what the coordinator does, all else being as the step began
  abbrev K : Lent → Type 0
  K = Back x P

  leave-kept : P (leave (begin_step x))
  unfolding leave abandon
  leave-kept = k.drop_view (abandon x.id (lent_at x)) (close_all-none x.id (λ t. ViewChanged x.id t.view None) x.live (lent_at x) refl) (abandon-closed catalogue x given K k.coordinator h) (abandon-kept catalogue x given K k.coordinator h)

  left : Left x (leave (begin_step x))
  unfolding leave drop_view abandon
  left = let b = close_all-beside x.id (λ t. ViewChanged x.id t.view None) x.live (lent_at x) in record {
    id = refl;
    life = refl;
    views = refl;
    bars = refl;
    participant = refl;
    copies = b.copies;
    live = close_all-none x.id (λ t. ViewChanged x.id t.view None) x.live (lent_at x) refl;
    refresh = refl;
    seq = b.seq;
    decisions = b.decisions;
  }

  invite-kept : P (invite catalogue (begin_step x))
  unfolding invite
  invite-kept = grind (arith, k.start_inviting, left, leave-kept, h)

  on_invite-kept : (from : ℕ) (id : ViewId) → Comes given from (message.Invite id) → P (on_invite from id (begin_step x))
  unfolding on_invite
  on_invite-kept from id c =
      let stale = λ (e : view_before id x.promise ≡ true). k.sends_back from _ (SendsBack.stale id c e) in
      let again = λ (e : is_view x.waiting id ≡ true). k.sends_back from _ (SendsBack.accept_again id c e) in
      grind (arith, k.accept, stale, again, left, leave-kept, h)

  -- refresh
  settle_one-kept : (rec : ℕ) (r : Refreshing) (o : Stepped) → refreshing_of rec o.site.refresh ≡ Some r → P o → P (settle_one catalogue r o)
  unfolding settle_one
  settle_one-kept rec r o e p = grind (arith, k.end_refresh rec)

  settle-kept : (rec : ℕ) (o : Stepped) → P o → P (settle catalogue rec o)
  unfolding settle
  settle-kept rec o p = grind (arith, settle_one-kept rec)

  settle_all-kept : (recs : List ℕ) (o : Stepped) → P o → P (settle_all catalogue recs o)
  settle_all-kept [] o p = p
  settle_all-kept (rec ∷ recs) o p = settle_all-kept recs (settle catalogue rec o) (settle-kept rec o p)

  start_refresh_all-kept : (view : View) (recs : List ℕ) (o : Stepped) → ((rec : ℕ) → Has recs rec → Has (keys o.site.copies) rec) → Joined x view o → P o → P (start_refresh_all catalogue view recs o)
  unfolding start_refresh
  start_refresh_all-kept view [] o all e p = p
  start_refresh_all-kept view (rec ∷ recs) o all e p =
      let now = all rec (has_first rec recs) in
      start_refresh_all-kept view recs (start_refresh catalogue view rec o) (λ other q. all other (has_more rec recs other q)) (record { held = e.held; origin = e.origin; participant = e.participant; bars = e.bars; live = e.live }) (k.start_refresh view rec o e now p)

  refresh_here-kept : (view : View) (o : Stepped) → Joined x view o → P o → P (refresh_here catalogue view o)
  unfolding refresh_here
  refresh_here-kept view o e p =
      settle_all-kept (keys o.site.copies) _ (start_refresh_all-kept view (keys o.site.copies) o (λ rec h. h) e p)

  held_then-kept : (id : ViewId) (members : List ℕ) → (is_view x.waiting id && has members x.id) ≡ true → P (hold (record { id = id; members = members }) (begin_step x)) → P (refresh_here catalogue (record { id = id; members = members }) (hold (record { id = id; members = members }) (begin_step x)))
  unfolding hold
  held_then-kept id members e p =
      refresh_here-kept (record { id = id; members = members }) (hold (record { id = id; members = members }) (begin_step x)) (record { held = refl; origin = inl (is_view_is x.waiting id (both_true _ _ e).0); participant = refl; bars = refl; live = refl }) p

  on_view_commit-kept : (from : ℕ) (id : ViewId) (members : List ℕ) → Comes given from (message.ViewCommit id members) → P (on_view_commit catalogue id members (begin_step x))
  unfolding on_view_commit join
  on_view_commit-kept from id members c = grind (arith, k.hold from id members c, held_then-kept, h)

  on_probe_message-kept : (from : ℕ) (view : ViewId) → Comes given from (message.Probe view) → P (on_probe_message from (begin_step x))
  unfolding on_probe_message
  on_probe_message-kept from view c = grind (arith, k.heard from view, h)

  fix_view-kept : (inviting : ViewId × List ℕ) → given ≡ input.Tick → x.inviting ≡ Some inviting → P (fix_view catalogue inviting (begin_step x))
  unfolding fix_view fix hold
  fix_view-kept inviting c e = let view : View = record { id = inviting.0; members = inviting.1 } in refresh_here-kept view (fix view (begin_step x)) (record { held = refl; origin = inr e; participant = refl; bars = refl; live = refl }) (k.fix view c e)

  -- parts
  on_read_request-kept : (from : ℕ) (txn : TxnId) (view : ViewId) (number rec : ℕ) → Comes given from (message.ReadRequest txn view number rec) → P (on_read_request from txn view number rec (begin_step x))
  unfolding on_read_request on_request lock_copy
  on_read_request-kept from txn view number rec c =
      let refusing = λ (e : holds_view x view ≡ false). k.sends_back from _ (SendsBack.refuse_view txn view number (Asks.reads rec c) e) in
      let locked = λ (holder : Owner) (e : holds_view x view ≡ true) (n : has_txn x.ended txn ≡ false) (f : conflict rec false txn x.locks ≡ Some holder). k.sends_back from _ (SendsBack.refuse_lock txn view number rec false holder (Requests.reads c) e n f) in
      let barred = λ (bar : ℕ × ℕ) (e : holds_view x view ≡ true) (n : has_txn x.ended txn ≡ false) (b : value_at rec x.bars ≡ Some bar). k.sends_back from _ (SendsBack.refuse_bar txn view number rec false bar (Requests.reads c) e n b) in
      let granted = λ (stored : Stored) (e : holds_view x view ≡ true) (n : has_txn x.ended txn ≡ false) (v : value_at rec x.copies ≡ Some stored) (b : value_at rec x.bars ≡ None) (f : conflict rec false txn x.locks ≡ None). k.grant_read from txn view number rec stored c e n v f (not_barred x rec b) in
      grind (arith, refusing, locked, barred, granted, h)

  on_write_request-kept : (from : ℕ) (txn : TxnId) (view : ViewId) (number rec : ℕ) → Comes given from (message.WriteRequest txn view number rec) → P (on_write_request from txn view number rec (begin_step x))
  unfolding on_write_request on_request lock_copy
  on_write_request-kept from txn view number rec c =
      let refusing = λ (e : holds_view x view ≡ false). k.sends_back from _ (SendsBack.refuse_view txn view number (Asks.writes rec c) e) in
      let locked = λ (holder : Owner) (e : holds_view x view ≡ true) (n : has_txn x.ended txn ≡ false) (f : conflict rec true txn x.locks ≡ Some holder). k.sends_back from _ (SendsBack.refuse_lock txn view number rec true holder (Requests.writes c) e n f) in
      let barred = λ (bar : ℕ × ℕ) (e : holds_view x view ≡ true) (n : has_txn x.ended txn ≡ false) (b : value_at rec x.bars ≡ Some bar). k.sends_back from _ (SendsBack.refuse_bar txn view number rec true bar (Requests.writes c) e n b) in
      let granted = λ (stored : Stored) (e : holds_view x view ≡ true) (n : has_txn x.ended txn ≡ false) (v : value_at rec x.copies ≡ Some stored) (b : value_at rec x.bars ≡ None) (f : conflict rec true txn x.locks ≡ None). k.grant_write from txn view number rec stored c e n v f (not_barred x rec b) in
      grind (arith, refusing, locked, barred, granted, h)

  on_prepare-kept : (from : ℕ) (txn : TxnId) (view : ViewId) (number : ℕ) (reads : List ℕ) (writes : List (ℕ × Change)) → Comes given from (message.Prepare txn view number reads writes) → P (on_prepare from txn view number reads writes (begin_step x))
  unfolding on_prepare first_vote
  on_prepare-kept from txn view number reads writes c =
      let refusing = λ (e : holds_view x view ≡ false). k.sends_back from _ (SendsBack.refuse_view txn view number (Asks.prepares reads writes c) e) in
      let doubted = λ (e : holds_view x view ≡ true) (n : has_txn x.ended txn ≡ false) (d : has_doubt txn x.doubts ≡ true). k.sends_back from _ (SendsBack.doubt_again txn view number reads writes c e n d) in
      let voted = λ (part : Part) (e : holds_view x view ≡ true) (n : has_txn x.ended txn ≡ false) (f : part_of txn x.parts ≡ Some part) (v : part.voted ≡ true). k.sends_back from _ (SendsBack.vote_again txn view number reads writes part c e n f v) in
      grind (arith, refusing, doubted, voted, k.vote_reading from txn view number reads writes, k.vote_writing from txn view number reads writes, h)

  on_outcome-kept : (from : ℕ) (txn : TxnId) (commit : Bool) → Comes given from (message.Outcome txn commit) → P (on_outcome catalogue from txn commit (begin_step x))
  unfolding on_outcome end_part
  on_outcome-kept from txn commit c = settle_all-kept (doubted_records (doubt_of txn x.doubts)) _ (k.end_here from txn commit c)

  on_refresh_request-kept : (from : ℕ) (view : ViewId) (rec : ℕ) → Comes given from (message.RefreshRequest view rec) → P (on_refresh_request from view rec (begin_step x))
  unfolding on_refresh_request
  on_refresh_request-kept from view rec c =
      let answered = λ (stored : Stored) (e : holds_view x view ≡ true) (d : is_doubtful x rec ≡ false) (v : value_at rec x.copies ≡ Some stored). k.sends_back from _ (SendsBack.answer_refresh view rec stored c e d v) in
      grind (arith, answered, h)

  on_refresh_answer-kept : (from : ℕ) (view : ViewId) (rec : ℕ) (stored : Stored) → Comes given from (message.RefreshAnswer view rec stored) → P (on_refresh_answer catalogue from view rec stored (begin_step x))
  unfolding on_refresh_answer
  on_refresh_answer-kept from view rec stored c = grind (arith, k.keep_answer from view rec stored, settle-kept rec, h)

  on_regroup-kept : (port : ℕ) → given ≡ input.Call port call.Regroup → P (on_regroup catalogue port (begin_step x))
  unfolding on_regroup
  on_regroup-kept port comes = by_test P (is_spent x.views) _ _ (λ e. k.coordinator.answers (answer.Spent (highest x.views)) port (Answered.replies (Replies.other refl)) (Says.views_spent comes)) (λ e. k.answers_inviting port comes e invite-kept)

  on_call-kept : (port : ℕ) (words : Call) → given ≡ input.Call port words → P (on_call catalogue port words (begin_step x))
  unfolding on_call
  on_call-kept port call.Begin comes = own_call-kept catalogue x given K k.coordinator h port call.Begin comes
  on_call-kept port call.Regroup comes = on_regroup-kept port comes
  on_call-kept port (call.Read txn number name) comes = own_call-kept catalogue x given K k.coordinator h port (call.Read txn number name) comes
  on_call-kept port (call.Write txn number name value) comes = own_call-kept catalogue x given K k.coordinator h port (call.Write txn number name value) comes
  on_call-kept port (call.Delete txn number name) comes = own_call-kept catalogue x given K k.coordinator h port (call.Delete txn number name) comes
  on_call-kept port (call.Weigh txn number name table) comes = own_call-kept catalogue x given K k.coordinator h port (call.Weigh txn number name table) comes
  on_call-kept port (call.Commit txn number) comes = own_call-kept catalogue x given K k.coordinator h port (call.Commit txn number) comes
  on_call-kept port (call.Abort txn number) comes = own_call-kept catalogue x given K k.coordinator h port (call.Abort txn number) comes

  answered-kept : (from : ℕ) (m : Message) → Comes given from m → P (answered catalogue from m (begin_step x))
  answered-kept from m c = on_answer-kept catalogue x given K k.coordinator h from m c (k.sends_back from)

  on_message-kept : (from : ℕ) (m : Message) → Comes given from m → P (on_message catalogue from m (begin_step x))
  unfolding on_message
  on_message-kept from (message.Invite id) c = on_invite-kept from id c
  on_message-kept from (message.Accept id) c = k.accepted from id c
  on_message-kept from (message.Stale id promise) c = k.seen from id promise c
  on_message-kept from (message.ViewCommit id members) c = on_view_commit-kept from id members c
  on_message-kept from (message.ReadRequest txn view number rec) c = on_read_request-kept from txn view number rec c
  on_message-kept from (message.WriteRequest txn view number rec) c = on_write_request-kept from txn view number rec c
  on_message-kept from (message.Prepare txn view number reads writes) c = on_prepare-kept from txn view number reads writes c
  on_message-kept from (message.Outcome txn commit) c = on_outcome-kept from txn commit c
  on_message-kept from (message.RefreshRequest view rec) c = on_refresh_request-kept from view rec c
  on_message-kept from (message.RefreshAnswer view rec stored) c = on_refresh_answer-kept from view rec stored c
  on_message-kept from (message.Probe view) c = on_probe_message-kept from view c
  on_message-kept from m c = answered-kept from m c

  -- tick and probe
  ask_again-kept : (view : View) (r : Refreshing) (o : Stepped) → x.held ≡ Some view → Has x.refresh r → o.site.views ≡ x.views → P o → P (ask_again catalogue view.id r o)
  unfolding ask_again
  ask_again-kept view r o e h v p = k.asks_again o _ asked p
    where
      asked : (m : Sent) → Has (letters o.site.id (λ q. message.RefreshRequest view.id r.rec) (unanswered catalogue o.site r)) m → (m.from ≡ o.site.id) × AsksAgain catalogue x given o m.to m.message
      asked m g =
          let q = map_has (λ (q : ℕ). letter o.site.id q (message.RefreshRequest view.id r.rec)) (unanswered catalogue o.site r) m g in
          subst (λ (m : Sent). (m.from ≡ o.site.id) × AsksAgain catalogue x given o m.to m.message) q.2 (refl, AsksAgain.refresh view r e h v q.1)

  inquire-kept : given ≡ input.Tick → (o : Stepped) → P o → P (inquire (known o.site.participant) o)
  unfolding inquire
  inquire-kept c o p = k.asks_again o _ asked p
    where
      asked : (m : Sent) → Has (map (λ (txn : TxnId). letter o.site.id txn.site (message.Inquire txn)) (known o.site.participant)) m → (m.from ≡ o.site.id) × AsksAgain catalogue x given o m.to m.message
      asked m g =
          let q = map_has (λ (txn : TxnId). letter o.site.id txn.site (message.Inquire txn)) (known o.site.participant) m g in
          subst (λ (m : Sent). (m.from ≡ o.site.id) × AsksAgain catalogue x given o m.to m.message) q.2 (refl, AsksAgain.inquire q.0 c q.1 refl)

  ask_again_all-kept : (view : View) (refresh : List Refreshing) (o : Stepped) → ((r : Refreshing) → Has refresh r → Has x.refresh r) → x.held ≡ Some view → o.site.views ≡ x.views → P o → P (ask_again_all catalogue view.id refresh o)
  unfolding ask_again
  ask_again_all-kept view [] o sub e v p = p
  ask_again_all-kept view (r ∷ refresh) o sub e v p =
      ask_again_all-kept view refresh (ask_again catalogue view.id r o) (λ other q. sub other (has_more r refresh other q)) e v (ask_again-kept view r o e (sub r (has_first r refresh)) v p)

  time_out-kept : (view : View) → given ≡ input.Tick → x.held ≡ Some view → P (time_out catalogue view (begin_step x))
  unfolding time_out
  time_out-kept view c e = ask_again_all-kept view x.refresh (put_back (begin_step x) (time_out_calls x.id (lent_at x))) (λ r q. q) e refl (time_out_calls-kept catalogue x given K k.coordinator h c)

  tick_view-kept : given ≡ input.Tick → P (tick_view catalogue (begin_step x))
  unfolding tick_view
  tick_view-kept c = ticked x.inviting x.waiting x.held refl refl refl
    where
      ticked : (inviting : Option (ViewId × List ℕ)) (waiting : Option ViewId) (held : Option View) → x.inviting ≡ inviting → x.waiting ≡ waiting → x.held ≡ held → P (option_map_or (λ inviting. fix_view catalogue inviting (begin_step x)) inviting (option_map_or (λ id. change_views without_wait (begin_step x)) waiting (option_map_or (λ view. time_out catalogue view (begin_step x)) held (invite catalogue (begin_step x)))))
      ticked (Some inviting) waiting held i w e = fix_view-kept inviting c i
      ticked None (Some id) held i w e = k.without_wait id c i w
      ticked None None (Some view) i w e = time_out-kept view c e
      ticked None None None i w e = invite-kept

  resend-kept : given ≡ input.Tick → (decisions : List Decision) (o : Stepped) → ((d : Decision) → Has decisions d → Has o.site.decisions d) → P o → P (put_back o (resend o.site.id decisions (lent o)))
  unfolding resend_one
  resend-kept c [] o sub p = p
  resend-kept c (d ∷ decisions) o sub p =
      resend-kept c decisions (put_back o (resend_one o.site.id d (lent o))) (λ other q. sub other (has_more d decisions other q)) (k.resend_one d o c (sub d (has_first d decisions)) p)

  on_tick-kept : given ≡ input.Tick → P (on_tick catalogue (begin_step x))
  unfolding on_tick
  on_tick-kept c =
      let ticked = tick_view catalogue (begin_step x) in
      inquire-kept c (resend_decisions ticked) (resend-kept c ticked.site.decisions ticked (λ d q. q) (tick_view-kept c))

  on_probe-kept : given ≡ input.Probe → P (on_probe catalogue (begin_step x))
  unfolding on_probe probe_in
  on_probe-kept c = grind (arith, k.probe, invite-kept, h)

  step_kept : P (step catalogue x given)
  unfolding step on_input
  step_kept = stepped given refl
    where
      stepped : (g : Input) → given ≡ g → P (on_input catalogue g (begin_step x))
      stepped (input.Call port words) c = on_call-kept port words c
      stepped (input.Message from m) c = on_message-kept from m c
      stepped input.Tick c = on_tick-kept c
      stepped input.Probe c = on_probe-kept c

pub step-keeps : (catalogue : Catalogue) (x : SiteState) (given : Input) (P : Stepped → Type 0) → Table catalogue x given P → P (begin_step x) → P (step catalogue x given)
step-keeps catalogue x given P k h = step_kept catalogue x given P k h
