-- The moves of refresh and of parts of other sites' transactions keep a site well formed.
use Rattle.std.proofs.Common.{◌≡◌, ℕ, Bool, true, false, List, [], map, refl, subst, ◌∙◌}
use Rattle.std.specs.Prelude.{Option, Some, None, IfSome, filter, not, option_map, is_some, ◌==◌, nat_lt}
use Rattle.std.specs.List.{AllByRecursion}
use Rattle.vp_base.specs.Identifiers.{IsView, IsTxn}
use Rattle.vp_bytes.specs.Fields.{IsSite, IsRecord, IsMaybeView, IsRequest}
use Rattle.vp_contents.specs.Tables.{IsMaybeTable}
use Rattle.vp_contents.specs.declared.version.Version.TheVariants as versions
use Rattle.vp_base.specs.Calls.{IsNumbered}
use Rattle.vp_catalog.specs.Document.{IsCatalogue}
use Rattle.vp_model.specs.Types.{Change, ViewId, TxnId, View, Stored, Message, Input, Part, Refreshing, Doubt, Sent}
use Rattle.vp_model.specs.Types.log_record
use Rattle.vp_model.specs.Types.message
use Rattle.vp_model.specs.Types.owner
use Rattle.vp_model.specs.Words.{same_txn, txn_before, keys, value_at, replace_at, put}
use Rattle.vp_model.specs.Catalogue.{Catalogue, Table, table_or, weight_inside, weight_total}
use Rattle.vp_model.specs.Durable.{doubt_of, with_outcome}
use Rattle.vp_model.specs.Locks.{with_lock, without_owner, with_guard, without_guard}
use Rattle.vp_model.specs.Site.{SiteState, ParticipantState, Stepped, begin_step, force, send, change_locks, change_participant, change_refresh, with_sent}
use Rattle.vp_model.specs.Refresh.{other_holders, refreshing_of, unanswered, members, newest, with_bar, unlist, end_refresh, start_refresh}
use Rattle.vp_model.specs.Views.{part_of}
use Rattle.vp_model.specs.Messages.{put_part, with_part, grant, with_vote, with_new_doubt, with_ended, acknowledge, end_here, with_answer}
use Rattle.vp_model.specs.Step.{known}
use Rattle.vp_laws.proofs.Lists.Members.{Has, find_has, all_of}
use Rattle.vp_laws.proofs.Moves.Table.{Comes, Requests, Asks, Joined, SendsBack, sent_back_for, AsksAgain}
use Rattle.vp_laws.specs.Shapes.{IsMessage, IsShort, IsDoubt, IsInput, IsStored, AreCopies, IsLock, IsPart, IsRefreshing, IsShaped, IsSent, IsBar}
use Rattle.vp_laws.proofs.Lists.Items.{all_at, all_filter, all_put, all_map}
use Rattle.vp_laws.proofs.Shapes.Numbers.{each_site, ascending_filter}
use Rattle.vp_laws.proofs.Shapes.Doubts.{put_doubts, fewer_doubts}
use Rattle.vp_laws.proofs.Shapes.Catalogue.{others_ascend, held_is, inside_fits, total_fits, table_fits, part_fits}
use Rattle.vp_laws.proofs.Shapes.Moves.{Forms, gives_entry, gives_sent, with_gives, with_locks, with_copies, with_bars, with_participant, with_refresh, some_at, with_lock_is, conflict_is, bar_is, replace_is, writes_are, copy_is, newest_is, answer_is, doubt_is, known_are}
use Rattle.vp_laws.proofs.Shapes.Views.{came_is, starts, sends, sends_all}
use Rattle.vp_laws.proofs.Lists.Keeps.{by_test}
use Rattle.vp_laws.proofs.Moves.Frames.{judging, judged, take-cases}

module _ (catalogue : Catalogue) (k : IsCatalogue catalogue) (x : SiteState) (sx : IsShaped catalogue x) (given : Input) (came : IsInput given) where
  abbrev F : Stepped → Type 0
  F = Forms catalogue x

  begins : F (begin_step x)
  begins = starts catalogue k x sx given came

  answers_with : (message : Message) (to : ℕ) (o : Stepped) → F o → IsSite to → IsMessage message → IsShort message → F (send message to o)
  answers_with message to o p s i small = sends catalogue k x sx given came message to o p s i small

  -- ---- refresh

  pub starts_refresh : (view : View) (rec : ℕ) (o : Stepped) → Joined x view o → Has (keys o.site.copies) rec → F o → F (start_refresh catalogue view rec o)
  unfolding start_refresh
  starts_refresh view rec o j h p =
      let s = p.site_is in
      let v : IsView view.id = some_at (λ (view : View). IsView view.id) o.site.held view s.views_are.held_is j.held in
      let r : IsRecord rec = held_is catalogue k o.site.id o.site.here.copies s.copies_are.held rec h in
      let a = with_locks catalogue x o p (with_guard rec) (with_lock_is rec true owner.Refresh o.site.here.locks tt s.locks_are) in
      let b = with_refresh catalogue x _ a (put (λ a b. a.rec == b.rec) (λ a b. nat_lt a.rec b.rec) (record { rec = rec; answers = [] })) (all_put IsRefreshing (λ a b. a.rec == b.rec) (λ a b. nat_lt a.rec b.rec) (record { rec = rec; answers = [] }) o.site.refresh (r, tt) s.refresh_are) in
      sends_all catalogue k x sx given came (message.RefreshRequest view.id rec) (other_holders catalogue o.site rec) _ b (each_site _ (others_ascend catalogue k o.site.id o.site.held rec)) (v, r) tt

  -- the sums by a table of a copy fit
  sums_fit : (rec : ℕ) (table : Option Table) (members : List ℕ) → IsMaybeTable versions.Second table → IsBar (rec, (weight_inside members (table_or catalogue rec table), weight_total (table_or catalogue rec table)))
  sums_fit rec None members i = (inside_fits catalogue k rec members, total_fits catalogue k rec)
  sums_fit rec (Some table) members i = (part_fits catalogue k table members i.1, table_fits catalogue k table i.1)

  takes_newer : (r : Refreshing) (own : Stored) (o : Stepped) → IsRecord r.rec → IsStored (newest own r.answers) → F o → F (judged catalogue r own o)
  takes_newer r own o n i p =
      let best = newest own r.answers in
      let a = with_copies catalogue x o p (replace_at r.rec best) (replace_is catalogue o.site.id r.rec best o.site.here.copies i p.site_is.copies_are) in
      let bar : ℕ × ℕ = (weight_inside (members o.site) (judging catalogue r own), weight_total (judging catalogue r own)) in
      take-cases F catalogue r own o (with_gives catalogue x _ a _ (gives_entry x.id _ a.gives (log_record.Copy r.rec best) (n, i))) p
      (with_bars catalogue x o p (with_bar r.rec (judging catalogue r own) (members o.site)) (all_put IsBar (λ (a : ℕ × (ℕ × ℕ)) (b : ℕ × (ℕ × ℕ)). a.0 == b.0) (λ (a : ℕ × (ℕ × ℕ)) (b : ℕ × (ℕ × ℕ)). nat_lt a.0 b.0) (r.rec, bar) o.site.here.bars (sums_fit r.rec best.table (members o.site) i.1) p.site_is.bars_are))

  pub ends_refresh : (rec : ℕ) (r : Refreshing) (own : Stored) (o : Stepped) → refreshing_of rec o.site.refresh ≡ Some r → value_at r.rec o.site.copies ≡ Some own → F o → F (end_refresh catalogue r own o)
  unfolding end_refresh unlist
  ends_refresh rec r own o f e p =
      let i : IsRefreshing r = all_at IsRefreshing o.site.refresh p.site_is.refresh_are r (find_has (λ r. r.rec == rec) o.site.refresh r f) in
      let stored = copy_is o.site.here.copies r.rec own p.site_is.copies_are.stored e in
      let a = takes_newer r own o i.0 (newest_is own r.answers stored i.1) p in
      let b = with_locks catalogue x _ a (without_guard r.rec) (all_filter IsLock _ _ a.site_is.locks_are) in
      with_refresh catalogue x _ b (filter (λ other. not (other.rec == r.rec))) (all_filter IsRefreshing _ _ b.site_is.refresh_are)

  pub keeps_answer : (from : ℕ) (view : ViewId) (rec : ℕ) (stored : Stored) → Comes given from (message.RefreshAnswer view rec stored) → F (change_refresh (map (with_answer rec from stored)) (begin_step x))
  keeps_answer from view rec stored c =
      let m = (came_is given from (message.RefreshAnswer view rec stored) came c).1 in
      with_refresh catalogue x _ begins (map (with_answer rec from stored)) (all_map IsRefreshing IsRefreshing (with_answer rec from stored) (λ r i. answer_is rec from stored r m.1.1 i) x.refresh sx.refresh_are)

  -- ---- parts

  numbered : (txn : TxnId) (view : ViewId) (number : ℕ) → IsRequest txn view number → IsNumbered txn number
  numbered txn view number i = record { txn_is = i.0; some = i.2.0; fits = i.2.1 }

  asks_is : (from : ℕ) (txn : TxnId) (view : ViewId) (number : ℕ) → Asks given from txn view number → IsRequest txn view number
  asks_is from txn view number (Asks.reads rec c) = (came_is given from _ came c).1.0
  asks_is from txn view number (Asks.writes rec c) = (came_is given from _ came c).1.0
  asks_is from txn view number (Asks.prepares reads writes c) = (came_is given from _ came c).1.0

  requests_is : (from : ℕ) (txn : TxnId) (view : ViewId) (number rec : ℕ) (exclusive : Bool) → Requests given from txn view number rec exclusive → IsRequest txn view number
  requests_is from txn view number rec _ (Requests.reads c) = (came_is given from _ came c).1.0
  requests_is from txn view number rec _ (Requests.writes c) = (came_is given from _ came c).1.0

  now_is : (o : Option View) → IfSome o (λ view. IsView view.id) → IsMaybeView (option_map (λ view. view.id) o)
  now_is None i = tt
  now_is (Some view) i = i

  part_is : (txn : TxnId) (view : ViewId) (p : ParticipantState) → IsTxn txn → IsView view → AllByRecursion IsPart p.parts → AllByRecursion IsPart (with_part txn view p).parts × ((with_part txn view p).doubts ≡ p.doubts)
  part_is txn view p t v h =
      by_test (λ (q : ParticipantState). AllByRecursion IsPart q.parts × (q.doubts ≡ p.doubts)) _ p (record p { parts = put_part (record { txn = txn; view = view; voted = false }) p.parts }) (λ e. (h, refl))
      (λ e. (all_put IsPart (λ (a : Part) (b : Part). same_txn a.txn b.txn) (λ (a : Part) (b : Part). txn_before a.txn b.txn) (record { txn = txn; view = view; voted = false }) p.parts (t, v) h, refl))

  grants : (from : ℕ) (txn : TxnId) (view : ViewId) (rec : ℕ) (exclusive : Bool) (answer : Message) → IsSite from → IsTxn txn → IsView view → IsMessage answer → IsShort answer → F (grant txn view rec exclusive answer from (begin_step x))
  unfolding grant
  grants from txn view rec exclusive answer s t v i small =
      let a = with_locks catalogue x _ begins (with_lock rec exclusive (owner.Txn txn)) (with_lock_is rec exclusive (owner.Txn txn) x.here.locks t sx.locks_are) in
      let q = part_is txn view x.participant t v sx.parts_are in
      let b = with_participant catalogue x _ a (with_part txn view) q.0 (rw q.1 sx.doubts_are) in
      answers_with answer from _ b s i small

  pub grants_read : (from : ℕ) (txn : TxnId) (view : ViewId) (number rec : ℕ) (stored : Stored) → Comes given from (message.ReadRequest txn view number rec) → value_at rec x.copies ≡ Some stored → F (grant txn view rec false (message.ReadAnswer txn number stored.value) from (begin_step x))
  grants_read from txn view number rec stored c e =
      let m = came_is given from (message.ReadRequest txn view number rec) came c in
      grants from txn view rec false (message.ReadAnswer txn number stored.value) m.0 m.1.0.0 m.1.0.1 (numbered txn view number m.1.0, (copy_is x.here.copies rec stored sx.copies_are.stored e).0) tt

  pub grants_write : (from : ℕ) (txn : TxnId) (view : ViewId) (number rec : ℕ) → Comes given from (message.WriteRequest txn view number rec) → F (grant txn view rec true (message.WriteAnswer txn number) from (begin_step x))
  grants_write from txn view number rec c =
      let m = came_is given from (message.WriteRequest txn view number rec) came c in
      grants from txn view rec true (message.WriteAnswer txn number) m.0 m.1.0.0 m.1.0.1 (numbered txn view number m.1.0) tt

  part_of_is : (txn : TxnId) (part : Part) → part_of txn x.parts ≡ Some part → IsPart part
  part_of_is txn part e = all_at IsPart x.parts sx.parts_are part (find_has (λ part. same_txn part.txn txn) x.parts part e)

  back_is : (from : ℕ) (m : Message) → SendsBack x given from m → IsMessage m
  back_is from _ (SendsBack.stale id c e) = ((came_is given from (message.Invite id) came c).1, sx.views_are.promise_is)
  back_is from _ (SendsBack.accept_again id c e) = (came_is given from (message.Invite id) came c).1
  back_is from _ (SendsBack.answer_refresh view rec stored c e d v) =
      let m = (came_is given from (message.RefreshRequest view rec) came c).1 in
      let i = copy_is x.here.copies rec stored sx.copies_are.stored v in
      (m.0, (m.1, i))
  back_is from _ (SendsBack.refuse_view txn view number a e) = (numbered txn view number (asks_is from txn view number a), now_is x.held sx.views_are.held_is)
  back_is from _ (SendsBack.refuse_lock txn view number rec exclusive holder r e n c) = (numbered txn view number (requests_is from txn view number rec exclusive r), conflict_is rec exclusive txn x.here.locks holder sx.locks_are c)
  back_is from _ (SendsBack.refuse_bar txn view number rec exclusive bar r e n b) = let q = bar_is rec bar x.here.bars sx.bars_are b in (numbered txn view number (requests_is from txn view number rec exclusive r), (tt, q.0, q.1))
  back_is from _ (SendsBack.doubt_again txn view number reads writes c e n d) = (came_is given from (message.Prepare txn view number reads writes) came c).1.0.0
  back_is from _ (SendsBack.vote_again txn view number reads writes part c e n f v) = (part_of_is txn part f).0
  back_is from _ (SendsBack.answer_inquiry txn c s n) = (came_is given from (message.Inquire txn) came c).1

  back_short : (from : ℕ) (m : Message) → SendsBack x given from m → IsShort m
  back_short from _ (SendsBack.stale id c e) = tt
  back_short from _ (SendsBack.accept_again id c e) = tt
  back_short from _ (SendsBack.answer_refresh view rec stored c e d v) = tt
  back_short from _ (SendsBack.refuse_view txn view number a e) = tt
  back_short from _ (SendsBack.refuse_lock txn view number rec exclusive holder r e n c) = tt
  back_short from _ (SendsBack.refuse_bar txn view number rec exclusive bar r e n b) = tt
  back_short from _ (SendsBack.doubt_again txn view number reads writes c e n d) = tt
  back_short from _ (SendsBack.vote_again txn view number reads writes part c e n f v) = tt
  back_short from _ (SendsBack.answer_inquiry txn c s n) = tt

  pub sends_back : (from : ℕ) (m : Message) → SendsBack x given from m → F (send m from (begin_step x))
  sends_back from m t = let q = sent_back_for x given from m t in answers_with m from _ begins (came_is given from q.0 came q.1).0 (back_is from m t) (back_short from m t)

  pub votes_reading : (from : ℕ) (txn : TxnId) (view : ViewId) (number : ℕ) (reads : List ℕ) (writes : List (ℕ × Change)) (part : Part) → Comes given from (message.Prepare txn view number reads writes) → part_of txn x.parts ≡ Some part → F (send (message.Vote part.txn) from (change_participant (with_vote part) (begin_step x)))
  votes_reading from txn view number reads writes part c e =
      let m = came_is given from (message.Prepare txn view number reads writes) came c in
      let i = part_of_is txn part e in
      let a = with_participant catalogue x _ begins (with_vote part) (all_put IsPart (λ (a : Part) (b : Part). same_txn a.txn b.txn) (λ (a : Part) (b : Part). txn_before a.txn b.txn) (record part { voted = true }) x.parts i sx.parts_are) sx.doubts_are in
      answers_with (message.Vote part.txn) from _ a m.0 i.0 tt

  pub votes_writing : (from : ℕ) (txn : TxnId) (view : ViewId) (number : ℕ) (reads : List ℕ) (writes : List (ℕ × Change)) (part : Part) → Comes given from (message.Prepare txn view number reads writes) → part_of txn x.parts ≡ Some part → F (send (message.Vote part.txn) from (force (log_record.Yes part.txn part.view writes) (change_participant (with_new_doubt part writes) (begin_step x))))
  votes_writing from txn view number reads writes part c e =
      let m = came_is given from (message.Prepare txn view number reads writes) came c in
      let i = part_of_is txn part e in
      let a = with_participant catalogue x _ begins (with_new_doubt part writes) (all_filter IsPart _ x.parts sx.parts_are) (put_doubts (record { txn = part.txn; view = part.view; writes = writes }) x.doubts (i.0, i.1, m.1.2) sx.doubts_are) in
      let b = with_gives catalogue x _ a _ (gives_entry x.id _ a.gives (log_record.Yes part.txn part.view writes) (i.0, i.1, m.1.2)) in
      answers_with (message.Vote part.txn) from _ b m.0 i.0 tt

  -- what a part's end leaves, whatever its doubt did
  ended : (from : ℕ) (txn : TxnId) (commit in_view : Bool) (o : Stepped) → IsSite from → IsTxn txn → F o → F (acknowledge from txn commit (change_locks (without_owner (owner.Txn txn)) (change_participant (with_ended in_view txn) o)))
  ended from txn commit in_view o s t p =
      let a = with_participant catalogue x o p (with_ended in_view txn) (all_filter IsPart _ o.site.parts p.site_is.parts_are) (fewer_doubts txn o.site.doubts p.site_is.doubts_are) in
      let b = with_locks catalogue x _ a (without_owner (owner.Txn txn)) (all_filter IsLock _ _ a.site_is.locks_are) in
      go commit (change_locks (without_owner (owner.Txn txn)) (change_participant (with_ended in_view txn) o)) b (λ o p. answers_with (message.Ack txn) from o p s t tt)
    where
      go : (commit : Bool) (o : Stepped) → F o → ((o : Stepped) → F o → F (send (message.Ack txn) from o)) → F (acknowledge from txn commit o)
      go true o p acks = acks o p
      go false o p acks = p

  outcome_is : (commit : Bool) (d : Doubt) (copies : List (ℕ × Stored)) → IsDoubt d → AreCopies catalogue x.id copies → AreCopies catalogue x.id (with_outcome (Some d) commit copies)
  outcome_is true d copies i a = writes_are catalogue x.id 0 d.view d.writes copies i.1 i.2.1 a
  outcome_is false d copies i a = a

  pub ends_here : (from : ℕ) (txn : TxnId) (commit : Bool) (doubt : Option Doubt) → doubt_of txn x.doubts ≡ doubt → Comes given from (message.Outcome txn commit) → F (end_here from txn commit doubt (begin_step x))
  unfolding end_here
  ends_here from txn commit None e c = let m = came_is given from (message.Outcome txn commit) came c in ended from txn commit (is_some x.held) (begin_step x) m.0 m.1 begins
  ends_here from txn commit (Some d) e c =
      let m = came_is given from (message.Outcome txn commit) came c in
      let i = doubt_is txn x.doubts d sx.doubts_are e in
      let a = with_gives catalogue x _ begins _ (gives_entry x.id _ begins.gives (log_record.Outcome txn commit) m.1) in
      let b = with_copies catalogue x _ a (with_outcome (Some d) commit) (outcome_is commit d x.here.copies i sx.copies_are) in
      ended from txn commit (is_some x.held) _ m.0 m.1 b

  again_is : (o : Stepped) → F o → (to : ℕ) (m : Message) → AsksAgain catalogue x given o to m → IsSite to × IsMessage m
  again_is o p to _ (AsksAgain.refresh view r e h v q) =
      let i : IsRefreshing r = all_at IsRefreshing x.refresh sx.refresh_are r h in
      (all_at IsSite (unanswered catalogue o.site r) (each_site _ (ascending_filter 1 16 _ _ (others_ascend catalogue k o.site.id o.site.held r.rec))) to q, (some_at (λ (view : View). IsView view.id) x.held view sx.views_are.held_is e, i.0))
  again_is o p to _ (AsksAgain.inquire txn c h e) =
      let i : IsTxn txn = all_at IsTxn (known o.site.participant) (known_are o.site.participant p.site_is.parts_are p.site_is.doubts_are) txn h in
      (subst IsSite e (i.site_some, i.site_fits), i)

  again_short : (o : Stepped) (to : ℕ) (m : Message) → AsksAgain catalogue x given o to m → IsShort m
  again_short o to _ (AsksAgain.refresh view r e h v q) = tt
  again_short o to _ (AsksAgain.inquire txn c h e) = tt

  pub asks_again : (o : Stepped) (ms : List Sent) → ((m : Sent) → Has ms m → (m.from ≡ o.site.id) × AsksAgain catalogue x given o m.to m.message) → F o → F (record o { effects = with_sent ms o.effects })
  asks_again o ms all p = with_gives catalogue x o p _ (gives_sent x.id o.effects p.gives ms (all_of (IsSent x.id) ms (λ m h. let q = all m h in let i = again_is o p m.to m.message q.1 in (q.0 ∙ p.same, i.0, i.1))) (all_of (λ (m : Sent). IsShort m.message) ms (λ m h. again_short o m.to m.message (all m h).1)))
