-- Each doubt keeps its prepare, each vote its doubt, and each entry is what its prepares said.
use Rattle.std.proofs.Common.{◌≡◌, ◌≢◌, ◌⊎◌, ◌∙◌, ap, sym, subst, ℕ, Bool, true, false, List, [], ◌∷◌, refl, inl, inr, ⊎_elim}
use Rattle.std.specs.Prelude.{Option, Some, None, is_some, option_map, not, ◌==◌}
use Rattle.vp_model.specs.Types.{Change, ViewId, TxnId, View, Sent, Commit, Message, Input, Part, Pending, Live, Doubt}
use Rattle.vp_model.specs.Types.message
use Rattle.vp_model.specs.Words.{is_empty, is_view}
use Rattle.vp_model.specs.Catalogue.{Catalogue, start_copies}
use Rattle.vp_model.specs.Durable.{DurableState, empty_durable}
use Rattle.vp_model.specs.Site.{SiteState, Stepped}
use Rattle.vp_model.specs.Transactions.{last_changes, entry_of, writes_held}
use Rattle.vp_model.specs.Messages.{holds_view}
use Rattle.vp_model.specs.Refresh.{other_holders}
use Rattle.vp_model.specs.Step.{start, durable_of, mark, marked_call}
use Rattle.vp_laws.specs.Votes.{is_commit}
use Rattle.vp_laws.proofs.Lists.Members.{Has, has_none, filter_keeps}
use Rattle.vp_laws.proofs.Lists.Names.{Apart, apart_unique}
use Rattle.vp_laws.proofs.Lists.Views.{same_site, same_is}
use Rattle.vp_laws.proofs.Moves.LocalViews.{letter}
use Rattle.vp_laws.proofs.Moves.Table.{Comes, next_name, IsOperating, Counts, remaining, Decides, Requests}
use Rattle.vp_laws.proofs.Table.Below.{PartOk}
use Rattle.vp_laws.proofs.Worlds.Scenes.{Scene, plain_at, kept_at, Acted, scene_of}
use Rattle.vp_laws.proofs.Table.Votes.{some_not, operating_not, completes_operating}
use Rattle.vp_laws.proofs.Invariant.Names.{UsedTxn, InvNames}
use Rattle.vp_laws.proofs.Invariant.Votes.{InvVotes, voted_pending}
use Rattle.vp_laws.proofs.Moves.OnlyCoordinator.{is_aside}
use Rattle.vp_laws.proofs.Table.Steps.{LiveNow, Only, SentFor, EnteredFor, Steps}
use Rattle.vp_laws.proofs.Table.Shares.{is_reply, PartNow, DoubtNow, OutcomeComes, ReplyTo, Shares}
use Rattle.vp_laws.proofs.Invariant.Endings.{HasEntry, InvEndings}
use Rattle.vp_laws.proofs.Worlds.Events.{Arrives, came_in}
use Rattle.vp_laws.proofs.Worlds.Sites.{NowIs, now_is, KeptIs, kept_is, Quiet, QuietIs, quiet_is, quiet_kept, started, start_kept, start_sent, start_entered, started_idle, live_still}
use Rattle.vp_laws.proofs.Lists.Numbers.{not_same}
use Rattle.vp_laws.proofs.Lists.Changes.{is_none}
use Rattle.vp_laws.proofs.Invariant.Shares.{Says, Awaits, HasVote, InDoubt, HasRequest, DoubtSays, InvShares, HasPrepare, PartSays, EntrySays, OneView, VoteSays, vote_more, request_more}
use Rattle.vp_laws.proofs.Keeping.Endings.{fresh}
use Rattle.vp_model.specs.World.{start_world}
use Rattle.vp_laws.proofs.Moves.Calls.{changes_no_commit, no_commit_writes, waiting, reading, writing}

not_none : {X : Type 0} (xs ys : List X) → xs ≡ ys → is_empty xs ≡ false → is_empty ys ≡ true → ⊥
not_none xs ys e f g = let z = ap is_empty e in cc

-- what a live transaction was, by its name and view
pub was_viewed : (catalogue : Catalogue) (x : SiteState) (given : Input) (t : Live) → LiveNow catalogue x given t → ((u : Live) × Has x.live u × (u.txn ≡ t.txn) × (u.view ≡ t.view)) ⊎ (t.txn ≡ next_name x)
was_viewed catalogue x given t (LiveNow.still h) = inl (t, h, refl, refl)
was_viewed catalogue x given t (LiveNow.marked u h tick e) = inl (u, h, ap (λ (t : Live). t.txn) e, ap (λ (t : Live). t.view) e)
was_viewed catalogue x given t (LiveNow.waits u p from h f m l c e) = inl (u, h, ap (λ (t : Live). t.txn) e, ap (λ (t : Live). t.view) e)
was_viewed catalogue x given t (LiveNow.completed u p deed l h c e) = inl (u, h, ap (λ (t : Live). t.txn) e, ap (λ (t : Live). t.view) e)
was_viewed catalogue x given t (LiveNow.reads u p rec q h a e) = inl (u, h, ap (λ (t : Live). t.txn) e, ap (λ (t : Live). t.view) e)
was_viewed catalogue x given t (LiveNow.writes u p rec value h a e) = inl (u, h, ap (λ (t : Live). t.txn) e, ap (λ (t : Live). t.view) e)
was_viewed catalogue x given t (LiveNow.prepares u p h a e) = inl (u, h, ap (λ (t : Live). t.txn) e, ap (λ (t : Live). t.view) e)
was_viewed catalogue x given t (LiveNow.begins view h e) = inr (ap (λ (t : Live). t.txn) (sym e))

committing_not : (u : Live) → IsOperating u → (p : Pending) → u.pending ≡ Some p → is_commit p.call ≡ true → ⊥
committing_not u idle p e c = ⊎_elim (λ none. some_not u.pending p e none) (λ doing. operating_not u.pending p doing.0 e doing.1 c doing.2) idle

was_doing : (catalogue : Catalogue) (x : SiteState) (given : Input) (t : Live) → LiveNow catalogue x given t → ((u : Live) → Has x.live u → u.txn ≡ t.txn → (p : Pending) × (u.pending ≡ Some p) × (is_commit p.call ≡ true)) → (t.txn ≢ next_name x) → (u : Live) × Has x.live u × (u.txn ≡ t.txn) × (entry_of u ≡ entry_of t)
was_doing catalogue x given t (LiveNow.still h) c n = (t, h, refl, refl)
was_doing catalogue x given t (LiveNow.marked u h tick e) c n = (u, h, ap (λ (t : Live). t.txn) e, ap entry_of e)
was_doing catalogue x given t (LiveNow.waits u p from h f m l k e) c n = (u, h, ap (λ (t : Live). t.txn) e, ap entry_of e)
was_doing catalogue x given t (LiveNow.completed u p deed l h k e) c n = let q = c u h (ap (λ (t : Live). t.txn) e) in absurd (committing_not u (completes_operating catalogue x given u p deed l k) q.0 q.1 q.2)
was_doing catalogue x given t (LiveNow.reads u p rec k h a e) c n = let q = c u h (ap (λ (t : Live). t.txn) e) in absurd (some_not u.pending q.0 q.1 a.next.idle)
was_doing catalogue x given t (LiveNow.writes u p rec value h a e) c n = let q = c u h (ap (λ (t : Live). t.txn) e) in absurd (some_not u.pending q.0 q.1 a.next.idle)
was_doing catalogue x given t (LiveNow.prepares u p h a e) c n = let q = c u h (ap (λ (t : Live). t.txn) e) in absurd (some_not u.pending q.0 q.1 a.next.idle)
was_doing catalogue x given t (LiveNow.begins view h e) c n = absurd (n (ap (λ (t : Live). t.txn) (sym e)))

vote_is : (t u : TxnId) → message.Vote t ≡ message.Vote u → t ≡ u
vote_is t u e = cc

-- what is neither a reply nor a coordinator's says nothing here
quiet_says : (catalogue : Catalogue) (w : Scene) (from to : ℕ) (m : Message) → is_reply m ≡ false → is_aside m ≡ true → Says catalogue w from to m
quiet_says catalogue w from to (message.ReadRequest txn view number rec) e f = cc
quiet_says catalogue w from to (message.WriteRequest txn view number rec) e f = cc
quiet_says catalogue w from to (message.Prepare txn view number readings writings) e f = cc
quiet_says catalogue w from to (message.ReadAnswer txn number value) e f = cc
quiet_says catalogue w from to (message.WriteAnswer txn number) e f = cc
quiet_says catalogue w from to (message.Vote txn) e f = cc
quiet_says catalogue w from to (message.Ack txn) e f = cc
quiet_says catalogue w from to m e f = tt

read_comes : {given : Input} (txn : TxnId) (view : ViewId) (number rec from : ℕ) → Requests given from txn view number rec false → Comes given from (message.ReadRequest txn view number rec)
read_comes txn view number rec from (Requests.reads e) = e

write_comes : {given : Input} (txn : TxnId) (view : ViewId) (number rec from : ℕ) → Requests given from txn view number rec true → Comes given from (message.WriteRequest txn view number rec)
write_comes txn view number rec from (Requests.writes e) = e

marked_awaits : (w : Scene) (u : Live) → Awaits w u → Awaits w (mark u)
marked_awaits w u h p e g q k = go u.pending refl e
  where
    go : (o : Option Pending) → u.pending ≡ o → marked_call o ≡ Some p → Has p.missing q ⊎ HasVote w q u.txn
    go None f z = cc
    go (Some a) f z =
        let is : record a { marked = true } ≡ p = cc in
        ⊎_elim (λ still. inl (rw (← (ap (λ (p : Pending). p.missing) is)) still)) (λ v. inr v) (h a f (ap (λ (p : Pending). is_commit p.call) is ∙ g) q k)

module _ (catalogue : Catalogue) (w new : Scene) (s : ℕ) (x : SiteState) (given : Input) (o : Stepped) (up : plain_at w s ≡ Some x) (arrives : Arrives w s given) (id : x.id ≡ s) (kept : x.doubts ≡ (kept_at w s).doubts) (apart : Apart x.live) (owned : (t : Live) → Has x.live t → t.txn.site ≡ x.id) (part_views : (p : Part) → Has x.parts p → PartOk x p) (names : InvNames w) (votes : InvVotes catalogue w) (votes_now : InvVotes catalogue new) (ends : InvEndings w) (inv : InvShares catalogue w) (c : Steps catalogue x given o.site.coordinator o.effects.messages o.effects.commits) (p : Shares x given o) (st : Acted w new s x o) where
  stays : (m : Sent) → Has w.sent m → Has new.sent m
  stays = st.moved.sent

  -- a live transaction now of a name that was used: at another site, or it was live here
  view_lasts : (txn : TxnId) (view : ViewId) → UsedTxn w txn → OneView w txn view → OneView new txn view
  view_lasts txn view used h = record {
    live = λ y t g k e. live_now y t (now_is w new s x o st txn.site y g) k e;
    entry = λ e g same. ⊎_elim (λ old. h.entry e old same) (λ more. entered e (c.entered e more) same) (st.entered e g);
  }
    where
      live_now : (y : SiteState) (t : Live) → NowIs w s o.site txn.site y → Has y.live t → t.txn ≡ txn → t.view ≡ view
      live_now y t (NowIs.other n g) k e = h.live y t g k e
      live_now y t (NowIs.here z same) k e = ⊎_elim
          (λ (was : (u : Live) × Has x.live u × (u.txn ≡ t.txn) × (u.view ≡ t.view)). sym was.3 ∙ h.live x was.0 (rw z up) was.1 (was.2 ∙ e))
          (λ (new : t.txn ≡ next_name x). absurd (fresh w s x up id txn used (sym e ∙ new)))
          (was_viewed catalogue x given t (c.live t (subst (λ (y : SiteState). Has y.live t) (sym same) k)))

      entered : (e : Commit) → EnteredFor catalogue x given e → e.txn ≡ txn → e.view ≡ view
      entered e f same =
          let u = f.handled.was in
          let named : u.txn ≡ e.txn = sym (ap (λ (t : Live). t.txn) f.handled.same) ∙ ap (λ (e : Commit). e.txn) f.is in
          let viewed : u.view ≡ e.view = sym (ap (λ (t : Live). t.view) f.handled.same) ∙ ap (λ (e : Commit). e.view) f.is in
          let here : txn.site ≡ s = ap (λ (t : TxnId). t.site) (sym same ∙ sym named) ∙ owned u f.handled.live ∙ id in
          sym viewed ∙ h.live x u (rw here up) f.handled.live (named ∙ same)

  -- a request or a prepare of this step
  view_new : (u now : Live) → Has x.live u → now.txn ≡ u.txn → now.view ≡ u.view → Only o.site.live now → OneView new u.txn u.view
  view_new u now h name viewed only = record {
    live = λ y t g k e. live_now y t (now_is w new s x o st u.txn.site y g) k e;
    entry = λ e g same. ⊎_elim
        (λ old. absurd (ends.entry e old x (rw (ap (λ (t : TxnId). t.site) same ∙ owned u h ∙ id) up) u h (sym same)))
        (λ more. entered e (c.entered e more) same) (st.entered e g);
  }
    where
      live_now : (y : SiteState) (t : Live) → NowIs w s o.site u.txn.site y → Has y.live t → t.txn ≡ u.txn → t.view ≡ u.view
      live_now y t (NowIs.other n g) k e = absurd (n (owned u h ∙ id))
      live_now y t (NowIs.here z same) k e = ap (λ (t : Live). t.view) (only t (subst (λ (y : SiteState). Has y.live t) (sym same) k) (e ∙ sym name)) ∙ viewed

      entered : (e : Commit) → EnteredFor catalogue x given e → e.txn ≡ u.txn → e.view ≡ u.view
      entered e f same =
          let v = f.handled.was in
          let named : v.txn ≡ e.txn = sym (ap (λ (t : Live). t.txn) f.handled.same) ∙ ap (λ (e : Commit). e.txn) f.is in
          let viewed : v.view ≡ e.view = sym (ap (λ (t : Live). t.view) f.handled.same) ∙ ap (λ (e : Commit). e.view) f.is in
          sym viewed ∙ ap (λ (t : Live). t.view) (apart_unique x.live apart v u f.handled.live h (named ∙ same))

  entry_stays : (txn : TxnId) → HasEntry w txn → HasEntry new txn
  entry_stays txn h = (h.0, st.moved.journal h.0 h.1, h.2)

  -- a doubt of a live transaction stays
  doubt_lasts : (k : ℕ) (txn : TxnId) → (y : SiteState) (u : Live) → plain_at w txn.site ≡ Some y → Has y.live u → u.txn ≡ txn → InDoubt w k txn → InDoubt new k txn
  doubt_lasts k txn y u live h e (d, there, of) = go (kept_is w new s x o st k)
    where
      go : KeptIs w new s (durable_of o.site) k → InDoubt new k txn
      go (KeptIs.other n same) = (d, subst (λ (k : DurableState). Has k.doubts d) (sym same) there, of)
      go (KeptIs.here z same) = ⊎_elim
          (λ still. (d, subst (λ (k : DurableState). Has k.doubts d) (sym same) still, of))
          (λ (q : OutcomeComes given d.txn). absurd (over q.0 q.1 q.2))
          (p.stays d (rw kept (rw z at there)))
        where
          over : (from : ℕ) (commit : Bool) → Comes given from (message.Outcome d.txn commit) → ⊥
          over from true q = (ends.told _ (came_in w s given arrives from (message.Outcome d.txn true) q)).0 y (rw of live) u h (e ∙ sym of)
          over from false q = ends.told _ (came_in w s given arrives from (message.Outcome d.txn false) q) y (rw of live) u h (e ∙ sym of)

  vote_lasts : (from to : ℕ) (txn : TxnId) → Has w.sent (letter from to (message.Vote txn)) → VoteSays catalogue w from txn → VoteSays catalogue new from txn
  vote_lasts from to txn sent h = λ y t g k e writes. go y t (now_is w new s x o st txn.site y g) k e writes
    where
      go : (y : SiteState) (t : Live) → NowIs w s o.site txn.site y → Has y.live t → t.txn ≡ txn → is_empty (writes_held catalogue from (last_changes (entry_of t))) ≡ false → InDoubt new from txn
      go y t (NowIs.other n g) k e writes = doubt_lasts from txn y t g k e (h y t g k e writes)
      go y t (NowIs.here z same) k e writes =
          let used : UsedTxn w txn = (names.sent _ sent).0.0 in
          let was = was_doing catalogue x given t (c.live t (subst (λ (y : SiteState). Has y.live t) (sym same) k))
          (λ u q f. voted_pending catalogue w votes from to txn sent x u (rw z up) q (f ∙ e))
          (λ n. fresh w s x up id txn used (sym e ∙ n)) in
          doubt_lasts from txn x was.0 (rw z up) was.1 (was.2 ∙ e) (h x was.0 (rw z up) was.1 (was.2 ∙ e) (subst (λ (e : Commit). is_empty (writes_held catalogue from (last_changes e)) ≡ false) (sym was.3) writes))

  doubt_here : (txn : TxnId) (d : Doubt) → Has o.site.doubts d → d.txn ≡ txn → InDoubt new s txn
  doubt_here txn d h e = (d, subst (λ (k : DurableState). Has k.doubts d) (sym st.kept_now) h, e)

  -- where a prepare without writes was sent to the site, the live transaction writes nothing there
  nothing_there : (k : ℕ) (txn : TxnId) (from : ℕ) (view : ViewId) (number : ℕ) (reads : List ℕ) (writes : List (ℕ × Change)) → is_empty writes ≡ true → Has new.sent (letter from k (message.Prepare txn view number reads writes)) → (y : SiteState) (t : Live) → plain_at new txn.site ≡ Some y → Has y.live t → t.txn ≡ txn → is_empty (writes_held catalogue k (last_changes (entry_of t))) ≡ false → ⊥
  nothing_there k txn from view number reads writes none sent y t g h e f = let q = votes_now.prepared _ sent y t g h e in not_none _ writes q.has_written f none

  vote_new : (txn : TxnId) (m : Sent) → ReplyTo x given o.site.participant m → message.Vote txn ≡ m.message → VoteSays catalogue new s txn
  vote_new txn m (ReplyTo.other quiet) e = absurd (let z = ap is_reply e in cc)
  vote_new txn m (ReplyTo.doubt_again d a was h f) e = λ y t g k q writes. doubt_here txn d h (vote_is d.txn txn (f ∙ sym e))
  vote_new txn m (ReplyTo.vote_again part a was h v f) e = λ y t g k q writes.
      let is : part.txn ≡ txn = vote_is part.txn txn (f ∙ sym e) in
      let says : (view : ViewId) × HasPrepare w s txn view [] = subst (λ (u : TxnId). (view : ViewId) × HasPrepare w s u view []) is ((inv.parts s x part up was).voted v) in
      absurd (nothing_there s txn says.1.0 says.0 says.1.1 says.1.2 [] refl (stays _ says.1.3) y t g k q writes)
  vote_new txn m (ReplyTo.vote_reading part reads writes a none h f) e = λ y t g k q some.
      let is : part.txn ≡ txn = vote_is part.txn txn (f ∙ sym e) in
      let sent : Has new.sent (letter m.to s (message.Prepare txn a.view a.number reads writes)) = subst (λ (u : TxnId). Has new.sent (letter m.to s (message.Prepare u a.view a.number reads writes))) is (stays _ (came_in w s given arrives m.to (message.Prepare part.txn a.view a.number reads writes) a.comes)) in
      absurd (nothing_there s txn m.to a.view a.number reads writes none sent y t g k q some)
  vote_new txn m (ReplyTo.vote_writing part reads writes a some h f) e = λ y t g k q more. doubt_here txn (record { txn = part.txn; view = part.view; writes = writes }) h (vote_is part.txn txn (f ∙ sym e))
  vote_new txn m (ReplyTo.acks t a n f) e = absurd (let z = f ∙ sym e in cc)
  vote_new txn m (ReplyTo.read_answer t number rec stored a f) e = absurd (let z = f ∙ sym e in cc)
  vote_new txn m (ReplyTo.write_answer t number rec stored a f) e = absurd (let z = f ∙ sym e in cc)
  vote_new txn m (ReplyTo.refresh_answer view rec stored a h d v f) e = absurd (let z = f ∙ sym e in cc)

  prepare_stays : (to : ℕ) (txn : TxnId) (view : ViewId) (writes : List (ℕ × Change)) → HasPrepare w to txn view writes → HasPrepare new to txn view writes
  prepare_stays to txn view writes h = (h.0, h.1, h.2, stays _ h.3)

  part_stays : (k : ℕ) (a : Part) → PartSays w k a → PartSays new k a
  part_stays k a h = record {
    asked = let q = h.asked in (q.0, q.1, q.2, q.3, request_more w new stays q.0 k a.txn a.view q.1 q.2 q.3 q.4);
    voted = λ v. let q = h.voted v in (q.0, prepare_stays k a.txn q.0 [] q.1);
  }

  -- the held view's identifier is the one that is named
  held_view : (a : Part) (view : ViewId) → Has x.parts a → holds_view x view ≡ true → a.view ≡ view
  held_view a view h e = let q = part_views a h in sym q.2 ∙ go x.held q.1 e
    where
      go : (held : Option View) → held ≡ Some (part_views a h).0 → is_view (option_map (λ (v : View). v.id) held) view ≡ true → (part_views a h).0.id ≡ view
      go None f t = cc
      go (Some v) f t = let same : v ≡ (part_views a h).0 = cc in ap (λ (v : View). v.id) (sym same) ∙ same_is v.id view t

  requested : (from : ℕ) (txn : TxnId) (view : ViewId) (number rec : ℕ) (exclusive : Bool) → Requests given from txn view number rec exclusive → HasRequest new from s txn view number rec exclusive
  requested from txn view number rec false (Requests.reads e) = HasRequest.to_read (stays _ (came_in w s given arrives from (message.ReadRequest txn view number rec) e))
  requested from txn view number rec true (Requests.writes e) = HasRequest.to_write (stays _ (came_in w s given arrives from (message.WriteRequest txn view number rec) e))

  part_now : (a : Part) → PartNow x given a → PartSays new s a
  part_now a (PartNow.still h) = part_stays s a (inv.parts s x a up h)
  part_now a (PartNow.voted from part reads writes q none e) =
      let before = part_stays s part (inv.parts s x part up q.part_here) in
      subst (PartSays new s) e (record {
        asked = before.asked;
        voted = λ v. (q.view, (from, q.number, reads, rw (is_none writes none) at (stays _ (came_in w s given arrives from (message.Prepare part.txn q.view q.number reads writes) q.comes))));
      })
  part_now a (PartNow.fresh from txn number rec exclusive stored g e) = subst (PartSays new s) e (record {
    asked = (from, number, rec, exclusive, requested from txn g.view number rec exclusive g.comes);
    voted = λ v. cc;
  })

  doubt_now : (d : Doubt) → DoubtNow x given d → DoubtSays new s d
  doubt_now d (DoubtNow.still h) = let q = inv.doubts s d (rw (← kept) h) in (prepare_stays s d.txn d.view d.writes q.0, q.1)
  doubt_now d (DoubtNow.fresh from part reads writes q some e) =
      subst (DoubtSays new s) e ((from, q.number, reads, rw (held_view part q.view q.part_here q.held) (stays _ (came_in w s given arrives from (message.Prepare part.txn q.view q.number reads writes) q.comes))), some)

  -- messages
  says_lasts : (m : Sent) → Has w.sent m → (from to : ℕ) (words : Message) → letter from to words ≡ m → Says catalogue w from to words → Says catalogue new from to words
  says_lasts m h from to (message.ReadRequest txn view number rec) e q = view_lasts txn view (names.sent (letter from to (message.ReadRequest txn view number rec)) (rw e h)).0.0 q
  says_lasts m h from to (message.WriteRequest txn view number rec) e q = view_lasts txn view (names.sent (letter from to (message.WriteRequest txn view number rec)) (rw e h)).0.0 q
  says_lasts m h from to (message.Prepare txn view number reads writes) e q = view_lasts txn view (names.sent (letter from to (message.Prepare txn view number reads writes)) (rw e h)).0.0 q
  says_lasts m h from to (message.ReadAnswer txn number value) e q = (q.0, q.1, stays _ q.2)
  says_lasts m h from to (message.WriteAnswer txn number) e q = (q.0, q.1, stays _ q.2)
  says_lasts m h from to (message.Vote txn) e q = vote_lasts from to txn (rw e h) q
  says_lasts m h from to (message.Ack txn) e q = entry_stays txn q
  says_lasts m h from to words e q = tt

  -- what a reply says
  reply_says : (m : Sent) → ReplyTo x given o.site.participant m → is_aside m.message ≡ true → m.from ≡ s → Says catalogue new m.from m.to m.message
  reply_says m (ReplyTo.other quiet) e f = quiet_says catalogue new m.from m.to m.message quiet e
  reply_says m (ReplyTo.doubt_again d a was h g) e f = subst (Says catalogue new m.from m.to) g (rw f (vote_new d.txn m (ReplyTo.doubt_again d a was h g) g))
  reply_says m (ReplyTo.vote_again part a was h v g) e f = subst (Says catalogue new m.from m.to) g (rw f (vote_new part.txn m (ReplyTo.vote_again part a was h v g) g))
  reply_says m (ReplyTo.vote_reading part reads writes a none h g) e f = subst (Says catalogue new m.from m.to) g (rw f (vote_new part.txn m (ReplyTo.vote_reading part reads writes a none h g) g))
  reply_says m (ReplyTo.vote_writing part reads writes a some h g) e f = subst (Says catalogue new m.from m.to) g (rw f (vote_new part.txn m (ReplyTo.vote_writing part reads writes a some h g) g))
  reply_says m (ReplyTo.acks t a n g) e f = subst (Says catalogue new m.from m.to) g (entry_stays t (ends.told _ (came_in w s given arrives m.to (message.Outcome t true) a)).1)
  reply_says m (ReplyTo.read_answer t number rec stored a g) e f = subst (Says catalogue new m.from m.to) g (a.view, rec, rw f (stays _ (came_in w s given arrives m.to (message.ReadRequest t a.view number rec) (read_comes t a.view number rec m.to a.comes))))
  reply_says m (ReplyTo.write_answer t number rec stored a g) e f = subst (Says catalogue new m.from m.to) g (a.view, rec, rw f (stays _ (came_in w s given arrives m.to (message.WriteRequest t a.view number rec) (write_comes t a.view number rec m.to a.comes))))
  reply_says m (ReplyTo.refresh_answer view rec stored a h d v g) e f = subst (Says catalogue new m.from m.to) g tt

  says_new : (m : Sent) → SentFor catalogue x given o.site.live m → ReplyTo x given o.site.participant m → m.from ≡ s → Says catalogue new m.from m.to m.message
  says_new m (SentFor.aside a) r f = reply_says m r a.aside f
  says_new m (SentFor.outcome txn commit g e) r f = subst (Says catalogue new m.from m.to) (sym e) tt
  says_new m (SentFor.reads u p rec q h a only e) r f = subst (λ (m : Sent). Says catalogue new m.from m.to m.message) e (view_new u (reading u p rec q) h refl refl only)
  says_new m (SentFor.writes u p rec value q h a k only e) r f = subst (λ (m : Sent). Says catalogue new m.from m.to m.message) e (view_new u (writing u p (other_holders catalogue x rec)) h refl refl only)
  says_new m (SentFor.prepares u p q h a k only e) r f = subst (λ (m : Sent). Says catalogue new m.from m.to m.message) e (view_new u (waiting u p u.parts) h refl refl only)

  -- the votes that a pending commit waits for
  awaits_stay : (t : Live) → Awaits w t → Awaits new t
  awaits_stay t h = λ p e g q k. ⊎_elim (λ still. inl still) (λ v. inr (vote_more w new stays q t.txn v)) (h p e g q k)

  awaits_now : (t : Live) → LiveNow catalogue x given t → Awaits new t
  awaits_now t (LiveNow.still h) = awaits_stay t (inv.awaits s x t up h)
  awaits_now t (LiveNow.marked u h tick e) = subst (Awaits new) e (marked_awaits new u (awaits_stay u (inv.awaits s x u up h)))
  awaits_now t (LiveNow.waits u p from h f m l k e) = subst (Awaits new) e (λ a g commit q part.
      let is : record p { missing = remaining from p } ≡ a = cc in
      let same : p.call ≡ a.call = ap (λ (p : Pending). p.call) is in
      let missing : remaining from p ≡ a.missing = ap (λ (p : Pending). p.missing) is in
      ⊎_elim (λ still. ⊎_elim
      (λ (it : q ≡ from). inr (counted u p from k (ap is_commit same ∙ commit) q it))
      (λ (n : q ≢ from). inl (rw (← missing) (filter_keeps (λ (a : ℕ). not (a == from)) p.missing q still (not_same q from n))))
      (same_site q from))
      (λ v. inr (vote_more w new stays q u.txn v)) (inv.awaits s x u up h p f (ap is_commit same ∙ commit) q part))
    where
      counted : (u : Live) (p : Pending) (from : ℕ) → Counts catalogue given u p from → is_commit p.call ≡ true → (q : ℕ) → q ≡ from → HasVote new q u.txn
      counted u p from (Counts.read rec value g r) commit q it = absurd (let a = ap is_commit r.words in cc)
      counted u p from (Counts.changed rec deed g r) commit q it = no_commit_writes catalogue p rec deed commit r
      counted u p from (Counts.voted g k) commit q it = (s, rw it (stays _ (came_in w s given arrives from (message.Vote u.txn) g)))
  awaits_now t (LiveNow.completed u p deed l h g e) = subst (Awaits new) e (λ a f commit q part. cc)
  awaits_now t (LiveNow.reads u p rec k h g e) = subst (Awaits new) e (λ a f commit q part. absurd (let is : record p { missing = k ∷ [] } ≡ a = cc in let z = ap (λ (p : Pending). is_commit p.call) is in let r = ap is_commit g.reads.words in cc))
  awaits_now t (LiveNow.writes u p rec value h g e) = subst (Awaits new) e (λ a f commit q part. absurd (let is : record p { missing = other_holders catalogue x rec } ≡ a = cc in let z = ap (λ (p : Pending). is_commit p.call) is in let r = changes_no_commit catalogue p rec _ g.writes in cc))
  awaits_now t (LiveNow.prepares u p h g e) = subst (Awaits new) e (λ a f commit q part. inl (let is : record p { missing = u.parts } ≡ a = cc in rw (← (ap (λ (p : Pending). p.missing) is)) part))
  awaits_now t (LiveNow.begins view h e) = subst (Awaits new) e (λ a f commit q part. cc)

  -- entries
  entry_lasts : (e : Commit) → Has w.journal e → EntrySays catalogue w e → EntrySays catalogue new e
  entry_lasts e there h from to view number readings writings sent = ⊎_elim
      (λ old. let q = h from to view number readings writings old in (q.0, q.1, vote_more w new stays to e.txn q.2))
      (λ more. absurd (none (letter from to (message.Prepare e.txn view number readings writings)) (c.sent _ more) refl))
      (st.sent _ sent)
    where
      none : (m : Sent) → SentFor catalogue x given o.site.live m → m ≡ letter from to (message.Prepare e.txn view number readings writings) → ⊥
      none m (SentFor.aside a) is = let z = ap (λ (m : Sent). is_aside m.message) is in let y = a.aside in cc
      none m (SentFor.outcome txn commit g f) is = let z = sym f ∙ ap (λ (m : Sent). m.message) is in cc
      none m (SentFor.reads u p rec q k a only f) is = let z = ap (λ (m : Sent). m.message) (f ∙ is) in cc
      none m (SentFor.writes u p rec value q k a j only f) is = let z = ap (λ (m : Sent). m.message) (f ∙ is) in cc
      none m (SentFor.prepares u p q k a j only f) is =
          let z = ap (λ (m : Sent). m.message) (f ∙ is) in
          let same : u.txn ≡ e.txn = cc in
          ends.entry e there x (rw (← same, owned u k ∙ id) up) u k same

  entry_new : (e : Commit) → EnteredFor catalogue x given e → EntrySays catalogue new e
  entry_new e f from to view number readings writings sent = ⊎_elim
      (λ old. decided f.was f.decides e.txn e.view (last_changes e) (ap (λ (e : Commit). e.txn) f.is) (ap (λ (e : Commit). e.view) f.is) (ap last_changes f.is) old)
      (λ more. absurd (none f.was f.decides (ap (λ (e : Commit). e.txn) f.is) _ (c.sent _ more) refl))
      (st.sent _ sent)
    where
      -- no prepare is sent in the step that decides
      none : (t : Live) → Decides catalogue x given t → t.txn ≡ e.txn → (m : Sent) → SentFor catalogue x given o.site.live m → m ≡ letter from to (message.Prepare e.txn view number readings writings) → ⊥
      none t d named m (SentFor.aside a) is = let z = ap (λ (m : Sent). is_aside m.message) is in let y = a.aside in cc
      none t d named m (SentFor.outcome txn commit g f) is = let z = sym f ∙ ap (λ (m : Sent). m.message) is in cc
      none t d named m (SentFor.reads u p rec q k a only f) is = let z = ap (λ (m : Sent). m.message) (f ∙ is) in cc
      none t d named m (SentFor.writes u p rec value q k a j only f) is = let z = ap (λ (m : Sent). m.message) (f ∙ is) in cc
      none t (Decides.alone was p here next commit alone same) named m (SentFor.prepares u q k h a j only f) is =
          let z = ap (λ (m : Sent). m.message) (f ∙ is) in
          let name : u.txn ≡ e.txn = cc in
          let it : u ≡ was = apart_unique x.live apart u was h here (name ∙ sym named ∙ ap (λ (t : Live). t.txn) same) in
          not_none u.parts was.parts (ap (λ (t : Live). t.parts) it) a.parts alone
      none t (Decides.voted p sender here last comes commit) named m (SentFor.prepares u q k h a j only f) is =
          let z = ap (λ (m : Sent). m.message) (f ∙ is) in
          let name : u.txn ≡ e.txn = cc in
          let it : u ≡ t = apart_unique x.live apart u t h here (name ∙ sym named) in
          some_not t.pending p last.pending (ap (λ (t : Live). is_some t.pending) (sym it) ∙ a.next.idle)

      decided : (t : Live) → Decides catalogue x given t → (txn : TxnId) (in_view : ViewId) (last : List (ℕ × Change)) → t.txn ≡ txn → t.view ≡ in_view → last_changes (entry_of t) ≡ last → Has w.sent (letter from to (message.Prepare txn view number readings writings)) → (in_view ≡ view) × (writes_held catalogue to last ≡ writings) × HasVote new to txn
      decided t (Decides.alone was p here next commit alone same) txn in_view last named viewed wrote old =
          let name : was.txn ≡ txn = ap (λ (t : Live). t.txn) (sym same) ∙ named in
          let q = votes.prepared _ old x was (rw (← name, owned was here ∙ id) up) here name in
          absurd (some_not was.pending q.pending q.waits next.idle)
      decided t (Decides.voted p sender here last comes commit) txn in_view writes named viewed wrote old =
          let q = votes.prepared _ old x t (rw (← named, owned t here ∙ id) up) here named in
          (sym viewed ∙ q.in_view, ap (writes_held catalogue to) (sym wrote) ∙ q.has_written, voted q.part)
        where
          voted : Has t.parts to → HasVote new to txn
          voted part = ⊎_elim
              (λ missing. ⊎_elim
              (λ (it : to ≡ sender). (s, rw (it, ← named) (stays _ (came_in w s given arrives sender (message.Vote t.txn) comes))))
              (λ (n : to ≢ sender). absurd (has_none to (rw (is_none (remaining sender p) last.last) at (filter_keeps (λ (a : ℕ). not (a == sender)) p.missing to missing (not_same to sender n)))))
              (same_site to sender))
              (λ v. rw (← named) (vote_more w new stays to t.txn v))
              (inv.awaits s x t up here p last.pending commit to part)

  pub shares_keep : InvShares catalogue new
  shares_keep = record {
    parts = λ k y a h q. part_at k y a q (now_is w new s x o st k y h);
    doubts = λ k d h. doubt_at k d h (kept_is w new s x o st k);
    says = λ m h. ⊎_elim (λ old. says_lasts m old m.from m.to m.message refl (inv.says m old)) (λ more. says_new m (c.sent m more) (p.replies m more) (p.from m more ∙ id)) (st.sent m h);
    awaits = λ k y t h q. awaits_at k y t q (now_is w new s x o st k y h);
    entry = λ e h. ⊎_elim (λ old. entry_lasts e old (inv.entry e old)) (λ more. entry_new e (c.entered e more)) (st.entered e h);
  }
    where
      part_at : (k : ℕ) (y : SiteState) (a : Part) → Has y.parts a → NowIs w s o.site k y → PartSays new k a
      part_at k y a q (NowIs.other n old) = part_stays k a (inv.parts k y a old q)
      part_at k y a q (NowIs.here e same) = subst (λ (k : ℕ). PartSays new k a) (sym e) (part_now a (p.parts a (subst (λ (y : SiteState). Has y.parts a) (sym same) q)))

      doubt_at : (k : ℕ) (d : Doubt) → Has (kept_at new k).doubts d → KeptIs w new s (durable_of o.site) k → DoubtSays new k d
      doubt_at k d h (KeptIs.other n same) = let q = inv.doubts k d (subst (λ (k : DurableState). Has k.doubts d) same h) in (prepare_stays k d.txn d.view d.writes q.0, q.1)
      doubt_at k d h (KeptIs.here e same) = subst (λ (k : ℕ). DoubtSays new k d) (sym e) (doubt_now d (p.doubts d (subst (λ (k : DurableState). Has k.doubts d) same h)))

      awaits_at : (k : ℕ) (y : SiteState) (t : Live) → Has y.live t → NowIs w s o.site k y → Awaits new t
      awaits_at k y t q (NowIs.other n old) = awaits_stay t (inv.awaits k y t old q)
      awaits_at k y t q (NowIs.here e same) = awaits_now t (c.live t (subst (λ (y : SiteState). Has y.live t) (sym same) q))

no_parts : (catalogue : Catalogue) (s : ℕ) (d : DurableState) (a : Part) → Has (start catalogue s d).parts a → ⊥
unfolding start
no_parts catalogue s d a h = has_none a h

module _ (catalogue : Catalogue) (w new : Scene) (s : ℕ) (q : Quiet catalogue w new s) (inv : InvShares catalogue w) where
  sent_on : (m : Sent) → Has w.sent m → Has new.sent m
  sent_on m h = rw q.sent h

  prepare_on : (to : ℕ) (txn : TxnId) (view : ViewId) (writes : List (ℕ × Change)) → HasPrepare w to txn view writes → HasPrepare new to txn view writes
  prepare_on to txn view writes h = (h.0, h.1, h.2, sent_on _ h.3)

  view_on : (txn : TxnId) (view : ViewId) → OneView w txn view → OneView new txn view
  view_on txn view h = record {
    live = λ y t g k e. h.live y t (live_still catalogue w s txn.site y t k (quiet_is catalogue w new s q txn.site y g)) k e;
    entry = λ e g same. h.entry e (rw q.journal at g) same;
  }

  doubts_on : (k : ℕ) → (kept_at new k).doubts ≡ (kept_at w k).doubts
  doubts_on k = quiet_kept catalogue w new s q (λ (d : DurableState). d.doubts) q.doubts k

  vote_says_on : (from : ℕ) (txn : TxnId) → VoteSays catalogue w from txn → VoteSays catalogue new from txn
  vote_says_on from txn h = λ y t g k e some. let d = h y t (live_still catalogue w s txn.site y t k (quiet_is catalogue w new s q txn.site y g)) k e some in (d.0, rw (doubts_on from) d.1, d.2)

  says_on : (from to : ℕ) (m : Message) → Says catalogue w from to m → Says catalogue new from to m
  says_on from to (message.ReadRequest txn view number rec) h = view_on txn view h
  says_on from to (message.WriteRequest txn view number rec) h = view_on txn view h
  says_on from to (message.Prepare txn view number readings writings) h = view_on txn view h
  says_on from to (message.ReadAnswer txn number value) h = (h.0, h.1, sent_on _ h.2)
  says_on from to (message.WriteAnswer txn number) h = (h.0, h.1, sent_on _ h.2)
  says_on from to (message.Vote txn) h = vote_says_on from txn h
  says_on from to (message.Ack txn) h = (h.0, rw q.journal h.1, h.2)
  says_on from to m h = tt

  pub shares_quiet : InvShares catalogue new
  shares_quiet = record {
    parts = λ k y a h g. part_at k y a g (quiet_is catalogue w new s q k y h);
    doubts = λ k d h. let g = inv.doubts k d (rw (doubts_on k) at h) in (prepare_on k d.txn d.view d.writes g.0, g.1);
    says = λ m h. says_on m.from m.to m.message (inv.says m (rw q.sent at h));
    awaits = λ k y t h g. awaits_at k y t g (quiet_is catalogue w new s q k y h);
    entry = λ e h from to view number readings writings sent. let g = inv.entry e (rw q.journal at h) from to view number readings writings (rw q.sent at sent) in (g.0, g.1, vote_more w new sent_on to e.txn g.2);
  }
    where
      part_at : (k : ℕ) (y : SiteState) (a : Part) → Has y.parts a → QuietIs catalogue w s k y → PartSays new k a
      part_at k y a g (QuietIs.here e same) = absurd (no_parts catalogue s (kept_at w s) a (subst (λ (y : SiteState). Has y.parts a) (sym same) g))
      part_at k y a g (QuietIs.other n old) = let h = inv.parts k y a old g in record {
        asked = let z = h.asked in (z.0, z.1, z.2, z.3, request_more w new sent_on z.0 k a.txn a.view z.1 z.2 z.3 z.4);
        voted = λ v. let z = h.voted v in (z.0, prepare_on k a.txn z.0 [] z.1);
      }

      awaits_at : (k : ℕ) (y : SiteState) (t : Live) → Has y.live t → QuietIs catalogue w s k y → Awaits new t
      awaits_at k y t g is = λ p e commit a part. ⊎_elim (λ still. inl still) (λ v. inr (vote_more w new sent_on a t.txn v)) (inv.awaits k y t (live_still catalogue w s k y t g is) g p e commit a part)

pub shares_starts : (catalogue : Catalogue) → InvShares catalogue (scene_of (start_world catalogue))
shares_starts catalogue = record {
  parts = λ s x a h k. absurd (no_parts catalogue s (empty_durable (start_copies catalogue s)) a (subst (λ (x : SiteState). Has x.parts a) (sym (started catalogue s x h)) k));
  doubts = λ s d h. absurd (has_none d (rw (start_kept catalogue s).doubts at h));
  says = λ m h. absurd (start_sent catalogue m h);
  awaits = λ s x t h k. absurd (started_idle catalogue s x t h k);
  entry = λ e h. absurd (start_entered catalogue e h);
}
