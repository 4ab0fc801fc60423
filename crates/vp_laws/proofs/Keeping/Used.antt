-- What other sites have answered for live transactions stays locked there until they leave the view.
use Rattle.std.proofs.Common.{◌≡◌, ◌≢◌, ◌⊎◌, ◌∙◌, ap, sym, subst, ℕ, Bool, true, false, List, [], ◌∷◌, refl, inl, inr, ⊎_elim, length}
use Rattle.std.specs.Prelude.{Option, Some, None}
use Rattle.vp_model.specs.Transactions.{Deed}
use Rattle.vp_model.specs.Types.{ViewId, TxnId, Sent, Input, Stored, Pending, Live}
use Rattle.vp_model.specs.Types.message
use Rattle.vp_model.specs.Types.owner
use Rattle.vp_model.specs.Locks.{conflict}
use Rattle.vp_model.specs.Catalogue.{Catalogue}
use Rattle.vp_model.specs.Site.{SiteState, Stepped}
use Rattle.vp_model.specs.Messages.{on_message, on_read_request, on_write_request, on_request, lock_copy, grant}
use Rattle.vp_model.specs.Step.{on_input, step}
use Rattle.vp_model.specs.Words.{value_at}
use Rattle.vp_laws.proofs.Moves.Coordinator.{unbarred}
use Rattle.vp_laws.proofs.Lists.Members.{Has}
use Rattle.vp_laws.proofs.Lists.Views.{AtMost, not_both, same_site}
use Rattle.vp_laws.proofs.Lists.LockTables.{HasLock, lock_taken}
use Rattle.vp_laws.proofs.Moves.LocalViews.{letter}
use Rattle.vp_laws.proofs.Moves.Table.{Comes, Requests, next_name}
use Rattle.vp_laws.proofs.Worlds.Scenes.{Scene, up_in, plain_at, promise_at, Acted, scene_of}
use Rattle.vp_laws.proofs.Table.Votes.{some_not}
use Rattle.vp_laws.proofs.Moves.OnlyCoordinator.{is_aside}
use Rattle.vp_laws.proofs.Table.Steps.{AskingRead, AskingWrite, Only, SentFor, Steps}
use Rattle.vp_laws.proofs.Table.Shares.{is_reply, Granted, ReplyTo, Shares}
use Rattle.vp_laws.proofs.Table.Leaves.{Uses, Leaves}
use Rattle.vp_laws.proofs.Table.Locks.{Gone, Guards}
use Rattle.vp_laws.proofs.Invariant.Views.{InvViews}
use Rattle.vp_laws.proofs.Invariant.Led.{InvLed}
use Rattle.vp_laws.proofs.Invariant.Names.{UsedTxn, InvNames}
use Rattle.vp_laws.proofs.Invariant.Endings.{InvEndings}
use Rattle.vp_laws.proofs.Invariant.Shares.{HasRequest, InvShares, request_more}
use Rattle.vp_laws.proofs.Invariant.Answers.{InvAnswers}
use Rattle.vp_laws.proofs.Invariant.Lived.{InvLived}
use Rattle.vp_laws.proofs.Invariant.HasLeft.{HasLeft}
use Rattle.vp_laws.proofs.Worlds.Events.{Arrives, came_in}
use Rattle.vp_laws.proofs.Worlds.Sites.{NowIs, now_is, Quiet, quiet_is, started_idle, live_still}
use Rattle.vp_laws.proofs.Lists.Numbers.{one_above}
use Rattle.vp_laws.proofs.Moves.Calls.{same_writes, reading, writing, reads_same, writes_same}
use Rattle.vp_laws.proofs.Invariant.Used.{HasAnswered, LockedAt, InvUsed}
use Rattle.vp_laws.proofs.Keeping.Endings.{fresh}
use Rattle.vp_laws.proofs.Keeping.Guards.{txn_same}
use Rattle.vp_laws.proofs.Keeping.Settled.{holding}
use Rattle.vp_laws.proofs.Keeping.Shares.{was_viewed}
use Rattle.vp_laws.proofs.Keeping.Views.{above}
use Rattle.vp_laws.proofs.Keeping.Leaving.{left_lasts, left_here, left_quiet, left_by_quiet}
use Rattle.vp_model.specs.World.{start_world}

-- what a live transaction of a name that was used was before
pub record Was (w : Scene) (k : ℕ) (t : Live) : Type 0 where
  pub site : SiteState
  pub up_then : plain_at w k ≡ Some site
  pub u : Live
  pub here : Has site.live u
  pub named : u.txn ≡ t.txn
  pub viewed : u.view ≡ t.view

-- an answer was there before, or is given now in the view that is held
pub data Split (w : Scene) (s : ℕ) (x : SiteState) (given : Input) (o : Stepped) (k : ℕ) (t : Live) (q rec : ℕ) (exclusive : Bool) : Type 0 where
  before : Was w k t → HasAnswered w q t.txn rec exclusive → Split w s x given o k t q rec exclusive
  now : Was w k t → q ≡ s → Uses o.site t.view → (to number : ℕ) (stored : Stored) → Granted x given to t.txn number rec exclusive stored → Split w s x given o k t q rec exclusive

-- a lock that is granted is there after the step
granted_lock : (catalogue : Catalogue) (x : SiteState) (given : Input) (from : ℕ) (txn : TxnId) (number rec : ℕ) (exclusive : Bool) (stored : Stored) → Granted x given from txn number rec exclusive stored → HasLock rec exclusive (owner.Txn txn) (step catalogue x given).site.locks
unfolding step on_input on_message on_read_request on_write_request on_request lock_copy grant
granted_lock catalogue x given from txn number rec exclusive stored g = go exclusive g.comes g.free
  where
    free_bar : value_at rec x.bars ≡ None
    free_bar = unbarred x rec g.opened

    go : (exclusive : Bool) → Requests given from txn g.view number rec exclusive → conflict rec exclusive txn x.locks ≡ None → HasLock rec exclusive (owner.Txn txn) (step catalogue x given).site.locks
    go false (Requests.reads e) free = rw (e, g.held, g.going, g.copy, free_bar, free) (lock_taken rec false (owner.Txn txn) x.locks)
    go true (Requests.writes e) free = rw (e, g.held, g.going, g.copy, free_bar, free) (lock_taken rec true (owner.Txn txn) x.locks)

-- and the views are as before
granted_views : (catalogue : Catalogue) (x : SiteState) (given : Input) (from : ℕ) (txn : TxnId) (number rec : ℕ) (exclusive : Bool) (stored : Stored) → Granted x given from txn number rec exclusive stored → (step catalogue x given).site.held ≡ x.held
unfolding step on_input on_message on_read_request on_write_request on_request lock_copy grant
granted_views catalogue x given from txn number rec exclusive stored g = go exclusive g.comes g.free
  where
    free_bar : value_at rec x.bars ≡ None
    free_bar = unbarred x rec g.opened

    go : (exclusive : Bool) → Requests given from txn g.view number rec exclusive → conflict rec exclusive txn x.locks ≡ None → (step catalogue x given).site.held ≡ x.held
    go false (Requests.reads e) free = rw (e, g.held, g.going, g.copy, free_bar, free) refl
    go true (Requests.writes e) free = rw (e, g.held, g.going, g.copy, free_bar, free) refl

-- a request of this step
record NewRead (catalogue : Catalogue) (x : SiteState) (given : Input) (live : List Live) (txn : TxnId) (number rec : ℕ) : Type 0 where
  u : Live
  p : Pending
  q : ℕ
  here : Has x.live u
  asks : AskingRead catalogue x given u p rec q
  only : Only live (reading u p rec q)
  named : u.txn ≡ txn
  numbered : p.number ≡ number

record NewWrite (catalogue : Catalogue) (x : SiteState) (given : Input) (live : List Live) (txn : TxnId) (number rec : ℕ) : Type 0 where
  u : Live
  p : Pending
  deed : Deed
  sites : List ℕ
  here : Has x.live u
  asks : AskingWrite catalogue x given u p rec deed
  only : Only live (writing u p sites)
  named : u.txn ≡ txn
  numbered : p.number ≡ number

new_read : (catalogue : Catalogue) (x : SiteState) (given : Input) (live : List Live) (m : Sent) → SentFor catalogue x given live m → (a b : ℕ) (txn : TxnId) (view : ViewId) (number rec : ℕ) → m ≡ letter a b (message.ReadRequest txn view number rec) → NewRead catalogue x given live txn number rec
new_read catalogue x given live m (SentFor.aside e) a b txn view number rec is = absurd (let z = ap (λ (m : Sent). is_aside m.message) is in let y = e.aside in cc)
new_read catalogue x given live m (SentFor.outcome t commit f e) a b txn view number rec is = absurd (let z = sym e ∙ ap (λ (m : Sent). m.message) is in cc)
new_read catalogue x given live m (SentFor.reads u p r q h k only e) a b txn view number rec is =
    let z = ap (λ (m : Sent). m.message) (e ∙ is) in
    let same : r ≡ rec = cc in
    subst (NewRead catalogue x given live txn number) same (record { u = u; p = p; q = q; here = h; asks = k; only = only; named = cc; numbered = cc })
new_read catalogue x given live m (SentFor.writes u p r value q h k j only e) a b txn view number rec is = absurd (let z = ap (λ (m : Sent). m.message) (e ∙ is) in cc)
new_read catalogue x given live m (SentFor.prepares u p q h k j only e) a b txn view number rec is = absurd (let z = ap (λ (m : Sent). m.message) (e ∙ is) in cc)

new_write : (catalogue : Catalogue) (x : SiteState) (given : Input) (live : List Live) (m : Sent) → SentFor catalogue x given live m → (a b : ℕ) (txn : TxnId) (view : ViewId) (number rec : ℕ) → m ≡ letter a b (message.WriteRequest txn view number rec) → NewWrite catalogue x given live txn number rec
new_write catalogue x given live m (SentFor.aside e) a b txn view number rec is = absurd (let z = ap (λ (m : Sent). is_aside m.message) is in let y = e.aside in cc)
new_write catalogue x given live m (SentFor.outcome t commit f e) a b txn view number rec is = absurd (let z = sym e ∙ ap (λ (m : Sent). m.message) is in cc)
new_write catalogue x given live m (SentFor.reads u p r q h k only e) a b txn view number rec is = absurd (let z = ap (λ (m : Sent). m.message) (e ∙ is) in cc)
new_write catalogue x given live m (SentFor.writes u p r value q h k j only e) a b txn view number rec is =
    let z = ap (λ (m : Sent). m.message) (e ∙ is) in
    let same : r ≡ rec = cc in
    subst (NewWrite catalogue x given live txn number) same (record { u = u; p = p; deed = value; sites = _; here = h; asks = k; only = only; named = cc; numbered = cc })
new_write catalogue x given live m (SentFor.prepares u p q h k j only e) a b txn view number rec is = absurd (let z = ap (λ (m : Sent). m.message) (e ∙ is) in cc)

pending_same : (t : Live) (a b : Live) (p q : Pending) → t ≡ a → t ≡ b → a.pending ≡ Some p → b.pending ≡ Some q → p ≡ q
pending_same t a b p q e f g h = let z = sym g ∙ ap (λ (t : Live). t.pending) (sym e ∙ f) ∙ h in cc

module _ (catalogue : Catalogue) (w : Scene) (views : InvViews catalogue w) (asked : InvLed w) (shares : InvShares catalogue w) where
  -- the site that was asked has promised the view of the transaction
  asked_promised : (s : ℕ) (x : SiteState) (t : Live) (a b number rec : ℕ) (view : ViewId) (exclusive : Bool) → plain_at w s ≡ Some x → t.txn.site ≡ s → Has x.live t → HasRequest w a b t.txn view number rec exclusive → AtMost t.view (promise_at w b)
  asked_promised s x t a b number rec view false up own h (HasRequest.to_read sent) =
      let v = asked.asked _ sent in
      let same : t.view ≡ view = (shares.says _ sent).live x t (rw own up) h refl in
      subst (λ (i : ViewId). AtMost i (promise_at w b)) (v.2 ∙ sym same) ((views.view v.0 v.1).members b v.3)
  asked_promised s x t a b number rec view true up own h (HasRequest.to_write sent) =
      let v = asked.asked _ sent in
      let same : t.view ≡ view = (shares.says _ sent).live x t (rw own up) h refl in
      subst (λ (i : ViewId). AtMost i (promise_at w b)) (v.2 ∙ sym same) ((views.view v.0 v.1).members b v.3)

  answered_promised : (s : ℕ) (x : SiteState) (t : Live) (q rec : ℕ) (exclusive : Bool) → plain_at w s ≡ Some x → t.txn.site ≡ s → Has x.live t → HasAnswered w q t.txn rec exclusive → AtMost t.view (promise_at w q)
  answered_promised s x t q rec false up own h (HasAnswered.read r) = asked_promised s x t r.0 q r.1 rec r.2 false up own h (HasRequest.to_read r.5)
  answered_promised s x t q rec true up own h (HasAnswered.wrote r) = asked_promised s x t r.0 q r.1 rec r.2 true up own h (HasRequest.to_write r.4)

module _ (catalogue : Catalogue) (w new : Scene) (s : ℕ) (x : SiteState) (given : Input) (up : plain_at w s ≡ Some x) (arrives : Arrives w s given) (id : x.id ≡ s) (promise : x.promise ≡ promise_at w s) (views : InvViews catalogue w) (asked : InvLed w) (owned : (k : ℕ) (y : SiteState) (t : Live) → plain_at w k ≡ Some y → Has y.live t → t.txn.site ≡ k) (names : InvNames w) (ends : InvEndings w) (shares : InvShares catalogue w) (answers : InvAnswers catalogue w) (inv : InvUsed catalogue w) (c : Steps catalogue x given (step catalogue x given).site.coordinator (step catalogue x given).effects.messages (step catalogue x given).effects.commits) (p : Shares x given (step catalogue x given)) (v : Leaves x given (step catalogue x given)) (g : Guards catalogue x given (step catalogue x given)) (st : Acted w new s x (step catalogue x given)) where
  abbrev o : Stepped
  o = step catalogue x given

  pub was : (k : ℕ) (y : SiteState) (t : Live) → UsedTxn w t.txn → Has y.live t → NowIs w s (step catalogue x given).site k y → Was w k t
  was k y t used h (NowIs.other n old) = record { site = y; up_then = old; u = t; here = h; named = refl; viewed = refl }
  was k y t used h (NowIs.here e same) = ⊎_elim
      (λ (q : (u : Live) × Has x.live u × (u.txn ≡ t.txn) × (u.view ≡ t.view)). record { site = x; up_then = rw e up; u = q.0; here = q.1; named = q.2; viewed = q.3 })
      (λ (n : t.txn ≡ next_name x). absurd (fresh w s x up id t.txn used n))
      (was_viewed catalogue x given t (c.live t (subst (λ (y : SiteState). Has y.live t) (sym same) h)))

  named_read : (a b number rec : ℕ) (txn : TxnId) (view : ViewId) → Has w.sent (letter a b (message.ReadRequest txn view number rec)) → UsedTxn w txn
  named_read a b number rec txn view h = (names.sent (letter a b (message.ReadRequest txn view number rec)) h).0.0

  named_write : (a b number rec : ℕ) (txn : TxnId) (view : ViewId) → Has w.sent (letter a b (message.WriteRequest txn view number rec)) → UsedTxn w txn
  named_write a b number rec txn view h = (names.sent (letter a b (message.WriteRequest txn view number rec)) h).0.0

  -- an old request has not the number of a new one
  old_read : (a b number rec other : ℕ) (txn : TxnId) (view : ViewId) → Has w.sent (letter a b (message.ReadRequest txn view number rec)) → NewRead catalogue x given o.site.live txn number other → ⊥
  old_read a b number rec other txn view h n = ⊎_elim
      (λ low. one_above number (length n.u.answers) low (sym n.numbered ∙ n.asks.next.number))
      (λ q. some_not n.u.pending q.0 q.1 n.asks.next.idle)
      (answers.asks (letter a b (message.ReadRequest txn view number rec)) h x n.u (rw (ap (λ (t : TxnId). t.site) (sym n.named) ∙ owned s x n.u up n.here) up) n.here n.named)

  old_write : (a b number rec other : ℕ) (txn : TxnId) (view : ViewId) → Has w.sent (letter a b (message.WriteRequest txn view number rec)) → NewWrite catalogue x given o.site.live txn number other → ⊥
  old_write a b number rec other txn view h n = ⊎_elim
      (λ low. one_above number (length n.u.answers) low (sym n.numbered ∙ n.asks.next.number))
      (λ q. some_not n.u.pending q.0 q.1 n.asks.next.idle)
      (answers.asks (letter a b (message.WriteRequest txn view number rec)) h x n.u (rw (ap (λ (t : TxnId). t.site) (sym n.named) ∙ owned s x n.u up n.here) up) n.here n.named)

  -- two new ones are of one call
  both_read : (t : Live) (number rec other : ℕ) → Has o.site.live t → NewRead catalogue x given o.site.live t.txn number rec → NewRead catalogue x given o.site.live t.txn number other → rec ≡ other
  both_read t number rec other h m n =
      let z = pending_same t (reading m.u m.p rec m.q) (reading n.u n.p other n.q) (record m.p { missing = m.q ∷ [] }) (record n.p { missing = n.q ∷ [] }) (m.only t h (sym m.named)) (n.only t h (sym n.named)) refl refl in
      let call = ap (λ (p : Pending). p.call) z in
      reads_same catalogue m.p rec other m.asks.reads (let r = n.asks.reads in record { txn = r.txn; number = r.number; name = r.name; words = call ∙ r.words; found = r.found })

  both_write : (t : Live) (number rec other : ℕ) → Has o.site.live t → NewWrite catalogue x given o.site.live t.txn number rec → NewWrite catalogue x given o.site.live t.txn number other → rec ≡ other
  both_write t number rec other h m n =
      let z = pending_same t (writing m.u m.p m.sites) (writing n.u n.p n.sites) (record m.p { missing = m.sites }) (record n.p { missing = n.sites }) (m.only t h (sym m.named)) (n.only t h (sym n.named)) refl refl in
      let call = ap (λ (p : Pending). p.call) z in
      writes_same catalogue m.p rec other m.deed n.deed m.asks.writes (same_writes catalogue m.p n.p other n.deed call n.asks.writes)

  -- where a new request is of a live transaction, it is of this site
  here_if : (k : ℕ) (y : SiteState) (t u : Live) → NowIs w s o.site k y → Has y.live t → Has x.live u → u.txn ≡ t.txn → Has o.site.live t
  here_if k y t u (NowIs.other n old) h there e = absurd (n (sym (owned k y t old h) ∙ ap (λ (t : TxnId). t.site) (sym e) ∙ owned s x u up there))
  here_if k y t u (NowIs.here z same) h there e = subst (λ (y : SiteState). Has y.live t) (sym same) h

  one_now : (k : ℕ) (y : SiteState) (t : Live) (a b e d number rec other : ℕ) (u z : ViewId) (exclusive : Bool) → NowIs w s o.site k y → Has y.live t → HasRequest new a b t.txn u number rec exclusive → HasRequest new e d t.txn z number other exclusive → rec ≡ other
  one_now k y t a b e d number rec other u z false n h (HasRequest.to_read f) (HasRequest.to_read i) = ⊎_elim
      (λ old. ⊎_elim
      (λ old2. let q = was k y t (named_read a b number rec t.txn u old) h n in
      inv.one k q.site q.u a b e d number rec other u z false q.up_then q.here (HasRequest.to_read (rw q.named old)) (HasRequest.to_read (rw q.named old2)))
      (λ more. absurd (old_read a b number rec other t.txn u old (new_read catalogue x given o.site.live _ (c.sent _ more) e d t.txn z number other refl)))
      (st.sent (letter e d (message.ReadRequest t.txn z number other)) i))
      (λ more. let m = new_read catalogue x given o.site.live _ (c.sent _ more) a b t.txn u number rec refl in ⊎_elim
      (λ old2. absurd (old_read e d number other rec t.txn z old2 m))
      (λ more2. both_read t number rec other (here_if k y t m.u n h m.here m.named) m (new_read catalogue x given o.site.live _ (c.sent _ more2) e d t.txn z number other refl))
      (st.sent (letter e d (message.ReadRequest t.txn z number other)) i))
      (st.sent (letter a b (message.ReadRequest t.txn u number rec)) f)
  one_now k y t a b e d number rec other u z true n h (HasRequest.to_write f) (HasRequest.to_write i) = ⊎_elim
      (λ old. ⊎_elim
      (λ old2. let q = was k y t (named_write a b number rec t.txn u old) h n in
      inv.one k q.site q.u a b e d number rec other u z true q.up_then q.here (HasRequest.to_write (rw q.named old)) (HasRequest.to_write (rw q.named old2)))
      (λ more. absurd (old_write a b number rec other t.txn u old (new_write catalogue x given o.site.live _ (c.sent _ more) e d t.txn z number other refl)))
      (st.sent (letter e d (message.WriteRequest t.txn z number other)) i))
      (λ more. let m = new_write catalogue x given o.site.live _ (c.sent _ more) a b t.txn u number rec refl in ⊎_elim
      (λ old2. absurd (old_write e d number other rec t.txn z old2 m))
      (λ more2. both_write t number rec other (here_if k y t m.u n h m.here m.named) m (new_write catalogue x given o.site.live _ (c.sent _ more2) e d t.txn z number other refl))
      (st.sent (letter e d (message.WriteRequest t.txn z number other)) i))
      (st.sent (letter a b (message.WriteRequest t.txn u number rec)) f)

  -- a lock for a transaction that is live still stays, or its site has left the view
  locked_lasts : (k : ℕ) (y : SiteState) (t : Live) → NowIs w s o.site k y → Has y.live t → Was w k t → (q rec : ℕ) (exclusive : Bool) → AtMost t.view (promise_at w q) → LockedAt w q t.txn rec exclusive → HasLeft new q t.view ⊎ LockedAt new q t.txn rec exclusive
  locked_lasts k y t n h old q rec exclusive promised (z, upz, lock) = ⊎_elim
      (λ (e : q ≡ s).
      let same : z ≡ x = (let a = rw e at upz in cc) in
      ⊎_elim (λ still. inr (o.site, rw e st.now, still)) (λ why. inl (gone e why)) (g.stays rec exclusive t.txn (rw same at lock)))
      (λ (m : q ≢ s). inr (z, ap up_in (st.moved.others q m) ∙ upz, lock))
      (same_site q s)
    where
      at_k : t.txn.site ≡ k
      at_k = ap (λ (t : TxnId). t.site) (sym old.named) ∙ owned k old.site old.u old.up_then old.here

      gone : q ≡ s → Gone x given o t.txn → HasLeft new q t.view
      gone e (Gone.over (from, commit, comes)) = absurd (ended commit comes)
        where
          ended : (commit : Bool) → Comes given from (message.Outcome t.txn commit) → ⊥
          ended true comes = (ends.told (letter from s (message.Outcome t.txn true)) (came_in w s given arrives from _ comes)).0 old.site (rw at_k old.up_then) old.u old.here old.named
          ended false comes = ends.told (letter from s (message.Outcome t.txn false)) (came_in w s given arrives from _ comes) old.site (rw at_k old.up_then) old.u old.here old.named
      gone e (Gone.left f) = rw e (left_here w new s x o st t.view (above catalogue w new s st.moved t.view s (rw e at promised)) (λ u. not_both x.promise t.view (f t.view u) (rw promise (rw e at promised))))
      gone e (Gone.ended u there named none) = absurd (none t (here_if k y t u n h there named) refl)

  -- what was answered before
  answered_old : (k : ℕ) (y : SiteState) (t : Live) → NowIs w s o.site k y → Has y.live t → Was w k t → (q rec : ℕ) (exclusive : Bool) → HasAnswered w q t.txn rec exclusive → HasLeft new q t.view ⊎ LockedAt new q t.txn rec exclusive
  answered_old k y t n h old q rec exclusive a =
      let b : HasAnswered w q old.u.txn rec exclusive = subst (λ (txn : TxnId). HasAnswered w q txn rec exclusive) (sym old.named) a in
      let promised = answered_promised catalogue w views asked shares k old.site old.u q rec exclusive old.up_then (owned k old.site old.u old.up_then old.here) old.here b in
      ⊎_elim
      (λ (left : HasLeft w q old.u.view). inl (left_lasts catalogue w new s x given o up promise v st q t.view (subst (HasLeft w q) old.viewed left)))
      (λ (lock : LockedAt w q old.u.txn rec exclusive). locked_lasts k y t n h old q rec exclusive (subst (λ (i : ViewId). AtMost i (promise_at w q)) old.viewed promised) (subst (λ (txn : TxnId). LockedAt w q txn rec exclusive) old.named lock))
      (inv.used k q rec exclusive old.site old.u old.up_then old.here b)

  -- a lock that is granted now
  granted_now : (q to : ℕ) (txn : TxnId) (number rec : ℕ) (exclusive : Bool) (stored : Stored) → q ≡ s → Granted x given to txn number rec exclusive stored → LockedAt new q txn rec exclusive
  granted_now q to txn number rec exclusive stored e a = (o.site, rw e st.now, granted_lock catalogue x given to txn number rec exclusive stored a)

  record NewAnswer (q to : ℕ) (txn : TxnId) (number : ℕ) (exclusive : Bool) : Type 0 where
    rec : ℕ
    stored : Stored
    granted : Granted x given to txn number rec exclusive stored

  read_answered : (m : Sent) → ReplyTo x given o.site.participant m → (q : ℕ) (txn : TxnId) (number : ℕ) (value : Option (List ℕ)) → m.message ≡ message.ReadAnswer txn number value → NewAnswer q m.to txn number false
  read_answered m (ReplyTo.other quiet) q txn number value is = absurd (let z = ap is_reply is in cc)
  read_answered m (ReplyTo.doubt_again d a b i f) q txn number value is = absurd (let z = f ∙ is in cc)
  read_answered m (ReplyTo.vote_again part a b i z f) q txn number value is = absurd (let z = f ∙ is in cc)
  read_answered m (ReplyTo.vote_reading part reads writes a none i f) q txn number value is = absurd (let z = f ∙ is in cc)
  read_answered m (ReplyTo.vote_writing part reads writes a some i f) q txn number value is = absurd (let z = f ∙ is in cc)
  read_answered m (ReplyTo.acks t a none f) q txn number value is = absurd (let z = f ∙ is in cc)
  read_answered m (ReplyTo.read_answer t n rec stored a f) q txn number value is =
      let z = f ∙ is in
      let name : t ≡ txn = cc in
      let count : n ≡ number = cc in
      record { rec = rec; stored = stored; granted = rw (← name, ← count) a }
  read_answered m (ReplyTo.write_answer t n rec stored a f) q txn number value is = absurd (let z = f ∙ is in cc)
  read_answered m (ReplyTo.refresh_answer view rec stored a b i j f) q txn number value is = absurd (let z = f ∙ is in cc)

  write_answered : (m : Sent) → ReplyTo x given o.site.participant m → (q : ℕ) (txn : TxnId) (number : ℕ) → m.message ≡ message.WriteAnswer txn number → NewAnswer q m.to txn number true
  write_answered m (ReplyTo.other quiet) q txn number is = absurd (let z = ap is_reply is in cc)
  write_answered m (ReplyTo.doubt_again d a b i f) q txn number is = absurd (let z = f ∙ is in cc)
  write_answered m (ReplyTo.vote_again part a b i z f) q txn number is = absurd (let z = f ∙ is in cc)
  write_answered m (ReplyTo.vote_reading part reads writes a none i f) q txn number is = absurd (let z = f ∙ is in cc)
  write_answered m (ReplyTo.vote_writing part reads writes a some i f) q txn number is = absurd (let z = f ∙ is in cc)
  write_answered m (ReplyTo.acks t a none f) q txn number is = absurd (let z = f ∙ is in cc)
  write_answered m (ReplyTo.read_answer t n rec stored a f) q txn number is = absurd (let z = f ∙ is in cc)
  write_answered m (ReplyTo.write_answer t n rec stored a f) q txn number is =
      let z = f ∙ is in
      let name : t ≡ txn = cc in
      let count : n ≡ number = cc in
      record { rec = rec; stored = stored; granted = rw (← name, ← count) a }
  write_answered m (ReplyTo.refresh_answer view rec stored a b i j f) q txn number is = absurd (let z = f ∙ is in cc)

  request_came : (to : ℕ) (txn : TxnId) (view : ViewId) (number rec : ℕ) (exclusive : Bool) → Requests given to txn view number rec exclusive → HasRequest w to s txn view number rec exclusive
  request_came to txn view number rec false (Requests.reads e) = HasRequest.to_read (came_in w s given arrives to _ e)
  request_came to txn view number rec true (Requests.writes e) = HasRequest.to_write (came_in w s given arrives to _ e)

  used_now : (k : ℕ) (y : SiteState) (t : Live) → NowIs w s o.site k y → Has y.live t → (q rec : ℕ) (exclusive : Bool) → HasAnswered new q t.txn rec exclusive → HasLeft new q t.view ⊎ LockedAt new q t.txn rec exclusive
  used_now k y t n h q rec false (HasAnswered.read r) = ⊎_elim
      (λ old. let a = shares.says _ old in
      let same : a.1 ≡ rec = one_now k y t r.0 q r.0 q r.1 a.1 rec a.0 r.2 false n h (HasRequest.to_read (st.moved.sent _ a.2)) (HasRequest.to_read r.5) in
      answered_old k y t n h (was k y t (named_read r.0 q r.1 a.1 t.txn a.0 a.2) h n) q rec false (HasAnswered.read (rw (← same) (r.0, r.1, a.0, r.3, old, a.2))))
      (λ more. let a = read_answered _ (p.replies (letter q r.0 (message.ReadAnswer t.txn r.1 r.3)) more) q t.txn r.1 r.3 refl in
      let at = p.from (letter q r.0 (message.ReadAnswer t.txn r.1 r.3)) more ∙ id in
      let request = request_more w new st.moved.sent r.0 s t.txn a.granted.view r.1 a.rec false (request_came r.0 t.txn a.granted.view r.1 a.rec false a.granted.comes) in
      let same : a.rec ≡ rec = one_now k y t r.0 s r.0 q r.1 a.rec rec a.granted.view r.2 false n h request (HasRequest.to_read r.5) in
      inr (subst (λ (rec : ℕ). LockedAt new q t.txn rec false) same (granted_now q r.0 t.txn r.1 a.rec false a.stored at a.granted)))
      (st.sent (letter q r.0 (message.ReadAnswer t.txn r.1 r.3)) r.4)
  used_now k y t n h q rec true (HasAnswered.wrote r) = ⊎_elim
      (λ old. let a = shares.says _ old in
      let same : a.1 ≡ rec = one_now k y t r.0 q r.0 q r.1 a.1 rec a.0 r.2 true n h (HasRequest.to_write (st.moved.sent _ a.2)) (HasRequest.to_write r.4) in
      answered_old k y t n h (was k y t (named_write r.0 q r.1 a.1 t.txn a.0 a.2) h n) q rec true (HasAnswered.wrote (rw (← same) (r.0, r.1, a.0, old, a.2))))
      (λ more. let a = write_answered _ (p.replies (letter q r.0 (message.WriteAnswer t.txn r.1)) more) q t.txn r.1 refl in
      let at = p.from (letter q r.0 (message.WriteAnswer t.txn r.1)) more ∙ id in
      let request = request_more w new st.moved.sent r.0 s t.txn a.granted.view r.1 a.rec true (request_came r.0 t.txn a.granted.view r.1 a.rec true a.granted.comes) in
      let same : a.rec ≡ rec = one_now k y t r.0 s r.0 q r.1 a.rec rec a.granted.view r.2 true n h request (HasRequest.to_write r.4) in
      inr (subst (λ (rec : ℕ). LockedAt new q t.txn rec true) same (granted_now q r.0 t.txn r.1 a.rec true a.stored at a.granted)))
      (st.sent (letter q r.0 (message.WriteAnswer t.txn r.1)) r.3)

  in_use : (k : ℕ) (t : Live) (to : ℕ) (number : ℕ) (exclusive : Bool) → Was w k t → (q : ℕ) (a : NewAnswer q to t.txn number exclusive) → Uses o.site t.view
  in_use k t to number exclusive old q a =
      let h = holding x a.granted.view a.granted.held in
      Uses.held h.0 (granted_views catalogue x given to t.txn number a.rec exclusive a.stored a.granted ∙ h.1) (h.2 ∙ sym (go exclusive (request_came to t.txn a.granted.view number a.rec exclusive a.granted.comes)))
    where
      at_site : plain_at w t.txn.site ≡ Some old.site
      at_site = rw (ap (λ (t : TxnId). t.site) (sym old.named) ∙ owned k old.site old.u old.up_then old.here) old.up_then

      go : (exclusive2 : Bool) → HasRequest w to s t.txn a.granted.view number a.rec exclusive2 → t.view ≡ a.granted.view
      go false (HasRequest.to_read h) = sym old.viewed ∙ (shares.says _ h).live old.site old.u at_site old.here old.named
      go true (HasRequest.to_write h) = sym old.viewed ∙ (shares.says _ h).live old.site old.u at_site old.here old.named

  used_name : (a b number rec : ℕ) (txn : TxnId) (view : ViewId) (exclusive : Bool) → HasRequest w a b txn view number rec exclusive → UsedTxn w txn
  used_name a b number rec txn view false (HasRequest.to_read h) = named_read a b number rec txn view h
  used_name a b number rec txn view true (HasRequest.to_write h) = named_write a b number rec txn view h

  pub split : (k : ℕ) (y : SiteState) (t : Live) → NowIs w s o.site k y → Has y.live t → (q rec : ℕ) (exclusive : Bool) → HasAnswered new q t.txn rec exclusive → Split w s x given o k t q rec exclusive
  split k y t n h q rec false (HasAnswered.read r) = ⊎_elim
      (λ old. let a = shares.says _ old in
      let same : a.1 ≡ rec = one_now k y t r.0 q r.0 q r.1 a.1 rec a.0 r.2 false n h (HasRequest.to_read (st.moved.sent _ a.2)) (HasRequest.to_read r.5) in
      Split.before (was k y t (named_read r.0 q r.1 a.1 t.txn a.0 a.2) h n) (HasAnswered.read (rw (← same) (r.0, r.1, a.0, r.3, old, a.2))))
      (λ more. let a = read_answered _ (p.replies (letter q r.0 (message.ReadAnswer t.txn r.1 r.3)) more) q t.txn r.1 r.3 refl in
      let old = was k y t (used_name r.0 s r.1 a.rec t.txn a.granted.view false (request_came r.0 t.txn a.granted.view r.1 a.rec false a.granted.comes)) h n in
      let request = request_more w new st.moved.sent r.0 s t.txn a.granted.view r.1 a.rec false (request_came r.0 t.txn a.granted.view r.1 a.rec false a.granted.comes) in
      let at = p.from (letter q r.0 (message.ReadAnswer t.txn r.1 r.3)) more ∙ id in
      let same : a.rec ≡ rec = one_now k y t r.0 s r.0 q r.1 a.rec rec a.granted.view r.2 false n h request (HasRequest.to_read r.5) in
      Split.now old at (in_use k t r.0 r.1 false old q a) r.0 r.1 a.stored (subst (λ (rec : ℕ). Granted x given r.0 t.txn r.1 rec false a.stored) same a.granted))
      (st.sent (letter q r.0 (message.ReadAnswer t.txn r.1 r.3)) r.4)
  split k y t n h q rec true (HasAnswered.wrote r) = ⊎_elim
      (λ old. let a = shares.says _ old in
      let same : a.1 ≡ rec = one_now k y t r.0 q r.0 q r.1 a.1 rec a.0 r.2 true n h (HasRequest.to_write (st.moved.sent _ a.2)) (HasRequest.to_write r.4) in
      Split.before (was k y t (named_write r.0 q r.1 a.1 t.txn a.0 a.2) h n) (HasAnswered.wrote (rw (← same) (r.0, r.1, a.0, old, a.2))))
      (λ more. let a = write_answered _ (p.replies (letter q r.0 (message.WriteAnswer t.txn r.1)) more) q t.txn r.1 refl in
      let old = was k y t (used_name r.0 s r.1 a.rec t.txn a.granted.view true (request_came r.0 t.txn a.granted.view r.1 a.rec true a.granted.comes)) h n in
      let request = request_more w new st.moved.sent r.0 s t.txn a.granted.view r.1 a.rec true (request_came r.0 t.txn a.granted.view r.1 a.rec true a.granted.comes) in
      let at = p.from (letter q r.0 (message.WriteAnswer t.txn r.1)) more ∙ id in
      let same : a.rec ≡ rec = one_now k y t r.0 s r.0 q r.1 a.rec rec a.granted.view r.2 true n h request (HasRequest.to_write r.4) in
      Split.now old at (in_use k t r.0 r.1 true old q a) r.0 r.1 a.stored (subst (λ (rec : ℕ). Granted x given r.0 t.txn r.1 rec true a.stored) same a.granted))
      (st.sent (letter q r.0 (message.WriteAnswer t.txn r.1)) r.3)

  -- a site that uses the view has one lock
  at_once : (q rec : ℕ) (exclusive : Bool) (view : ViewId) (txn other : TxnId) → q ≡ s → Uses o.site view → HasLeft new q view ⊎ LockedAt new q txn rec true → HasLeft new q view ⊎ LockedAt new q other rec exclusive → txn ≡ other
  at_once q rec exclusive view txn other e uses (inl l) b = absurd (l.unused o.site (rw e st.now) uses)
  at_once q rec exclusive view txn other e uses (inr a) (inl l) = absurd (l.unused o.site (rw e st.now) uses)
  at_once q rec exclusive view txn other e uses (inr (y, f, lock)) (inr (z, k, more)) =
      let a : y ≡ o.site = (let n = st.now in let m = rw e at f in cc) in
      let b : z ≡ o.site = (let n = st.now in let m = rw e at k in cc) in
      let c : HasLock rec true (owner.Txn txn) o.site.locks = rw a at lock in
      let d : HasLock rec exclusive (owner.Txn other) o.site.locks = rw b at more in
      txn_same txn other (sym c.by ∙ g.ok.apart c.lock d.lock txn other c.has d.has (c.on ∙ sym d.on) (c.strong refl) c.by d.by ∙ d.by)

  conflict_now : (k j q rec : ℕ) (exclusive : Bool) (y z : SiteState) (t u : Live) → NowIs w s o.site k y → Has y.live t → NowIs w s o.site j z → Has z.live u → t.view ≡ u.view → HasAnswered new q t.txn rec true → HasAnswered new q u.txn rec exclusive → t.txn ≡ u.txn
  conflict_now k j q rec exclusive y z t u n h m i e a b = go (split k y t n h q rec true a) (split j z u m i q rec exclusive b)
    where
      both : q ≡ s → Uses o.site t.view → t.txn ≡ u.txn
      both at uses = at_once q rec exclusive t.view t.txn u.txn at uses (used_now k y t n h q rec true a) (subst (λ (i : ViewId). HasLeft new q i ⊎ LockedAt new q u.txn rec exclusive) (sym e) (used_now j z u m i q rec exclusive b))

      go : Split w s x given o k t q rec true → Split w s x given o j u q rec exclusive → t.txn ≡ u.txn
      go (Split.now was at uses to number stored granted) other = both at uses
      go (Split.before old was) (Split.now then at uses to number stored granted) = both at (subst (Uses o.site) (sym e) uses)
      go (Split.before old had) (Split.before other has) =
          sym old.named ∙ inv.conflict k j q rec exclusive old.site other.site old.u other.u old.up_then old.here other.up_then other.here (old.viewed ∙ e ∙ sym other.viewed)
          (subst (λ (txn : TxnId). HasAnswered w q txn rec true) (sym old.named) had) (subst (λ (txn : TxnId). HasAnswered w q txn rec exclusive) (sym other.named) has) ∙ other.named

  pub used_keep : InvUsed catalogue new
  used_keep = record {
    one = λ k y t a b e d number rec other u z exclusive g h f i. one_now k y t a b e d number rec other u z exclusive (now_is w new s x o st k y g) h f i;
    used = λ k q rec exclusive y t g h a. used_now k y t (now_is w new s x o st k y g) h q rec exclusive a;
    conflict = λ k j q rec exclusive y z t u g h f i e a b. conflict_now k j q rec exclusive y z t u (now_is w new s x o st k y g) h (now_is w new s x o st j z f) i e a b;
  }

-- the same messages were sent
pub request_on : (w new : Scene) → new.sent ≡ w.sent → (a b : ℕ) (txn : TxnId) (view : ViewId) (number rec : ℕ) (exclusive : Bool) → HasRequest new a b txn view number rec exclusive → HasRequest w a b txn view number rec exclusive
request_on w new same a b txn view number rec exclusive h = request_more new w (λ m k. rw same at k) a b txn view number rec exclusive h

pub answered_on : (w new : Scene) → new.sent ≡ w.sent → (k : ℕ) (txn : TxnId) (rec : ℕ) (exclusive : Bool) → HasAnswered new k txn rec exclusive → HasAnswered w k txn rec exclusive
answered_on w new same k txn rec false (HasAnswered.read r) = HasAnswered.read (r.0, r.1, r.2, r.3, rw same at r.4, rw same at r.5)
answered_on w new same k txn rec true (HasAnswered.wrote r) = HasAnswered.wrote (r.0, r.1, r.2, rw same at r.3, rw same at r.4)

module _ (catalogue : Catalogue) (w new : Scene) (s : ℕ) (q : Quiet catalogue w new s) (lived : InvLived w) (views : InvViews catalogue w) (asked : InvLed w) (shares : InvShares catalogue w) (owned : (k : ℕ) (y : SiteState) (t : Live) → plain_at w k ≡ Some y → Has y.live t → t.txn.site ≡ k) (inv : InvUsed catalogue w) where
  lock_on : (k : ℕ) (view : ViewId) (txn : TxnId) (rec : ℕ) (exclusive : Bool) → AtMost view (promise_at w k) → LockedAt w k txn rec exclusive → HasLeft new k view ⊎ LockedAt new k txn rec exclusive
  lock_on k view txn rec exclusive promised (y, up, lock) = ⊎_elim
      (λ (e : k ≡ s). inl (rw e (left_by_quiet catalogue w new s q lived view (rw e at promised))))
      (λ (n : k ≢ s). inr (y, ap up_in (q.moved.others k n) ∙ up, lock))
      (same_site k s)

  pub used_quiet : InvUsed catalogue new
  used_quiet = record {
    one = λ k y t a b e d number rec other u z exclusive g h f i. inv.one k y t a b e d number rec other u z exclusive (live_still catalogue w s k y t h (quiet_is catalogue w new s q k y g)) h (request_on w new q.sent a b t.txn u number rec exclusive f) (request_on w new q.sent e d t.txn z number other exclusive i);
    used = λ k at rec exclusive y t g h a.
        let old = live_still catalogue w s k y t h (quiet_is catalogue w new s q k y g) in
        let b = answered_on w new q.sent at t.txn rec exclusive a in
        ⊎_elim (λ (l : HasLeft w at t.view). inl (left_quiet catalogue w new s q lived at t.view l))
        (λ (l : LockedAt w at t.txn rec exclusive). lock_on at t.view t.txn rec exclusive (answered_promised catalogue w views asked shares k y t at rec exclusive old (owned k y t old h) h b) l)
        (inv.used k at rec exclusive y t old h b);
    conflict = λ k j at rec exclusive y z t u g h f i e a b. inv.conflict k j at rec exclusive y z t u (live_still catalogue w s k y t h (quiet_is catalogue w new s q k y g)) h (live_still catalogue w s j z u i (quiet_is catalogue w new s q j z f)) i e (answered_on w new q.sent at t.txn rec true a) (answered_on w new q.sent at u.txn rec exclusive b);
  }

pub used_starts : (catalogue : Catalogue) → InvUsed catalogue (scene_of (start_world catalogue))
used_starts catalogue = record {
  one = λ s x t a b c d number rec other u v exclusive up h f g. absurd (started_idle catalogue s x t up h);
  used = λ s q rec exclusive x t up h a. absurd (started_idle catalogue s x t up h);
  conflict = λ s r q rec exclusive x y t u up h up2 k e a b. absurd (started_idle catalogue s x t up h);
}

-- the own transactions of a site are named by it
pub owned : (catalogue : Catalogue) (w : Scene) → InvViews catalogue w → InvLed w → (k : ℕ) (y : SiteState) (t : Live) → plain_at w k ≡ Some y → Has y.live t → t.txn.site ≡ k
owned catalogue w views led k y t up h = ((led.site k y up).names t h).0 ∙ (views.site k y up).id
