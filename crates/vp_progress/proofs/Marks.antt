-- Locks of transactions in doubt, step by step: where an exclusive one comes from, and that a shared one is of the view that is held.
use Rattle.std.proofs.Common.{◌≡◌, ◌⊎◌, ◌∙◌, ap, sym, subst, ℕ, Bool, true, false, cond, List, [], ◌∷◌, ◌++◌, map, refl, ⊎_elim, inl, inr}
use Rattle.std.specs.Prelude.{Option, Some, None, ◌==◌, ◌&&◌, ◌||◌, not, option_map}
use Rattle.std.proofs.lemmas.Bool.{eqb-true, and_parts}
use Rattle.vp_model.specs.Types.{Change, ViewId, TxnId, View, Stored, Owner, Message, Input, Lock, Part, Refreshing, Live, Ending, Doubt}
use Rattle.vp_base.specs.declared.site.Ending.TheVariants.{Committed}
use Rattle.vp_model.specs.Types.log_record
use Rattle.vp_model.specs.Types.message
use Rattle.vp_model.specs.Types.owner
use Rattle.vp_model.specs.Words.{is_view, same_owner, same_txn, txn_before}
use Rattle.vp_model.specs.Catalogue.{Catalogue}
use Rattle.vp_model.specs.Durable.{doubt_of, put_doubt}
use Rattle.vp_model.specs.Locks.{holds, raised, with_lock, without_guard}
use Rattle.vp_model.specs.Site.{ViewState, ParticipantState, CoordinatorState, Here, SiteState, Lent, Stepped, begin_step, put_back, send, force, change_participant}
use Rattle.vp_model.specs.Transactions.{keep_writes, complete}
use Rattle.vp_model.specs.Refresh.{unlist, end_refresh, start_refresh}
use Rattle.vp_model.specs.Views.{has_doubt, outlasts_for, outlasts, drop_view, start_inviting, hold}
use Rattle.vp_model.specs.Calls.{start_txn, take_lock, read_at, write_at, prepare_parts}
use Rattle.vp_model.specs.Messages.{holds_view, with_new_doubt, accept, on_accept, on_stale, grant, end_here}
use Rattle.vp_model.specs.Step.{fix, mark_calls, resend_one, step}
use Rattle.vp_model.proofs.SameTxn.{same_txn-self}
use Rattle.vp_laws.proofs.Lists.Members.{Has, has_one_is, has_cases, filter_has, map_has, any_of, both_true}
use Rattle.vp_laws.proofs.Lists.Changes.{put_has}
use Rattle.vp_laws.proofs.Lists.Keeps.{by_test}
use Rattle.vp_laws.proofs.Lists.Views.{is_view_is, same_is}
use Rattle.vp_laws.proofs.Lists.LockTables.{HasLock, same_owner_is, lock_origin}
use Rattle.vp_laws.proofs.Moves.LocalViews.{Tidy}
use Rattle.vp_laws.proofs.Moves.Frames.{Ends, close-ends, decided-ends, decide-cases, take-cases}
use Rattle.vp_laws.proofs.Moves.Parts.{part_there, with_part_doubts}
use Rattle.vp_laws.proofs.Moves.Table.{Comes, Table, OfCoordinator, Back, lent_at}
use Rattle.vp_laws.proofs.Moves.Rows.{step-keeps}
use Rattle.vp_laws.proofs.Table.Led.{Led}
use Rattle.vp_laws.proofs.Table.Below.{Below}
use Rattle.vp_progress.proofs.Refreshed.{ends}
use Rattle.vp_progress.proofs.Certain.{ended_front}
use Rattle.vp_progress.proofs.Serving.Parts.{ended_locks}
use Rattle.vp_progress.proofs.Asked.{names_view, naming}

-- an exclusive lock was one before, or is taken now
exclusive_origin : (rec : ℕ) (exclusive : Bool) (o : Owner) (locks : List Lock) (a : Lock) → Has (with_lock rec exclusive o locks) a → a.exclusive ≡ true → HasLock a.rec true a.owner locks ⊎ ((exclusive ≡ true) × (a.rec ≡ rec) × (a.owner ≡ o))
exclusive_origin rec exclusive o locks a h e = by_test (λ (ls : List Lock). Has ls a → HasLock a.rec true a.owner locks ⊎ ((exclusive ≡ true) × (a.rec ≡ rec) × (a.owner ≡ o))) (holds rec false o locks) (map (raised rec exclusive o) locks) (locks ++ (record { rec = rec; exclusive = exclusive; owner = o }) ∷ [])
    (λ t q. let m = map_has (raised rec exclusive o) locks a q in from_raised m.0 m.1 m.2)
    (λ t q. ⊎_elim (λ old. inl (record { lock = a; has = old; on = refl; by = refl; strong = λ z. e })) (λ new. let same = has_one_is (record { rec = rec; exclusive = exclusive; owner = o }) a new in inr (subst (λ (l : Lock). (exclusive ≡ true) × (l.rec ≡ rec) × (l.owner ≡ o)) same (taken a new e same))) (has_cases locks _ a q)) h
  where
    taken : (a : Lock) → Has ((record { rec = rec; exclusive = exclusive; owner = o }) ∷ []) a → a.exclusive ≡ true → (record { rec = rec; exclusive = exclusive; owner = o }) ≡ a → (exclusive ≡ true) × (rec ≡ rec) × (o ≡ o)
    taken a h e same = (ap (λ (l : Lock). l.exclusive) same ∙ e, refl, refl)

    from_raised : (l : Lock) → Has locks l → raised rec exclusive o l ≡ a → HasLock a.rec true a.owner locks ⊎ ((exclusive ≡ true) × (a.rec ≡ rec) × (a.owner ≡ o))
    from_raised l there is = go ((l.rec == rec) && same_owner l.owner o) refl l.exclusive refl is
      where
        go : (b : Bool) → ((l.rec == rec) && same_owner l.owner o) ≡ b → (x : Bool) → l.exclusive ≡ x → cond b (record l { exclusive = l.exclusive || exclusive }) l ≡ a → HasLock a.rec true a.owner locks ⊎ ((exclusive ≡ true) × (a.rec ≡ rec) × (a.owner ≡ o))
        go false t x w q = inl (record { lock = l; has = there; on = ap (λ (l : Lock). l.rec) q; by = ap (λ (l : Lock). l.owner) q; strong = λ z. ap (λ (l : Lock). l.exclusive) q ∙ e })
        go true t true w q = inl (record { lock = l; has = there; on = ap (λ (l : Lock). l.rec) q; by = ap (λ (l : Lock). l.owner) q; strong = λ z. w })
        go true t false w q =
            let p = and_parts (l.rec == rec) (same_owner l.owner o) t in
            let now : exclusive ≡ true = (let z : (l.exclusive || exclusive) ≡ true = ap (λ (l : Lock). l.exclusive) q ∙ e in rw w at z) in
            inr (now, ap (λ (l : Lock). l.rec) (sym q) ∙ eqb-true l.rec rec p.0, ap (λ (l : Lock). l.owner) (sym q) ∙ same_owner_is l.owner o p.1)

-- the view of that identifier is held
abbrev pub HoldsNow : Option View → ViewId → Type 0
HoldsNow held i = (v : View) × (held ≡ Some v) × (v.id ≡ i)

-- a shared lock of a transaction in doubt is of the view that is held
abbrev pub SharedHeld : Option View → List Doubt → List Lock → Type 0
SharedHeld held doubts locks = (d : Doubt) (l : Lock) → Has doubts d → Has locks l → l.owner ≡ owner.Txn d.txn → l.exclusive ≡ false → HoldsNow held d.view

-- where an exclusive lock of a transaction comes from: it was there, it is of a transaction of this site, or a request came now
pub data FromExclusive (x : SiteState) (given : Input) (txn : TxnId) (rec : ℕ) : Type 0 where
  locked_before : HasLock rec true (owner.Txn txn) x.locks → FromExclusive x given txn rec
  of_this_site : (u : Live) → Has x.live u → u.txn ≡ txn → FromExclusive x given txn rec
  asked_now : (from number : ℕ) (view : ViewId) → Comes given from (message.WriteRequest txn view number rec) → FromExclusive x given txn rec

abbrev pub AllFrom : SiteState → Input → List Lock → Type 0
AllFrom x given locks = (l : Lock) (txn : TxnId) → Has locks l → l.exclusive ≡ true → l.owner ≡ owner.Txn txn → FromExclusive x given txn l.rec

abbrev pub Marked : SiteState → Input → Stepped → Type 0
Marked x given o = AllFrom x given o.site.locks × SharedHeld o.site.held o.site.doubts o.site.locks

module _ (catalogue : Catalogue) (x : SiteState) (given : Input) (tidy : Tidy x) (led : Led x) (below : Below x) (shared : SharedHeld x.held x.doubts x.locks) (one : (from : ℕ) (m : Message) (d : Doubt) (view : ViewId) → Comes given from m → names_view m ≡ naming d.txn view → Has x.doubts d → view ≡ d.view) where
  abbrev P : Stepped → Type 0
  P = Marked x given

  first : P (begin_step x)
  first = ((λ l txn h e by. FromExclusive.locked_before (record { lock = l; has = h; on = refl; by = by; strong = λ z. e })), shared)

  -- fewer locks, and fewer doubts
  fewer : (o e : Stepped) → ((l : Lock) → Has e.site.locks l → Has o.site.locks l) → ((d : Doubt) → Has e.site.doubts d → Has o.site.doubts d) → e.site.held ≡ o.site.held → P o → P e
  fewer o e locks doubts held p = (
    (λ l txn h ex by. p.0 l txn (locks l h) ex by),
    (λ d l hd hl by s. subst (λ (h : Option View). HoldsNow h d.view) (sym held) (p.1 d l (doubts d hd) (locks l hl) by s)),
  )

  from_was : (l : Lock) (txn : TxnId) (o : Stepped) → P o → HasLock l.rec true l.owner o.site.locks → l.owner ≡ owner.Txn txn → FromExclusive x given txn l.rec
  from_was l txn o p h by = subst (FromExclusive x given txn) h.on (p.0 h.lock txn h.has (h.strong refl) (h.by ∙ by))

  -- a guard is of no transaction
  guarded : (o e : Stepped) (rec : ℕ) → e.site.locks ≡ with_lock rec true owner.Refresh o.site.locks → e.site.doubts ≡ o.site.doubts → e.site.held ≡ o.site.held → P o → P e
  guarded o e rec locks doubts held p = fewer_but o e doubts held p (λ l txn h by. ⊎_elim (λ old. old) (λ new. absurd (let z = sym new.1 ∙ by in cc)) (lock_origin rec true owner.Refresh o.site.locks l (subst (λ (ls : List Lock). Has ls l) locks h)))
    where
      fewer_but : (o e : Stepped) → e.site.doubts ≡ o.site.doubts → e.site.held ≡ o.site.held → P o → ((l : Lock) (txn : TxnId) → Has e.site.locks l → l.owner ≡ owner.Txn txn → Has o.site.locks l) → P e
      fewer_but o e doubts held p locks = (
        (λ l txn h ex by. p.0 l txn (locks l txn h by) ex by),
        (λ d l hd hl by s. subst (λ (h : Option View). HoldsNow h d.view) (sym held) (p.1 d l (subst (λ (ds : List Doubt). Has ds d) doubts hd) (locks l d.txn hl by) by s)),
      )

  -- what is dropped as a view is left
  drops : (l : Lent) → P (put_back (begin_step x) l) → P (drop_view (put_back (begin_step x) l))
  unfolding drop_view
  drops l p = (
    (λ a txn h ex by. p.0 a txn (filter_has (outlasts x.participant) l.locks a h).0 ex by),
    (λ d a hd ha by s. absurd (kept d a hd (filter_has (outlasts x.participant) l.locks a ha).1 by s)),
  )
    where
      kept : (d : Doubt) (a : Lock) → Has x.doubts d → outlasts x.participant a ≡ true → a.owner ≡ owner.Txn d.txn → a.exclusive ≡ false → ⊥
      kept d a hd test by s =
          let there : has_doubt d.txn x.doubts ≡ true = any_of (λ (c : Doubt). same_txn c.txn d.txn) x.doubts d hd (same_txn-self d.txn) in
          let stays : outlasts_for x.participant a.exclusive (owner.Txn d.txn) ≡ true = subst (λ (o : Owner). outlasts_for x.participant a.exclusive o ≡ true) by test in
          let z : a.exclusive ≡ true = rw there at stays in
          let y = sym z ∙ s in cc

  -- a lock that is granted for the transaction of a message that names the held view
  granted : (from : ℕ) (m : Message) (txn : TxnId) (view : ViewId) (rec : ℕ) (exclusive : Bool) (answer : Message) → Comes given from m → names_view m ≡ naming txn view → holds_view x view ≡ true → (exclusive ≡ true → FromExclusive x given txn rec) → P (grant txn view rec exclusive answer from (begin_step x))
  unfolding grant
  granted from m txn view rec exclusive answer came names held taken = (
    (λ l u h ex by. ⊎_elim (λ old. from_was l u (begin_step x) first old by)
        (λ (new : (exclusive ≡ true) × (l.rec ≡ rec) × (l.owner ≡ owner.Txn txn)). (let same : txn ≡ u = (let z = sym new.2 ∙ by in cc) in subst (FromExclusive x given u) (sym new.1) (subst (λ (t : TxnId). FromExclusive x given t rec) same (taken new.0))))
        (exclusive_origin rec exclusive (owner.Txn txn) x.locks l h ex)),
    (λ d l hd hl by s.
        let was = subst (λ (ds : List Doubt). Has ds d) (with_part_doubts x.participant txn view) hd in
        ⊎_elim (λ old. shared d l was old by s)
        (λ (new : (l.rec ≡ rec) × (l.owner ≡ owner.Txn txn)).
        let same : txn ≡ d.txn = (let z = sym new.1 ∙ by in cc) in
        let is : view ≡ d.view = one from m d view came (names ∙ ap (λ (t : TxnId). naming t view) same) was in
        subst (HoldsNow x.held) is (held_as x.held held))
        (lock_origin rec exclusive (owner.Txn txn) x.locks l hl)),
  )
    where
      held_as : (o : Option View) → is_view (option_map (λ (v : View). v.id) o) view ≡ true → HoldsNow o view
      held_as None e = cc
      held_as (Some v) e = (v, refl, same_is v.id view e)

  -- a part votes, and is in doubt
  voted : (part : Part) (writes : List (ℕ × Change)) (e : Stepped) → Has x.parts part → e.site.locks ≡ x.locks → e.site.doubts ≡ put_doubt (record { txn = part.txn; view = part.view; writes = writes }) x.doubts → e.site.held ≡ x.held → P e
  voted part writes e there locks doubts held = (
    (subst (AllFrom x given) (sym locks) first.0),
    (λ d l hd hl by s. subst (λ (h : Option View). HoldsNow h d.view) (sym held) (go d l (subst (λ (ds : List Doubt). Has ds d) doubts hd) (subst (λ (ls : List Lock). Has ls l) locks hl) by s)),
  )
    where
      go : (d : Doubt) (l : Lock) → Has (put_doubt (record { txn = part.txn; view = part.view; writes = writes }) x.doubts) d → Has x.locks l → l.owner ≡ owner.Txn d.txn → l.exclusive ≡ false → HoldsNow x.held d.view
      go d l hd hl by s = ⊎_elim
          (λ (new : d ≡ record { txn = part.txn; view = part.view; writes = writes }). (let p = below.parts part there in (p.0, p.1, p.2 ∙ ap (λ (d : Doubt). d.view) (sym new))))
          (λ old. shared d l old hl by s)
          (put_has (λ (a : Doubt) (b : Doubt). same_txn a.txn b.txn) (λ (a : Doubt) (b : Doubt). txn_before a.txn b.txn) (record { txn = part.txn; view = part.view; writes = writes }) x.doubts d hd)

  -- a site joins a view: it held none, so no shared lock is of a doubt
  views : (e : Stepped) → e.site.locks ≡ x.locks → e.site.doubts ≡ x.doubts → x.held ≡ None → P e
  views e locks doubts none = (
    (subst (AllFrom x given) (sym locks) first.0),
    (λ d l hd hl by s. absurd (let h = shared d l (subst (λ (ds : List Doubt). Has ds d) doubts hd) (subst (λ (ls : List Lock). Has ls l) locks hl) by s in let z = sym none ∙ h.1 in cc)),
  )

  -- a lock of this site's own transaction
  takes : (t : Live) (rec : ℕ) (exclusive : Bool) (e : Stepped) → Has x.live t → e.site.locks ≡ with_lock rec exclusive (owner.Txn t.txn) x.locks → e.site.doubts ≡ x.doubts → e.site.held ≡ x.held → P e
  takes t rec exclusive e live locks doubts held = (
    (λ l u h ex by. ⊎_elim (λ old. from_was l u (begin_step x) first old by)
        (λ (new : (exclusive ≡ true) × (l.rec ≡ rec) × (l.owner ≡ owner.Txn t.txn)). FromExclusive.of_this_site t live (let z = sym new.2 ∙ by in cc))
        (exclusive_origin rec exclusive (owner.Txn t.txn) x.locks l (subst (λ (ls : List Lock). Has ls l) locks h) ex)),
    (λ d l hd hl by s.
        let was = subst (λ (ds : List Doubt). Has ds d) doubts hd in
        subst (λ (h : Option View). HoldsNow h d.view) (sym held)
        (⊎_elim (λ old. shared d l was old by s)
        (λ (new : (l.rec ≡ rec) × (l.owner ≡ owner.Txn t.txn)). absurd ((below.doubts d was).1 (let same : t.txn ≡ d.txn = (let z = sym new.1 ∙ by in cc) in ap (λ (t : TxnId). t.site) (sym same) ∙ (led.names t live).0)))
        (lock_origin rec exclusive (owner.Txn t.txn) x.locks l (subst (λ (ls : List Lock). Has ls l) locks hl)))),
  )

  abbrev K : Lent → Type 0
  K = Back x P

  ends_one : (t : Live) (why : Ending) (commit : Bool) (l now : Lent) → Ends x.id t why commit l now → K l → K now
  ends_one t why commit l now e p = fewer (put_back (begin_step x) l) (put_back (begin_step x) now) (λ a h. (filter_has (λ (lock : Lock). not (same_owner lock.owner (owner.Txn t.txn))) l.locks a (subst (λ (ls : List Lock). Has ls a) (ap (λ (h : Here). h.locks) e.here) h)).0) (λ d h. h) refl p

  keeps : (t : Live) → K (keep_writes catalogue x.id t (lent_at x))
  unfolding keep_writes
  keeps t = first

  of_coordinator : OfCoordinator catalogue x given K
  unfolding start_txn take_lock complete read_at write_at prepare_parts mark_calls
  of_coordinator = record {
    begin = λ port view h c s. first;
    answers = λ words port r s. first;
    take_lock = λ t rec exclusive stored h i a v c. takes t rec exclusive (put_back (begin_step x) (take_lock t.txn rec exclusive (lent_at x))) h refl refl refl;
    complete = λ t p deed l h c n e q. q;
    read_at = λ t p rec q h n r a w c o y. first;
    write_at = λ t p rec deed l h n w a v o y f e q. q;
    prepare_parts = λ t p h n c e. first;
    still_waits = λ t p from h e m f c. first;
    decide = λ t h d. decide-cases K catalogue x.id t (lent_at x) (λ e. ends_one t Committed true (lent_at x) _ (decided-ends x.id t (lent_at x)) first) (λ e. ends_one t Committed true (keep_writes catalogue x.id t (lent_at x)) _ (decided-ends x.id t _) (keeps t));
    close = λ t why l h a e c q. ends_one t why false l _ (close-ends x.id t why l) q;
    mark_calls = λ l c d q. q;
    acknowledge = λ from txn c w. first;
  }

  ends_locks : (r : Refreshing) (own : Stored) (o : Stepped) → (end_refresh catalogue r own o).site.locks ≡ without_guard r.rec o.site.locks
  unfolding end_refresh unlist
  ends_locks r own o = take-cases (λ (e : Stepped). (unlist r.rec e).site.locks ≡ without_guard r.rec o.site.locks) catalogue r own o refl refl refl

  finishes : (r : Refreshing) (own : Stored) (o : Stepped) → P o → P (end_refresh catalogue r own o)
  finishes r own o p =
      let f = (ends catalogue r own o).front in
      fewer o (end_refresh catalogue r own o) (λ l h. (filter_has (λ (lock : Lock). not ((lock.rec == r.rec) && same_owner lock.owner owner.Refresh)) o.site.locks l (subst (λ (ls : List Lock). Has ls l) (ends_locks r own o) h)).0)
      (λ d h. subst (λ (ds : List Doubt). Has ds d) (ap (λ (z : ViewState × ParticipantState × CoordinatorState). z.1.doubts) f) h) (ap (λ (z : ViewState × ParticipantState × CoordinatorState). z.0.held) f) p

  over : (from : ℕ) (txn : TxnId) (commit : Bool) → P (end_here from txn commit (doubt_of txn x.doubts) (begin_step x))
  over from txn commit =
      let f = ended_front x from txn commit (doubt_of txn x.doubts) in
      fewer (begin_step x) (end_here from txn commit (doubt_of txn x.doubts) (begin_step x)) (λ l h. (filter_has (λ (lock : Lock). not (same_owner lock.owner (owner.Txn txn))) x.locks l (subst (λ (ls : List Lock). Has ls l) (ended_locks x from txn commit (doubt_of txn x.doubts)) h)).0)
      (λ d h. (filter_has (λ (d : Doubt). not (same_txn d.txn txn)) x.doubts d (subst (λ (ds : List Doubt). Has ds d) (ap (λ (z : ViewState × ParticipantState × CoordinatorState). z.1.doubts) f) h)).0) (ap (λ (z : ViewState × ParticipantState × CoordinatorState). z.0.held) f) first

  table : Table catalogue x given P
  unfolding start_inviting accept on_accept on_stale hold fix start_refresh resend_one
  table = record {
    sends_back = λ from m t. first;
    asks_again = λ o ms a p. p;
    drop_view = λ l e c p. drops l p;
    start_inviting = λ o s l p. p;
    accept = λ from id o c v l p. p;
    accepted = λ from id c. first;
    seen = λ from id promise c. first;
    hold = λ from id members c e. views (hold (record { id = id; members = members }) (begin_step x)) refl refl (tidy.waiting id (is_view_is x.waiting id (both_true _ _ e).0)).1;
    heard = λ from view c h. first;
    fix = λ view c e. views (fix view (begin_step x)) refl refl (tidy.inviting (view.id, view.members) e).1;
    without_wait = λ id c i w. first;
    probe = λ view c h. first;
    answers_inviting = λ port c e p. p;
    start_refresh = λ view rec o j h p. guarded o (start_refresh catalogue view rec o) rec refl refl refl p;
    end_refresh = λ rec r own o e u d v p. finishes r own o p;
    keep_answer = λ from view rec stored r c h f u. first;
    grant_read = λ from txn view number rec stored c h n v f u. granted from (message.ReadRequest txn view number rec) txn view rec false (message.ReadAnswer txn number stored.value) c refl h (λ z. absurd (let y = z in cc));
    grant_write = λ from txn view number rec stored c h n v f u. granted from (message.WriteRequest txn view number rec) txn view rec true (message.WriteAnswer txn number) c refl h (λ z. FromExclusive.asked_now from number view c);
    vote_reading = λ from txn view number reads writes part c h n d f v l e. first;
    vote_writing = λ from txn view number reads writes part c h n d f v l e. voted part writes (send (message.Vote part.txn) from (force (log_record.Yes part.txn part.view writes) (change_participant (with_new_doubt part writes) (begin_step x)))) (part_there txn x.parts part f) refl refl refl;
    end_here = λ from txn commit c. over from txn commit;
    coordinator = of_coordinator;
    resend_one = λ d o c h p. p;
  }

  pub marked-step : P (step catalogue x given)
  marked-step = step-keeps catalogue x given P table first
