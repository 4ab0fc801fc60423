-- To whom a step sends: to sites of the catalogue, where all sites that this site knows of are in it.
use Rattle.std.proofs.Common.{◌≡◌, ◌∙◌, ap, sym, subst, ℕ, Bool, true, false, cond, List, [], ◌∷◌, ◌++◌, refl, ⊎_elim, append-nil}
use Rattle.std.specs.Prelude.{Option, Some, None, not, ◌==◌, filter}
use Rattle.vp_catalog.specs.Document.{IsCatalogue}
use Rattle.vp_model.specs.Types.{ViewId, TxnId, View, Stored, Message, Sent, Input, Refreshing, Pending, Live, Ending, Doubt, Decision}
use Rattle.vp_base.specs.declared.site.Ending.TheVariants.{Committed}
use Rattle.vp_model.specs.Types.message
use Rattle.vp_model.specs.Words.{same_txn, txn_before, is_empty}
use Rattle.vp_model.specs.Catalogue.{Catalogue, sites_of}
use Rattle.vp_model.specs.Durable.{doubt_of, put_decision, with_decision, acknowledged}
use Rattle.vp_model.specs.Site.{CoordinatorState, SiteState, Lent, Stepped, begin_step, lent, put_back, letters}
use Rattle.vp_model.specs.Transactions.{last_changes, entry_of, writes_held, writing_parts, keep_writes, complete}
use Rattle.vp_model.specs.Refresh.{unlist, end_refresh, start_refresh, other_holders, unanswered}
use Rattle.vp_model.specs.Views.{other_sites, drop_view, start_inviting, hold}
use Rattle.vp_model.specs.Calls.{start_txn, take_lock, read_at, write_at, prepare_parts, prepare_for}
use Rattle.vp_model.specs.Messages.{accept, on_accept, on_stale, grant, end_here}
use Rattle.vp_model.specs.Step.{step, fix, probe_all, mark_calls, resend_one}
use Rattle.vp_laws.proofs.Lists.Members.{Has, has_none, has_one_is, has_cases, filter_has, map_has}
use Rattle.vp_laws.proofs.Lists.Changes.{put_has}
use Rattle.vp_laws.proofs.Moves.Frames.{Ends, close-ends, decided-ends, decide-cases, judged, take-cases}
use Rattle.vp_laws.proofs.Moves.Table.{Comes, next_view, lent_at, sent_back_for, Handled, Back, Table, AsksAgain}
use Rattle.vp_laws.proofs.Moves.Rows.{step-keeps}
use Rattle.vp_laws.proofs.Moves.LocalViews.{letter, Tidy}
use Rattle.vp_laws.proofs.Table.Led.{Led}
use Rattle.vp_laws.proofs.Table.Names.{Named, Names, Calls}
use Rattle.vp_laws.proofs.Table.Names as named
use Rattle.vp_laws.proofs.Routes.Holders.{other_holders_stand}

module _ (catalogue : Catalogue) (k : IsCatalogue catalogue) where
  -- it is a site of the catalogue
  abbrev S : ℕ → Type 0
  S q = Has (sites_of catalogue) q

  -- a transaction of one, and any view
  abbrev pub OfSite : TxnId → Type 0
  OfSite txn = S txn.site

  abbrev pub AnyView : ViewId → Type 0
  AnyView view = Unit {0}

  -- whom the decisions wait for, and whom the messages go to
  pub record Goes (o : Stepped) : Type 0 where
    pub waiting : (d : Decision) → Has o.site.decisions d → (q : ℕ) → Has d.waiting q → S q
    pub sent : (m : Sent) → Has o.effects.messages m → S m.to

  abbrev pub Routed : Stepped → Type 0
  Routed o = Calls OfSite AnyView o × Goes o

  more : (o e : Stepped) (ms : List Sent) → e.site.decisions ≡ o.site.decisions → e.effects.messages ≡ o.effects.messages ++ ms → ((m : Sent) → Has ms m → S m.to) → Goes o → Goes e
  more o e ms d same to g = record {
    waiting = λ a h q p. g.waiting a (rw d at h) q p;
    sent = λ m h. ⊎_elim (λ old. g.sent m old) (λ new. to m new) (has_cases o.effects.messages ms m (rw same at h));
  }

  silent : (o e : Stepped) → e.site.decisions ≡ o.site.decisions → e.effects.messages ≡ o.effects.messages → Goes o → Goes e
  silent o e d same g = more o e [] d (same ∙ sym (append-nil o.effects.messages)) (λ m h. absurd (has_none m h)) g

  letters_to : (from : ℕ) (message_to : ℕ → Message) (sites : List ℕ) → ((q : ℕ) → Has sites q → S q) → (m : Sent) → Has (letters from message_to sites) m → S m.to
  letters_to from message_to sites all m h =
      let r = map_has (λ (q : ℕ). letter from q (message_to q)) sites m h in subst S (ap (λ (m : Sent). m.to) r.2) (all r.0 r.1)

  letter_to : (from to : ℕ) (words : Message) → S to → (m : Sent) → Has (letter from to words ∷ []) m → S m.to
  letter_to from to words h m q = subst S (ap (λ (m : Sent). m.to) (has_one_is (letter from to words) m q)) h

  to_others : (id q : ℕ) → Has (other_sites catalogue id) q → S q
  to_others id q h = (filter_has (λ (q : ℕ). not (q == id)) (sites_of catalogue) q h).0

  to_holders : (site : SiteState) (rec q : ℕ) → Has (other_holders catalogue site rec) q → S q
  to_holders site rec q h = other_holders_stand catalogue k site.id site.held rec q h

  to_unanswered : (site : SiteState) (r : Refreshing) (q : ℕ) → Has (unanswered catalogue site r) q → S q
  to_unanswered site r q h = to_holders site r.rec q (filter_has _ (other_holders catalogue site r.rec) q h).0

  decision_waits : (txn : TxnId) (waiting : List ℕ) (decisions : List Decision) → ((q : ℕ) → Has waiting q → S q) → ((d : Decision) → Has decisions d → (q : ℕ) → Has d.waiting q → S q)
      → (d : Decision) → Has (with_decision txn waiting decisions) d → (q : ℕ) → Has d.waiting q → S q
  decision_waits txn waiting decisions mine all d h = go (is_empty waiting) h
    where
      go : (b : Bool) → Has (cond b decisions (put_decision (record { txn = txn; waiting = waiting }) decisions)) d → (q : ℕ) → Has d.waiting q → S q
      go true p q w = all d p q w
      go false p q w = ⊎_elim (λ (new : d ≡ (record { txn = txn; waiting = waiting })). mine q (rw new at w)) (λ old. all d old q w) (put_has (λ (a : Decision) (b : Decision). same_txn a.txn b.txn) (λ (a : Decision) (b : Decision). txn_before a.txn b.txn) (record { txn = txn; waiting = waiting }) decisions d p)

  acknowledged_waits : (txn : TxnId) (site : ℕ) (decisions : List Decision) → ((d : Decision) → Has decisions d → (q : ℕ) → Has d.waiting q → S q) → (d : Decision) → Has (acknowledged txn site decisions) d → (q : ℕ) → Has d.waiting q → S q
  acknowledged_waits txn site decisions all d h q w =
      let f = (filter_has (λ (d : Decision). not (is_empty d.waiting)) _ d h).0 in
      let r = map_has (λ (d : Decision). cond (same_txn d.txn txn) (record { txn = d.txn; waiting = filter (λ q. not (q == site)) d.waiting }) d) decisions d f in
      go (same_txn r.0.txn txn) r.0 r.1 (rw (← r.2) at w)
    where
      go : (b : Bool) (a : Decision) → Has decisions a → Has (cond b (record { txn = a.txn; waiting = filter (λ q. not (q == site)) a.waiting }) a).waiting q → S q
      go true a h p = all a h q (filter_has (λ (q : ℕ). not (q == site)) a.waiting q p).0
      go false a h p = all a h q p

  module _ (x : SiteState) (given : Input) (tidy : Tidy x) (led : Led x) (names : Names OfSite AnyView x) (here : S x.id)
      (waiting : (d : Decision) → Has x.decisions d → (q : ℕ) → Has d.waiting q → S q) (parts : (t : Live) → Has x.live t → (q : ℕ) → Has t.parts q → S q)
      (inviting : (b : ViewId × List ℕ) → x.inviting ≡ Some b → (q : ℕ) → Has b.1 q → S q)
      (came : (from : ℕ) (m : Message) → Comes given from m → S from × Named OfSite AnyView m) where
    own_txn : (t : Live) → Has x.live t → OfSite t.txn
    own_txn t h = subst S (sym (led.names t h).0) here

    calls : Table catalogue x given (Calls OfSite AnyView)
    calls = named.table OfSite AnyView catalogue x given tidy led names own_txn tt (λ from m c. (came from m c).1)

    begins : Goes (begin_step x)
    begins = record { waiting = waiting; sent = λ m h. absurd (has_none m h) }

    one : (o : Stepped) (to : ℕ) (words : Message) → S to → o.site.decisions ≡ x.decisions → o.effects.messages ≡ letter x.id to words ∷ [] → Goes o
    one o to words h d same = more (begin_step x) o (letter x.id to words ∷ []) d same (letter_to x.id to words h) begins

    abbrev L : Lent → Type 0
    L = Back x Goes

    lent_more : (l now : Lent) (ms : List Sent) → now.decisions ≡ l.decisions → now.effects.messages ≡ l.effects.messages ++ ms → ((m : Sent) → Has ms m → S m.to) → L l → L now
    lent_more l now ms d same to g = more (put_back (begin_step x) l) (put_back (begin_step x) now) ms d same to g

    hushed : (l now : Lent) → now.decisions ≡ l.decisions → now.effects.messages ≡ l.effects.messages → L l → L now
    hushed l now d same g = silent (put_back (begin_step x) l) (put_back (begin_step x) now) d same g

    handled_parts : (t : Live) → Handled x t → (q : ℕ) → Has t.parts q → S q
    handled_parts t n q h = parts n.was n.live q (rw (ap (λ (t : Live). t.parts) n.same) at h)

    ends : (t : Live) (why : Ending) (commit : Bool) (l now : Lent) → Handled x t → Ends x.id t why commit l now → L l → L now
    ends t why commit l now n e g =
        lent_more l now (letters x.id (λ q. message.Outcome t.txn commit) t.parts) (ap (λ (c : CoordinatorState). c.decisions) e.coordinator) e.messages
        (letters_to x.id (λ q. message.Outcome t.txn commit) t.parts (handled_parts t n)) g

    keeps_writes : (t : Live) → Handled x t → L (keep_writes catalogue x.id t (lent_at x))
    unfolding keep_writes
    keeps_writes t n = record {
      waiting = decision_waits t.txn (writing_parts catalogue t) x.decisions (λ q h. handled_parts t n q (filter_has (λ (q : ℕ). not (is_empty (writes_held catalogue q (last_changes (entry_of t))))) t.parts q h).0) waiting;
      sent = λ m h. absurd (has_none m h);
    }

    invites : (o : Stepped) → Goes o → Goes (start_inviting catalogue (next_view x) o)
    unfolding start_inviting
    invites o g = more o _ (letters o.site.id (λ q. message.Invite (next_view x)) (other_sites catalogue o.site.id)) refl refl (letters_to o.site.id (λ q. message.Invite (next_view x)) (other_sites catalogue o.site.id) (to_others o.site.id)) g

    accepts : (from : ℕ) (id : ViewId) (o : Stepped) → S from → Goes o → Goes (accept from id o)
    unfolding accept
    accepts from id o s g = more o _ (letter o.site.id from (message.Accept id) ∷ []) refl refl (letter_to o.site.id from (message.Accept id) s) g

    drops : (o : Stepped) → Goes o → Goes (drop_view o)
    unfolding drop_view
    drops o g = silent o (drop_view o) refl refl g

    fixes : (view : View) → x.inviting ≡ Some (view.id, view.members) → Goes (fix view (begin_step x))
    unfolding fix hold
    fixes view e =
        more (begin_step x) _ (letters x.id (λ q. message.ViewCommit view.id view.members) (filter (λ q. not (q == x.id)) view.members)) refl refl
        (letters_to x.id (λ q. message.ViewCommit view.id view.members) (filter (λ q. not (q == x.id)) view.members) (λ q h. inviting (view.id, view.members) e q (filter_has (λ (q : ℕ). not (q == x.id)) view.members q h).0)) begins

    starts_refresh : (view : View) (rec : ℕ) (o : Stepped) → Goes o → Goes (start_refresh catalogue view rec o)
    unfolding start_refresh
    starts_refresh view rec o g = more o _ (letters o.site.id (λ q. message.RefreshRequest view.id rec) (other_holders catalogue o.site rec)) refl refl (letters_to o.site.id (λ q. message.RefreshRequest view.id rec) (other_holders catalogue o.site rec) (to_holders o.site rec)) g

    takes_newer : (r : Refreshing) (own : Stored) (o : Stepped) → Goes o → Goes (judged catalogue r own o)
    takes_newer r own o g = take-cases Goes catalogue r own o (silent o _ refl refl g) g (silent o _ refl refl g)

    ends_refresh : (r : Refreshing) (own : Stored) (o : Stepped) → Goes o → Goes (end_refresh catalogue r own o)
    unfolding end_refresh unlist
    ends_refresh r own o g = silent (judged catalogue r own o) _ refl refl (takes_newer r own o g)

    grants : (from : ℕ) (txn : TxnId) (view : ViewId) (rec : ℕ) (exclusive : Bool) (words : Message) → S from → Goes (grant txn view rec exclusive words from (begin_step x))
    unfolding grant
    grants from txn view rec exclusive words s = one _ from words s refl refl

    ends_here : (from : ℕ) (txn : TxnId) (commit : Bool) → S from → Goes (end_here from txn commit (doubt_of txn x.doubts) (begin_step x))
    unfolding end_here
    ends_here from txn commit s = go commit (doubt_of txn x.doubts)
      where
        go : (commit : Bool) (doubt : Option Doubt) → Goes (end_here from txn commit doubt (begin_step x))
        go true None = one _ from (message.Ack txn) s refl refl
        go false None = silent (begin_step x) _ refl refl begins
        go true (Some d) = one _ from (message.Ack txn) s refl refl
        go false (Some d) = silent (begin_step x) _ refl refl begins

    takes_lock : (t : Live) (rec : ℕ) (exclusive : Bool) → L (take_lock t.txn rec exclusive (lent_at x))
    unfolding take_lock
    takes_lock t rec exclusive = hushed (lent_at x) _ refl refl begins

    writes_at : (t : Live) (p : Pending) (rec : ℕ) (l : Lent) → L l → L (write_at x.id t p rec (other_holders catalogue x rec) l)
    unfolding write_at
    writes_at t p rec l g = lent_more l _ (letters x.id (λ q. message.WriteRequest t.txn t.view p.number rec) (other_holders catalogue x rec)) refl refl (letters_to x.id (λ q. message.WriteRequest t.txn t.view p.number rec) (other_holders catalogue x rec) (to_holders x rec)) g

    resends : (d : Decision) (o : Stepped) → Has o.site.decisions d → Goes o → Goes (put_back o (resend_one o.site.id d (lent o)))
    unfolding resend_one
    resends d o h g = more o _ (letters o.site.id (λ q. message.Outcome d.txn true) d.waiting) refl refl (letters_to o.site.id (λ q. message.Outcome d.txn true) d.waiting (g.waiting d h)) g

    from_is : (from : ℕ) (m : Message) → Comes given from m → S from
    from_is from m c = (came from m c).0

    again_goes : (o : Stepped) → Names OfSite AnyView o.site → (to : ℕ) (m : Message) → AsksAgain catalogue x given o to m → S to
    again_goes o n to _ (AsksAgain.refresh view r e h v q) = to_unanswered o.site r to q
    again_goes o n to _ (AsksAgain.inquire txn c h e) = subst S e (named.known_named OfSite AnyView o.site n txn h)

    -- each of its moves, beside what the names do
    table : Table catalogue x given Routed
    unfolding on_accept on_stale start_txn read_at prepare_parts complete mark_calls hold
    table = record {
      sends_back = λ from m t. (calls.sends_back from m t, one _ from m (let q = sent_back_for x given from m t in from_is from q.0 q.1) refl refl);
      asks_again = λ o ms all p. (calls.asks_again o ms all p.0, more o _ ms refl refl (λ m h. again_goes o p.0.names m.to m.message (all m h).1) p.1);
      drop_view = λ l e z p. (calls.drop_view l e z p.0, drops (put_back (begin_step x) l) p.1);
      start_inviting = λ o s left l. (calls.start_inviting o s left l.0, invites o l.1);
      accept = λ from id o c e left l. (calls.accept from id o c e left l.0, accepts from id o (from_is from _ c) l.1);
      accepted = λ from id c. (calls.accepted from id c, silent (begin_step x) (on_accept from id (begin_step x)) refl refl begins);
      seen = λ from id promise c. (calls.seen from id promise c, silent (begin_step x) (on_stale promise (begin_step x)) refl refl begins);
      hold = λ from id members c e. (calls.hold from id members c e, silent (begin_step x) _ refl refl begins);
      heard = λ from view c e. (calls.heard from view c e, silent (begin_step x) _ refl refl begins);
      fix = λ view c e. (calls.fix view c e, fixes view e);
      without_wait = λ id c i w. (calls.without_wait id c i w, silent (begin_step x) _ refl refl begins);
      probe = λ view c e. (calls.probe view c e, more (begin_step x) (probe_all catalogue view (begin_step x)) (letters x.id (λ q. message.Probe view.id) (other_sites catalogue x.id)) refl refl (letters_to x.id (λ q. message.Probe view.id) (other_sites catalogue x.id) (to_others x.id)) begins);
      start_refresh = λ view rec o e h l. (calls.start_refresh view rec o e h l.0, starts_refresh view rec o l.1);
      end_refresh = λ rec r own o e a d v l. (calls.end_refresh rec r own o e a d v l.0, ends_refresh r own o l.1);
      keep_answer = λ from view rec stored r c e f g. (calls.keep_answer from view rec stored r c e f g, silent (begin_step x) _ refl refl begins);
      grant_read = λ from txn view number rec stored c e n v f u. (calls.grant_read from txn view number rec stored c e n v f u, grants from txn view rec false (message.ReadAnswer txn number stored.value) (from_is from _ c));
      grant_write = λ from txn view number rec stored c e n v f u. (calls.grant_write from txn view number rec stored c e n v f u, grants from txn view rec true (message.WriteAnswer txn number) (from_is from _ c));
      vote_reading = λ from txn view number reads writes part c e n d f v a w. (calls.vote_reading from txn view number reads writes part c e n d f v a w, one _ from (message.Vote part.txn) (from_is from _ c) refl refl);
      vote_writing = λ from txn view number reads writes part c e n d f v a w. (calls.vote_writing from txn view number reads writes part c e n d f v a w, one _ from (message.Vote part.txn) (from_is from _ c) refl refl);
      end_here = λ from txn commit c. (calls.end_here from txn commit c, ends_here from txn commit (from_is from _ c));
      coordinator = record {
        begin = λ port view e g u. (calls.coordinator.begin port view e g u, hushed (lent_at x) _ refl refl begins);
        answers = λ words port why y. (calls.coordinator.answers words port why y, hushed (lent_at x) _ refl refl begins);
        take_lock = λ t rec exclusive stored h i a v c. (calls.coordinator.take_lock t rec exclusive stored h i a v c, takes_lock t rec exclusive);
        complete = λ t p deed l h g y e q. (calls.coordinator.complete t p deed l h g y e q.0, hushed l _ refl refl q.1);
        read_at = λ t p rec q h n r a w c o y. (calls.coordinator.read_at t p rec q h n r a w c o y, lent_more (lent_at x) _ (letter x.id q (message.ReadRequest t.txn t.view p.number rec) ∷ []) refl refl (letter_to x.id q (message.ReadRequest t.txn t.view p.number rec) (to_holders x rec q o)) begins);
        write_at = λ t p rec value l h n w a e o d y v q. (calls.coordinator.write_at t p rec value l h n w a e o d y v q.0, writes_at t p rec l q.1);
        prepare_parts = λ t p h i g e. (calls.coordinator.prepare_parts t p h i g e, lent_more (lent_at x) _ (letters x.id (prepare_for catalogue t p) t.parts) refl refl (letters_to x.id (prepare_for catalogue t p) t.parts (parts t h)) begins);
        still_waits = λ t p from h e m f c. (calls.coordinator.still_waits t p from h e m f c, hushed (lent_at x) _ refl refl begins);
        decide = λ t n d. (calls.coordinator.decide t n d, decide-cases L catalogue x.id t (lent_at x) (λ e. ends t Committed true _ _ n (decided-ends x.id t (lent_at x)) begins) (λ e. ends t Committed true _ _ n (decided-ends x.id t _) (keeps_writes t n)));
        close = λ t why l n a z y q. (calls.coordinator.close t why l n a z y q.0, ends t why false l _ n (close-ends x.id t why l) q.1);
        mark_calls = λ l c z q. (calls.coordinator.mark_calls l c z q.0, hushed l _ refl refl q.1);
        acknowledge = λ from txn c w. (calls.coordinator.acknowledge from txn c w, record { waiting = acknowledged_waits txn from x.decisions waiting; sent = λ m h. absurd (has_none m h) });
      };
      answers_inviting = λ port c s l. (calls.answers_inviting port c s l.0, silent _ _ refl refl l.1);
      resend_one = λ d o c h l. (calls.resend_one d o c h l.0, resends d o h l.1);
    }

    pub routes-step : Routed (step catalogue x given)
    routes-step = step-keeps catalogue x given Routed table (record { names = names; sent = λ m h. absurd (has_none m h) }, begins)
