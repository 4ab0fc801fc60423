-- Where each live transaction, each request and each entry of a step comes from.
use Rattle.std.proofs.Common.{◌≡◌, ◌≢◌, ◌∙◌, ap, sym, subst, ℕ, Bool, true, false, List, [], ◌∷◌, ◌++◌, map, refl, ⊎_elim, append-nil}
use Rattle.std.specs.Prelude.{Some, None}
use Rattle.vp_model.specs.Types.{TxnId, View, Sent, Commit, Input, Effects, Pending, Live, Ending, Message}
use Rattle.vp_base.specs.declared.site.Ending.TheVariants.{Committed}
use Rattle.vp_model.specs.Types.input
use Rattle.vp_model.specs.Types.message
use Rattle.vp_model.specs.Words.{has, is_empty, change_first, value_at}
use Rattle.vp_model.specs.Catalogue.{Catalogue}
use Rattle.vp_model.specs.Site.{CoordinatorState, SiteState, Lent, letters}
use Rattle.vp_model.specs.Transactions.{Deed, last_changes, entry_of, put_live, close, with_finished, keep_writes, last_writes, decide, complete}
use Rattle.vp_model.specs.Refresh.{is_open, other_holders}
use Rattle.vp_model.specs.Calls.{begun, start_txn, take_lock, read_at, write_at, prepare_parts, prepare_for}
use Rattle.vp_model.specs.Answers.{is_decided, with_acknowledged}
use Rattle.vp_model.specs.Step.{mark, mark_calls, step}
use Rattle.vp_laws.specs.Votes.{is_commit}
use Rattle.vp_laws.proofs.Lists.Members.{Has, has_none, has_one_is, has_cases, map_has}
use Rattle.vp_laws.proofs.Lists.Changes.{without_first_has}
use Rattle.vp_laws.proofs.Lists.Names.{Apart, named, apart_without, change_cases, apart_change, apart_more, apart_mark}
use Rattle.vp_laws.proofs.Moves.Frames.{Ends, close-ends, close-commits, decided-ends, decided-commits, decide-cases}
use Rattle.vp_laws.proofs.Moves.Table.{next_name, lent_at, Handled, IsNext, Reads, Changes, Counts, remaining, Locked, Completes, Decides, Closed, OfCoordinator, SendsBack, May}
use Rattle.vp_laws.proofs.Moves.Rows.{step-keeps}
use Rattle.vp_laws.proofs.Moves.LocalViews.{letter}
use Rattle.vp_laws.proofs.Table.Led.{Led}
use Rattle.vp_laws.proofs.Moves.OnlyCoordinator.{Aside, OnCoordinator, Keeps, only_begins, only_table}
use Rattle.vp_laws.proofs.Lists.Numbers.{one_above}
use Rattle.vp_laws.proofs.Moves.Calls.{writing, reading, waiting, done}

-- a read of a record without a copy here, which another holder is asked for
pub record AskingRead (catalogue : Catalogue) (x : SiteState) (given : Input) (u : Live) (p : Pending) (rec q : ℕ) : Type 0 where
  pub next : IsNext given u p
  pub reads : Reads catalogue p rec
  pub usable : is_open x rec ≡ true
  pub unwritten : value_at rec (last_writes u.ops) ≡ None
  pub no_copy : value_at rec x.copies ≡ None
  pub holder : Has (other_holders catalogue x rec) q

-- a first write of a record, which all other holders in the view are asked for
pub record AskingWrite (catalogue : Catalogue) (x : SiteState) (given : Input) (u : Live) (p : Pending) (rec : ℕ) (deed : Deed) : Type 0 where
  pub next : IsNext given u p
  pub writes : Changes catalogue p rec deed
  pub may : May catalogue x u rec deed
  pub usable : is_open x rec ≡ true
  pub unwritten : value_at rec (last_changes (entry_of u)) ≡ None
  pub others : is_empty (other_holders catalogue x rec) ≡ false

pub record AskingVotes (given : Input) (u : Live) (p : Pending) : Type 0 where
  pub next : IsNext given u p
  pub commit : is_commit p.call ≡ true
  pub parts : is_empty u.parts ≡ false

-- what a live transaction was as the step began
pub data LiveNow (catalogue : Catalogue) (x : SiteState) (given : Input) (now : Live) : Type 0 where
  still : Has x.live now → LiveNow catalogue x given now
  marked : (u : Live) → Has x.live u → given ≡ input.Tick → mark u ≡ now → LiveNow catalogue x given now
  waits : (u : Live) (p : Pending) (from : ℕ) → Has x.live u → u.pending ≡ Some p → has p.missing from ≡ true → is_empty (remaining from p) ≡ false → Counts catalogue given u p from → waiting u p (remaining from p) ≡ now → LiveNow catalogue x given now
  completed : (u : Live) (p : Pending) (deed : Deed) (l : Lent) → Has x.live u → Completes catalogue x given u p deed l → done u p deed ≡ now → LiveNow catalogue x given now
  reads : (u : Live) (p : Pending) (rec q : ℕ) → Has x.live u → AskingRead catalogue x given u p rec q → reading u p rec q ≡ now → LiveNow catalogue x given now
  writes : (u : Live) (p : Pending) (rec : ℕ) (deed : Deed) → Has x.live u → AskingWrite catalogue x given u p rec deed → writing u p (other_holders catalogue x rec) ≡ now → LiveNow catalogue x given now
  prepares : (u : Live) (p : Pending) → Has x.live u → AskingVotes given u p → waiting u p u.parts ≡ now → LiveNow catalogue x given now
  begins : (view : View) → x.held ≡ Some view → begun (next_name x) view.id ≡ now → LiveNow catalogue x given now

-- no other live transaction has this one's name
abbrev pub Only : List Live → Live → Type 0
Only live now = (t : Live) → Has live t → t.txn ≡ now.txn → t ≡ now

-- why a message is sent, and what its transaction is after the step
pub data SentFor (catalogue : Catalogue) (x : SiteState) (given : Input) (live : List Live) (m : Sent) : Type 0 where
  aside : Aside x m → SentFor catalogue x given live m
  outcome : (txn : TxnId) (commit : Bool) → m.from ≡ x.id → m.message ≡ message.Outcome txn commit → SentFor catalogue x given live m
  reads : (u : Live) (p : Pending) (rec q : ℕ) → Has x.live u → AskingRead catalogue x given u p rec q → Only live (reading u p rec q) → letter x.id q (message.ReadRequest u.txn u.view p.number rec) ≡ m → SentFor catalogue x given live m
  writes : (u : Live) (p : Pending) (rec : ℕ) (deed : Deed) (q : ℕ) → Has x.live u → AskingWrite catalogue x given u p rec deed → Has (other_holders catalogue x rec) q → Only live (writing u p (other_holders catalogue x rec)) → letter x.id q (message.WriteRequest u.txn u.view p.number rec) ≡ m → SentFor catalogue x given live m
  prepares : (u : Live) (p : Pending) (q : ℕ) → Has x.live u → AskingVotes given u p → Has u.parts q → Only live (waiting u p u.parts) → letter x.id q (prepare_for catalogue u p q) ≡ m → SentFor catalogue x given live m

-- why a transaction is entered
pub record EnteredFor (catalogue : Catalogue) (x : SiteState) (given : Input) (e : Commit) : Type 0 where
  pub was : Live
  pub handled : Handled x was
  pub decides : Decides catalogue x given was
  pub is : entry_of was ≡ e

pub record Steps (catalogue : Catalogue) (x : SiteState) (given : Input) (c : CoordinatorState) (ms : List Sent) (cs : List Commit) : Type 0 where
  pub apart : Apart c.live
  pub live : (t : Live) → Has c.live t → LiveNow catalogue x given t
  pub sent : (m : Sent) → Has ms m → SentFor catalogue x given c.live m
  pub entered : (e : Commit) → Has cs e → EnteredFor catalogue x given e

only_fewer : (live now : List Live) (t : Live) → ((u : Live) → Has now u → Has live u) → Only live t → Only now t
only_fewer live now t sub h u k e = h u (sub u k) e

sent_fewer : (catalogue : Catalogue) (x : SiteState) (given : Input) (live now : List Live) (m : Sent) → ((u : Live) → Has now u → Has live u) → SentFor catalogue x given live m → SentFor catalogue x given now m
sent_fewer catalogue x given live now m sub (SentFor.aside a) = SentFor.aside a
sent_fewer catalogue x given live now m sub (SentFor.outcome txn commit f e) = SentFor.outcome txn commit f e
sent_fewer catalogue x given live now m sub (SentFor.reads u p rec q h a o e) = SentFor.reads u p rec q h a (only_fewer live now _ sub o) e
sent_fewer catalogue x given live now m sub (SentFor.writes u p rec value q h a k o e) = SentFor.writes u p rec value q h a k (only_fewer live now _ sub o) e
sent_fewer catalogue x given live now m sub (SentFor.prepares u p q h a k o e) = SentFor.prepares u p q h a k (only_fewer live now _ sub o) e

pub locked_effects : (x : SiteState) (t : Live) (rec : ℕ) (l : Lent) → Locked x t rec l → l.effects ≡ (lent_at x).effects
unfolding take_lock
locked_effects x t rec l (Locked.no_copy n e) = ap (λ (l : Lent). l.effects) e
locked_effects x t rec l (Locked.locked stored v c e) = ap (λ (l : Lent). l.effects) e

pub completes_effects : (catalogue : Catalogue) (x : SiteState) (given : Input) (t : Live) (p : Pending) (deed : Deed) (l : Lent) → Completes catalogue x given t p deed l → l.effects ≡ (lent_at x).effects
unfolding take_lock
completes_effects catalogue x given t p deed l (Completes.own_write rec value next r a v o e) = ap (λ (l : Lent). l.effects) e
completes_effects catalogue x given t p deed l (Completes.own_copy rec stored next r a v c f o e) = ap (λ (l : Lent). l.effects) e
completes_effects catalogue x given t p deed l (Completes.change_again rec before next r a v e) = ap (λ (l : Lent). l.effects) e
completes_effects catalogue x given t p deed l (Completes.change_alone rec next r a v n e) = locked_effects x t rec l e
completes_effects catalogue x given t p deed l (Completes.read_answered from rec value c last r o e) = ap (λ (l : Lent). l.effects) e
completes_effects catalogue x given t p deed l (Completes.change_answered from rec c last r e) = ap (λ (l : Lent). l.effects) e

module _ (catalogue : Catalogue) (x : SiteState) (given : Input) (led : Led x) (apart : Apart x.live) where
  abbrev R : CoordinatorState → List Sent → List Commit → Type 0
  R = Steps catalogue x given

  starts : R x.coordinator [] []
  starts = record { apart = apart; live = λ t h. LiveNow.still h; sent = λ m h. absurd (has_none m h); entered = λ e h. absurd (has_none e h) }

  -- one transaction moves on, where nothing was sent or entered before
  moves_on : (now : Live) (c : CoordinatorState) (ms : List Sent) → c.live ≡ x.live → LiveNow catalogue x given now → ((m : Sent) → Has ms m → Only (change_first (named now.txn) (λ (u : Live). now) c.live) now → SentFor catalogue x given (change_first (named now.txn) (λ (u : Live). now) c.live) m) → R (put_live now c) ms []
  moves_on now c ms v from sent =
      let away : Apart c.live = subst Apart (sym v) apart in
      record {
        apart = apart_change now c.live away;
        live = λ t h. ⊎_elim (λ (is : t ≡ now). subst (LiveNow catalogue x given) (sym is) from) (λ old. LiveNow.still (rw v at old.0)) (change_cases now c.live away t h);
        sent = λ m h. sent m h (λ t k e. ⊎_elim (λ (is : t ≡ now). is) (λ old. absurd (old.1 e)) (change_cases now c.live away t k));
        entered = λ e h. absurd (has_none e h);
      }

  abbrev L : Lent → Type 0
  L l = R l.coordinator l.effects.messages l.effects.commits

  -- fewer live ones, and outcomes
  fewer : (c now : CoordinatorState) (ms extra : List Sent) (cs more : List Commit) → Apart now.live → ((t : Live) → Has now.live t → Has c.live t) → ((m : Sent) → Has extra m → SentFor catalogue x given now.live m) → ((e : Commit) → Has more e → EnteredFor catalogue x given e) → R c ms cs → R now (ms ++ extra) (cs ++ more)
  fewer c now ms extra cs more away sub sent entered r = record {
    apart = away;
    live = λ t h. r.live t (sub t h);
    sent = λ m h. ⊎_elim (λ old. sent_fewer catalogue x given c.live now.live m sub (r.sent m old)) (λ new. sent m new) (has_cases ms extra m h);
    entered = λ e h. ⊎_elim (λ old. r.entered e old) (λ new. entered e new) (has_cases cs more e h);
  }

  outcomes : (txn : TxnId) (commit : Bool) (sites : List ℕ) (live : List Live) (m : Sent) → Has (letters x.id (λ q. message.Outcome txn commit) sites) m → SentFor catalogue x given live m
  outcomes txn commit sites live m h = let r = map_has (λ (q : ℕ). letter x.id q (message.Outcome txn commit)) sites m h in SentFor.outcome txn commit (sym (ap (λ (m : Sent). m.from) r.2)) (sym (ap (λ (m : Sent). m.message) r.2))

  ends : (t : Live) (why : Ending) (commit : Bool) (l now : Lent) (more : List Commit) → Ends x.id t why commit l now → now.effects.commits ≡ l.effects.commits ++ more → ((e : Commit) → Has more e → EnteredFor catalogue x given e) → L l → L now
  ends t why commit l now more e same entered r =
      rw (e.coordinator, e.messages, same) (fewer l.coordinator (with_finished t why l.coordinator) l.effects.messages (letters x.id (λ q. message.Outcome t.txn commit) t.parts) l.effects.commits more (apart_without t.txn l.live r.apart) (λ u h. without_first_has (named t.txn) l.live u h) (outcomes t.txn commit t.parts _) entered r)

  closes : (t : Live) (why : Ending) (l : Lent) → L l → L (close x.id t why l)
  closes t why l r = ends t why false l _ [] (close-ends x.id t why l) (close-commits x.id t why l ∙ sym (append-nil l.effects.commits)) (λ e h. absurd (has_none e h)) r

  decides : (t : Live) → Handled x t → Decides catalogue x given t → L (decide catalogue x.id t (lent_at x))
  unfolding keep_writes
  decides t n d = decide-cases L catalogue x.id t (lent_at x)
      (λ z. ends t Committed true (lent_at x) _ (entry ∷ []) (decided-ends x.id t (lent_at x)) (decided-commits x.id t (lent_at x)) entered starts)
      (λ z. ends t Committed true (keep_writes catalogue x.id t (lent_at x)) _ (entry ∷ []) (decided-ends x.id t _) (decided-commits x.id t _) entered (record { apart = starts.apart; live = starts.live; sent = starts.sent; entered = starts.entered }))
    where
      entry : Commit
      entry = entry_of t

      entered : (e : Commit) → Has (entry ∷ []) e → EnteredFor catalogue x given e
      entered e h = record { was = t; handled = n; decides = d; is = has_one_is entry e h }

  not_named : (t : Live) → Has x.live t → t.txn ≢ next_name x
  not_named t h e = one_above t.txn.seq x.seq (led.names t h).2 (ap (λ (t : TxnId). t.seq) e)

  marks : (l : Lent) → given ≡ input.Tick → Closed x l → L l → R (record l.coordinator { live = map mark l.live }) l.effects.messages l.effects.commits
  marks l tick c r = record {
    apart = apart_mark l.live r.apart;
    live = λ t h. let q = map_has mark l.live t h in LiveNow.marked q.0 (c.live q.0 q.1) tick q.2;
    sent = λ m h. let q = c.messages m h in SentFor.outcome q.0 false (from_here m h) q.1;
    entered = r.entered;
  }
    where
      from_here : (m : Sent) → Has l.effects.messages m → m.from ≡ x.id
      from_here m h = go (r.sent m h)
        where
          go : SentFor catalogue x given l.live m → m.from ≡ x.id
          go (SentFor.aside a) = a.from
          go (SentFor.outcome txn commit f e) = f
          go (SentFor.reads u p rec q h a o e) = ap (λ (m : Sent). m.from) (sym e)
          go (SentFor.writes u p rec value q h a k o e) = ap (λ (m : Sent). m.from) (sym e)
          go (SentFor.prepares u p q h a k o e) = ap (λ (m : Sent). m.from) (sym e)

  completes : (t : Live) (p : Pending) (deed : Deed) (l : Lent) → Has x.live t → Completes catalogue x given t p deed l → l.live ≡ x.live → L (complete t p deed l)
  unfolding complete
  completes t p deed l h g v =
      let e = completes_effects catalogue x given t p deed l g in
      let ms : l.effects.messages ≡ [] = ap (λ (e : Effects). e.messages) e in
      let cs : l.effects.commits ≡ [] = ap (λ (e : Effects). e.commits) e in
      rw (ms, cs) (moves_on (done t p deed) l.coordinator [] v (LiveNow.completed t p deed l h g refl) (λ m k o. absurd (has_none m k)))

  writes_at : (t : Live) (p : Pending) (rec : ℕ) (deed : Deed) (l : Lent) → Has x.live t → AskingWrite catalogue x given t p rec deed → Locked x t rec l → l.live ≡ x.live → L (write_at x.id t p rec (other_holders catalogue x rec) l)
  unfolding write_at
  writes_at t p rec value l h a d v =
      let e = locked_effects x t rec l d in
      let ms : l.effects.messages ≡ [] = ap (λ (e : Effects). e.messages) e in
      let cs : l.effects.commits ≡ [] = ap (λ (e : Effects). e.commits) e in
      let others = other_holders catalogue x rec in
      rw (ms, cs) (moves_on (writing t p others) l.coordinator (letters x.id (λ q. message.WriteRequest t.txn t.view p.number rec) others) v (LiveNow.writes t p rec value h a refl)
      (λ m k o. let r = map_has (λ (q : ℕ). letter x.id q (message.WriteRequest t.txn t.view p.number rec)) others m k in SentFor.writes t p rec value r.0 h a r.1 o r.2))

  reads_at : (t : Live) (p : Pending) (rec q : ℕ) → Has x.live t → AskingRead catalogue x given t p rec q → L (read_at x.id t p rec q (lent_at x))
  unfolding read_at
  reads_at t p rec q h a = moves_on (reading t p rec q) x.coordinator (letter x.id q (message.ReadRequest t.txn t.view p.number rec) ∷ []) refl (LiveNow.reads t p rec q h a refl)
      (λ m k o. SentFor.reads t p rec q h a o (has_one_is (letter x.id q (message.ReadRequest t.txn t.view p.number rec)) m k))

  asks_votes : (t : Live) (p : Pending) → Has x.live t → AskingVotes given t p → L (prepare_parts catalogue x.id t p (lent_at x))
  unfolding prepare_parts
  asks_votes t p h a = moves_on (waiting t p t.parts) x.coordinator (letters x.id (prepare_for catalogue t p) t.parts) refl (LiveNow.prepares t p h a refl)
      (λ m k o. let r = map_has (λ (q : ℕ). letter x.id q (prepare_for catalogue t p q)) t.parts m k in SentFor.prepares t p r.0 h a r.1 o r.2)

  pub moves : OfCoordinator catalogue x given L
  unfolding start_txn take_lock mark_calls
  moves = record {
    begin = λ port view e g u. record {
      apart = apart_more (begun (next_name x) view.id) x.live apart not_named;
      live = λ t h. ⊎_elim (λ old. LiveNow.still old) (λ new. LiveNow.begins view e (has_one_is (begun (next_name x) view.id) t new)) (has_cases x.live (begun (next_name x) view.id ∷ []) t h);
      sent = λ m h. absurd (has_none m h);
      entered = λ e h. absurd (has_none e h);
    };
    answers = λ words port why y. starts;
    take_lock = λ t rec exclusive stored h i a v c. starts;
    complete = λ t p deed l h g y e r. completes t p deed l h g e;
    read_at = λ t p rec q h n r a w c o y. reads_at t p rec q h (record { next = n; reads = r; usable = a; unwritten = w; no_copy = c; holder = o });
    write_at = λ t p rec value l h n w a e o d y v r. writes_at t p rec value l h (record { next = n; writes = w; may = a; usable = a.usable; unwritten = e; others = o }) d v;
    prepare_parts = λ t p h i g e. asks_votes t p h (record { next = i; commit = g; parts = e });
    still_waits = λ t p from h e m f c. moves_on (waiting t p (remaining from p)) x.coordinator [] refl (LiveNow.waits t p from h e m f c refl) (λ m k o. absurd (has_none m k));
    decide = λ t n d. decides t n d;
    close = λ t why l n a z y r. closes t why l r;
    mark_calls = λ l c z r. marks l c z r;
    acknowledge = λ from txn c w. starts_with (with_acknowledged txn from x.coordinator) refl;
  }
    where
      starts_with : (c : CoordinatorState) → c.live ≡ x.live → R c [] []
      starts_with c e = record { apart = subst Apart (sym e) apart; live = λ t h. LiveNow.still (rw e at h); sent = λ m h. absurd (has_none m h); entered = λ e h. absurd (has_none e h) }

  sent_back : (from : ℕ) (m : Message) → SendsBack x given from m → SentFor catalogue x given x.live (letter x.id from m)
  sent_back from _ (SendsBack.answer_inquiry txn c s n) = SentFor.outcome txn (is_decided txn x.decisions) refl refl
  sent_back from m t = SentFor.aside (record { from = refl; aside = refl })

  pub keeps : Keeps catalogue x given R
  keeps = record {
    aside = λ c ms extra cs quiet r. plus c ms extra cs (λ m h. SentFor.aside (quiet m h)) r;
    starts = starts;
    moves = moves;
    sends_back = λ from m t. record {
      apart = apart;
      live = starts.live;
      sent = λ sent h. subst (SentFor catalogue x given x.live) (has_one_is (letter x.id from m) sent h) (sent_back from m t);
      entered = starts.entered;
    };
    resends = λ c d ms cs tick h r. plus c ms _ cs (outcomes d.txn true d.waiting c.live) r;
  }
    where
      plus : (c : CoordinatorState) (ms extra : List Sent) (cs : List Commit) → ((m : Sent) → Has extra m → SentFor catalogue x given c.live m) → R c ms cs → R c (ms ++ extra) cs
      plus c ms extra cs new r = record {
        apart = r.apart;
        live = r.live;
        sent = λ m h. ⊎_elim (λ old. r.sent m old) (λ more. new m more) (has_cases ms extra m h);
        entered = r.entered;
      }

pub steps-step : (catalogue : Catalogue) (x : SiteState) (given : Input) → Led x → Apart x.live → OnCoordinator catalogue x given (Steps catalogue x given) (step catalogue x given)
steps-step catalogue x given led apart =
    let k = keeps catalogue x given led apart in
    step-keeps catalogue x given (OnCoordinator catalogue x given (Steps catalogue x given)) (only_table catalogue x given (Steps catalogue x given) k) (only_begins catalogue x given (Steps catalogue x given) k)
