-- A site's own transactions: they are named by the site and its life, run in the held view, and have members of it as parts. A site
-- without a view has none, and nothing under refresh. What a step asks of others for them is asked in the held view, of its
-- members.
use Rattle.std.proofs.Common.{◌≡◌, ◌≢◌, ◌⊎◌, ◌∙◌, ap, sym, ℕ, ◌+◌, ◌≤◌, Bool, true, false, List, [], ◌∷◌, ◌++◌, refl, arith, inl, inr, ⊎_elim, append-nil}
use Rattle.std.specs.Prelude.{Option, Some, None, is_some, ◌&&◌, ◌==◌, not, filter}
use Rattle.vp_laws.proofs.Moves.Calls.{done}
use Rattle.vp_model.specs.Types.{ViewId, TxnId, View, Stored, Message, Sent, Commit, Input, Refreshing, Pending, Live, Ending, Doubt, Decision}
use Rattle.vp_base.specs.declared.site.Ending.TheVariants.{Committed}
use Rattle.vp_model.specs.Types.owner
use Rattle.vp_model.specs.Locks.{without_owner}
use Rattle.vp_model.specs.Types.message
use Rattle.vp_model.specs.Words.{same_txn, is_view, has, for_each, put_number}
use Rattle.vp_model.specs.Catalogue.{Catalogue, holders}
use Rattle.vp_model.specs.Durable.{doubt_of}
use Rattle.vp_model.specs.Site.{ViewState, CoordinatorState, ParticipantState, SiteState, Lent, Stepped, begin_step, lent, put_back, letters}
use Rattle.vp_model.specs.Transactions.{Deed, entry_of, with_finished, close, put_live, decided, keep_writes, complete, wait_for}
use Rattle.vp_model.specs.Refresh.{members, unlist, end_refresh, start_refresh, other_holders}
use Rattle.vp_model.specs.Views.{other_sites, drop_view, start_inviting, hold}
use Rattle.vp_model.specs.Calls.{begun, with_begun, start_txn, take_lock, read_at, write_at, prepare_parts, prepare_for}
use Rattle.vp_model.specs.Messages.{with_ended, accept, on_accept, on_stale, with_heard, grant, end_here}
use Rattle.vp_model.specs.Step.{step, with_monitor, fix, mark, probe_all, mark_calls, resend_one}
use Rattle.vp_laws.proofs.Lists.Members.{Has, has_none, has_one_is, has_first, has_more, has_cases, has_from_test, filter_has, map_has, both_true}
use Rattle.vp_laws.proofs.Lists.Views.{put_only, is_view_is}
use Rattle.vp_laws.proofs.Moves.Frames.{Ends, close-ends, close-commits, decided-ends, decided-commits, decide-cases, judged, take-cases}
use Rattle.vp_laws.proofs.Lists.Changes.{without_first_has, change_first_has}
use Rattle.vp_laws.proofs.Moves.Table.{next_view, next_name, lent_at, Left, Handled, Back, SendsBack, Table, AsksAgain}
use Rattle.vp_laws.proofs.Moves.Rows.{step-keeps}
use Rattle.vp_laws.proofs.Moves.LocalViews.{letter, Tidy}
use Rattle.vp_laws.proofs.Moves.Parts.{with_part_ended}
use Rattle.vp_laws.proofs.Lists.Numbers.{differs}

abbrev pub IsOf : SiteState → Live → Type 0
IsOf x t = (v : View) × (x.held ≡ Some v) × (v.id ≡ t.view) × ((q : ℕ) → Has t.parts q → Has v.members q × (q ≢ x.id))

pub record Led (x : SiteState) : Type 0 where
  pub live : (t : Live) → Has x.live t → IsOf x t
  pub names : (t : Live) → Has x.live t → (t.txn.site ≡ x.id) × (t.txn.life ≡ x.life) × (t.txn.seq ≤ x.seq)
  pub idle : x.held ≡ None → (x.ended ≡ []) × (x.refresh ≡ []) × (x.monitor ≡ None)

-- a request or a prepare of a transaction of this site, to another member of the held view
abbrev pub AskedOf : SiteState → ℕ → ℕ → TxnId → ViewId → Type 0
AskedOf x from to txn view = (v : View) × (x.held ≡ Some v) × (v.id ≡ view) × Has v.members to × (to ≢ x.id) × (txn.site ≡ x.id) × (txn.life ≡ x.life) × (txn.seq ≤ x.seq) × (from ≡ x.id)

abbrev pub MayAsk : SiteState → ℕ → ℕ → Message → Type 0
MayAsk x from to (message.ReadRequest txn view number rec) = AskedOf x from to txn view
MayAsk x from to (message.WriteRequest txn view number rec) = AskedOf x from to txn view
MayAsk x from to (message.Prepare txn view number reads writes) = AskedOf x from to txn view
MayAsk x from to m = Unit {0}

-- an entry is of a transaction of this site, in the held view
abbrev pub MayEnter : SiteState → Commit → Type 0
MayEnter x c = (u : Live) × Has x.live u × (c.txn ≡ u.txn) × (c.view ≡ u.view) × (c.ops ≡ u.ops)

pub record Leads (x : SiteState) (o : Stepped) : Type 0 where
  pub id : o.site.id ≡ x.id
  pub life : o.site.life ≡ x.life
  pub seq : x.seq ≤ o.site.seq
  pub led : Led o.site
  pub sent : (m : Sent) → Has o.effects.messages m → MayAsk x m.from m.to m.message
  pub commits : (c : Commit) → Has o.effects.commits c → MayEnter x c

abbrev pub asks_none : Message → Bool
asks_none (message.ReadRequest txn view number rec) = false
asks_none (message.WriteRequest txn view number rec) = false
asks_none (message.Prepare txn view number reads writes) = false
asks_none m = true

pub none-may : (x : SiteState) (from to : ℕ) (m : Message) → asks_none m ≡ true → MayAsk x from to m
none-may x from to (message.ReadRequest txn view number rec) e = cc
none-may x from to (message.WriteRequest txn view number rec) e = cc
none-may x from to (message.Prepare txn view number reads writes) e = cc
none-may x from to m e = tt

back_none : (x : SiteState) (given : Input) (from : ℕ) (m : Message) → SendsBack x given from m → asks_none m ≡ true
back_none x given from _ (SendsBack.stale id c e) = refl
back_none x given from m t = refl

again_none : (catalogue : Catalogue) (x : SiteState) (given : Input) (o : Stepped) (to : ℕ) (m : Message) → AsksAgain catalogue x given o to m → asks_none m ≡ true
again_none catalogue x given o to _ (AsksAgain.refresh view r e h v q) = refl
again_none catalogue x given o to m a = refl

-- the same transactions, views and lists
pub record SameLed (a b : SiteState) : Type 0 where
  pub id : b.id ≡ a.id
  pub life : b.life ≡ a.life
  pub seq : b.seq ≡ a.seq
  pub live : b.live ≡ a.live
  pub held : b.held ≡ a.held
  pub ended : b.held ≡ None → a.ended ≡ [] → b.ended ≡ []
  pub refresh : b.held ≡ None → a.refresh ≡ [] → b.refresh ≡ []
  pub monitor : b.held ≡ None → a.monitor ≡ None → b.monitor ≡ None

led_same : (a b : SiteState) → SameLed a b → Led a → Led b
led_same a b e l = record {
  live = λ t h. let q = l.live t (rw e.live at h) in (q.0, e.held ∙ q.1, q.2, (λ p g. ((q.3 p g).0, (λ z. (q.3 p g).1 (z ∙ e.id)))));
  names = λ t h. let q = l.names t (rw e.live at h) in (q.0 ∙ sym e.id, q.1 ∙ sym e.life, rw e.seq q.2);
  idle = λ n. let q = l.idle (sym e.held ∙ n) in (e.ended n q.0, e.refresh n q.1, e.monitor n q.2);
}

pub self_same : (a : SiteState) → SameLed a a
self_same a = record { id = refl; life = refl; seq = refl; live = refl; held = refl; ended = λ n h. h; refresh = λ n h. h; monitor = λ n h. h }

put_all-has : (ns ms : List ℕ) (a : ℕ) → Has (for_each ns put_number ms) a → Has ms a ⊎ Has ns a
put_all-has [] ms a h = inl h
put_all-has (n ∷ ns) ms a h =
    ⊎_elim (λ old. ⊎_elim (λ q. inl q) (λ (e : n ≡ a). inr (rw e (has_first a ns))) (put_only n ms a old)) (λ more. inr (has_more n ns a more)) (put_all-has ns (put_number n ms) a h)

-- the other holders of a record in the held view are other members
others-are : (catalogue : Catalogue) (x : SiteState) (rec q : ℕ) (v : View) → x.held ≡ Some v → Has (other_holders catalogue x rec) q → Has v.members q × (q ≢ x.id)
others-are catalogue x rec q v e h =
    let f = filter_has (λ q. has (members x) q && not (q == x.id)) (holders catalogue rec) q h in
    let b = both_true (has (members x) q) (not (q == x.id)) f.1 in
    (has_from_test v.members q (rw e at b.0), differs q x.id b.1)

module _ (catalogue : Catalogue) (x : SiteState) (given : Input) (tidy : Tidy x) (led : Led x) where
  begins : Leads x (begin_step x)
  begins = record { id = refl; life = refl; seq = omega arith; led = led; sent = λ m h. absurd (has_none m h); commits = λ c h. absurd (has_none c h) }

  beside : (o e : Stepped) (more : List Sent) → SameLed o.site e.site → e.effects.messages ≡ o.effects.messages ++ more → e.effects.commits ≡ o.effects.commits → ((m : Sent) → Has more m → asks_none m.message ≡ true) → Leads x o → Leads x e
  beside o e more same ms cs quiet l = record {
    id = same.id ∙ l.id;
    life = same.life ∙ l.life;
    seq = rw same.seq l.seq;
    led = led_same o.site e.site same l.led;
    sent = λ m h. ⊎_elim (λ old. l.sent m old) (λ new. none-may x m.from m.to m.message (quiet m new)) (has_cases o.effects.messages more m (rw ms at h));
    commits = λ c h. l.commits c (rw cs at h);
  }

  silent : (o e : Stepped) → SameLed o.site e.site → e.effects.messages ≡ o.effects.messages → e.effects.commits ≡ o.effects.commits → Leads x o → Leads x e
  silent o e same ms cs l = beside o e [] same (ms ∙ sym (append-nil o.effects.messages)) cs (λ m h. absurd (has_none m h)) l

  letters_none : (from : ℕ) (message_to : ℕ → Message) (sites : List ℕ) → ((q : ℕ) → asks_none (message_to q) ≡ true) → (m : Sent) → Has (letters from message_to sites) m → asks_none m.message ≡ true
  letters_none from message_to sites quiet m h =
      let r = map_has (λ (q : ℕ). letter from q (message_to q)) sites m h in rw (sym (ap (λ (m : Sent). m.message) r.2)) (quiet r.0)

  one : (o : Stepped) (from to : ℕ) (words : Message) → asks_none words ≡ true → SameLed x o.site → o.effects.messages ≡ letter from to words ∷ [] → o.effects.commits ≡ [] → Leads x o
  one o from to words quiet same ms cs =
      beside (begin_step x) o (letter from to words ∷ []) same ms cs (λ m h. rw (sym (ap (λ (m : Sent). m.message) (has_one_is (letter from to words) m h))) quiet) begins

  -- a site with no view has no live transaction
  none_live : x.held ≡ None → (t : Live) → Has x.live t → ⊥
  none_live e t h = let q = (led.live t h).1 in cc

  nothing : {X : Type 0} (xs : List X) → ((y : X) → Has xs y → ⊥) → xs ≡ []
  nothing [] h = refl
  nothing (y ∷ xs) h = absurd (h y (has_first y xs))

  abbrev K : Lent → Type 0
  K = Back x (Leads x)

  -- a transaction ends
  ended_led : (t : Live) (why : Ending) (s : SiteState) → Led s → Led (record s { here = record s.here { locks = without_owner (owner.Txn t.txn) s.here.locks }; coordinator = with_finished t why s.coordinator })
  ended_led t why s l = record {
    live = λ u h. l.live u (without_first_has _ s.live u h);
    names = λ u h. l.names u (without_first_has _ s.live u h);
    idle = λ n. l.idle n;
  }

  ends : (t : Live) (why : Ending) (commit : Bool) (l now : Lent) → Ends x.id t why commit l now → ((c : Commit) → Has now.effects.commits c → Has l.effects.commits c ⊎ MayEnter x c) → K l → K now
  ends t why commit l now e entered q = record {
    id = refl;
    life = refl;
    seq = rw e.coordinator q.seq;
    led = rw (e.here, e.coordinator) (ended_led t why (put_back (begin_step x) l).site q.led);
    sent = λ m h. ⊎_elim (λ old. q.sent m old) (λ new. none-may x m.from m.to m.message (letters_none x.id (λ q. message.Outcome t.txn commit) t.parts (λ q. refl) m new)) (has_cases l.effects.messages (letters x.id (λ q. message.Outcome t.txn commit) t.parts) m (rw e.messages at h));
    commits = λ c h. ⊎_elim (λ old. q.commits c old) (λ new. new) (entered c h);
  }

  closes : (t : Live) (why : Ending) (l : Lent) → K l → K (close x.id t why l)
  closes t why l q = ends t why false l _ (close-ends x.id t why l) (λ c h. inl (rw close-commits at h)) q

  decideds : (t : Live) (l : Lent) → Handled x t → K l → K (decided x.id t l)
  decideds t l n q = ends t Committed true l _ (decided-ends x.id t l)
      (λ c h. ⊎_elim (λ old. inl old) (λ new. inr (rw (← (has_one_is (entry_of t) c new)) (n.was, n.live, ap (λ (t : Live). t.txn) n.same, ap (λ (t : Live). t.view) n.same, ap (λ (t : Live). t.ops) n.same))) (has_cases l.effects.commits _ c (rw decided-commits at h))) q

  -- only the locks or the copies, and other words than asking ones
  plain : (l now : Lent) → now.seq ≡ l.seq → now.live ≡ l.live → now.effects.messages ≡ l.effects.messages → now.effects.commits ≡ l.effects.commits → K l → K now
  plain l now s v ms cs q = silent (put_back (begin_step x) l) (put_back (begin_step x) now) (record { id = refl; life = refl; seq = s; live = v; held = refl; ended = λ n h. h; refresh = λ n h. h; monitor = λ n h. h }) ms cs q

  keeps_writes : (t : Live) (l : Lent) → K l → K (keep_writes catalogue x.id t l)
  unfolding keep_writes
  keeps_writes t l q = plain l _ refl refl refl refl q

  -- a live transaction moves on: it has its name and view, and its parts are other members
  led_put : (t u : Live) (s : SiteState) → s.live ≡ x.live → Has x.live u → t.txn ≡ u.txn → t.view ≡ u.view → ((v : View) → s.held ≡ Some v → (q : ℕ) → Has t.parts q → Has u.parts q ⊎ (Has v.members q × (q ≢ s.id))) → Led s → Led (record s { coordinator = put_live t s.coordinator })
  led_put t u s e h same_txn same_view parts l = record {
    live = λ a q. ⊎_elim (λ (is : a ≡ t). rw is moved) (λ old. l.live a old) (change_first_has _ t s.live a q);
    names = λ a q. ⊎_elim (λ (is : a ≡ t). rw is (rw same_txn (l.names u (rw e h)))) (λ old. l.names a old) (change_first_has _ t s.live a q);
    idle = λ n. l.idle n;
  }
    where
      moved : IsOf s t
      moved =
          let q = l.live u (rw e h) in
          (q.0, q.1, q.2 ∙ sym same_view, (λ p g. ⊎_elim (λ old. q.3 p old) (λ new. new) (parts q.0 q.1 p g)))

  completes : (t : Live) (p : Pending) (deed : Deed) (l : Lent) → Has x.live t → l.live ≡ x.live → K l → K (complete t p deed l)
  unfolding complete
  completes t p deed l h e q = record {
    id = refl;
    life = refl;
    seq = q.seq;
    led = led_put (done t p deed) t (put_back (begin_step x) l).site e h refl refl (λ v g q k. inl k) q.led;
    sent = q.sent;
    commits = q.commits;
  }

  -- what is asked of another member of the held view
  asked : (u : Live) (from to : ℕ) → Has x.live u → from ≡ x.id → ((v : View) → x.held ≡ Some v → Has v.members to × (to ≢ x.id)) → AskedOf x from to u.txn u.view
  asked u from to h f m =
      let q = led.live u h in
      let n = led.names u h in
      let k = m q.0 q.1 in
      (q.0, q.1, q.2, k.0, k.1, n.0, n.1, n.2, f)

  reads_at : (t : Live) (p : Pending) (rec q : ℕ) → Has x.live t → Has (other_holders catalogue x rec) q → K (read_at x.id t p rec q (lent_at x))
  unfolding read_at
  reads_at t p rec q h o = record {
    id = refl;
    life = refl;
    seq = omega arith;
    led = led_put (record t { remote = t.remote ++ (q, rec) ∷ []; parts = put_number q t.parts; pending = Some (record p { missing = q ∷ [] }) }) t x refl h refl refl
        (λ v e a k. ⊎_elim (λ old. inl old) (λ (is : q ≡ a). inr (rw (← is) (others-are catalogue x rec q v e o))) (put_only q t.parts a k)) led;
    sent = λ m k. rw (← (has_one_is (letter x.id q (message.ReadRequest t.txn t.view p.number rec)) m k)) (asked t x.id q h refl (λ v e. others-are catalogue x rec q v e o));
    commits = λ c k. absurd (has_none c k);
  }

  writes_at : (t : Live) (p : Pending) (rec : ℕ) (l : Lent) → Has x.live t → l.live ≡ x.live → K l → K (write_at x.id t p rec (other_holders catalogue x rec) l)
  unfolding write_at
  writes_at t p rec l h e q = record {
    id = refl;
    life = refl;
    seq = q.seq;
    led = led_put (record t { parts = for_each (other_holders catalogue x rec) put_number t.parts; pending = Some (record p { missing = other_holders catalogue x rec }) }) t (put_back (begin_step x) l).site e h refl refl
        (λ v g a k. ⊎_elim (λ old. inl old) (λ new. inr (others-are catalogue x rec a v g new)) (put_all-has (other_holders catalogue x rec) t.parts a k)) q.led;
    sent = λ m k. ⊎_elim (λ old. q.sent m old) (λ new. wrote m new) (has_cases l.effects.messages (letters x.id (λ q. message.WriteRequest t.txn t.view p.number rec) (other_holders catalogue x rec)) m k);
    commits = q.commits;
  }
    where
      wrote : (m : Sent) → Has (letters x.id (λ q. message.WriteRequest t.txn t.view p.number rec) (other_holders catalogue x rec)) m → MayAsk x m.from m.to m.message
      wrote m new =
          let r = map_has (λ (q : ℕ). letter x.id q (message.WriteRequest t.txn t.view p.number rec)) (other_holders catalogue x rec) m new in
          rw (← r.2) (asked t x.id r.0 h refl (λ v e. others-are catalogue x rec r.0 v e r.1))

  prepares : (t : Live) (p : Pending) → Has x.live t → K (prepare_parts catalogue x.id t p (lent_at x))
  unfolding prepare_parts
  prepares t p h = record {
    id = refl;
    life = refl;
    seq = omega arith;
    led = led_put (record t { pending = Some (record p { missing = t.parts }) }) t x refl h refl refl (λ v e a k. inl k) led;
    sent = λ m k.
        let r = map_has (λ (q : ℕ). letter x.id q (prepare_for catalogue t p q)) t.parts m k in
        rw (← r.2) (asked t x.id r.0 h refl (λ v e. part_of_view v e r.0 r.1));
    commits = λ c k. absurd (has_none c k);
  }
    where
      part_of_view : (v : View) → x.held ≡ Some v → (q : ℕ) → Has t.parts q → Has v.members q × (q ≢ x.id)
      part_of_view v e q k = let f = led.live t h in let same : f.0 ≡ v = (let a = f.1 in cc) in rw same at (f.3 q k)

  waits : (t : Live) (p : Pending) (missing : List ℕ) → Has x.live t → K (wait_for t p missing (lent_at x))
  waits t p missing h = record {
    id = refl;
    life = refl;
    seq = omega arith;
    led = led_put (record t { pending = Some (record p { missing = missing }) }) t x refl h refl refl (λ v e a k. inl k) led;
    sent = λ m k. absurd (has_none m k);
    commits = λ c k. absurd (has_none c k);
  }

  marks : (l : Lent) → K l → K (mark_calls l)
  unfolding mark_calls
  marks l q = record {
    id = refl;
    life = refl;
    seq = q.seq;
    led = record {
      live = λ t h. let r = map_has mark l.live t h in rw (← r.2) (q.led.live r.0 r.1);
      names = λ t h. let r = map_has mark l.live t h in rw (← r.2) (q.led.names r.0 r.1);
      idle = q.led.idle;
    };
    sent = q.sent;
    commits = q.commits;
  }

  begun_now : (view : View) → x.held ≡ Some view → Led (record x { coordinator = with_begun (begun (next_name x) view.id) x.coordinator })
  begun_now view e = record {
    live = λ t h. ⊎_elim (λ old. led.live t old) (λ new. rw (← (has_one_is (begun (next_name x) view.id) t new)) (view, e, refl, (λ q g. absurd (has_none q g)))) (has_cases x.live (begun (next_name x) view.id ∷ []) t h);
    names = λ t h. ⊎_elim (λ old. let n = led.names t old in (n.0, n.1, higher t.txn.seq x.seq n.2)) (λ new. rw (← (has_one_is (begun (next_name x) view.id) t new)) (refl, refl, self_at_most (x.seq + 1))) (has_cases x.live (begun (next_name x) view.id ∷ []) t h);
    idle = λ n. led.idle n;
  }
    where
      higher : (a b : ℕ) → a ≤ b → a ≤ b + 1
      higher a b h = omega arith

      self_at_most : (a : ℕ) → a ≤ a
      self_at_most a = omega arith

  -- no transaction is live where the views change
  empty_led : (s : SiteState) → s.live ≡ [] → (s.held ≡ None → (s.ended ≡ []) × (s.refresh ≡ []) × (s.monitor ≡ None)) → Led s
  empty_led s e idle = record {
    live = λ t h. absurd (has_none t (rw e at h));
    names = λ t h. absurd (has_none t (rw e at h));
    idle = idle;
  }

  no_live : x.held ≡ None → x.live ≡ []
  no_live e = nothing x.live (none_live e)

  -- a site that has left, and then invites or accepts
  after_left : (o e : Stepped) (more : List Sent) → Left x o → e.site.id ≡ o.site.id → e.site.life ≡ o.site.life → e.site.coordinator ≡ o.site.coordinator → e.site.participant ≡ o.site.participant → e.site.refresh ≡ o.site.refresh → e.site.monitor ≡ o.site.monitor → e.effects.messages ≡ o.effects.messages ++ more → e.effects.commits ≡ o.effects.commits → ((m : Sent) → Has more m → asks_none m.message ≡ true) → Leads x o → Leads x e
  after_left o e more left i f c p r n ms cs quiet l = record {
    id = i ∙ l.id;
    life = f ∙ l.life;
    seq = rw c l.seq;
    led = empty_led e.site (ap (λ (c : CoordinatorState). c.live) c ∙ left.live)
        (λ none. (ap (λ (p : ParticipantState). p.ended) (p ∙ left.participant), r ∙ left.refresh, n ∙ ap (λ (v : ViewState). v.monitor) left.views));
    sent = λ m h. ⊎_elim (λ old. l.sent m old) (λ new. none-may x m.from m.to m.message (quiet m new)) (has_cases o.effects.messages more m (rw ms at h));
    commits = λ c h. l.commits c (rw cs at h);
  }

  invites : (o : Stepped) → Left x o → Leads x o → Leads x (start_inviting catalogue (next_view x) o)
  unfolding start_inviting
  invites o left l =
      after_left o _ (letters o.site.id (λ q. message.Invite (next_view x)) (other_sites catalogue o.site.id)) left refl refl refl refl refl refl refl refl (letters_none o.site.id (λ q. message.Invite (next_view x)) (other_sites catalogue o.site.id) (λ q. refl)) l

  accepts : (from : ℕ) (id : ViewId) (o : Stepped) → Left x o → Leads x o → Leads x (accept from id o)
  unfolding accept
  accepts from id o left l =
      after_left o _ (letter o.site.id from (message.Accept id) ∷ []) left refl refl refl refl refl refl refl refl (λ m h. rw (sym (ap (λ (m : Sent). m.message) (has_one_is _ m h))) refl) l

  drops : (o : Stepped) → o.site.live ≡ [] → Leads x o → Leads x (drop_view o)
  unfolding drop_view
  drops o none l = record {
    id = l.id;
    life = l.life;
    seq = l.seq;
    led = empty_led _ none (λ n. (refl, refl, refl));
    sent = l.sent;
    commits = l.commits;
  }

  -- a view is held where none was
  joins : (o : Stepped) (v : View) → x.held ≡ None → o.site.id ≡ x.id → o.site.life ≡ x.life → o.site.coordinator ≡ x.coordinator → o.site.held ≡ Some v → o.effects.commits ≡ [] → ((m : Sent) → Has o.effects.messages m → asks_none m.message ≡ true) → Leads x o
  joins o v none i f c h cs quiet = record {
    id = i;
    life = f;
    seq = rw c (at_most x.seq);
    led = empty_led o.site (ap (λ (c : CoordinatorState). c.live) c ∙ no_live none) (λ n. absurd (let z = h in cc));
    sent = λ m g. none-may x m.from m.to m.message (quiet m g);
    commits = λ c k. absurd (has_none c (rw cs at k));
  }
    where
      at_most : (a : ℕ) → a ≤ a
      at_most a = omega arith

  holds : (id : ViewId) (members : List ℕ) → is_view x.waiting id ≡ true → Leads x (hold (record { id = id; members = members }) (begin_step x))
  unfolding hold
  holds id members e = joins _ (record { id = id; members = members }) (tidy.waiting id (is_view_is x.waiting id e)).1 refl refl refl refl refl (λ m h. absurd (has_none m h))

  fixes : (view : View) → x.inviting ≡ Some (view.id, view.members) → Leads x (fix view (begin_step x))
  unfolding fix hold
  fixes view e = joins _ view (tidy.inviting (view.id, view.members) e).1 refl refl refl refl refl (letters_none x.id (λ q. message.ViewCommit view.id view.members) (filter (λ q. not (q == x.id)) view.members) (λ q. refl))

  some_held : {C : Type 0} → is_some x.held ≡ true → x.held ≡ None → C
  some_held e n = absurd (not_some x.held e n)
    where
      not_some : (o : Option View) → is_some o ≡ true → o ≡ None → ⊥
      not_some None e n = cc
      not_some (Some v) e n = cc

  monitored : (v : ViewState) → v.held ≡ x.held → is_some x.held ≡ true → SameLed x (record x { views = v })
  monitored v h e = record { id = refl; life = refl; seq = refl; live = refl; held = h; ended = λ n q. q; refresh = λ n q. q; monitor = λ n q. some_held e (sym h ∙ n) }

  is_there : (v : View) → x.held ≡ Some v → is_some x.held ≡ true
  is_there v e = rw e refl

  starts_refresh : (view : View) (rec : ℕ) (o : Stepped) → o.site.held ≡ Some view → Leads x o → Leads x (start_refresh catalogue view rec o)
  unfolding start_refresh
  starts_refresh view rec o e l =
      beside o _ (letters o.site.id (λ q. message.RefreshRequest view.id rec) (other_holders catalogue o.site rec))
      (record { id = refl; life = refl; seq = refl; live = refl; held = refl; ended = λ n q. q; refresh = λ n q. absurd (let z = e in cc); monitor = λ n q. q }) refl refl
      (letters_none o.site.id (λ q. message.RefreshRequest view.id rec) (other_holders catalogue o.site rec) (λ q. refl)) l

  ends_refresh : (r : Refreshing) (own : Stored) (o : Stepped) → Leads x o → Leads x (end_refresh catalogue r own o)
  unfolding end_refresh unlist
  ends_refresh r own o l =
      silent (judged catalogue r own o) _ (record { id = refl; life = refl; seq = refl; live = refl; held = refl; ended = λ n q. q; refresh = λ n q. rw q refl; monitor = λ n q. q }) refl refl (take-cases (Leads x) catalogue r own o (silent o _ (record { id = refl; life = refl; seq = refl; live = refl; held = refl; ended = λ n q. q; refresh = λ n q. q; monitor = λ n q. q }) refl refl l) l
      (silent o _ (record { id = refl; life = refl; seq = refl; live = refl; held = refl; ended = λ n q. q; refresh = λ n q. q; monitor = λ n q. q }) refl refl l))

  ended_here : (in_view : Bool) (txn : TxnId) (p : ParticipantState) → in_view ≡ false → (with_ended in_view txn p).ended ≡ p.ended
  ended_here true txn p e = cc
  ended_here false txn p e = refl

  ends_here : (from : ℕ) (txn : TxnId) (commit : Bool) (doubt : Option Doubt) → Leads x (end_here from txn commit doubt (begin_step x))
  unfolding end_here
  ends_here from txn commit doubt = go commit doubt
    where
      kept_ended : (n : x.held ≡ None) → x.ended ≡ [] → (with_ended (is_some x.held) txn x.participant).ended ≡ []
      kept_ended n q = ended_here (is_some x.held) txn x.participant (rw n refl) ∙ q

      go : (commit : Bool) (doubt : Option Doubt) → Leads x (end_here from txn commit doubt (begin_step x))
      go true None = one _ x.id from (message.Ack txn) refl (record { id = refl; life = refl; seq = refl; live = refl; held = refl; ended = kept_ended; refresh = λ n q. q; monitor = λ n q. q }) refl refl
      go false None = silent (begin_step x) _ (record { id = refl; life = refl; seq = refl; live = refl; held = refl; ended = kept_ended; refresh = λ n q. q; monitor = λ n q. q }) refl refl begins
      go true (Some d) = one _ x.id from (message.Ack txn) refl (record { id = refl; life = refl; seq = refl; live = refl; held = refl; ended = kept_ended; refresh = λ n q. q; monitor = λ n q. q }) refl refl
      go false (Some d) = silent (begin_step x) _ (record { id = refl; life = refl; seq = refl; live = refl; held = refl; ended = kept_ended; refresh = λ n q. q; monitor = λ n q. q }) refl refl begins

  grants : (from : ℕ) (txn : TxnId) (view : ViewId) (rec : ℕ) (exclusive : Bool) (words : Message) → asks_none words ≡ true → Leads x (grant txn view rec exclusive words from (begin_step x))
  unfolding grant
  grants from txn view rec exclusive words quiet =
      one _ x.id from words quiet (record { id = refl; life = refl; seq = refl; live = refl; held = refl; ended = λ n q. with_part_ended x.participant txn view ∙ q; refresh = λ n q. q; monitor = λ n q. q }) refl refl

  resends : (d : Decision) (o : Stepped) → Leads x o → Leads x (put_back o (resend_one o.site.id d (lent o)))
  unfolding resend_one
  resends d o l = beside o _ (letters o.site.id (λ q. message.Outcome d.txn true) d.waiting) (self_same o.site) refl refl (letters_none o.site.id (λ q. message.Outcome d.txn true) d.waiting (λ q. refl)) l

  begins_one : (port : ℕ) (view : View) → x.held ≡ Some view → K (start_txn (next_name x) port view.id (lent_at x))
  unfolding start_txn
  begins_one port view e = record {
    id = refl;
    life = refl;
    seq = omega arith;
    led = begun_now view e;
    sent = λ m h. absurd (has_none m h);
    commits = λ c h. absurd (has_none c h);
  }

  plain_but : (s : SiteState) → s.id ≡ x.id → s.life ≡ x.life → s.coordinator.seq ≡ x.seq → s.coordinator.live ≡ x.live → s.views ≡ x.views → s.participant.ended ≡ x.ended → s.refresh ≡ x.refresh → SameLed x s
  plain_but s i f q l v p r = record {
    id = i;
    life = f;
    seq = q;
    live = l;
    held = ap (λ (v : ViewState). v.held) v;
    ended = λ n h. p ∙ h;
    refresh = λ n h. r ∙ h;
    monitor = λ n h. ap (λ (v : ViewState). v.monitor) v ∙ h;
  }

  pub table : Table catalogue x given (Leads x)
  unfolding on_accept on_stale take_lock
  table = record {
    sends_back = λ from m t. one _ x.id from m (back_none x given from m t) (self_same x) refl refl;
    asks_again = λ o ms all p. beside o _ ms (self_same o.site) refl refl (λ m h. again_none catalogue x given o m.to m.message (all m h).1) p;
    drop_view = λ l e z p. drops (put_back (begin_step x) l) e p;
    start_inviting = λ o s left l. invites o left l;
    accept = λ from id o c e left l. accepts from id o left l;
    accepted = λ from id c. silent (begin_step x) _ (record { id = refl; life = refl; seq = refl; live = refl; held = refl; ended = λ n q. q; refresh = λ n q. q; monitor = λ n q. q }) refl refl begins;
    seen = λ from id promise c. silent (begin_step x) _ (record { id = refl; life = refl; seq = refl; live = refl; held = refl; ended = λ n q. q; refresh = λ n q. q; monitor = λ n q. q }) refl refl begins;
    hold = λ from id members c e. holds id members (both_true _ _ e).0;
    heard = λ from view c e. silent (begin_step x) _ (monitored (with_heard from x.views) refl e) refl refl begins;
    fix = λ view c e. fixes view e;
    without_wait = λ id c i w. silent (begin_step x) _ (record { id = refl; life = refl; seq = refl; live = refl; held = refl; ended = λ n q. q; refresh = λ n q. q; monitor = λ n q. q }) refl refl begins;
    probe = λ view c e. beside (begin_step x) (probe_all catalogue view (begin_step x)) _ (monitored (with_monitor x.views) refl (is_there view e)) refl refl (letters_none x.id (λ q. message.Probe view.id) (other_sites catalogue x.id) (λ q. refl)) begins;
    start_refresh = λ view rec o e h l. starts_refresh view rec o e.held l;
    end_refresh = λ rec r own o e a d v l. ends_refresh r own o l;
    keep_answer = λ from view rec stored r c e f g. silent (begin_step x) _ (record { id = refl; life = refl; seq = refl; live = refl; held = refl; ended = λ n q. q; refresh = λ n q. rw q refl; monitor = λ n q. q }) refl refl begins;
    grant_read = λ from txn view number rec stored c e n v f u. grants from txn view rec false (message.ReadAnswer txn number stored.value) refl;
    grant_write = λ from txn view number rec stored c e n v f u. grants from txn view rec true (message.WriteAnswer txn number) refl;
    vote_reading = λ from txn view number reads writes part c e n d f v a w. one _ x.id from (message.Vote part.txn) refl (plain_but _ refl refl refl refl refl refl refl) refl refl;
    vote_writing = λ from txn view number reads writes part c e n d f v a w. one _ x.id from (message.Vote part.txn) refl (plain_but _ refl refl refl refl refl refl refl) refl refl;
    end_here = λ from txn commit c. ends_here from txn commit (doubt_of txn x.doubts);
    coordinator = record {
      begin = λ port view e g u. begins_one port view e;
      answers = λ words port why y. plain (lent_at x) _ refl refl refl refl begins;
      take_lock = λ t rec exclusive stored h i a v c. plain (lent_at x) _ refl refl refl refl begins;
      complete = λ t p deed l h g y e q. completes t p deed l h e q;
      read_at = λ t p rec q h n r a w c o y. reads_at t p rec q h o;
      write_at = λ t p rec value l h n w a e o d y v q. writes_at t p rec l h v q;
      prepare_parts = λ t p h i g e. prepares t p h;
      still_waits = λ t p from h e m f c. waits t p _ h;
      decide = λ t n d. decide-cases K catalogue x.id t (lent_at x) (λ e. decideds t (lent_at x) n begins) (λ e. decideds t _ n (keeps_writes t (lent_at x) begins));
      close = λ t why l n a z y q. closes t why l q;
      mark_calls = λ l c z q. marks l q;
      acknowledge = λ from txn c w. plain (lent_at x) _ refl refl refl refl begins;
    };
    answers_inviting = λ port c s l. silent _ _ (self_same _) refl refl l;
    resend_one = λ d o c h l. resends d o l;
  }

pub led-step : (catalogue : Catalogue) (x : SiteState) (given : Input) → Tidy x → Led x → Leads x (step catalogue x given)
led-step catalogue x given tidy led = step-keeps catalogue x given (Leads x) (table catalogue x given tidy led) (begins catalogue x given tidy led)
