-- How transactions end: one that ends is not live any more, and is sent, kept and entered as what it was.
use Rattle.std.proofs.Common.{◌≡◌, ◌≢◌, ◌⊎◌, ◌∙◌, ap, sym, subst, ℕ, ◌+◌, ◌≤◌, Bool, true, false, cond, List, [], ◌∷◌, ◌++◌, map, refl, arith, inl, inr, ⊎_elim}
use Rattle.std.specs.Prelude.{Some, filter, not, ◌==◌}
use Rattle.std.proofs.lemmas.Bool.Decides.{nat_tests}
use Rattle.vp_laws.proofs.Moves.Calls.{done}
use Rattle.vp_model.specs.Types.{TxnId, View, Message, Sent, Commit, Input, Live, Ending, Finished, Decision}
use Rattle.vp_base.specs.declared.site.Ending.TheVariants.{Committed}
use Rattle.vp_model.specs.Types.message
use Rattle.vp_model.specs.Words.{same_txn, txn_before, is_empty, for_each, put_number}
use Rattle.vp_model.specs.Catalogue.{Catalogue}
use Rattle.vp_model.specs.Durable.{put_decision, with_decision, acknowledged}
use Rattle.vp_model.specs.Site.{CoordinatorState, SiteState, Lent, letters}
use Rattle.vp_model.specs.Transactions.{entry_of, put_live, with_finished, answers_after, keep_writes, writing_parts, decide, decided, complete}
use Rattle.vp_model.specs.Refresh.{other_holders}
use Rattle.vp_model.specs.Calls.{begun, with_begun, start_txn, take_lock, read_at, write_at, prepare_parts, prepare_for}
use Rattle.vp_model.specs.Answers.{with_acknowledged, is_live, is_decided}
use Rattle.vp_model.specs.Step.{mark, mark_calls, step}
use Rattle.vp_laws.proofs.Lists.Members.{Has, has_none, has_one, has_one_is, has_cases, map_has, filter_has, any_true, any_false}
use Rattle.vp_laws.proofs.Lists.Changes.{put_has, without_first_has, change_first_has, at_most_has}
use Rattle.vp_model.proofs.SameTxn.{same_txn-is, same_txn-not}
use Rattle.vp_laws.proofs.Lists.Names.{Apart, named, apart_without, without_gone, apart_change, apart_more, apart_mark}
use Rattle.vp_laws.proofs.Moves.Frames.{Ends, close-ends, close-commits, decided-ends, decided-commits, decide-cases}
use Rattle.vp_laws.proofs.Moves.Table.{Comes, next_name, lent_at, Handled, is_abort, remaining, OfCoordinator, SendsBack}
use Rattle.vp_laws.proofs.Moves.Rows.{step-keeps}
use Rattle.vp_laws.proofs.Moves.LocalViews.{letter}
use Rattle.vp_laws.proofs.Table.Led.{Led}
use Rattle.vp_laws.proofs.Moves.OnlyCoordinator.{is_aside, OnCoordinator, Keeps, only_begins, only_table}
use Rattle.vp_laws.proofs.Lists.Numbers.{one_above}

-- a decision and a finished transaction are of no live one, and a finished one has a name that was given in this life
pub record Settled (id life : ℕ) (c : CoordinatorState) : Type 0 where
  pub decisions : (d : Decision) (t : Live) → Has c.decisions d → Has c.live t → t.txn ≢ d.txn
  pub own : (d : Decision) → Has c.decisions d → d.txn.site ≡ id
  pub finished : (f : Finished) (t : Live) → Has c.finished f → Has c.live t → t.txn ≢ f.txn
  pub names : (f : Finished) → Has c.finished f → (f.txn.site ≡ id) × (f.txn.life ≡ life) × (f.txn.seq ≤ c.seq)

-- none of these transactions has the name
abbrev pub NotLive : List Live → TxnId → Type 0
NotLive live txn = (t : Live) → Has live t → t.txn ≢ txn

abbrev pub WasLive : SiteState → TxnId → Type 0
WasLive x txn = (u : Live) × Has x.live u × (u.txn ≡ txn)

abbrev pub WasDecided : List Decision → TxnId → Type 0
WasDecided decisions txn = (d : Decision) × Has decisions d × (d.txn ≡ txn)

abbrev pub IsEntered : List Commit → TxnId → Type 0
IsEntered cs txn = (e : Commit) × Has cs e × (e.txn ≡ txn)

-- why an abort is told: the transaction was live, or an inquiry came and there is no decision
abbrev pub MayAbort : SiteState → Input → ℕ → TxnId → Type 0
MayAbort x given to txn = WasLive x txn ⊎ (Comes given to (message.Inquire txn) × (is_decided txn x.decisions ≡ false) × (is_live txn x.live ≡ false))

abbrev pub OutcomeSays : SiteState → Input → List Live → List Commit → ℕ → TxnId → Bool → Type 0
OutcomeSays x given live cs to txn true = (txn.site ≡ x.id) × NotLive live txn × (WasDecided x.decisions txn ⊎ IsEntered cs txn)
OutcomeSays x given live cs to txn false = (txn.site ≡ x.id) × NotLive live txn × MayAbort x given to txn × ((e : Commit) → Has cs e → e.txn ≢ txn)

abbrev pub Says : SiteState → Input → List Live → List Commit → ℕ → Message → Type 0
Says x given live cs to (message.Outcome txn commit) = OutcomeSays x given live cs to txn commit
Says x given live cs to m = Unit {0}

-- a finished transaction was finished, or live: then it is committed where it is entered
abbrev pub FinishedFrom : SiteState → List Commit → Finished → Type 0
FinishedFrom x cs f = Has x.finished f ⊎ (WasLive x f.txn × (((f.ending ≡ Committed) × IsEntered cs f.txn) ⊎ ((is_abort f.ending ≡ true) × ((e : Commit) → Has cs e → e.txn ≢ f.txn))))

pub record Endings (x : SiteState) (given : Input) (c : CoordinatorState) (ms : List Sent) (cs : List Commit) : Type 0 where
  pub apart : Apart c.live
  pub up : x.seq ≤ c.seq
  pub live : (t : Live) → Has c.live t → WasLive x t.txn ⊎ (t.txn ≡ next_name x)
  pub settled : Settled x.id x.life c
  pub says : (m : Sent) → Has ms m → Says x given c.live cs m.to m.message
  pub entered : (e : Commit) → Has cs e → WasLive x e.txn × NotLive c.live e.txn
  pub once : (cs ≡ []) ⊎ ((e : Commit) × (cs ≡ e ∷ []))
  pub decided : (d : Decision) → Has c.decisions d → WasDecided x.decisions d.txn ⊎ IsEntered cs d.txn
  pub finished : (f : Finished) → Has c.finished f → FinishedFrom x cs f

-- a message that says no end
abbrev pub tells_none : Message → Bool
tells_none (message.Outcome txn commit) = false
tells_none m = true

none-says : (x : SiteState) (given : Input) (live : List Live) (cs : List Commit) (to : ℕ) (m : Message) → tells_none m ≡ true → Says x given live cs to m
none-says x given live cs to (message.Outcome txn commit) e = cc
none-says x given live cs to m e = tt

aside-tells : (m : Message) → is_aside m ≡ true → tells_none m ≡ true
aside-tells (message.Outcome txn commit) e = cc
aside-tells m e = refl

-- fewer names live: what was said may still be said
says_on : (x : SiteState) (given : Input) (live now : List Live) (cs : List Commit) (to : ℕ) (m : Message) → ((txn : TxnId) → NotLive live txn → NotLive now txn) → Says x given live cs to m → Says x given now cs to m
says_on x given live now cs to (message.Outcome txn true) f h = (h.0, f txn h.1, h.2)
says_on x given live now cs to (message.Outcome txn false) f h = (h.0, f txn h.1, h.2, h.3)
says_on x given live now cs to m f h = tt

not_live_fewer : (live now : List Live) → ((t : Live) → Has now t → Has live t) → (txn : TxnId) → NotLive live txn → NotLive now txn
not_live_fewer live now sub txn h t q = h t (sub t q)

not_live_named : (live now : List Live) → ((t : Live) → Has now t → (u : Live) × Has live u × (u.txn ≡ t.txn)) → (txn : TxnId) → NotLive live txn → NotLive now txn
not_live_named live now sub txn h t q e = let r = sub t q in h r.0 r.1 (r.2 ∙ e)

-- the end of a list of ends
module _ (catalogue : Catalogue) (x : SiteState) (given : Input) (led : Led x) (apart : Apart x.live) (settled : Settled x.id x.life x.coordinator) (fresh : (d : Decision) → Has x.decisions d → d.txn ≢ next_name x) where
  abbrev R : CoordinatorState → List Sent → List Commit → Type 0
  R = Endings x given

  same_up : (a : ℕ) → a ≤ a
  same_up a = omega arith

  begins : R x.coordinator [] []
  begins = record {
    apart = apart;
    up = same_up x.seq;
    live = λ t h. inl (t, h, refl);
    settled = settled;
    says = λ m h. absurd (has_none m h);
    entered = λ e h. absurd (has_none e h);
    once = inl refl;
    decided = λ d h. inl (d, h, refl);
    finished = λ f h. inl h;
  }

  -- more messages that tell no end
  more : (c : CoordinatorState) (ms extra : List Sent) (cs : List Commit) → ((m : Sent) → Has extra m → tells_none m.message ≡ true) → R c ms cs → R c (ms ++ extra) cs
  more c ms extra cs quiet r = record {
    apart = r.apart;
    up = r.up;
    live = r.live;
    settled = r.settled;
    says = λ m h. ⊎_elim (λ old. r.says m old) (λ new. none-says x given c.live cs m.to m.message (quiet m new)) (has_cases ms extra m h);
    entered = r.entered;
    once = r.once;
    decided = r.decided;
    finished = r.finished;
  }

  -- the live transactions are other ones of the same names
  renewed : (c now : CoordinatorState) (ms : List Sent) (cs : List Commit) → now.seq ≡ c.seq → now.finished ≡ c.finished → now.decisions ≡ c.decisions → Apart now.live → ((t : Live) → Has now.live t → (u : Live) × Has c.live u × (u.txn ≡ t.txn)) → R c ms cs → R now ms cs
  renewed c now ms cs s f d away sub r = record {
    apart = away;
    up = rw s r.up;
    live = λ t h. let q = sub t h in ⊎_elim (λ (was : WasLive x q.0.txn). inl (was.0, was.1, was.2 ∙ q.2)) (λ new. inr (sym q.2 ∙ new)) (r.live q.0 q.1);
    settled = record {
      decisions = λ e t k h g. let q = sub t h in r.settled.decisions e q.0 (rw d at k) q.1 (q.2 ∙ g);
      own = λ e k. r.settled.own e (rw d at k);
      finished = λ e t k h g. let q = sub t h in r.settled.finished e q.0 (rw f at k) q.1 (q.2 ∙ g);
      names = λ e k. let q = r.settled.names e (rw f at k) in (q.0, q.1, rw s q.2);
    };
    says = λ m h. says_on x given c.live now.live cs m.to m.message (not_live_named c.live now.live sub) (r.says m h);
    entered = λ e h. let q = r.entered e h in (q.0, not_live_named c.live now.live sub e.txn q.1);
    once = r.once;
    decided = λ e k. r.decided e (rw d at k);
    finished = λ e k. r.finished e (rw f at k);
  }

  moves_on : (t u : Live) (c : CoordinatorState) (ms : List Sent) (cs : List Commit) → Has c.live u → u.txn ≡ t.txn → R c ms cs → R (put_live t c) ms cs
  moves_on t u c ms cs h e r = renewed c (put_live t c) ms cs refl refl refl (apart_change t c.live r.apart)
      (λ a k. ⊎_elim (λ (is : a ≡ t). (u, h, e ∙ ap (λ (t : Live). t.txn) (sym is))) (λ old. (a, old, refl)) (change_first_has (named t.txn) t c.live a k)) r

  marks : (c : CoordinatorState) (ms : List Sent) (cs : List Commit) → R c ms cs → R (record c { live = map mark c.live }) ms cs
  marks c ms cs r = renewed c (record c { live = map mark c.live }) ms cs refl refl refl (apart_mark c.live r.apart) (λ t h. let q = map_has mark c.live t h in (q.0, q.1, ap (λ (t : Live). t.txn) q.2)) r

  letters_tell : (from : ℕ) (message_to : ℕ → Message) (sites : List ℕ) → ((q : ℕ) → tells_none (message_to q) ≡ true) → (m : Sent) → Has (letters from message_to sites) m → tells_none m.message ≡ true
  letters_tell from message_to sites quiet m h = let r = map_has (λ (q : ℕ). letter from q (message_to q)) sites m h in rw (sym (ap (λ (m : Sent). m.message) r.2)) (quiet r.0)

  was_named : (t : Live) → Handled x t → WasLive x t.txn
  was_named t n = (n.was, n.live, sym (ap (λ (t : Live). t.txn) n.same))

  site_of : (txn : TxnId) → WasLive x txn → (txn.site ≡ x.id) × (txn.life ≡ x.life) × (txn.seq ≤ x.seq)
  site_of txn w = let n = led.names w.0 w.1 in let s = ap (λ (t : TxnId). t.site) w.2 in let l = ap (λ (t : TxnId). t.life) w.2 in let q = ap (λ (t : TxnId). t.seq) w.2 in (sym s ∙ n.0, sym l ∙ n.1, rw (sym q) n.2)

  -- the transaction is not live any more
  gone : (t : Live) (why : Ending) (c : CoordinatorState) → Apart c.live → NotLive (with_finished t why c).live t.txn
  gone t why c a u h = without_gone t.txn c.live a u h

  finished_has : (t : Live) (why : Ending) (c : CoordinatorState) (f : Finished) → Has (with_finished t why c).finished f → Has c.finished f ⊎ ((f.txn ≡ t.txn) × (f.ending ≡ why))
  finished_has t why c f h = ⊎_elim (λ old. inl old)
      (λ new. let e = has_one_is (record { txn = t.txn; answers = answers_after t why; ending = why }) f new in inr (sym (ap (λ (f : Finished). f.txn) e), sym (ap (λ (f : Finished). f.ending) e)))
      (has_cases c.finished ((record { txn = t.txn; answers = answers_after t why; ending = why }) ∷ []) f (at_most_has 1024 _ f h))

  settled_now : (t : Live) (why : Ending) (c : CoordinatorState) → Apart c.live → WasLive x t.txn → x.seq ≤ c.seq → Settled x.id x.life c → Settled x.id x.life (with_finished t why c)
  settled_now t why c a was up s = record {
    decisions = λ d u k h. s.decisions d u k (without_first_has (named t.txn) c.live u h);
    own = s.own;
    finished = λ f u k h. ⊎_elim (λ old. s.finished f u old (without_first_has (named t.txn) c.live u h)) (λ (new : (f.txn ≡ t.txn) × (f.ending ≡ why)). (λ g. gone t why c a u h (g ∙ new.0))) (finished_has t why c f k);
    names = λ f k. ⊎_elim (λ old. s.names f old) (λ (new : (f.txn ≡ t.txn) × (f.ending ≡ why)). let n = site_of t.txn was in (ap (λ (t : TxnId). t.site) new.0 ∙ n.0, ap (λ (t : TxnId). t.life) new.0 ∙ n.1, below f.txn.seq t.txn.seq x.seq c.seq (ap (λ (t : TxnId). t.seq) new.0) n.2 up)) (finished_has t why c f k);
  }
    where
      below : (a b n m : ℕ) → a ≡ b → b ≤ n → n ≤ m → a ≤ m
      below a b n m e h up = omega arith

  -- an abort is told to the parts
  closes : (t : Live) (why : Ending) (c : CoordinatorState) (ms : List Sent) → WasLive x t.txn → is_abort why ≡ true → x.seq ≤ c.seq → R c ms [] → R (with_finished t why c) (ms ++ letters x.id (λ q. message.Outcome t.txn false) t.parts) []
  closes t why c ms was abort up r = record {
    apart = apart_without t.txn c.live r.apart;
    up = up;
    live = λ u h. r.live u (without_first_has (named t.txn) c.live u h);
    settled = settled_now t why c r.apart was up r.settled;
    says = λ m h. ⊎_elim (λ old. says_on x given c.live (with_finished t why c).live [] m.to m.message (not_live_fewer c.live (with_finished t why c).live (λ u q. without_first_has (named t.txn) c.live u q)) (r.says m old))
        (λ new. let q = map_has (λ (q : ℕ). letter x.id q (message.Outcome t.txn false)) t.parts m new in
        subst (λ (m : Sent). Says x given (with_finished t why c).live [] m.to m.message) q.2 ((site_of t.txn was).0, gone t why c r.apart, inl was, (λ e k. absurd (has_none e k))))
        (has_cases ms (letters x.id (λ q. message.Outcome t.txn false) t.parts) m h);
    entered = λ e h. absurd (has_none e h);
    once = inl refl;
    decided = r.decided;
    finished = λ f h. ⊎_elim (λ old. r.finished f old) (λ (new : (f.txn ≡ t.txn) × (f.ending ≡ why)). inr ((was.0, was.1, was.2 ∙ sym new.0), inr (rw new.1 abort, (λ e k. absurd (has_none e k))))) (finished_has t why c f h);
  }

  decision_has : (txn : TxnId) (waiting : List ℕ) (decisions : List Decision) (d : Decision) → Has (with_decision txn waiting decisions) d → (d.txn ≡ txn) ⊎ Has decisions d
  decision_has txn waiting decisions d h = go (is_empty waiting) h
    where
      go : (b : Bool) → Has (cond b decisions (put_decision (record { txn = txn; waiting = waiting }) decisions)) d → (d.txn ≡ txn) ⊎ Has decisions d
      go true q = inr q
      go false q = ⊎_elim (λ (new : d ≡ (record { txn = txn; waiting = waiting })). inl (ap (λ (d : Decision). d.txn) new)) (λ old. inr old) (put_has (λ (a : Decision) (b : Decision). same_txn a.txn b.txn) (λ (a : Decision) (b : Decision). txn_before a.txn b.txn) (record { txn = txn; waiting = waiting }) decisions d q)

  -- a commit: the decisions are the old ones and perhaps this one
  commits : (t : Live) (c : CoordinatorState) (ms : List Sent) (e : Commit) → WasLive x t.txn → e.txn ≡ t.txn → c.live ≡ x.live → c.finished ≡ x.finished → c.seq ≡ x.seq → ((d : Decision) → Has c.decisions d → (d.txn ≡ t.txn) ⊎ Has x.decisions d) → ms ≡ letters x.id (λ q. message.Outcome t.txn true) t.parts → R (with_finished t Committed c) ms (e ∷ [])
  commits t c ms e was name v f s decisions said = record {
    apart = apart_without t.txn c.live away;
    up = rw s (same_up x.seq);
    live = λ u h. let k : Has x.live u = rw v at (without_first_has (named t.txn) c.live u h) in inl (u, k, refl);
    settled = record {
      decisions = λ d u k h. ⊎_elim (λ (new : d.txn ≡ t.txn). (λ g. gone t Committed c away u h (g ∙ new))) (λ old. settled.decisions d u old (rw v at (without_first_has (named t.txn) c.live u h))) (decisions d k);
      own = λ d k. ⊎_elim (λ (new : d.txn ≡ t.txn). ap (λ (t : TxnId). t.site) new ∙ (site_of t.txn was).0) (λ old. settled.own d old) (decisions d k);
      finished = λ g u k h. ⊎_elim (λ old. settled.finished g u (rw f at old) (rw v at (without_first_has (named t.txn) c.live u h))) (λ (new : (g.txn ≡ t.txn) × (g.ending ≡ Committed)). (λ z. gone t Committed c away u h (z ∙ new.0))) (finished_has t Committed c g k);
      names = λ g k. ⊎_elim (λ old. let n = settled.names g (rw f at old) in (n.0, n.1, rw s n.2)) (λ (new : (g.txn ≡ t.txn) × (g.ending ≡ Committed)). let n = site_of t.txn was in (ap (λ (t : TxnId). t.site) new.0 ∙ n.0, ap (λ (t : TxnId). t.life) new.0 ∙ n.1, rw (ap (λ (t : TxnId). t.seq) new.0, s) n.2)) (finished_has t Committed c g k);
    };
    says = λ m h. let q = map_has (λ (q : ℕ). letter x.id q (message.Outcome t.txn true)) t.parts m (rw said at h) in
        subst (λ (m : Sent). Says x given (with_finished t Committed c).live (e ∷ []) m.to m.message) q.2 ((site_of t.txn was).0, gone t Committed c away, inr (e, has_one e, name));
    entered = λ g h. let same : e ≡ g = has_one_is e g h in let txn : t.txn ≡ g.txn = sym name ∙ ap (λ (e : Commit). e.txn) same in ((was.0, was.1, was.2 ∙ txn), (λ u k z. gone t Committed c away u k (z ∙ sym txn)));
    once = inr (e, refl);
    decided = λ d k. ⊎_elim (λ (new : d.txn ≡ t.txn). inr (e, has_one e, name ∙ sym new)) (λ old. inl (d, old, refl)) (decisions d k);
    finished = λ g h. ⊎_elim (λ old. inl (rw f at old)) (λ (new : (g.txn ≡ t.txn) × (g.ending ≡ Committed)). inr ((was.0, was.1, was.2 ∙ sym new.0), inl (new.1, (e, has_one e, name ∙ sym new.0)))) (finished_has t Committed c g h);
  }
    where
      away : Apart c.live
      away = subst Apart (sym v) apart

  abbrev L : Lent → Type 0
  L l = R l.coordinator l.effects.messages l.effects.commits

  closed : (t : Live) (why : Ending) (l now : Lent) → Handled x t → is_abort why ≡ true → l.effects.commits ≡ [] → x.seq ≤ l.seq → Ends x.id t why false l now → now.effects.commits ≡ l.effects.commits → L l → L now
  closed t why l now n abort none up e same r =
      rw (e.coordinator, e.messages, same ∙ none) (closes t why l.coordinator l.effects.messages (was_named t n) abort up (rw none at r))

  decides : (t : Live) → Handled x t → L (decide catalogue x.id t (lent_at x))
  unfolding keep_writes
  decides t n = decide-cases L catalogue x.id t (lent_at x) (λ e. without) (λ e. with_writes)
    where
      entry : Commit
      entry = entry_of t

      without : L (decided x.id t (lent_at x))
      without =
          let e = decided-ends x.id t (lent_at x) in
          rw (e.coordinator, e.messages, decided-commits x.id t (lent_at x)) (commits t x.coordinator _ entry (was_named t n) refl refl refl refl (λ d h. inr h) refl)

      with_writes : L (decided x.id t (keep_writes catalogue x.id t (lent_at x)))
      with_writes =
          let l = keep_writes catalogue x.id t (lent_at x) in
          let e = decided-ends x.id t l in
          rw (e.coordinator, e.messages, decided-commits x.id t l) (commits t l.coordinator _ entry (was_named t n) refl refl refl refl (λ d h. decision_has t.txn (writing_parts catalogue t) x.decisions d h) refl)

  -- a new transaction
  begun_now : (view : View) → R (with_begun (begun (next_name x) view.id) x.coordinator) [] []
  begun_now view = record {
    up = higher x.seq x.seq (same_up x.seq);
    apart = apart_more (begun (next_name x) view.id) x.live apart (λ t h e. one_above t.txn.seq x.seq (led.names t h).2 (ap (λ (t : TxnId). t.seq) e));
    live = λ t h. ⊎_elim (λ old. inl (t, old, refl)) (λ new. inr (ap (λ (t : Live). t.txn) (sym (has_one_is (begun (next_name x) view.id) t new)))) (has_cases x.live (begun (next_name x) view.id ∷ []) t h);
    settled = record {
      decisions = λ d t k h. ⊎_elim (λ old. settled.decisions d t k old) (λ new. (λ e. fresh d k (sym (ap (λ (t : Live). t.txn) (has_one_is (begun (next_name x) view.id) t new) ∙ e)))) (has_cases x.live (begun (next_name x) view.id ∷ []) t h);
      own = settled.own;
      finished = λ f t k h. ⊎_elim (λ old. settled.finished f t k old) (λ new. (λ e. one_above f.txn.seq x.seq (settled.names f k).2 (sym (ap (λ (t : TxnId). t.seq) (ap (λ (t : Live). t.txn) (has_one_is (begun (next_name x) view.id) t new) ∙ e))))) (has_cases x.live (begun (next_name x) view.id ∷ []) t h);
      names = λ f k. let n = settled.names f k in (n.0, n.1, higher f.txn.seq x.seq n.2);
    };
    says = λ m h. absurd (has_none m h);
    entered = λ e h. absurd (has_none e h);
    once = inl refl;
    decided = λ d h. inl (d, h, refl);
    finished = λ f h. inl h;
  }
    where
      higher : (a b : ℕ) → a ≤ b → a ≤ b + 1
      higher a b h = omega arith

  -- a decision that some site has acknowledged
  acknowledged_has : (txn : TxnId) (site : ℕ) (decisions : List Decision) (d : Decision) → Has (acknowledged txn site decisions) d → (e : Decision) × Has decisions e × (e.txn ≡ d.txn)
  acknowledged_has txn site decisions d h =
      let f = (filter_has (λ (d : Decision). not (is_empty d.waiting)) _ d h).0 in
      let r = map_has (λ (d : Decision). cond (same_txn d.txn txn) (record { txn = d.txn; waiting = filter (λ q. not (q == site)) d.waiting }) d) decisions d f in
      (r.0, r.1, sym (first_same (same_txn r.0.txn txn) r.0 (filter (λ q. not (q == site)) r.0.waiting)) ∙ ap (λ (d : Decision). d.txn) r.2)
    where
      first_same : (b : Bool) (d : Decision) (rest : List ℕ) → (cond b (record { txn = d.txn; waiting = rest }) d).txn ≡ d.txn
      first_same true d rest = refl
      first_same false d rest = refl

  acknowledges : (txn : TxnId) (from : ℕ) → R (with_acknowledged txn from x.coordinator) [] []
  acknowledges txn from = record {
    apart = apart;
    up = same_up x.seq;
    live = begins.live;
    settled = record {
      decisions = λ d t k h. let q = acknowledged_has txn from x.decisions d k in (λ e. settled.decisions q.0 t q.1 h (e ∙ sym q.2));
      own = λ d k. let q = acknowledged_has txn from x.decisions d k in sym (ap (λ (t : TxnId). t.site) q.2) ∙ settled.own q.0 q.1;
      finished = settled.finished;
      names = settled.names;
    };
    says = λ m h. absurd (has_none m h);
    entered = λ e h. absurd (has_none e h);
    once = inl refl;
    decided = λ d h. inl (acknowledged_has txn from x.decisions d h);
    finished = λ f h. inl h;
  }

  is_live_not : (txn : TxnId) (live : List Live) → is_live txn live ≡ false → NotLive live txn
  is_live_not txn live e t h g = same_txn-not t.txn txn (any_false (named txn) live e t h) g

  is_decided_has : (txn : TxnId) (decisions : List Decision) → is_decided txn decisions ≡ true → WasDecided decisions txn
  is_decided_has txn decisions e = let q = any_true (λ (d : Decision). same_txn d.txn txn) decisions e in (q.0, q.1, same_txn-is q.0.txn txn q.2)

  same_number : (a b : ℕ) → (a == b) ≡ true → a ≡ b
  same_number a b e = grind (arith, nat_tests, e)

  inquired : (from : ℕ) (txn : TxnId) → Comes given from (message.Inquire txn) → (txn.site == x.id) ≡ true → is_live txn x.live ≡ false → Says x given x.live [] from (message.Outcome txn (is_decided txn x.decisions))
  inquired from txn c s n = go (is_decided txn x.decisions) refl
    where
      go : (b : Bool) → is_decided txn x.decisions ≡ b → OutcomeSays x given x.live [] from txn b
      go true e = (same_number txn.site x.id s, is_live_not txn x.live n, inl (is_decided_has txn x.decisions e))
      go false e = (same_number txn.site x.id s, is_live_not txn x.live n, inr (c, e, n), (λ g k. absurd (has_none g k)))

  sent_back : (from : ℕ) (m : Message) → SendsBack x given from m → Says x given x.live [] from m
  sent_back from _ (SendsBack.answer_inquiry txn c s n) = inquired from txn c s n
  sent_back from m t = tt

  pub moves : OfCoordinator catalogue x given L
  unfolding start_txn take_lock complete read_at write_at prepare_parts mark_calls
  moves = record {
    begin = λ port view e g u. begun_now view;
    answers = λ words port why y. begins;
    take_lock = λ t rec exclusive stored h i a v c. begins;
    complete = λ t p deed l h g y e r. moves_on (done t p deed) t l.coordinator l.effects.messages l.effects.commits (rw e h) refl r;
    read_at = λ t p rec q h n r a w c o y. more _ [] (letter x.id q (message.ReadRequest t.txn t.view p.number rec) ∷ []) [] (letters_tell x.id (λ q. message.ReadRequest t.txn t.view p.number rec) (q ∷ []) (λ q. refl))
        (moves_on (record t { remote = t.remote ++ (q, rec) ∷ []; parts = put_number q t.parts; pending = Some (record p { missing = q ∷ [] }) }) t x.coordinator [] [] h refl begins);
    write_at = λ t p rec value l h n w a e o d y v r. more _ l.effects.messages (letters x.id (λ q. message.WriteRequest t.txn t.view p.number rec) (other_holders catalogue x rec)) l.effects.commits (letters_tell x.id (λ q. message.WriteRequest t.txn t.view p.number rec) (other_holders catalogue x rec) (λ q. refl))
        (moves_on (record t { parts = for_each (other_holders catalogue x rec) put_number t.parts; pending = Some (record p { missing = other_holders catalogue x rec }) }) t l.coordinator l.effects.messages l.effects.commits (rw v h) refl r);
    prepare_parts = λ t p h i g e. more _ [] (letters x.id (prepare_for catalogue t p) t.parts) [] (letters_tell x.id (prepare_for catalogue t p) t.parts (λ q. refl))
        (moves_on (record t { pending = Some (record p { missing = t.parts }) }) t x.coordinator [] [] h refl begins);
    still_waits = λ t p from h e m f c. moves_on (record t { pending = Some (record p { missing = remaining from p }) }) t x.coordinator [] [] h refl begins;
    decide = λ t n d. decides t n;
    close = λ t why l n a z y r. closed t why l _ n a z r.up (close-ends x.id t why l) (close-commits x.id t why l) r;
    mark_calls = λ l c z r. marks l.coordinator l.effects.messages l.effects.commits r;
    acknowledge = λ from txn c w. acknowledges txn from;
  }

  keeps : Keeps catalogue x given R
  keeps = record {
    aside = λ c ms extra cs quiet r. more c ms extra cs (λ m h. aside-tells m.message (quiet m h).aside) r;
    starts = begins;
    moves = moves;
    sends_back = λ from m t. record {
      apart = apart;
      up = same_up x.seq;
      live = begins.live;
      settled = settled;
      says = λ sent h. subst (λ (m : Sent). Says x given x.live [] m.to m.message) (has_one_is (letter x.id from m) sent h) (sent_back from m t);
      entered = λ e h. absurd (has_none e h);
      once = inl refl;
      decided = begins.decided;
      finished = begins.finished;
    };
    resends = λ c d ms cs tick h r. resends c d ms cs h r;
  }
    where
      resends : (c : CoordinatorState) (d : Decision) (ms : List Sent) (cs : List Commit) → Has c.decisions d → R c ms cs → R c (ms ++ letters x.id (λ q. message.Outcome d.txn true) d.waiting) cs
      resends c d ms cs h r = record {
        apart = r.apart;
        up = r.up;
        live = r.live;
        settled = r.settled;
        says = λ m k. ⊎_elim (λ old. r.says m old)
            (λ new. let q = map_has (λ (q : ℕ). letter x.id q (message.Outcome d.txn true)) d.waiting m new in
            subst (λ (m : Sent). Says x given c.live cs m.to m.message) q.2 (r.settled.own d h, (λ t g. r.settled.decisions d t h g), r.decided d h))
            (has_cases ms (letters x.id (λ q. message.Outcome d.txn true) d.waiting) m k);
        entered = r.entered;
        once = r.once;
        decided = r.decided;
        finished = r.finished;
      }

pub endings-step : (catalogue : Catalogue) (x : SiteState) (given : Input) → Led x → Apart x.live → Settled x.id x.life x.coordinator → ((d : Decision) → Has x.decisions d → d.txn ≢ next_name x) → OnCoordinator catalogue x given (Endings x given) (step catalogue x given)
endings-step catalogue x given led apart settled fresh =
    let k = keeps catalogue x given led apart settled fresh in
    step-keeps catalogue x given (OnCoordinator catalogue x given (Endings x given)) (only_table catalogue x given (Endings x given) k) (only_begins catalogue x given (Endings x given) k)
