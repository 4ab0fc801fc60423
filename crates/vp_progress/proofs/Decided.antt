-- In every world each decision waits for a site, and for sites of the catalogue alone.
use Rattle.std.proofs.Common.{◌≡◌, ◌≢◌, ◌⊎◌, ◌∙◌, ap, sym, subst, ℕ, Bool, true, false, cond, List, [], refl, inl, inr, ⊎_elim}
use Rattle.std.specs.Prelude.{Some, ◌==◌, ◌&&◌, not, filter, map}
use Rattle.vp_model.specs.Types.{TxnId, Sent, Commit, Input, Decision, Live}
use Rattle.vp_model.specs.Words.{has, same_txn, txn_before, is_empty}
use Rattle.vp_model.specs.Catalogue.{Catalogue, sites_of}
use Rattle.vp_model.specs.Durable.{DurableState, put_decision, with_decision, acknowledged}
use Rattle.vp_model.specs.Site.{CoordinatorState, SiteState, Lent, Stepped}
use Rattle.vp_model.specs.Transactions.{last_changes, entry_of, writes_held, close, keep_writes, decided, decide, writing_parts, complete}
use Rattle.vp_model.specs.Calls.{start_txn, take_lock, read_at, write_at, prepare_parts}
use Rattle.vp_model.specs.Answers.{waits_for}
use Rattle.vp_model.specs.Step.{mark_calls, step, durable_of}
use Rattle.vp_model.specs.World.{start_world}
use Rattle.vp_model.proofs.SameTxn.{same_txn-is, same_txn-self}
use Rattle.vp_laws.proofs.Lists.Members.{Has, has_none, has_test, has_from_test, filter_has, map_has, any_true, any_false, both_true, not_true}
use Rattle.vp_laws.proofs.Lists.Changes.{put_has, some_first}
use Rattle.vp_laws.proofs.Lists.Numbers.{eq_self}
use Rattle.vp_laws.proofs.Moves.Frames.{close-ends, decided-ends, decide-cases}
use Rattle.vp_laws.proofs.Moves.Table.{lent_at, Handled, OfCoordinator}
use Rattle.vp_laws.proofs.Moves.Rows.{step-keeps}
use Rattle.vp_laws.proofs.Moves.OnlyCoordinator.{OnCoordinator, Keeps, only_begins, only_table}
use Rattle.vp_laws.proofs.Table.Views.{local-step}
use Rattle.vp_laws.proofs.Table.Waits.{IsWaited}
use Rattle.vp_laws.proofs.Worlds.Scenes.{Scene, scene_of, kept_at, plain_at, acted, stepping}
use Rattle.vp_laws.proofs.Worlds.Sites.{KeptIs, kept_is, Quiet, quiet_kept, start_kept, With, with_last}
use Rattle.vp_laws.proofs.Worlds.Events.{Lasts}
use Rattle.vp_laws.proofs.Invariant.Known.{Known}
use Rattle.vp_laws.proofs.Keeping.Known.{known_last}
use Rattle.vp_progress.proofs.Held.{empty_from}
use Rattle.vp_progress.proofs.Certain.{members_stand}

-- ---- whom decisions wait for

-- these decisions wait for no one for whom those don't
abbrev pub WaitLess : List Decision → List Decision → Type 0
WaitLess now was = (txn : TxnId) (q : ℕ) → IsWaited now txn q → IsWaited was txn q

pub waited_from : (txn : TxnId) (q : ℕ) (ds : List Decision) → waits_for txn q ds ≡ true → IsWaited ds txn q
waited_from txn q ds e =
    let a = any_true (λ (d : Decision). same_txn d.txn txn && has d.waiting q) ds e in
    let b = both_true (same_txn a.0.txn txn) (has a.0.waiting q) a.2 in
    (a.0, a.1, same_txn-is a.0.txn txn b.0, has_from_test a.0.waiting q b.1)

pub not_waited : (txn : TxnId) (q : ℕ) (ds : List Decision) → waits_for txn q ds ≡ false → IsWaited ds txn q → ⊥
not_waited txn q ds e w =
    let named : same_txn w.0.txn txn ≡ true = rw w.2 (same_txn-self txn) in
    let waits = has_test w.0.waiting q w.3 in
    let z : (same_txn w.0.txn txn && has w.0.waiting q) ≡ false = any_false (λ (d : Decision). same_txn d.txn txn && has d.waiting q) ds e w.0 w.1 in
    let y : (same_txn w.0.txn txn && has w.0.waiting q) ≡ true = rw (named, waits) refl in
    absurd (let x = sym y ∙ z in cc)

-- a new decision, beside those that were there
pub decision_from : (txn : TxnId) (waiting : List ℕ) (ds : List Decision) (d : Decision) → Has (with_decision txn waiting ds) d → ((is_empty waiting ≡ false) × (d ≡ record { txn = txn; waiting = waiting })) ⊎ Has ds d
decision_from txn waiting ds d = go (is_empty waiting) refl
  where
    go : (b : Bool) → is_empty waiting ≡ b → Has (cond b ds (put_decision (record { txn = txn; waiting = waiting }) ds)) d → ((is_empty waiting ≡ false) × (d ≡ record { txn = txn; waiting = waiting })) ⊎ Has ds d
    go true e h = inr h
    go false e h = ⊎_elim
        (λ (new : d ≡ record { txn = txn; waiting = waiting }). inl (e, new))
        (λ (old : Has ds d). inr old)
        (put_has (λ (a : Decision) (b : Decision). same_txn a.txn b.txn) (λ (a : Decision) (b : Decision). txn_before a.txn b.txn) (record { txn = txn; waiting = waiting }) ds d h)

abbrev lessened : TxnId → ℕ → Decision → Decision
lessened txn site d = cond (same_txn d.txn txn) (record { txn = d.txn; waiting = filter (λ q. not (q == site)) d.waiting }) d

-- an acknowledgement: whom a decision waits for it waited for, and it is not the site that acknowledges
pub acknowledged_from : (txn : TxnId) (site : ℕ) (ds : List Decision) (d : Decision) → Has (acknowledged txn site ds) d → (q : ℕ) → Has d.waiting q → (e : Decision) × Has ds e × (e.txn ≡ d.txn) × Has e.waiting q × (d.txn ≡ txn → q ≢ site)
acknowledged_from txn site ds d h q w =
    let f = (filter_has (λ (d : Decision). not (is_empty d.waiting)) (map (lessened txn site) ds) d h).0 in
    let r = map_has (lessened txn site) ds d f in
    go r.0 r.1 (same_txn r.0.txn txn) refl r.2
  where
    go : (e : Decision) → Has ds e → (b : Bool) → same_txn e.txn txn ≡ b → cond b (record { txn = e.txn; waiting = filter (λ q. not (q == site)) e.waiting }) e ≡ d → (e : Decision) × Has ds e × (e.txn ≡ d.txn) × Has e.waiting q × (d.txn ≡ txn → q ≢ site)
    go e there true t same =
        let g = filter_has (λ (q : ℕ). not (q == site)) e.waiting q (subst (λ (d : Decision). Has d.waiting q) (sym same) w) in
        (e, there, ap (λ (d : Decision). d.txn) same, g.0, (λ named is. let z : (q == site) ≡ true = rw is (eq_self site) in let y : (q == site) ≡ false = not_true _ g.1 in absurd (let x = sym z ∙ y in cc)))
    go e there false t same =
        (e, there, ap (λ (d : Decision). d.txn) same, subst (λ (d : Decision). Has d.waiting q) (sym same) w, (λ named is. let u : e.txn ≡ txn = ap (λ (d : Decision). d.txn) same ∙ named in let z : same_txn e.txn txn ≡ true = rw u (same_txn-self txn) in absurd (let x = sym z ∙ t in cc)))

-- ---- each decision waits for one of these sites, and for no other

abbrev pub Awaits : List ℕ → Decision → Type 0
Awaits sites d = (is_empty d.waiting ≡ false) × ((q : ℕ) → Has d.waiting q → Has sites q)

abbrev pub AllAwait : List ℕ → List Decision → Type 0
AllAwait sites ds = (d : Decision) → Has ds d → Awaits sites d

with_more : (sites : List ℕ) (txn : TxnId) (waiting : List ℕ) (ds : List Decision) → ((q : ℕ) → Has waiting q → Has sites q) → AllAwait sites ds → AllAwait sites (with_decision txn waiting ds)
with_more sites txn waiting ds sub all d h = ⊎_elim
    (λ (new : (is_empty waiting ≡ false) × (d ≡ record { txn = txn; waiting = waiting })). subst (Awaits sites) (sym new.1) (new.0, sub))
    (λ (old : Has ds d). all d old)
    (decision_from txn waiting ds d h)

with_fewer : (sites : List ℕ) (txn : TxnId) (site : ℕ) (ds : List Decision) → AllAwait sites ds → AllAwait sites (acknowledged txn site ds)
with_fewer sites txn site ds all d h =
    let f = filter_has (λ (d : Decision). not (is_empty d.waiting)) (map (lessened txn site) ds) d h in
    (not_true (is_empty d.waiting) f.1, (λ q w. let a = acknowledged_from txn site ds d h q w in (all a.0 a.1).1 q a.3))

-- where none of them is waited for, there is none
pub none_decided : (sites : List ℕ) (ds : List Decision) → AllAwait sites ds → ((txn : TxnId) (q : ℕ) → Has sites q → IsWaited ds txn q → ⊥) → ds ≡ []
none_decided sites ds all none = empty_from ds (λ d h. let q = some_first d.waiting (all d h).0 in none d.txn q.0 ((all d h).1 q.0 q.1) (d, h, refl, q.1))

-- ---- a step keeps it

module _ (catalogue : Catalogue) (x : SiteState) (given : Input) (all : AllAwait (sites_of catalogue) x.decisions) (parts : (t : Live) → Has x.live t → (q : ℕ) → Has t.parts q → Has (sites_of catalogue) q) where
  abbrev R : CoordinatorState → List Sent → List Commit → Type 0
  R c ms cs = AllAwait (sites_of catalogue) c.decisions

  abbrev L : Lent → Type 0
  L l = AllAwait (sites_of catalogue) l.decisions

  as_coordinator : (l : Lent) (c : CoordinatorState) → l.coordinator ≡ c → AllAwait (sites_of catalogue) c.decisions → L l
  as_coordinator l c e h = rw e h

  writing : (t : Live) → Handled x t → (q : ℕ) → Has (writing_parts catalogue t) q → Has (sites_of catalogue) q
  writing t n q h =
      let f = filter_has (λ (q : ℕ). not (is_empty (writes_held catalogue q (last_changes (entry_of t))))) t.parts q h in
      parts n.was n.live q (subst (λ (u : Live). Has u.parts q) n.same f.0)

  decides : (t : Live) → Handled x t → L (decide catalogue x.id t (lent_at x))
  unfolding keep_writes
  decides t n = decide-cases L catalogue x.id t (lent_at x)
      (λ none. as_coordinator (decided x.id t (lent_at x)) _ (decided-ends x.id t (lent_at x)).coordinator all)
      (λ some. as_coordinator (decided x.id t (keep_writes catalogue x.id t (lent_at x))) _ (decided-ends x.id t (keep_writes catalogue x.id t (lent_at x))).coordinator (with_more (sites_of catalogue) t.txn (writing_parts catalogue t) x.decisions (writing t n) all))

  moves : OfCoordinator catalogue x given L
  unfolding start_txn take_lock complete read_at write_at prepare_parts mark_calls
  moves = record {
    begin = λ port view e g u. all;
    answers = λ words port why y. all;
    take_lock = λ t rec exclusive stored h i a v c. all;
    complete = λ t p deed l h g y e r. r;
    read_at = λ t p rec q h n r a w c o y. all;
    write_at = λ t p rec value l h n w a e o d y v r. r;
    prepare_parts = λ t p h i g e. all;
    still_waits = λ t p from h e m f c. all;
    decide = λ t n d. decides t n;
    close = λ t why l n a z y r. as_coordinator (close x.id t why l) _ (close-ends x.id t why l).coordinator r;
    mark_calls = λ l c z r. r;
    acknowledge = λ from txn c w. with_fewer (sites_of catalogue) txn from x.decisions all;
  }

  keeps : Keeps catalogue x given R
  keeps = record {
    aside = λ c ms more cs quiet r. r;
    starts = all;
    moves = moves;
    sends_back = λ from m t. all;
    resends = λ c d ms cs tick h r. r;
  }

  pub awaits-step : AllAwait (sites_of catalogue) (step catalogue x given).site.decisions
  awaits-step = (step-keeps catalogue x given (OnCoordinator catalogue x given R) (only_table catalogue x given R keeps) (only_begins catalogue x given R keeps)).kept

-- ---- this holds at each site, up or down

pub record InvDecided (catalogue : Catalogue) (w : Scene) : Type 0 where
  pub awaits : (s : ℕ) → AllAwait (sites_of catalogue) (kept_at w s).decisions

decided_starts : (catalogue : Catalogue) → InvDecided catalogue (scene_of (start_world catalogue))
decided_starts catalogue = record { awaits = λ s d h. absurd (has_none d (subst (λ (ds : List Decision). Has ds d) (start_kept catalogue s).decisions h)) }

decided_acts : (catalogue : Catalogue) (w : Scene) (s : ℕ) (x : SiteState) (given : Input) → plain_at w s ≡ Some x → Known catalogue w → InvDecided catalogue w → InvDecided catalogue (acted w s x (step catalogue x given))
decided_acts catalogue w s x given up k inv =
    let ok = k.views.site s x up in
    let st = stepping catalogue w s x given up ok.kept (local-step catalogue x given ok.tidy) in
    let mine = awaits-step catalogue x given (subst (λ (d : DurableState). AllAwait (sites_of catalogue) d.decisions) (sym ok.kept) (inv.awaits s)) (λ t h q part. let is = (k.led.site s x up).live t h in members_stand catalogue w k.views is.0 (ok.held is.0 is.1) q (is.3 q part).0) in
    record { awaits = λ q. at_each (acted w s x (step catalogue x given)) (step catalogue x given) mine q (kept_is w (acted w s x (step catalogue x given)) s x (step catalogue x given) st q) }
  where
    at_each : (new : Scene) (o : Stepped) → AllAwait (sites_of catalogue) o.site.decisions → (q : ℕ) → KeptIs w new s (durable_of o.site) q → AllAwait (sites_of catalogue) (kept_at new q).decisions
    at_each new o mine q (KeptIs.here e now) = subst (λ (d : DurableState). AllAwait (sites_of catalogue) d.decisions) (sym now) mine
    at_each new o mine q (KeptIs.other n same) = subst (λ (d : DurableState). AllAwait (sites_of catalogue) d.decisions) (sym same) (inv.awaits q)

decided_quiet : (catalogue : Catalogue) (w new : Scene) (s : ℕ) → Quiet catalogue w new s → InvDecided catalogue w → InvDecided catalogue new
decided_quiet catalogue w new s q inv = record { awaits = λ k. subst (AllAwait (sites_of catalogue)) (sym (quiet_kept catalogue w new s q (λ (d : DurableState). d.decisions) q.decisions k)) (inv.awaits k) }

pub decided_last : (catalogue : Catalogue) → Lasts catalogue (With (Known catalogue) (InvDecided catalogue))
decided_last catalogue = with_last catalogue (Known catalogue) (InvDecided catalogue) (known_last catalogue) (record {
  starts = decided_starts catalogue;
  acts = λ w s x given up r k inv. decided_acts catalogue w s x given up k inv;
  quiet = λ w new s q k inv. decided_quiet catalogue w new s q inv;
})
