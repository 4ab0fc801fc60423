-- What live transactions have done and ask still fits their calls.
use Rattle.std.proofs.Common.{◌≡◌, ◌∙◌, ap, sym, subst, ℕ, ◌+◌, true, List, [], ◌∷◌, refl, ⊎_elim, length}
use Rattle.std.specs.Prelude.{Option, Some, ◌==◌, nat_lt, not, nat_eq}
use Rattle.vp_laws.proofs.Journal.Changed.{read_alters_none, change_there, changed_by, alters, HasChanged}
use Rattle.vp_model.specs.Types.{Commit, ViewId, TxnId, View, Input, Pending, Live}
use Rattle.vp_model.specs.Words.{keys, for_each, put_number}
use Rattle.vp_model.specs.Catalogue.{Catalogue}
use Rattle.vp_model.specs.Site.{SiteState, Stepped, Lent}
use Rattle.vp_model.specs.Transactions.{entry_of, last_changes, Deed}
use Rattle.vp_model.specs.Refresh.{other_holders_in, other_holders}
use Rattle.vp_model.specs.Calls.{begun}
use Rattle.vp_model.specs.Step.{mark}
use Rattle.vp_laws.proofs.Lists.Members.{Has, has_none, has_one_is, has_cons, has_cases, filter_has}
use Rattle.vp_laws.proofs.Lists.Changes.{put_new, empty_not}
use Rattle.vp_laws.proofs.Lists.Views.{put_keeps}
use Rattle.vp_laws.proofs.Moves.Table.{record_of, Changes, remaining, Completes}
use Rattle.vp_laws.proofs.Table.Steps.{AskingRead, AskingWrite, LiveNow, Steps}
use Rattle.vp_laws.proofs.Table.Led.{Led}
use Rattle.vp_laws.proofs.Moves.OnlyCoordinator.{OnCoordinator}
use Rattle.vp_laws.proofs.Invariant.Views.{InvViews}
use Rattle.vp_laws.proofs.Invariant.Led.{InvLed}
use Rattle.vp_laws.proofs.Worlds.Scenes.{Scene, plain_at, Acted, scene_of}
use Rattle.vp_laws.proofs.Worlds.Sites.{NowIs, now_is, quiet_is, started_idle, Quiet, live_still}
use Rattle.vp_laws.proofs.Moves.Calls.{same_writes, waiting, done, reading, writing, read_not_write, writes_same, no_commit_writes, unmarked}
use Rattle.vp_laws.proofs.Invariant.Ops.{LiveOk, InvOps}
use Rattle.vp_model.specs.World.{start_world}

-- parts
put_all_keeps : (ns ms : List ℕ) (a : ℕ) → Has ms a → Has (for_each ns put_number ms) a
put_all_keeps [] ms a h = h
put_all_keeps (n ∷ ns) ms a h = put_all_keeps ns (put_number n ms) a (put_keeps n ms a h)

put_all_new : (ns ms : List ℕ) (a : ℕ) → Has ns a → Has (for_each ns put_number ms) a
put_all_new [] ms a h = absurd (has_none a h)
put_all_new (n ∷ ns) ms a h = ⊎_elim (λ (one : n ≡ a). put_all_keeps ns (put_number n ms) a (rw one (put_new nat_eq nat_lt a ms))) (λ more. put_all_new ns (put_number n ms) a more) (has_cons n ns a h)

module _ (catalogue : Catalogue) (x : SiteState) (given : Input) (all : (u : Live) → Has x.live u → LiveOk catalogue x.id x.held u) where
  marked_ok : (u : Live) → LiveOk catalogue x.id x.held u → LiveOk catalogue x.id x.held (mark u)
  marked_ok u h = record {
    next = λ p e. let q = unmarked u.pending p e in numbered q.0 p (h.next q.0 q.1) q.2;
    written = h.written;
    remote = h.remote;
    missing = λ p a e k. let q = unmarked u.pending p e in h.missing q.0 a q.1 (rw (ap (λ (p : Pending). p.missing) q.2) k);
    writing = λ p rec value e r. let q = unmarked u.pending p e in h.writing q.0 rec value q.1 (called_writes q.0 p rec value q.2 r);
  }
    where
      numbered : (a p : Pending) → a.number ≡ length u.answers + 1 → record a { marked = true } ≡ p → p.number ≡ length u.answers + 1
      numbered a p n e = ap (λ (p : Pending). p.number) (sym e) ∙ n

      called_writes : (a p : Pending) (rec : ℕ) (deed : Deed) → record a { marked = true } ≡ p → Changes catalogue p rec deed → Changes catalogue a rec deed
      called_writes a p rec value e r = same_writes catalogue a p rec value (ap (λ (p : Pending). p.call) e) r

  waits_ok : (u : Live) (p : Pending) (sites : List ℕ) → LiveOk catalogue x.id x.held u → p.number ≡ length u.answers + 1 → ((q : ℕ) → Has sites q → Has u.parts q) → ((rec : ℕ) (deed : Deed) → Changes catalogue p rec deed → (q : ℕ) → Has (other_holders_in catalogue x.id x.held rec) q → Has u.parts q) → LiveOk catalogue x.id x.held (waiting u p sites)
  waits_ok u p sites h number sub writes = record {
    next = λ a e. let is : record p { missing = sites } ≡ a = cc in ap (λ (p : Pending). p.number) (sym is) ∙ number;
    written = h.written;
    remote = h.remote;
    missing = λ a q e k. let is : record p { missing = sites } ≡ a = cc in sub q (rw (ap (λ (p : Pending). p.missing) is) k);
    writing = λ a rec value e r. let is : record p { missing = sites } ≡ a = cc in writes rec value (same_writes catalogue p a rec value (ap (λ (p : Pending). p.call) is) r);
  }

  done_ok : (u : Live) (p : Pending) (deed : Deed) → LiveOk catalogue x.id x.held u → ((rec : ℕ) → (alters deed rec ≡ true) × (record_of deed ≡ rec) → (q : ℕ) → Has (other_holders_in catalogue x.id x.held rec) q → Has u.parts q) → LiveOk catalogue x.id x.held (done u p deed)
  done_ok u p deed h parts = record {
    next = λ p e. cc;
    written = λ rec k q z. ⊎_elim (λ old. h.written rec old q z) (λ new. parts rec new q z) (changed_by u p deed rec k);
    remote = h.remote;
    missing = λ p q e k. cc;
    writing = λ p rec value e r. cc;
  }

  completed_ok : (u : Live) (p : Pending) (deed : Deed) (l : Lent) → LiveOk catalogue x.id x.held u → Completes catalogue x given u p deed l → LiveOk catalogue x.id x.held (done u p deed)
  completed_ok u p deed l h (Completes.own_write rec value next r a v o e) = done_ok u p deed h (λ n f. read_alters_none deed rec n value o f.0)
  completed_ok u p deed l h (Completes.own_copy rec stored next r a v c f o e) = done_ok u p deed h (λ n f. read_alters_none deed rec n stored.value o f.0)
  completed_ok u p deed l h (Completes.change_again rec before next r a v e) = done_ok u p deed h
      (λ n f q k. h.written n (subst (HasChanged u) (sym r.on ∙ f.1) (change_there (last_changes (entry_of u)) rec before v)) q k)
  completed_ok u p deed l h (Completes.change_alone rec next r a v n e) = done_ok u p deed h
      (λ m f q k. absurd (empty_not (other_holders_in catalogue x.id x.held m) q (rw (← (sym r.on ∙ f.1)) n) k))
  completed_ok u p deed l h (Completes.read_answered from rec value c last r o e) = done_ok u p deed h (λ n f. read_alters_none deed rec n value o f.0)
  completed_ok u p deed l h (Completes.change_answered from rec c last r e) =
      done_ok u p deed h (λ n f a k. h.writing p rec deed last.pending r a (subst (λ (m : ℕ). Has (other_holders_in catalogue x.id x.held m) a) (sym f.1 ∙ r.on) k))

  -- more parts
  wider : (u now : Live) → LiveOk catalogue x.id x.held u → entry_of now ≡ entry_of u → ((q : ℕ) → Has u.parts q → Has now.parts q) → (rec : ℕ) → HasChanged now rec → (q : ℕ) → Has (other_holders_in catalogue x.id x.held rec) q → Has now.parts q
  wider u now h same up rec k q z = up q (h.written rec (subst (λ (e : Commit). Has (keys (last_changes e)) rec) same k) q z)

  reads_ok : (u : Live) (p : Pending) (rec q : ℕ) → LiveOk catalogue x.id x.held u → AskingRead catalogue x given u p rec q → LiveOk catalogue x.id x.held (reading u p rec q)
  reads_ok u p rec q h a = record {
    next = λ b e. let is : record p { missing = q ∷ [] } ≡ b = cc in ap (λ (p : Pending). p.number) (sym is) ∙ a.next.number;
    written = wider u (reading u p rec q) h refl (λ b k. put_keeps q u.parts b k);
    remote = λ r k. ⊎_elim (λ old. put_keeps q u.parts r.0 (h.remote r old)) (λ new. rw (← (ap (λ (r : ℕ × ℕ). r.0) (has_one_is (q, rec) r new))) (put_new nat_eq nat_lt q u.parts)) (has_cases u.remote ((q, rec) ∷ []) r k);
    missing = λ b c e k. let is : record p { missing = q ∷ [] } ≡ b = cc in let m : Has (q ∷ []) c = rw (ap (λ (p : Pending). p.missing) is) k in rw (← (has_one_is q c m)) (put_new nat_eq nat_lt q u.parts);
    writing = λ b other value e r.
        let is : record p { missing = q ∷ [] } ≡ b = cc in
        read_not_write catalogue p rec other value a.reads (same_writes catalogue p b other value (ap (λ (p : Pending). p.call) is) r);
  }

  writes_ok : (u : Live) (p : Pending) (rec : ℕ) (deed : Deed) → LiveOk catalogue x.id x.held u → AskingWrite catalogue x given u p rec deed → LiveOk catalogue x.id x.held (writing u p (other_holders catalogue x rec))
  writes_ok u p rec value h a = record {
    next = λ b e. let is : record p { missing = other_holders catalogue x rec } ≡ b = cc in ap (λ (p : Pending). p.number) (sym is) ∙ a.next.number;
    written = wider u (writing u p (other_holders catalogue x rec)) h refl (λ b k. put_all_keeps (other_holders catalogue x rec) u.parts b k);
    remote = λ r k. put_all_keeps (other_holders catalogue x rec) u.parts r.0 (h.remote r k);
    missing = λ b c e k. let is : record p { missing = other_holders catalogue x rec } ≡ b = cc in put_all_new (other_holders catalogue x rec) u.parts c (rw (ap (λ (p : Pending). p.missing) is) k);
    writing = λ b other v e r.
        let is : record p { missing = other_holders catalogue x rec } ≡ b = cc in
        let same = writes_same catalogue p rec other value v a.writes (same_writes catalogue p b other v (ap (λ (p : Pending). p.call) is) r) in
        (λ q k. put_all_new (other_holders catalogue x rec) u.parts q (rw same k));
  }

  begun_ok : (txn : TxnId) (view : ViewId) → LiveOk catalogue x.id x.held (begun txn view)
  begun_ok txn view = record {
    next = λ p e. cc;
    written = λ rec k q z. absurd (has_none _ k);
    remote = λ r k. absurd (has_none r k);
    missing = λ p q e k. cc;
    writing = λ p rec value e r. cc;
  }

  pub live_ok : (t : Live) → LiveNow catalogue x given t → LiveOk catalogue x.id x.held t
  live_ok t (LiveNow.still h) = all t h
  live_ok t (LiveNow.marked u h tick e) = subst (LiveOk catalogue x.id x.held) e (marked_ok u (all u h))
  live_ok t (LiveNow.waits u p from h f m l k e) =
      let a = all u h in
      subst (LiveOk catalogue x.id x.held) e (waits_ok u p (remaining from p) a (a.next p f) (λ q z. a.missing p q f (filter_has (λ (b : ℕ). not (b == from)) p.missing q z).0) (λ rec value r. a.writing p rec value f r))
  live_ok t (LiveNow.completed u p deed l h c e) = subst (LiveOk catalogue x.id x.held) e (completed_ok u p deed l (all u h) c)
  live_ok t (LiveNow.reads u p rec q h a e) = subst (LiveOk catalogue x.id x.held) e (reads_ok u p rec q (all u h) a)
  live_ok t (LiveNow.writes u p rec value h a e) = subst (LiveOk catalogue x.id x.held) e (writes_ok u p rec value (all u h) a)
  live_ok t (LiveNow.prepares u p h a e) = subst (LiveOk catalogue x.id x.held) e (waits_ok u p u.parts (all u h) a.next.number (λ q z. z) (λ rec value r. no_commit_writes catalogue p rec value a.commit r))
  live_ok t (LiveNow.begins view h e) = subst (LiveOk catalogue x.id x.held) e (begun_ok _ view.id)

-- a site with a live transaction holds the view that it held as the step began
pub same_held : (catalogue : Catalogue) (w new : Scene) (s : ℕ) (x : SiteState) (given : Input) (o : Stepped) (t : Live) → InvViews catalogue w → InvViews catalogue new → plain_at w s ≡ Some x → plain_at new s ≡ Some o.site → Led x → Led o.site → ((v : View) → Has w.agreed v → Has new.agreed v) → Has o.site.live t → LiveNow catalogue x given t → x.held ≡ o.site.held
same_held catalogue w new s x given o t before after up now led led_now stays h from =
    let n = led_now.live t h in
    let v = held_from from in
    let same : v.0 ≡ n.0 = after.unique v.0 n.0 (stays v.0 ((before.site s x up).held v.0 v.1)) ((after.site s o.site now).held n.0 n.1) (v.2 ∙ sym n.2) in
    v.1 ∙ ap (λ (v : View). Some v) same ∙ sym n.1
  where
    of : (u : Live) → Has x.live u → u.view ≡ t.view → (v : View) × (x.held ≡ Some v) × (v.id ≡ t.view)
    of u k e = let q = led.live u k in (q.0, q.1, q.2 ∙ e)

    held_from : LiveNow catalogue x given t → (v : View) × (x.held ≡ Some v) × (v.id ≡ t.view)
    held_from (LiveNow.still k) = of t k refl
    held_from (LiveNow.marked u k tick e) = of u k (ap (λ (t : Live). t.view) e)
    held_from (LiveNow.waits u p sender k f m l c e) = of u k (ap (λ (t : Live). t.view) e)
    held_from (LiveNow.completed u p deed l k c e) = of u k (ap (λ (t : Live). t.view) e)
    held_from (LiveNow.reads u p rec q k a e) = of u k (ap (λ (t : Live). t.view) e)
    held_from (LiveNow.writes u p rec value k a e) = of u k (ap (λ (t : Live). t.view) e)
    held_from (LiveNow.prepares u p k a e) = of u k (ap (λ (t : Live). t.view) e)
    held_from (LiveNow.begins view k e) = (view, k, ap (λ (t : Live). t.view) e)

pub ops_starts : (catalogue : Catalogue) → InvOps catalogue (scene_of (start_world catalogue))
ops_starts catalogue = record { live = λ s x t h k. absurd (started_idle catalogue s x t h k) }

pub ops_acts : (catalogue : Catalogue) (w new : Scene) (s : ℕ) (x : SiteState) (given : Input) (o : Stepped) → plain_at w s ≡ Some x → InvViews catalogue w → InvViews catalogue new → Led x → InvLed new → InvOps catalogue w → OnCoordinator catalogue x given (Steps catalogue x given) o → Acted w new s x o → InvOps catalogue new
ops_acts catalogue w new s x given o up before after led led_now inv c st = record { live = λ k y t h q. live_at k y t q (now_is w new s x o st k y h) }
  where
    live_at : (k : ℕ) (y : SiteState) (t : Live) → Has y.live t → NowIs w s o.site k y → LiveOk catalogue y.id y.held t
    live_at k y t q (NowIs.other n old) = inv.live k y t old q
    live_at k y t q (NowIs.here e same) =
        let here : Has o.site.live t = subst (λ (y : SiteState). Has y.live t) (sym same) q in
        let from = c.kept.live t here in
        let held : x.held ≡ o.site.held = same_held catalogue w new s x given o t before after up st.now led (led_now.site s o.site st.now) st.moved.agreed here from in
        subst (λ (y : SiteState). LiveOk catalogue y.id y.held t) same
        (subst (λ (i : ℕ). LiveOk catalogue i o.site.held t) (sym c.id) (subst (λ (v : Option View). LiveOk catalogue x.id v t) held (live_ok catalogue x given (λ u k. inv.live s x u up k) t from)))

pub ops_quiet : (catalogue : Catalogue) (w new : Scene) (s : ℕ) → Quiet catalogue w new s → InvOps catalogue w → InvOps catalogue new
ops_quiet catalogue w new s q inv = record { live = λ k y t h z. inv.live k y t (live_still catalogue w s k y t z (quiet_is catalogue w new s q k y h)) z }
