-- A transaction that has ended stays so, and only one with an entry is sent, kept or reported as committed.
use Rattle.std.proofs.Common.{◌≡◌, ◌≢◌, ◌⊎◌, ◌∙◌, ap, sym, subst, ℕ, true, false, List, [], ◌∷◌, ◌++◌, refl, inl, inr, ⊎_elim, append-nil}
use Rattle.std.specs.Prelude.{Some}
use Rattle.vp_model.specs.Types.{TxnId, Commit, Message, Input, Finished, Decision}
use Rattle.vp_base.specs.declared.site.Ending.TheVariants.{Committed}
use Rattle.vp_model.specs.Types.message
use Rattle.vp_model.specs.Catalogue.{Catalogue, start_copies}
use Rattle.vp_model.specs.Durable.{DurableState, empty_durable}
use Rattle.vp_model.specs.Site.{SiteState, Stepped}
use Rattle.vp_model.specs.Step.{start, durable_of}
use Rattle.vp_model.specs.World.{start_world}
use Rattle.vp_laws.proofs.Lists.Members.{Has, has_none, has_first, has_more, has_cases, has_one_is}
use Rattle.vp_laws.proofs.Moves.Table.{next_name, is_abort}
use Rattle.vp_laws.proofs.Worlds.Scenes.{Scene, scene_of, plain_at, kept_at, Acted}
use Rattle.vp_laws.proofs.Table.Led.{Led}
use Rattle.vp_laws.proofs.Invariant.Names.{UsedTxn, InvNames}
use Rattle.vp_laws.proofs.Invariant.Views.{Used}
use Rattle.vp_laws.proofs.Table.Names.{Named}
use Rattle.vp_laws.proofs.Table.Endings.{Settled, NotLive, WasLive, WasDecided, IsEntered, Says, FinishedFrom, Endings}
use Rattle.vp_laws.proofs.Worlds.Sites.{NowIs, now_is, KeptIs, kept_is, Quiet, QuietIs, quiet_is, quiet_kept, started, start_kept, start_sent, start_entered, start_journal, no_finished, finished_still}
use Rattle.vp_laws.proofs.Lists.Numbers.{one_above}
use Rattle.vp_laws.proofs.Invariant.Endings.{Over, InvEndings, HasEntry, Reported, Told}
use Rattle.vp_laws.proofs.Journal.Places.{Once}

once_more : (cs : List Commit) (e : Commit) → Once cs → ((c : Commit) → Has cs c → c.txn ≢ e.txn) → Once (cs ++ e ∷ [])
once_more [] e o n = ((λ d h. absurd (has_none d h)), tt)
once_more (c ∷ cs) e o n = ((λ d h g. ⊎_elim (λ old. o.0 d old g) (λ new. n c (has_first c cs) (sym g ∙ ap (λ (e : Commit). e.txn) (sym (has_one_is e d new)))) (has_cases cs (e ∷ []) d h)), once_more cs e o.1 (λ d h. n d (has_more c cs d h)))

-- a name that was used is of no transaction that begins now
pub fresh : (w : Scene) (s : ℕ) (x : SiteState) → plain_at w s ≡ Some x → x.id ≡ s → (txn : TxnId) → UsedTxn w txn → txn ≢ next_name x
fresh w s x up id txn u n =
    let here : txn.site ≡ s = ap (λ (t : TxnId). t.site) n ∙ id in
    one_above txn.seq x.seq (u.seq x (rw here up) (sym (ap (λ (t : TxnId). t.life) n))) (ap (λ (t : TxnId). t.seq) n)

module _ (catalogue : Catalogue) (w new : Scene) (s : ℕ) (x : SiteState) (given : Input) (o : Stepped) (up : plain_at w s ≡ Some x) (id : x.id ≡ s) (decisions : x.decisions ≡ (kept_at w s).decisions) (led : Led x) (ids : (k : ℕ) (y : SiteState) → plain_at w k ≡ Some y → y.id ≡ k) (names : InvNames w) (inv : InvEndings w) (l : Endings x given o.site.coordinator o.effects.messages o.effects.commits) (sames : (o.site.id ≡ x.id) × (o.site.life ≡ x.life)) (st : Acted w new s x o) where
  entry_stays : (txn : TxnId) → HasEntry w txn → HasEntry new txn
  entry_stays txn h = (h.0, st.moved.journal h.0 h.1, h.2)

  entry_here : (txn : TxnId) → IsEntered o.effects.commits txn → HasEntry new txn
  entry_here txn h = (h.0, st.enters h.0 h.1, h.2)

  was_entry : (d : Decision) → Has x.decisions d → HasEntry w d.txn
  was_entry d h = (inv.decisions s d (rw (← decisions) h)).1

  over_lasts : (txn : TxnId) → UsedTxn w txn → Over w txn → Over new txn
  over_lasts txn u v = λ y h. now y (now_is w new s x o st txn.site y h)
    where
      now : (y : SiteState) → NowIs w s o.site txn.site y → NotLive y.live txn
      now y (NowIs.other n h) = v y h
      now y (NowIs.here e same) = subst (λ (y : SiteState). NotLive y.live txn) same (λ t h g. ⊎_elim
          (λ (was : WasLive x t.txn). v x (rw e up) was.0 was.1 (was.2 ∙ g))
          (λ new. fresh w s x up id txn u (sym g ∙ new))
          (l.live t h))

  over_now : (txn : TxnId) → txn.site ≡ x.id → NotLive o.site.live txn → Over new txn
  over_now txn site none = λ y h. now y (now_is w new s x o st txn.site y h)
    where
      now : (y : SiteState) → NowIs w s o.site txn.site y → NotLive y.live txn
      now y (NowIs.other n h) = absurd (n (site ∙ id))
      now y (NowIs.here e same) = subst (λ (y : SiteState). NotLive y.live txn) same none

  was_site : (txn : TxnId) → WasLive x txn → txn.site ≡ x.id
  was_site txn was = sym (ap (λ (t : TxnId). t.site) was.2) ∙ (led.names was.0 was.1).0

  told_lasts : (m : Message) → Named (UsedTxn w) (Used w) m → Told w m → Told new m
  told_lasts (message.Outcome txn true) u h = (over_lasts txn u.0.0 h.0, entry_stays txn h.1)
  told_lasts (message.Outcome txn false) u h = over_lasts txn u.0.0 h
  told_lasts m u h = tt

  -- a commit of this step, or of a decision
  commit_entry : (txn : TxnId) → WasDecided x.decisions txn ⊎ IsEntered o.effects.commits txn → HasEntry new txn
  commit_entry txn h = ⊎_elim
      (λ (d : WasDecided x.decisions txn). entry_stays txn (subst (HasEntry w) d.2 (was_entry d.0 d.1)))
      (λ (e : IsEntered o.effects.commits txn). entry_here txn e) h

  told_new : (to : ℕ) (m : Message) → Says x given o.site.live o.effects.commits to m → Told new m
  told_new to (message.Outcome txn true) h = (over_now txn h.0 h.1, commit_entry txn h.2)
  told_new to (message.Outcome txn false) h = over_now txn h.0 h.1
  told_new to m h = tt

  entry_new : (e : Commit) → Has o.effects.commits e → Over new e.txn
  entry_new e h = let q = l.entered e h in over_now e.txn (was_site e.txn q.0) q.1

  -- an entry of this step is of a transaction that was live
  not_entered : (e c : Commit) → Has o.effects.commits e → Has w.journal c → c.txn ≢ e.txn
  not_entered e c h k g =
      let was = (l.entered e h).0 in
      inv.entry c k x (rw (ap (λ (t : TxnId). t.site) g ∙ was_site e.txn was ∙ id) up) was.0 was.1 (was.2 ∙ sym g)

  once_kept : Once new.journal
  once_kept = subst Once (sym st.journal) (go o.effects.commits refl l.once)
    where
      go : (cs : List Commit) → o.effects.commits ≡ cs → (cs ≡ []) ⊎ ((e : Commit) × (cs ≡ e ∷ [])) → Once (w.journal ++ o.effects.commits)
      go cs is h = ⊎_elim
          (λ (none : cs ≡ []). rw (is ∙ none) (subst Once (sym (append-nil w.journal)) inv.once))
          (λ (q : (e : Commit) × (cs ≡ e ∷ [])). rw (is ∙ q.1) (once_more w.journal q.0 inv.once (λ c k. not_entered q.0 c (rw (is ∙ q.1) (has_first q.0 [])) k))) h

  finished_lasts : (k : ℕ) (y : SiteState) (f : Finished) → plain_at w k ≡ Some y → Has y.finished f → f.txn.site ≡ k → Reported w f → Reported new f
  finished_lasts k y f h q site r = ⊎_elim
      (λ (c : (f.ending ≡ Committed) × HasEntry w f.txn). inl (c.0, entry_stays f.txn c.1))
      (λ (a : (is_abort f.ending ≡ true) × ((e : Commit) → Has w.journal e → e.txn ≢ f.txn)). inr (
        a.0,
        (λ e z g. ⊎_elim (λ old. a.1 e old g)
            (λ more. let was = (l.entered e more).0 in
            let here : k ≡ s = sym site ∙ ap (λ (t : TxnId). t.site) (sym g) ∙ was_site e.txn was ∙ id in
            let same : x ≡ y = (let z = rw here at h in cc) in
            (inv.settled s x up).finished f was.0 (subst (λ (y : SiteState). Has y.finished f) (sym same) q) was.1 (was.2 ∙ g))
            (st.entered e z)),
      ))
      r

  finished_new : (f : Finished) → FinishedFrom x o.effects.commits f → Reported new f
  finished_new f h = ⊎_elim
      (λ old. finished_lasts s x f up old (((inv.settled s x up).names f old).0 ∙ id) (inv.finished s x f up old))
      (λ (q : WasLive x f.txn × (((f.ending ≡ Committed) × IsEntered o.effects.commits f.txn) ⊎ ((is_abort f.ending ≡ true) × ((e : Commit) → Has o.effects.commits e → e.txn ≢ f.txn)))).
      ⊎_elim (λ (c : (f.ending ≡ Committed) × IsEntered o.effects.commits f.txn). inl (c.0, entry_here f.txn c.1))
      (λ (a : (is_abort f.ending ≡ true) × ((e : Commit) → Has o.effects.commits e → e.txn ≢ f.txn)). inr (
        a.0,
        (λ e z g. ⊎_elim
            (λ old. inv.entry e old x (rw (ap (λ (t : TxnId). t.site) g ∙ was_site f.txn q.0 ∙ id) up) q.0.0 q.0.1 (q.0.2 ∙ sym g))
            (λ more. a.1 e more g) (st.entered e z)),
      )) q.1)
      h

  pub endings_keep : InvEndings new
  endings_keep = record {
    settled = λ k y h. settled_now k y h (now_is w new s x o st k y h);
    decisions = λ k d h. decisions_now k d h (kept_is w new s x o st k);
    told = λ m h. ⊎_elim (λ old. told_lasts m.message (names.sent m old) (inv.told m old)) (λ more. told_new m.to m.message (l.says m more)) (st.sent m h);
    entry = λ e h. ⊎_elim (λ old. over_lasts e.txn (names.entry e old).0 (inv.entry e old)) (λ more. entry_new e more) (st.entered e h);
    once = once_kept;
    finished = λ k y f h q. finished_now k y f h q (now_is w new s x o st k y h);
  }
    where
      settled_now : (k : ℕ) (y : SiteState) → plain_at new k ≡ Some y → NowIs w s o.site k y → Settled y.id y.life y.coordinator
      settled_now k y h (NowIs.other n old) = inv.settled k y old
      settled_now k y h (NowIs.here e same) = subst (λ (y : SiteState). Settled y.id y.life y.coordinator) same (rw (sames.0, sames.1) l.settled)

      decisions_now : (k : ℕ) (d : Decision) → Has (kept_at new k).decisions d → KeptIs w new s (durable_of o.site) k → (d.txn.site ≡ k) × HasEntry new d.txn
      decisions_now k d h (KeptIs.other n e) = let q = inv.decisions k d (rw (ap (λ (d : DurableState). d.decisions) e) at h) in (q.0, entry_stays d.txn q.1)
      decisions_now k d h (KeptIs.here e same) =
          let g : Has o.site.decisions d = rw (ap (λ (d : DurableState). d.decisions) same) at h in
          (l.settled.own d g ∙ id ∙ sym e, commit_entry d.txn (l.decided d g))

      finished_now : (k : ℕ) (y : SiteState) (f : Finished) → plain_at new k ≡ Some y → Has y.finished f → NowIs w s o.site k y → Reported new f
      finished_now k y f h q (NowIs.other n old) = finished_lasts k y f old q (((inv.settled k y old).names f q).0 ∙ ids k y old) (inv.finished k y f old q)
      finished_now k y f h q (NowIs.here e same) = finished_new f (l.finished f (subst (λ (y : SiteState). Has y.finished f) (sym same) q))

settled_none : (catalogue : Catalogue) (s : ℕ) (d : DurableState) → ((e : Decision) → Has d.decisions e → e.txn.site ≡ s) → let x = start catalogue s d in Settled x.id x.life x.coordinator
unfolding start
settled_none catalogue s d own = record {
  decisions = λ e t k h. absurd (has_none t h);
  own = own;
  finished = λ f t k h. absurd (has_none t h);
  names = λ f k. absurd (has_none f k);
}

none_live : (catalogue : Catalogue) (s : ℕ) (d : DurableState) (txn : TxnId) → NotLive (start catalogue s d).live txn
unfolding start
none_live catalogue s d txn t h g = has_none t h

pub endings_starts : (catalogue : Catalogue) → InvEndings (scene_of (start_world catalogue))
endings_starts catalogue = record {
  settled = λ s x h. subst (λ (x : SiteState). Settled x.id x.life x.coordinator) (started catalogue s x h) (settled_none catalogue s (empty_durable (start_copies catalogue s)) (λ e k. absurd (has_none e k)));
  decisions = λ s d h. absurd (has_none d (rw (start_kept catalogue s).decisions at h));
  told = λ m h. absurd (start_sent catalogue m h);
  entry = λ e h. absurd (start_entered catalogue e h);
  once = subst Once (sym (start_journal catalogue)) tt;
  finished = λ s x f h k. absurd (no_finished catalogue s (empty_durable (start_copies catalogue s)) f (subst (λ (x : SiteState). Has x.finished f) (sym (started catalogue s x h)) k));
}

pub endings_quiet : (catalogue : Catalogue) (w new : Scene) (s : ℕ) → Quiet catalogue w new s → InvEndings w → InvEndings new
endings_quiet catalogue w new s q inv = record {
  settled = λ k y h. settled_now w new s q inv k y (quiet_is catalogue w new s q k y h);
  decisions = λ k d h. let e = quiet_kept catalogue w new s q (λ (d : DurableState). d.decisions) q.decisions k in let f = inv.decisions k d (rw e at h) in (f.0, entry_on w new s q d.txn f.1);
  told = λ m h. told_on w new s q m.message (inv.told m (rw q.sent at h));
  entry = λ e h. over_on w new s q e.txn (inv.entry e (rw q.journal at h));
  once = subst Once (sym q.journal) inv.once;
  finished = λ k y f h z. finished_on w new s f q (inv.finished k y f (finished_still catalogue w s k y f z (quiet_is catalogue w new s q k y h)) z);
}
  where
    entry_on : (w new : Scene) (s : ℕ) → Quiet catalogue w new s → (txn : TxnId) → HasEntry w txn → HasEntry new txn
    entry_on w new s q txn h = (h.0, rw q.journal h.1, h.2)

    over_on : (w new : Scene) (s : ℕ) → Quiet catalogue w new s → (txn : TxnId) → Over w txn → Over new txn
    over_on w new s q txn v y h = go (quiet_is catalogue w new s q txn.site y h)
      where
        go : QuietIs catalogue w s txn.site y → NotLive y.live txn
        go (QuietIs.here e same) = subst (λ (y : SiteState). NotLive y.live txn) same (none_live catalogue s (kept_at w s) txn)
        go (QuietIs.other n old) = v y old

    told_on : (w new : Scene) (s : ℕ) → Quiet catalogue w new s → (m : Message) → Told w m → Told new m
    told_on w new s q (message.Outcome txn true) h = (over_on w new s q txn h.0, entry_on w new s q txn h.1)
    told_on w new s q (message.Outcome txn false) h = over_on w new s q txn h
    told_on w new s q m h = tt

    settled_now : (w new : Scene) (s : ℕ) → Quiet catalogue w new s → InvEndings w → (k : ℕ) (y : SiteState) → QuietIs catalogue w s k y → Settled y.id y.life y.coordinator
    settled_now w new s q inv k y (QuietIs.here e same) = subst (λ (y : SiteState). Settled y.id y.life y.coordinator) same (settled_none catalogue s (kept_at w s) (λ d h. (inv.decisions s d h).0))
    settled_now w new s q inv k y (QuietIs.other n old) = inv.settled k y old

    finished_on : (w new : Scene) (s : ℕ) (f : Finished) → Quiet catalogue w new s → Reported w f → Reported new f
    finished_on w new s f q h = ⊎_elim
        (λ (c : (f.ending ≡ Committed) × HasEntry w f.txn). inl (c.0, entry_on w new s q f.txn c.1))
        (λ (a : (is_abort f.ending ≡ true) × ((e : Commit) → Has w.journal e → e.txn ≢ f.txn)). inr (a.0, (λ e z. a.1 e (rw q.journal at z))))
        h
