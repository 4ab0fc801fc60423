-- No name rises above what its site has used.
use Rattle.std.proofs.Common.{◌≡◌, ◌≢◌, ◌⊎◌, ◌∙◌, ap, sym, subst, ℕ, ◌≤◌, ◌<◌, true, List, ◌∷◌, [], arith, inl, inr, ⊎_elim}
use Rattle.std.specs.Prelude.{Some, flat_map, ◌==◌, ◌&&◌}
use Rattle.std.proofs.lemmas.Option.{cond_some}
use Rattle.vp_model.specs.Types.{Change, ViewId, TxnId, View, Owner, Message, Input, Lock, Live, Doubt}
use Rattle.vp_model.specs.Types.owner
use Rattle.vp_model.specs.Words.{opening, same_view}
use Rattle.vp_model.specs.Catalogue.{Catalogue, start_copies}
use Rattle.vp_model.specs.Durable.{DurableState, empty_durable}
use Rattle.vp_model.specs.Site.{SiteState}
use Rattle.vp_model.specs.Step.{start, locks_in_doubt, step}
use Rattle.vp_model.specs.World.{start_world}
use Rattle.vp_laws.proofs.Lists.Members.{Has, has_none, has_first, has_more, has_cases, map_has}
use Rattle.vp_laws.proofs.Lists.Views.{same_site, opening_least}
use Rattle.vp_laws.proofs.Worlds.Scenes.{Scene, scene_of, kept_in, up_in, plain_at, kept_at, promise_at, Moved, acted, stepping}
use Rattle.vp_text.proofs.Items.{all_each}
use Rattle.vp_laws.proofs.Table.Views.{local-step}
use Rattle.vp_laws.proofs.Table.Led.{Led, Leads, MayEnter, led-step}
use Rattle.vp_laws.proofs.Table.Names.{OwnerNamed, names_in, Named, Names, Calls, names-step}
use Rattle.vp_laws.proofs.Invariant.Views.{Used, InvViews}
use Rattle.vp_laws.proofs.Worlds.Events.{Arrives}
use Rattle.vp_laws.proofs.Invariant.Names.{KeptNamed, UsedTxn, InvNames}
use Rattle.vp_laws.proofs.Keeping.Views.{above}
use Rattle.vp_laws.proofs.Worlds.Sites.{Quiet, QuietIs, quiet_is, quiet_kept, start_dated, start_entered, start_kept, start_sent, started}
use Rattle.vp_laws.proofs.Invariant.Led.{InvLed}
use Rattle.vp_laws.proofs.Lists.Numbers.{at_most_equal, at_most_trans}

-- what is named stays named, as more is
module _ (N M : TxnId → Type 0) (A B : ViewId → Type 0) (n : (t : TxnId) → N t → M t) (a : (v : ViewId) → A v → B v) where
  owner_lifts : (o : Owner) → OwnerNamed N A o → OwnerNamed M B o
  owner_lifts (owner.Txn t) h = n t h
  owner_lifts owner.Refresh h = tt

  pub named_lifts : (m : Message) → Named N A m → Named M B m
  named_lifts m h = let names = names_in m in (all_each N M n names.0 h.0, all_each A B a names.1 h.1)

  pub names_lift : (s : SiteState) → Names N A s → Names M B s
  names_lift s h = record {
    held = λ v e. a v.id (h.held v e);
    parts = λ p q. let k = h.parts p q in (n p.txn k.0, a p.view k.1);
    doubts = λ d q. let k = h.doubts d q in (n d.txn k.0, a d.view k.1);
    ended = λ t q. n t (h.ended t q);
    decisions = λ d q. n d.txn (h.decisions d q);
    locks = λ l q. owner_lifts l.owner (h.locks l q);
    copies = λ c q. a c.1.date (h.copies c q);
    answers = λ r c q k. a c.1.date (h.answers r c q k);
  }

  pub kept_lifts : (d : DurableState) → KeptNamed N A d → KeptNamed M B d
  kept_lifts d h = record {
    doubts = λ d q. let k = h.doubts d q in (n d.txn k.0, a d.view k.1);
    decisions = λ d q. n d.txn (h.decisions d q);
    copies = λ c q. a c.1.date (h.copies c q);
  }

-- names last where a site's life and place only rise
pub record Grows (w new : Scene) (s : ℕ) : Type 0 where
  pub life : (kept_at w s).life ≤ (kept_at new s).life
  pub seq : (y : SiteState) → plain_at new s ≡ Some y → ((x : SiteState) × (plain_at w s ≡ Some x) × (y.life ≡ x.life) × (x.seq ≤ y.seq)) ⊎ ((kept_at w s).life < y.life)

not_above : (a b : ℕ) → a ≤ b → b < a → ⊥
not_above a b h k = omega arith

pub used_lasts : (w new : Scene) (s : ℕ) → Moved w new s → Grows w new s → (t : TxnId) → UsedTxn w t → UsedTxn new t
used_lasts w new s moved grows t u = ⊎_elim (λ here. at_same here) (λ n. at_other n) (same_site t.site s)
  where
    at_other : t.site ≢ s → UsedTxn new t
    at_other n = record {
      life = rw (ap (λ o. (kept_in o).life) (moved.others t.site n)) u.life;
      seq = λ y h e. u.seq y (rw (ap up_in (moved.others t.site n)) at h) e;
    }

    at_same : t.site ≡ s → UsedTxn new t
    at_same here = record {
      life = at_most_trans t.life (kept_at w t.site).life (kept_at new t.site).life u.life (rw here grows.life);
      seq = λ y h e. ⊎_elim
          (λ (same : (x : SiteState) × (plain_at w s ≡ Some x) × (y.life ≡ x.life) × (x.seq ≤ y.seq)). at_most_trans t.seq same.0.seq y.seq (u.seq same.0 (rw here same.1) (sym same.2 ∙ e)) same.3)
          (λ (later : (kept_at w s).life < y.life). absurd (not_above t.life (kept_at w s).life (rw here at u.life) (rw e at later)))
          (grows.seq y (rw here at h));
    }

-- the own transactions of a site that is up
pub own_used : (w : Scene) (s : ℕ) (x : SiteState) → plain_at w s ≡ Some x → x.id ≡ s → (kept_at w s).life ≡ x.life → Led x → (t : Live) → Has x.live t → UsedTxn w t.txn
own_used w s x up id life led t h =
    let n = led.names t h in
    let here : t.txn.site ≡ s = n.0 ∙ id in
    record {
      life = rw here (at_most_equal t.txn.life (kept_at w s).life (n.1 ∙ sym life));
      seq = λ y g e. let same : x ≡ y = (let z = rw here at g in cc) in subst (λ (y : SiteState). t.txn.seq ≤ y.seq) same n.2;
    }

pub names_acts : (catalogue : Catalogue) (w : Scene) (s : ℕ) (x : SiteState) (given : Input) → plain_at w s ≡ Some x → Arrives w s given → InvViews catalogue w → InvLed w → InvNames w → InvNames (acted w s x (step catalogue x given))
names_acts catalogue w s x given up a known asked inv =
    let ok = known.site s x up in
    let led = asked.site s x up in
    let o = step catalogue x given in
    let new = acted w s x o in
    let st = stepping catalogue w s x given up ok.kept (local-step catalogue x given ok.tidy) in
    let leads : Leads x o = led-step catalogue x given ok.tidy led in
    let life_was : (kept_at w s).life ≡ x.life = ap (λ (d : DurableState). d.life) (sym ok.kept) in
    let life_now : (kept_at new s).life ≡ x.life = ap (λ (d : DurableState). d.life) st.kept_now ∙ leads.life in
    let grows : Grows w new s = record {
      life = at_most_equal _ _ (life_was ∙ sym life_now);
      seq = λ y h. let same : o.site ≡ y = (let z = st.now in cc) in inl (x, up, ap (λ (y : SiteState). y.life) (sym same) ∙ leads.life, subst (λ (y : SiteState). x.seq ≤ y.seq) same leads.seq);
    } in
    let txns : (t : TxnId) → UsedTxn w t → UsedTxn new t = used_lasts w new s st.moved grows in
    let views : (v : ViewId) → Used w v → Used new v = (λ v h. above catalogue w new s st.moved v v.site h) in
    let own : (t : Live) → Has x.live t → UsedTxn new t.txn = (λ t h. txns t.txn (own_used w s x up ok.id life_was led t h)) in
    let calls : Calls (UsedTxn new) (Used new) o = names-step (UsedTxn new) (Used new) catalogue x given ok.tidy led
    (names_lift (UsedTxn w) (UsedTxn new) (Used w) (Used new) txns views x (inv.site s x up)) own
    (views x.promise (rw (ap (λ (d : DurableState). d.promise) ok.kept) (known.promise s)))
    (λ from m c. named_lifts (UsedTxn w) (UsedTxn new) (Used w) (Used new) txns views m (inv.sent _ (rw c at a))) in
    record {
      site = λ k y h. ⊎_elim (λ (here : k ≡ s). let z = rw here at h in let n = st.now in let same : o.site ≡ y = cc in subst (Names (UsedTxn new) (Used new)) same calls.names)
          (λ (n : k ≢ s). names_lift (UsedTxn w) (UsedTxn new) (Used w) (Used new) txns views y (inv.site k y (rw (ap up_in (st.moved.others k n)) at h))) (same_site k s);
      kept = λ k. ⊎_elim (λ (here : k ≡ s). subst (λ k. KeptNamed (UsedTxn new) (Used new) (kept_at new k)) (sym here) (subst (KeptNamed (UsedTxn new) (Used new)) (sym st.kept_now) (record {
        doubts = calls.names.doubts;
        decisions = calls.names.decisions;
        copies = calls.names.copies;
      })))
          (λ (n : k ≢ s). subst (KeptNamed (UsedTxn new) (Used new)) (sym (ap kept_in (st.moved.others k n))) (kept_lifts (UsedTxn w) (UsedTxn new) (Used w) (Used new) txns views (kept_at w k) (inv.kept k))) (same_site k s);
      sent = λ m h. ⊎_elim (λ old. named_lifts (UsedTxn w) (UsedTxn new) (Used w) (Used new) txns views m.message (inv.sent m old)) (λ sent. calls.sent m sent) (st.sent m h);
      entry = λ c h. ⊎_elim (λ old. let q = inv.entry c old in (txns c.txn q.0, views c.view q.1))
          (λ more. let (u, here, txn, view, ops) : MayEnter x c = leads.commits c more in
          let q = led.live u here in
          (subst (UsedTxn new) (sym txn) (own u here), subst (Used new) (q.2 ∙ sym view) (views q.0.id ((inv.site s x up).held q.0 q.1))))
          (st.entered c h);
    }

-- a site as it starts has the names that it has kept
locks_of : (doubts : List Doubt) (l : Lock) → Has (flat_map locks_in_doubt doubts) l → (d : Doubt) × Has doubts d × (l.owner ≡ owner.Txn d.txn)
locks_of [] l h = absurd (has_none l h)
locks_of (d ∷ doubts) l h =
    ⊎_elim (λ here. let r = map_has (λ (w : ℕ × Change). record { rec = w.0; exclusive = true; owner = owner.Txn d.txn }) d.writes l here in (d, has_first d doubts, ap (λ (l : Lock). l.owner) (sym r.2)))
    (λ later. let q = locks_of doubts l later in (q.0, has_more d doubts q.0 q.1, q.2))
    (has_cases (locks_in_doubt d) (flat_map locks_in_doubt doubts) l h)

start_names : (N : TxnId → Type 0) (A : ViewId → Type 0) (catalogue : Catalogue) (s : ℕ) (d : DurableState) → A opening → KeptNamed N A d → Names N A (start catalogue s d)
unfolding start
start_names N A catalogue s d first k = record {
  held = λ v h. let q = cond_some ((d.life == 0) && same_view d.promise opening) _ v h in subst A (ap (λ (v : View). v.id) q.1) first;
  parts = λ p h. absurd (has_none p h);
  doubts = k.doubts;
  ended = λ t h. absurd (has_none t h);
  decisions = k.decisions;
  locks = λ l h. let q = locks_of d.doubts l h in subst (OwnerNamed N A) (sym q.2) (k.doubts q.0 q.1).0;
  copies = k.copies;
  answers = λ r a h q. absurd (has_none r h);
}

first_named : (N : TxnId → Type 0) (A : ViewId → Type 0) (catalogue : Catalogue) (s : ℕ) → A opening → KeptNamed N A (empty_durable (start_copies catalogue s))
first_named N A catalogue s first = record {
  doubts = λ d h. absurd (has_none d h);
  decisions = λ d h. absurd (has_none d h);
  copies = λ c h. subst A (sym (start_dated catalogue s c h)) first;
}

opening_used : (w : Scene) → Used w opening
opening_used w = opening_least (promise_at w opening.site)

pub start_life : (catalogue : Catalogue) (s : ℕ) (d : DurableState) → d.life < (start catalogue s d).life
unfolding start
start_life catalogue s d = omega arith

-- a site that goes down, or starts in its next life, has used no less
pub quiet_grows : (catalogue : Catalogue) (w new : Scene) (s : ℕ) → Quiet catalogue w new s → Grows w new s
quiet_grows catalogue w new s q = record {
  life = q.life;
  seq = λ y up. inr (subst (λ (y : SiteState). (kept_at w s).life < y.life) (q.now y up) (start_life catalogue s (kept_at w s)));
}

pub names_starts : (catalogue : Catalogue) → InvNames (scene_of (start_world catalogue))
names_starts catalogue = record {
  site = λ s x up. subst (Names (UsedTxn w) (Used w)) (started catalogue s x up) (start_names (UsedTxn w) (Used w) catalogue s (empty_durable (start_copies catalogue s)) (opening_used w) (first_named (UsedTxn w) (Used w) catalogue s (opening_used w)));
  kept = λ s. record {
    doubts = λ d h. absurd (has_none d (rw (start_kept catalogue s).doubts at h));
    decisions = λ d h. absurd (has_none d (rw (start_kept catalogue s).decisions at h));
    copies = λ c h. subst (Used w) (sym ((start_kept catalogue s).dated c h)) (opening_used w);
  };
  sent = λ m h. absurd (start_sent catalogue m h);
  entry = λ c h. absurd (start_entered catalogue c h);
}
  where
    w : Scene
    w = scene_of (start_world catalogue)

pub names_quiet : (catalogue : Catalogue) (w new : Scene) (s : ℕ) → Quiet catalogue w new s → InvNames w → InvNames new
names_quiet catalogue w new s q inv = record {
  site = λ k y up. site_at k y (quiet_is catalogue w new s q k y up);
  kept = kept_now;
  sent = λ m h. named_lifts (UsedTxn w) (UsedTxn new) (Used w) (Used new) txns views m.message (inv.sent m (rw q.sent at h));
  entry = λ c h. let e = inv.entry c (rw q.journal at h) in (txns c.txn e.0, views c.view e.1);
}
  where
    txns : (t : TxnId) → UsedTxn w t → UsedTxn new t
    txns = used_lasts w new s q.moved (quiet_grows catalogue w new s q)

    views : (v : ViewId) → Used w v → Used new v
    views v h = above catalogue w new s q.moved v v.site h

    kept_now : (k : ℕ) → KeptNamed (UsedTxn new) (Used new) (kept_at new k)
    kept_now k = record {
      doubts = λ d h. let z = (inv.kept k).doubts d (rw (quiet_kept catalogue w new s q (λ (d : DurableState). d.doubts) q.doubts k) at h) in (txns d.txn z.0, views d.view z.1);
      decisions = λ d h. txns d.txn ((inv.kept k).decisions d (rw (quiet_kept catalogue w new s q (λ (d : DurableState). d.decisions) q.decisions k) at h));
      copies = λ c h. views c.1.date ((inv.kept k).copies c (rw (quiet_kept catalogue w new s q (λ (d : DurableState). d.copies) q.copies k) at h));
    }

    site_at : (k : ℕ) (y : SiteState) → QuietIs catalogue w s k y → Names (UsedTxn new) (Used new) y
    site_at k y (QuietIs.here e same) = subst (Names (UsedTxn new) (Used new)) same
        (start_names (UsedTxn new) (Used new) catalogue s (kept_at w s) (opening_used new) (kept_lifts (UsedTxn w) (UsedTxn new) (Used w) (Used new) txns views (kept_at w s) (inv.kept s)))
    site_at k y (QuietIs.other n old) = names_lift (UsedTxn w) (UsedTxn new) (Used w) (Used new) txns views y (inv.site k y old)
