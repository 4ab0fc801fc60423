-- The locks of each site stay free of conflicts; and what comes to the site fits them.
use Rattle.std.proofs.Common.{◌≡◌, ◌≢◌, ◌∙◌, ap, sym, subst, ℕ, Bool, true, false, List, refl, arith, inr}
use Rattle.std.specs.Prelude.{Some}
use Rattle.std.proofs.lemmas.Bool.Decides.{nat_tests}
use Rattle.vp_model.specs.Types.{Change, ViewId, TxnId, Input, Lock, Doubt}
use Rattle.vp_model.specs.Types.message
use Rattle.vp_model.specs.Types.owner
use Rattle.vp_model.specs.Words.{same_view, keys, opening}
use Rattle.vp_model.specs.Catalogue.{Catalogue, start_copies}
use Rattle.vp_model.specs.Durable.{DurableState, empty_durable}
use Rattle.vp_model.specs.Site.{SiteState, Stepped}
use Rattle.vp_model.specs.Step.{locks_in_doubt, start, durable_of}
use Rattle.vp_laws.proofs.Lists.Members.{Has, has_none, map_has}
use Rattle.vp_laws.proofs.Lists.Changes.{mapped_has}
use Rattle.vp_laws.proofs.Lists.Views.{AtMost, Precedes, AtMost-along, opening_least, same_is}
use Rattle.vp_laws.proofs.Moves.Table.{Comes}
use Rattle.vp_laws.proofs.Moves.LocalViews.{letter}
use Rattle.vp_laws.proofs.Worlds.Scenes.{Scene, plain_at, kept_at, Acted, acted, scene_of}
use Rattle.vp_laws.proofs.Table.Led.{Led}
use Rattle.vp_laws.proofs.Table.Below.{Below}
use Rattle.vp_laws.proofs.Table.Endings.{NotLive}
use Rattle.vp_laws.proofs.Table.Locks.{LocksAt, Guards}
use Rattle.vp_laws.proofs.Invariant.Views.{InvViews, SiteOk}
use Rattle.vp_laws.proofs.Invariant.Led.{InvLed}
use Rattle.vp_laws.proofs.Invariant.Endings.{InvEndings}
use Rattle.vp_laws.proofs.Invariant.Shares.{InvShares}
use Rattle.vp_laws.proofs.Invariant.Entered.{InvEntered}
use Rattle.vp_laws.proofs.Worlds.Events.{Arrives}
use Rattle.vp_laws.proofs.Worlds.Sites.{NowIs, now_is, KeptIs, kept_is, QuietIs, quiet_is, quiet_kept, started, start_kept, Quiet}
use Rattle.vp_laws.proofs.Journal.Order.{flat_has, has_flat}
use Rattle.vp_laws.proofs.Invariant.Guards.{InvGuards}
use Rattle.vp_model.specs.World.{start_world}

pub strictly : (a b : ViewId) → AtMost a b → a ≢ b → Precedes a b
strictly a b h n = go (same_view a b) refl
  where
    go : (t : Bool) → same_view a b ≡ t → Precedes a b
    go true e = absurd (n (same_is a b e))
    go false e = grind (arith, nat_tests, e, h)

pub txn_same : (t u : TxnId) → owner.Txn t ≡ owner.Txn u → t ≡ u
txn_same t u e = cc

doubt_lock : (d : Doubt) (l : Lock) → Has (locks_in_doubt d) l → Has (keys d.writes) l.rec × (l.owner ≡ owner.Txn d.txn) × (l.exclusive ≡ true)
doubt_lock d l h =
    let r = map_has (λ (w : ℕ × Change). record { rec = w.0; exclusive = true; owner = owner.Txn d.txn }) d.writes l h in
    (subst (Has (keys d.writes)) (ap (λ (l : Lock). l.rec) r.2) (mapped_has (λ (w : ℕ × Change). w.0) d.writes r.0 r.1), sym (ap (λ (l : Lock). l.owner) r.2), sym (ap (λ (l : Lock). l.exclusive) r.2))

-- the locks of a site that starts are those of its doubts
start_locks : (catalogue : Catalogue) (s : ℕ) (k : DurableState) → ((c d : Doubt) (rec : ℕ) → Has k.doubts c → Has k.doubts d → Has (keys c.writes) rec → Has (keys d.writes) rec → c.txn ≡ d.txn) → LocksAt catalogue (start catalogue s k)
unfolding start
start_locks catalogue s k writes = record {
  apart = λ a b t u h g r x f e.
      let p = flat_has locks_in_doubt k.doubts a h in
      let q = flat_has locks_in_doubt k.doubts b g in
      let c = doubt_lock p.0 a p.2 in
      let d = doubt_lock q.0 b q.2 in
      c.1 ∙ ap owner.Txn (writes p.0 q.0 a.rec p.1 q.1 c.0 (rw r d.0)) ∙ sym d.1;
  owners = λ l txn h e.
      let p = flat_has locks_in_doubt k.doubts l h in
      let c = doubt_lock p.0 l p.2 in inr (inr (p.0, p.1, txn_same p.0.txn txn (sym c.1 ∙ e)));
  doubted = λ d rec h z.
      let r = map_has (λ (w : ℕ × Change). w.0) d.writes rec z in
      record {
        lock = record { rec = r.0.0; exclusive = true; owner = owner.Txn d.txn };
        has = has_flat locks_in_doubt k.doubts d _ h (mapped_has (λ (w : ℕ × Change). record { rec = w.0; exclusive = true; owner = owner.Txn d.txn }) d.writes r.0 r.1);
        on = r.2;
        by = refl;
        strong = λ e. refl;
      };
  listed = λ r h. absurd (has_none r h);
  guard = λ l h e.
      let p = flat_has locks_in_doubt k.doubts l h in
      let c = doubt_lock p.0 l p.2 in absurd (let z = sym c.1 ∙ e in cc);
  lower = λ r h. absurd (has_none r h);
  own = λ t h. absurd (has_none t h);
}

module _ (catalogue : Catalogue) (w : Scene) (s : ℕ) (x : SiteState) (given : Input) (up : plain_at w s ≡ Some x) (arrives : Arrives w s given) (views : InvViews catalogue w) (led : Led x) (asked : InvLed w) (below : Below x) (ends : InvEndings w) (shares : InvShares catalogue w) (entered : InvEntered catalogue w) where
  site_ok : SiteOk w s x
  site_ok = views.site s x up

  -- an outcome is of no live transaction
  pub outcomes : (from : ℕ) (txn : TxnId) (commit : Bool) → Comes given from (message.Outcome txn commit) → NotLive x.live txn
  outcomes from txn commit c t h e = go commit c
    where
      here : txn.site ≡ s
      here = ap (λ (t : TxnId). t.site) (sym e) ∙ (led.names t h).0 ∙ site_ok.id

      go : (commit : Bool) → Comes given from (message.Outcome txn commit) → ⊥
      go true c = (ends.told (letter from s (message.Outcome txn true)) (rw c at arrives)).0 x (rw here up) t h e
      go false c = ends.told (letter from s (message.Outcome txn false)) (rw c at arrives) x (rw here up) t h e

  doubts_kept : (d : Doubt) → Has x.doubts d → Has (kept_at w s).doubts d
  doubts_kept d h = subst (λ (k : DurableState). Has k.doubts d) site_ok.kept h

  pub awaited : (i : ViewId) → x.waiting ≡ Some i → Precedes opening i × ((d : Doubt) → Has x.doubts d → Precedes d.view i)
  awaited i e = (
    (site_ok.awaits i e).1,
    (λ d h. strictly d.view i (AtMost-along (below.doubts d h).0 refl (site_ok.tidy.waiting i e).0) (entered.no_doubt s x i d up e h)),
  )

  pub invited : (b : ViewId × List ℕ) → x.inviting ≡ Some b → Precedes opening b.0 × ((d : Doubt) → Has x.doubts d → Precedes d.view b.0)
  invited b e = (
    strictly opening b.0 (opening_least b.0) (λ z. site_ok.unfixed b _ e views.opening (sym z)),
    (λ d h. strictly d.view b.0 (AtMost-along (below.doubts d h).0 refl (site_ok.tidy.inviting b e).0) (λ z.
        let q = shares.doubts s d (doubts_kept d h) in
        let v = asked.asked _ q.0.3 in
        site_ok.unfixed b v.0 e v.1 (sym z ∙ sym v.2))),
  )

pub guards_starts : (catalogue : Catalogue) → InvGuards catalogue (scene_of (start_world catalogue))
guards_starts catalogue = record {
  site = λ s x h. subst (LocksAt catalogue) (started catalogue s x h) (start_locks catalogue s (empty_durable (start_copies catalogue s)) (λ c d rec h k a b. absurd (has_none c h)));
  writes = λ s c d rec h k a b. absurd (has_none c (rw (start_kept catalogue s).doubts at h));
}

pub guards_acts : (catalogue : Catalogue) (w : Scene) (s : ℕ) (x : SiteState) (given : Input) (o : Stepped) → Guards catalogue x given o → Acted w (acted w s x o) s x o → InvGuards catalogue w → InvGuards catalogue (acted w s x o)
guards_acts catalogue w s x given o g st inv = record {
  site = λ k y h. site_now k y (now_is w (acted w s x o) s x o st k y h);
  writes = λ k c d rec h z a b. writes_now k c d rec h z a b (kept_is w (acted w s x o) s x o st k);
}
  where
    site_now : (k : ℕ) (y : SiteState) → NowIs w s o.site k y → LocksAt catalogue y
    site_now k y (NowIs.other n old) = inv.site k y old
    site_now k y (NowIs.here e same) = subst (LocksAt catalogue) same g.ok

    one_owner : (c d : Doubt) (rec : ℕ) → Has o.site.doubts c → Has o.site.doubts d → Has (keys c.writes) rec → Has (keys d.writes) rec → c.txn ≡ d.txn
    one_owner c d rec h z a b =
        let p = g.ok.doubted c rec h a in
        let q = g.ok.doubted d rec z b in
        txn_same c.txn d.txn (sym p.by ∙ g.ok.apart p.lock q.lock c.txn d.txn p.has q.has (p.on ∙ sym q.on) (p.strong refl) p.by q.by ∙ q.by)

    writes_now : (k : ℕ) (c d : Doubt) (rec : ℕ) → Has (kept_at (acted w s x o) k).doubts c → Has (kept_at (acted w s x o) k).doubts d → Has (keys c.writes) rec → Has (keys d.writes) rec → KeptIs w (acted w s x o) s (durable_of o.site) k → c.txn ≡ d.txn
    writes_now k c d rec h z a b (KeptIs.other n same) = inv.writes k c d rec (subst (λ (k : DurableState). Has k.doubts c) same h) (subst (λ (k : DurableState). Has k.doubts d) same z) a b
    writes_now k c d rec h z a b (KeptIs.here e same) = one_owner c d rec (subst (λ (k : DurableState). Has k.doubts c) same h) (subst (λ (k : DurableState). Has k.doubts d) same z) a b

pub guards_quiet : (catalogue : Catalogue) (w new : Scene) (s : ℕ) → Quiet catalogue w new s → InvGuards catalogue w → InvGuards catalogue new
guards_quiet catalogue w new s q inv =
    let doubts = λ (k : ℕ). quiet_kept catalogue w new s q (λ (d : DurableState). d.doubts) q.doubts k in
    record {
      site = λ k y h. quiet_site w s inv k y (quiet_is catalogue w new s q k y h);
      writes = λ k c d rec h g. inv.writes k c d rec (subst (λ (ds : List Doubt). Has ds c) (doubts k) h) (subst (λ (ds : List Doubt). Has ds d) (doubts k) g);
    }
  where
    quiet_site : (w : Scene) (s : ℕ) → InvGuards catalogue w → (k : ℕ) (y : SiteState) → QuietIs catalogue w s k y → LocksAt catalogue y
    quiet_site w s inv k y (QuietIs.other n old) = inv.site k y old
    quiet_site w s inv k y (QuietIs.here e same) = subst (LocksAt catalogue) same (start_locks catalogue s (kept_at w s) (inv.writes s))
