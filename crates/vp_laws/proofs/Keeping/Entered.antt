-- Each holder that an entry affects has voted, and a site that waits for a view has nothing of it.
use Rattle.std.proofs.Common.{◌≡◌, ◌≢◌, ◌∙◌, ap, sym, subst, ℕ, Bool, true, false, refl, arith, ⊎_elim}
use Rattle.std.specs.Prelude.{Option, Some, None, option_map, ◌&&◌, ◌==◌, not}
use Rattle.std.proofs.lemmas.Bool.Decides.{nat_tests}
use Rattle.vp_laws.proofs.Journal.ValuesAfter.{Wrote}
use Rattle.vp_model.specs.Transactions.{entry_of}
use Rattle.vp_model.specs.Types.{ViewId, TxnId, View, Commit, Input, Live, Doubt}
use Rattle.vp_model.specs.Types.message
use Rattle.vp_model.specs.Words.{has, is_view}
use Rattle.vp_model.specs.Catalogue.{Catalogue, holders, start_copies}
use Rattle.vp_model.specs.Durable.{empty_durable}
use Rattle.vp_model.specs.Site.{SiteState, Stepped}
use Rattle.vp_model.specs.Refresh.{other_holders_in}
use Rattle.vp_laws.proofs.Lists.Members.{Has, has_none, filter_keeps, has_test}
use Rattle.vp_laws.proofs.Lists.Views.{AtMost, Precedes, not_both, AtMost-same, same_site}
use Rattle.vp_laws.proofs.Moves.LocalViews.{Local, InviteComes}
use Rattle.vp_laws.proofs.Moves.Table.{remaining, Decides}
use Rattle.vp_laws.proofs.Worlds.Scenes.{Scene, plain_at, kept_at, promise_at, Acted, scene_of}
use Rattle.vp_laws.proofs.Table.Led.{IsOf, Led}
use Rattle.vp_laws.proofs.Table.Below.{Below}
use Rattle.vp_laws.proofs.Table.Steps.{EnteredFor, Steps}
use Rattle.vp_laws.proofs.Table.Shares.{DoubtNow, Shares}
use Rattle.vp_laws.proofs.Invariant.Views.{InvViews}
use Rattle.vp_laws.proofs.Invariant.Led.{InvLed}
use Rattle.vp_laws.proofs.Invariant.Shares.{HasVote, InvShares, vote_more}
use Rattle.vp_laws.proofs.Invariant.Ops.{LiveOk}
use Rattle.vp_laws.proofs.Worlds.Events.{Arrives, came_in}
use Rattle.vp_laws.proofs.Worlds.Sites.{NowIs, now_is, QuietIs, quiet_is, started, start_entered, none_waiting, Quiet}
use Rattle.vp_laws.proofs.Lists.Numbers.{not_same}
use Rattle.vp_laws.proofs.Lists.Changes.{is_none}
use Rattle.vp_laws.proofs.Invariant.Entered.{InvEntered, Affected, AgreedAs}
use Rattle.vp_model.specs.World.{start_world}

-- a holder that is another member of the held view
pub other_holder : (catalogue : Catalogue) (id rec q : ℕ) (v : View) → Has (holders catalogue rec) q → Has v.members q → q ≢ id → Has (other_holders_in catalogue id (Some v) rec) q
other_holder catalogue id rec q v h m n = filter_keeps (λ (q : ℕ). has v.members q && not (q == id)) (holders catalogue rec) q h (both (has v.members q) (q == id) (has_test v.members q m) differs)
  where
    differs : (q == id) ≡ false
    differs = grind (arith, nat_tests, n)

    both : (a b : Bool) → a ≡ true → b ≡ false → (a && not b) ≡ true
    both a b e f = rw (e, f) refl

above_is_other : (a b c : ViewId) → AtMost a b → Precedes b c → a ≢ c
above_is_other a b c h p e = not_both b c p (rw (← e) h)

module _ (catalogue : Catalogue) (w new : Scene) (s : ℕ) (x : SiteState) (given : Input) (o : Stepped) (up : plain_at w s ≡ Some x) (arrives : Arrives w s given) (id : x.id ≡ s) (promise : x.promise ≡ promise_at w s) (views : InvViews catalogue w) (views_now : InvViews catalogue new) (led : Led x) (asked : InvLed w) (below : Below x) (shares : InvShares catalogue w) (ops : (u : Live) → Has x.live u → LiveOk catalogue x.id x.held u) (inv : InvEntered catalogue w) (l : Local x given o) (c : Steps catalogue x given o.site.coordinator o.effects.messages o.effects.commits) (p : Shares x given o) (st : Acted w new s x o) where
  -- an entry's view was agreed before the step, where the entry was there
  view_was : (e : Commit) (v : View) → Has w.journal e → AgreedAs new e.view v → AgreedAs w e.view v
  view_was e v h a =
      let q = asked.entry e h in
      let same : q.0 ≡ v = views_now.unique q.0 v (st.moved.agreed q.0 q.1) a.0 (q.2 ∙ sym a.1) in
      (subst (Has w.agreed) same q.1, a.1)

  -- the view of a new entry is the held one
  held_is : (e : Commit) (f : EnteredFor catalogue x given e) (v : View) → AgreedAs new e.view v → x.held ≡ Some v
  held_is e f v a =
      let u = f.handled.was in
      let of : IsOf x u = led.live u f.handled.live in
      let viewed : u.view ≡ e.view = sym (ap (λ (t : Live). t.view) f.handled.same) ∙ ap (λ (e : Commit). e.view) f.is in
      let ok = views.site s x up in
      let same : of.0 ≡ v = views_now.unique of.0 v (st.moved.agreed of.0 (ok.held of.0 of.1)) a.0 (of.2 ∙ viewed ∙ sym a.1) in
      of.1 ∙ ap (λ (v : View). Some v) same

  -- the parts of a transaction that is decided have voted
  part_voted : (t : Live) → Decides catalogue x given t → (q : ℕ) → Has t.parts q → HasVote new q t.txn
  part_voted t (Decides.alone was p here next commit alone same) q h = absurd (has_none q (rw (is_none was.parts alone) at (rw (ap (λ (t : Live). t.parts) same) at h)))
  part_voted t (Decides.voted p from here last comes commit) q h = ⊎_elim
      (λ missing. ⊎_elim
      (λ (it : q ≡ from). (s, rw it (st.moved.sent _ (came_in w s given arrives from (message.Vote t.txn) comes))))
      (λ (n : q ≢ from). absurd (has_none q (rw (is_none (remaining from p) last.last) at (filter_keeps (λ (a : ℕ). not (a == from)) p.missing q missing (not_same q from n)))))
      (same_site q from))
      (λ v. vote_more w new st.moved.sent q t.txn v)
      (shares.awaits s x t up here p last.pending commit q h)

  voted_new : (e : Commit) (k : ℕ) → EnteredFor catalogue x given e → Affected catalogue new e k → k ≢ e.txn.site → HasVote new k e.txn
  voted_new e k f a n =
      let u = f.handled.was in
      let named : f.was.txn ≡ e.txn = ap (λ (e : Commit). e.txn) f.is in
      let done : entry_of u ≡ e = sym (ap entry_of f.handled.same) ∙ f.is in
      let wrote = subst (λ (e : Commit). Wrote e a.rec) (sym done) a.wrote in
      let held = held_is e f a.view a.agreed in
      let site : x.id ≡ e.txn.site = sym (led.names u f.handled.live).0 ∙ ap (λ (t : TxnId). t.site) (sym (ap (λ (t : Live). t.txn) f.handled.same) ∙ named) in
      let other : Has (other_holders_in catalogue x.id (Some a.view) a.rec) k = other_holder catalogue x.id a.rec k a.view a.holder a.member (λ g. n (g ∙ site)) in
      let part : Has u.parts k = (ops u f.handled.live).written a.rec wrote k (subst (λ (held : Option View). Has (other_holders_in catalogue x.id held a.rec) k) (sym held) other) in
      subst (HasVote new k) named (part_voted f.was f.decides k (rw (ap (λ (t : Live). t.parts) f.handled.same) part))

  affected_was : (e : Commit) (k : ℕ) → Has w.journal e → Affected catalogue new e k → Affected catalogue w e k
  affected_was e k h a = record { view = a.view; agreed = view_was e a.view h a.agreed; rec = a.rec; wrote = a.wrote; holder = a.holder; member = a.member }

  -- a view that is awaited now
  no_doubt_now : (i : ViewId) (d : Doubt) → o.site.waiting ≡ Some i → DoubtNow x given d → d.view ≢ i
  no_doubt_now i d e (DoubtNow.still h) = ⊎_elim
      (λ was. inv.no_doubt s x i d up was h)
      (λ (q : InviteComes given i × Precedes x.promise i). above_is_other d.view x.promise i (below.doubts d h).0 q.1)
      (l.waiting i e)
  no_doubt_now i d e (DoubtNow.fresh from part reads writes q some f) = ⊎_elim
      (λ was. absurd (holding x.held refl was q.held))
      (λ (a : InviteComes given i × Precedes x.promise i). absurd (let y = a.0.1 in let z = q.comes in cc))
      (l.waiting i e)
    where
      holding : (held : Option View) → x.held ≡ held → x.waiting ≡ Some i → is_view (option_map (λ (v : View). v.id) held) q.view ≡ true → ⊥
      holding None f was t = cc
      holding (Some v) f was t = let z = ((views.site s x up).tidy.waiting i was).1 in cc

  entry_below : (e : Commit) → Has w.journal e → e.txn.site ≡ s → AtMost e.view x.promise
  entry_below e h site =
      let q = asked.entry e h in
      let up = (views.view q.0 q.1).members e.txn.site q.3 in
      subst (λ (i : ViewId). AtMost i x.promise) q.2 (rw promise (subst (λ (k : ℕ). AtMost q.0.id (promise_at w k)) site up))

  entered_at_promise : (e : Commit) → EnteredFor catalogue x given e → (v : View) × (x.held ≡ Some v) × (v.id ≡ e.view)
  entered_at_promise e f =
      let u = f.handled.was in
      let of : IsOf x u = led.live u f.handled.live in
      (of.0, of.1, of.2 ∙ sym (ap (λ (t : Live). t.view) f.handled.same) ∙ ap (λ (e : Commit). e.view) f.is)

  no_entry_now : (i : ViewId) (e : Commit) → o.site.waiting ≡ Some i → Has new.journal e → e.txn.site ≡ s → e.view ≢ i
  no_entry_now i e f h site = ⊎_elim
      (λ old. ⊎_elim (λ was. inv.no_entry s x i e up was old site) (λ (q : InviteComes given i × Precedes x.promise i). above_is_other e.view x.promise i (entry_below e old site) q.1) (l.waiting i f))
      (λ more.
      let v = entered_at_promise e (c.entered e more) in
      let tidy = (views.site s x up).tidy in
      ⊎_elim (λ was. absurd (let z = (tidy.waiting i was).1 in let y = v.1 in cc))
      (λ (q : InviteComes given i × Precedes x.promise i). above_is_other e.view x.promise i (AtMost-same e.view x.promise (sym v.2 ∙ (tidy.held v.0 v.1).0)) q.1) (l.waiting i f))
      (st.entered e h)

  pub entered_keep : InvEntered catalogue new
  entered_keep = record {
    voted = λ e k h a n. ⊎_elim (λ old. vote_more w new st.moved.sent k e.txn (inv.voted e k old (affected_was e k old a) n)) (λ more. voted_new e k (c.entered e more) a n) (st.entered e h);
    no_doubt = λ k y i d h f q. doubt_at k y i d f q (now_is w new s x o st k y h);
    no_entry = λ k y i e h f q site. entry_at k y i e f q site (now_is w new s x o st k y h);
  }
    where
      doubt_at : (k : ℕ) (y : SiteState) (i : ViewId) (d : Doubt) → y.waiting ≡ Some i → Has y.doubts d → NowIs w s o.site k y → d.view ≢ i
      doubt_at k y i d f q (NowIs.other n old) = inv.no_doubt k y i d old f q
      doubt_at k y i d f q (NowIs.here e same) = no_doubt_now i d (ap (λ (y : SiteState). y.waiting) same ∙ f) (p.doubts d (subst (λ (y : SiteState). Has y.doubts d) (sym same) q))

      entry_at : (k : ℕ) (y : SiteState) (i : ViewId) (e : Commit) → y.waiting ≡ Some i → Has new.journal e → e.txn.site ≡ k → NowIs w s o.site k y → e.view ≢ i
      entry_at k y i e f q site (NowIs.here g same) = no_entry_now i e (ap (λ (y : SiteState). y.waiting) same ∙ f) q (site ∙ g)
      entry_at k y i e f q site (NowIs.other n old) = ⊎_elim (λ was. inv.no_entry k y i e old f was site)
          (λ more. absurd (n (sym site ∙ sym (entered_site e (c.entered e more)))))
          (st.entered e q)
        where
          entered_site : (e : Commit) → EnteredFor catalogue x given e → s ≡ e.txn.site
          entered_site e g = sym id ∙ sym (led.names g.handled.was g.handled.live).0 ∙ ap (λ (t : TxnId). t.site) (sym (ap (λ (t : Live). t.txn) g.handled.same) ∙ ap (λ (e : Commit). e.txn) g.is)

pub entered_starts : (catalogue : Catalogue) → InvEntered catalogue (scene_of (start_world catalogue))
entered_starts catalogue = record {
  voted = λ e s h a n. absurd (start_entered catalogue e h);
  no_doubt = λ s x i d h f q. absurd (none_waiting catalogue s (empty_durable (start_copies catalogue s)) i (ap (λ (x : SiteState). x.waiting) (started catalogue s x h) ∙ f));
  no_entry = λ s x i e h f q site. absurd (start_entered catalogue e q);
}

pub entered_quiet : (catalogue : Catalogue) (w new : Scene) (s : ℕ) → Quiet catalogue w new s → InvEntered catalogue w → InvEntered catalogue new
entered_quiet catalogue w new s q inv = record {
  voted = λ e s h a n. let g = inv.voted e s (rw q.journal at h) (record { view = a.view; agreed = (rw q.agreed at a.agreed.0, a.agreed.1); rec = a.rec; wrote = a.wrote; holder = a.holder; member = a.member }) n in (g.0, rw q.sent g.1);
  no_doubt = λ k y i d h f z. no_doubt_at w s inv k y i d f z (quiet_is catalogue w new s q k y h);
  no_entry = λ k y i e h f z site. no_entry_at w s inv k y i e f (rw q.journal at z) site (quiet_is catalogue w new s q k y h);
}
  where
    no_doubt_at : (w : Scene) (s : ℕ) → InvEntered catalogue w → (k : ℕ) (y : SiteState) (i : ViewId) (d : Doubt) → y.waiting ≡ Some i → Has y.doubts d → QuietIs catalogue w s k y → d.view ≢ i
    no_doubt_at w s inv k y i d f z (QuietIs.other n old) = inv.no_doubt k y i d old f z
    no_doubt_at w s inv k y i d f z (QuietIs.here e same) = absurd (none_waiting catalogue s (kept_at w s) i (ap (λ (y : SiteState). y.waiting) same ∙ f))

    no_entry_at : (w : Scene) (s : ℕ) → InvEntered catalogue w → (k : ℕ) (y : SiteState) (i : ViewId) (e : Commit) → y.waiting ≡ Some i → Has w.journal e → e.txn.site ≡ k → QuietIs catalogue w s k y → e.view ≢ i
    no_entry_at w s inv k y i e f z site (QuietIs.other n old) = inv.no_entry k y i e old f z site
    no_entry_at w s inv k y i e f z site (QuietIs.here g same) = absurd (none_waiting catalogue s (kept_at w s) i (ap (λ (y : SiteState). y.waiting) same ∙ f))
