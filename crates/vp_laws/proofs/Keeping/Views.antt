-- Promises and membership hold in every world of every schedule.
use Rattle.std.proofs.Common.{◌≡◌, ◌≢◌, ◌⊎◌, ◌∙◌, ap, sym, ℕ, List, refl, arith, inl, inr, ⊎_elim, map}
use Rattle.std.specs.Prelude.{Some, Option, None, ◌==◌, ◌&&◌, option_map}
use Rattle.vp_model.specs.Types.{ViewId, View, Sent, Message, Input}
use Rattle.vp_model.specs.Types.input
use Rattle.vp_model.specs.Types.message
use Rattle.vp_model.specs.Words.{opening, same_view}
use Rattle.vp_model.specs.Catalogue.{Catalogue, sites_of, start_copies}
use Rattle.vp_model.specs.Durable.{DurableState, empty_durable, apply}
use Rattle.vp_model.specs.Site.{SiteState, Stepped}
use Rattle.vp_model.specs.Step.{step, start, start_record, durable_of}
use Rattle.vp_model.specs.World.{Place, place_of, start_place, start_world, restart_place}
use Rattle.vp_laws.proofs.Lists.Members.{Has, has_one_is, has_none, has_one, both_true}
use Rattle.vp_laws.proofs.Lists.Views.{AtMost, Precedes, AtMost-refl, AtMost-trans, AtMost-along, not_both, same_site, same_is}
use Rattle.vp_laws.proofs.Moves.Table.{Comes}
use Rattle.vp_laws.proofs.Moves.LocalViews.{Local, ViewComes, InviteComes, IsNew, HasGrown, MaySend, Tidy}
use Rattle.vp_laws.proofs.Worlds.Scenes.{Scene, kept_in, up_in, plain_at, promise_at, Moved, Acted, scene_of, kept_at, place-same, moves, promise_same, acted, stepping}
use Rattle.std.proofs.lemmas.Option.{cond_some}
use Rattle.vp_laws.proofs.Table.Views.{local-step}
use Rattle.vp_laws.proofs.Invariant.Views.{SiteOk, InvViews, Used, Told, ViewOk}
use Rattle.vp_laws.proofs.Worlds.Events.{Arrives, crashed, restarted, Lasts}
use Rattle.vp_laws.proofs.Worlds.Sites.{none_waiting, down, start_promise, start_at}

above_opening : (a b : ViewId) → Precedes a b → Precedes opening b
above_opening a b h = grind arith

pub at_site : (w : Scene) (i : ViewId) (a b : ℕ) → a ≡ b → AtMost i (promise_at w b) → AtMost i (promise_at w a)
at_site w i a b e h = rw e h

pub Used-along : (w : Scene) (i j : ViewId) → i ≡ j → Used w j → Used w i
Used-along w i j e h = rw e h

-- what is known of an input
abbrev pub Heard : Scene → Input → Type 0
Heard w (input.Message p m) = Told w p m
Heard w given = Unit {0}

pub heard_view : (w : Scene) (given : Input) (v : View) → Heard w given → ViewComes given v → Has w.agreed v
heard_view w given v h e = rw e.1 at h

pub heard_accept : (w : Scene) (given : Input) (q : ℕ) (j : ViewId) → Heard w given → Comes given q (message.Accept j) → AtMost j (promise_at w q)
heard_accept w given q j h e = rw e at h

pub heard_invite : (w : Scene) (given : Input) (j : ViewId) → Heard w given → InviteComes given j → Used w j
heard_invite w given j h e = rw e.1 at h

-- what lasts while promises rise and views are added
module _ (catalogue : Catalogue) (w new : Scene) (s : ℕ) (moved : Moved w new s) where
  pub rises_at : (a : ℕ) → AtMost (promise_at w a) (promise_at new a)
  rises_at a = ⊎_elim (λ e. rw e moved.rises) (λ n. AtMost-along (AtMost-refl (promise_at w a)) refl (ap (λ y. (kept_in y).promise) (moved.others a n))) (same_site a s)

  pub above : (i : ViewId) (a : ℕ) → AtMost i (promise_at w a) → AtMost i (promise_at new a)
  above i a h = AtMost-trans i (promise_at w a) (promise_at new a) h (rises_at a)

  pub told_lasts : (from : ℕ) (m : Message) → Told w from m → Told new from m
  told_lasts from (message.Invite i) h = above i i.site h
  told_lasts from (message.Accept i) h = above i from h
  told_lasts from (message.Stale i p) h = (above i i.site h.0, above p p.site h.1)
  told_lasts from (message.ViewCommit i members) h = moved.agreed _ h
  told_lasts from m h = tt

  pub view_lasts : (v : View) → ViewOk w v → ViewOk new v
  view_lasts v h = record { own = above v.id v.id.site h.own; members = λ a c. above v.id a (h.members a c) }

  pub site_lasts : (k : ℕ) (x : SiteState) → k ≢ s → SiteOk w k x → ((b : ViewId × List ℕ) (v : View) → x.inviting ≡ Some b → Has new.agreed v → b.0 ≡ v.id → ⊥) → SiteOk new k x
  site_lasts k x n h u = record {
    id = h.id;
    kept = h.kept ∙ sym (ap kept_in (moved.others k n));
    tidy = h.tidy;
    held = λ v e. moved.agreed v (h.held v e);
    awaits = h.awaits;
    acceptors = λ b a e c. above b.0 a (h.acceptors b a e c);
    unfixed = u;
  }

module _ (catalogue : Catalogue) (w new : Scene) (s : ℕ) (x : SiteState) (given : Input) (o : Stepped) (was : plain_at w s ≡ Some x) (inv : InvViews catalogue w) (heard : Heard w given) (l : Local x given o) (st : Acted w new s x o) where
  ok : SiteOk w s x
  ok = inv.site s x was

  promise_was : x.promise ≡ promise_at w s
  promise_was = ap (λ (d : DurableState). d.promise) ok.kept

  promise_now : promise_at new s ≡ o.site.promise
  promise_now = ap (λ (d : DurableState). d.promise) st.kept_now

  -- a view that is agreed now, and was not before, is the one that this site was inviting to
  not_new : (b : ViewId × List ℕ) (v : View) → Has new.agreed v → o.site.inviting ≡ Some b → Has w.agreed v
  not_new b v h i = ⊎_elim (λ q. q) (λ q. let n = (l.tidy.inviting b i).1 in absurd (let z = q.2 in cc)) (st.fixed v h)

  grown_id : (b : ViewId × List ℕ) (g : HasGrown x given b) → b.0 ≡ g.0.0
  grown_id b g = g.4

  -- what the site is now inviting to is not agreed
  unfixed_new : (b : ViewId × List ℕ) (v : View) → o.site.inviting ≡ Some b → Has new.agreed v → b.0 ≡ v.id → ⊥
  unfixed_new b v i h q =
      let old = not_new b v h i in
      ⊎_elim (λ same. ok.unfixed b v same old q)
      (λ more. ⊎_elim
      (λ (fresh : IsNew x b). let u = Used-along w b.0 v.id q (inv.view v old).own in
      not_both x.promise b.0 fresh.0 (AtMost-along (at_site w b.0 s b.0.site (sym (fresh.1 ∙ ok.id)) u) refl promise_was))
      (λ (g : HasGrown x given b). ok.unfixed g.0 v g.2 old (sym (grown_id b g) ∙ q))
      more)
      (l.inviting b i)

  acceptors_new : (b : ViewId × List ℕ) (a : ℕ) → o.site.inviting ≡ Some b → Has b.1 a → AtMost b.0 (promise_at new a)
  acceptors_new b a i c = ⊎_elim (λ same. above catalogue w new s st.moved b.0 a (ok.acceptors b a same c))
      (λ more. ⊎_elim
      (λ (fresh : IsNew x b). rw (← (has_one_is x.id a (rw fresh.2 at c)), ok.id, promise_now, (l.tidy.inviting b i).0) (AtMost-refl o.site.promise))
      (λ (g : HasGrown x given b). rw (grown_id b g) (above catalogue w new s st.moved g.0.0 a
      (⊎_elim (λ m. ok.acceptors g.0 a g.2 m) (λ pa. rw pa at (AtMost-along (heard_accept w given g.1 b.0 heard g.3) (sym (grown_id b g)) refl)) (g.5 a c))))
      more)
      (l.inviting b i)

  held_new : (v : View) → o.site.held ≡ Some v → Has new.agreed v
  held_new v h = ⊎_elim (λ same. st.moved.agreed v (ok.held v same))
      (λ more. ⊎_elim (λ own. st.fixes (v.id, v.members) v own h refl) (λ (comes : ViewComes given v). st.moved.agreed v (heard_view w given v heard comes)) more)
      (l.held v h)

  -- an identifier of this site is not above its promise
  awaits_new : (i : ViewId) → o.site.waiting ≡ Some i → (i.site ≢ s) × Precedes opening i
  awaits_new i h = ⊎_elim (λ same. ok.awaits i same)
      (λ (comes : InviteComes given i × Precedes x.promise i).
      ((λ own. not_both x.promise i comes.1 (AtMost-along (at_site w i s i.site (sym own) (heard_invite w given i heard comes.0)) refl promise_was)), above_opening x.promise i comes.1))
      (l.waiting i h)

  site_new : SiteOk new s o.site
  site_new = record {
    id = l.id ∙ ok.id;
    kept = sym st.kept_now;
    tidy = l.tidy;
    held = held_new;
    awaits = awaits_new;
    acceptors = acceptors_new;
    unfixed = unfixed_new;
  }

  unfixed_other : (k : ℕ) (y : SiteState) → k ≢ s → SiteOk w k y → (b : ViewId × List ℕ) (v : View) → y.inviting ≡ Some b → Has new.agreed v → b.0 ≡ v.id → ⊥
  unfixed_other k y n h b v i c q = ⊎_elim (λ old. h.unfixed b v i old q)
      (λ f. let mine = (ok.tidy.inviting f.0 f.1).3 in let its = (h.tidy.inviting b i).3 in let a = ok.id in let d = h.id in let z = f.3 in n cc)
      (st.fixed v c)

  -- who a site is now
  pub now_is : (k : ℕ) (y : SiteState) → plain_at new k ≡ Some y → ((k ≡ s) × (o.site ≡ y)) ⊎ ((k ≢ s) × (plain_at w k ≡ Some y))
  now_is k y h = ⊎_elim (λ q. inl (q, let z = rw q at h in let n = st.now in cc)) (λ n. inr (n, rw (ap up_in (st.moved.others k n)) at h)) (same_site k s)

  site_kept : (k : ℕ) (y : SiteState) → plain_at new k ≡ Some y → SiteOk new k y
  site_kept k y h = ⊎_elim
      (λ (here : (k ≡ s) × (o.site ≡ y)). rw (here.0, ← here.1) site_new)
      (λ (other : (k ≢ s) × (plain_at w k ≡ Some y)). let h2 = inv.site k y other.1 in site_lasts catalogue w new s st.moved k y other.0 h2 (unfixed_other k y other.0 h2))
      (now_is k y h)

  used_now : Used new o.site.promise
  used_now = ⊎_elim (λ same. Used-along new _ _ (same ∙ promise_was) (above catalogue w new s st.moved _ _ (inv.promise s)))
      (λ more. ⊎_elim (λ own. at_site new _ _ s (own ∙ ok.id) (rw promise_now (AtMost-refl o.site.promise))) (λ comes. above catalogue w new s st.moved _ _ (heard_invite w given _ heard comes)) more)
      l.origin

  told_new : (m : Message) → MaySend x given o.site.views m → Told new s m
  told_new (message.Invite i) h = at_site new i i.site s (h.1 ∙ ok.id) (rw promise_now h.0)
  told_new (message.Accept i) h = rw promise_now h
  told_new (message.Stale i p) h = (above catalogue w new s st.moved i i.site (heard_invite w given i heard h.0), Used-along new p _ (h.1 ∙ promise_was) (above catalogue w new s st.moved _ _ (inv.promise s)))
  told_new (message.ViewCommit i members) h = st.fixes (i, members) (record { id = i; members = members }) h.0 h.1 refl
  told_new m h = tt

  told_kept : (m : Sent) → Has new.sent m → Told new m.from m.message
  told_kept m h = ⊎_elim (λ old. told_lasts catalogue w new s st.moved m.from m.message (inv.told m old))
      (λ sent. let f = l.sent m sent in rw (f.0, ok.id) (told_new m.message f.1)) (st.sent m h)

  view_new : (b : ViewId × List ℕ) (v : View) → x.inviting ≡ Some b → o.site.held ≡ Some v → b.0 ≡ v.id → ViewOk new v
  view_new b v i h q = ⊎_elim (λ same. let z = (ok.tidy.held v same).2 in cc)
      (λ more. ⊎_elim
      (λ own. record {
        own = at_site new v.id v.id.site x.id (ok.tidy.inviting (v.id, v.members) own).3 (above catalogue w new s st.moved v.id x.id (ok.acceptors (v.id, v.members) x.id own (ok.tidy.inviting (v.id, v.members) own).4));
        members = λ a c. above catalogue w new s st.moved v.id a (ok.acceptors (v.id, v.members) a own c);
      })
      (λ comes. absurd (ok.unfixed b v i (heard_view w given v heard comes) q))
      more)
      (l.held v h)

  view_kept : (v : View) → Has new.agreed v → ViewOk new v
  view_kept v h = ⊎_elim (λ old. view_lasts catalogue w new s st.moved v (inv.view v old)) (λ f. view_new f.0 v f.1 f.2 f.3) (st.fixed v h)

  unique_kept : (u v : View) → Has new.agreed u → Has new.agreed v → u.id ≡ v.id → u ≡ v
  unique_kept u v h k q = ⊎_elim
      (λ old_u. ⊎_elim (λ old_v. inv.unique u v old_u old_v q) (λ f. absurd (ok.unfixed f.0 u f.1 old_u (f.3 ∙ sym q))) (st.fixed v k))
      (λ f. ⊎_elim (λ old_v. absurd (ok.unfixed f.0 v f.1 old_v (f.3 ∙ q))) (λ g. let a = f.2 in let b = g.2 in cc) (st.fixed v k))
      (st.fixed u h)

  promise_kept : (k : ℕ) → Used new (promise_at new k)
  promise_kept k = ⊎_elim (λ here. Used-along new _ _ (rw here promise_now) used_now)
      (λ n. Used-along new _ _ (ap (λ y. (kept_in y).promise) (st.moved.others k n)) (above catalogue w new s st.moved _ _ (inv.promise k)))
      (same_site k s)

  pub step_keeps : InvViews catalogue new
  step_keeps = record {
    site = site_kept;
    known = λ k p e. let q = st.moved.there k p e in inv.known k q.0 q.1;
    promise = promise_kept;
    told = told_kept;
    view = view_kept;
    unique = unique_kept;
    opening = st.moved.agreed _ inv.opening;
  }

-- a crash or a restart sends nothing and agrees nothing
module _ (catalogue : Catalogue) (w new : Scene) (s : ℕ) (inv : InvViews catalogue w) (moved : Moved w new s) (sent : new.sent ≡ w.sent) (agreed : new.agreed ≡ w.agreed) (promise : promise_at new s ≡ promise_at w s) (now : (x : SiteState) → plain_at new s ≡ Some x → SiteOk new s x) where
  was_agreed : (v : View) → Has new.agreed v → Has w.agreed v
  was_agreed v h = rw agreed at h

  pub quiet_keeps : InvViews catalogue new
  quiet_keeps = record {
    site = λ k y h. ⊎_elim
        (λ (here : k ≡ s). rw here (now y (rw here at h)))
        (λ (n : k ≢ s).
        let ok = inv.site k y (rw (ap up_in (moved.others k n)) at h) in
        site_lasts catalogue w new s moved k y n ok (λ b v i c q. ok.unfixed b v i (was_agreed v c) q))
        (same_site k s);
    known = λ k p e. let q = moved.there k p e in inv.known k q.0 q.1;
    promise = λ k. ⊎_elim
        (λ here. Used-along new _ _ (rw here promise) (above catalogue w new s moved _ _ (inv.promise s)))
        (λ n. Used-along new _ _ (ap (λ y. (kept_in y).promise) (moved.others k n)) (above catalogue w new s moved _ _ (inv.promise k)))
        (same_site k s);
    told = λ m h. told_lasts catalogue w new s moved m.from m.message (inv.told m (rw sent at h));
    view = λ v h. view_lasts catalogue w new s moved v (inv.view v (was_agreed v h));
    unique = λ u v h k q. inv.unique u v (was_agreed u h) (was_agreed v k) q;
    opening = moved.agreed _ inv.opening;
  }

-- a site opens with a view only where it has promised nothing
opens : (catalogue : Catalogue) (s : ℕ) (d : DurableState) (v : View) → (start catalogue s d).held ≡ Some v → (d.promise ≡ opening) × (record { id = opening; members = sites_of catalogue } ≡ v)
unfolding start
opens catalogue s d v h = let q = cond_some ((d.life == 0) && same_view d.promise opening) _ v h in (same_is d.promise opening (both_true _ _ q.0).1, q.1)

started_tidy : (catalogue : Catalogue) (s : ℕ) (d : DurableState) → Has (sites_of catalogue) s → Tidy (start catalogue s d)
unfolding start
started_tidy catalogue s d c = record {
  held = λ v h. let q = opens catalogue s d v h in (rw (← q.1) (sym q.0), refl, refl, rw (← q.1) c);
  waiting = λ i h. cc;
  inviting = λ b h. cc;
}

start_kept : (catalogue : Catalogue) (s : ℕ) (d : DurableState) → durable_of (start catalogue s d) ≡ apply (start_record d) d
unfolding start apply
start_kept catalogue s d = refl

start_is : (catalogue : Catalogue) (s : ℕ) (d : DurableState) → (start catalogue s d).id ≡ s
unfolding start
start_is catalogue s d = refl

none_inviting : (catalogue : Catalogue) (s : ℕ) (d : DurableState) (b : ViewId × List ℕ) → (start catalogue s d).inviting ≡ Some b → ⊥
unfolding start
none_inviting catalogue s d b h = cc

started_ok : (catalogue : Catalogue) (w : Scene) (s : ℕ) (d : DurableState) → Has w.agreed (record { id = opening; members = sites_of catalogue }) → Has (sites_of catalogue) s → kept_at w s ≡ apply (start_record d) d → SiteOk w s (start catalogue s d)
started_ok catalogue w s d agreed c kept = record {
  id = start_is catalogue s d;
  kept = start_kept catalogue s d ∙ sym kept;
  tidy = started_tidy catalogue s d c;
  held = λ v h. rw (← (opens catalogue s d v h).1) agreed;
  awaits = λ i h. absurd (none_waiting catalogue s d i h);
  acceptors = λ b a h. absurd (none_inviting catalogue s d b h);
  unfixed = λ b v h. absurd (none_inviting catalogue s d b h);
}

lasts_crash : (catalogue : Catalogue) (w : Scene) (s : ℕ) → InvViews catalogue w → InvViews catalogue (crashed w s)
lasts_crash catalogue w s inv =
    quiet_keeps catalogue w (crashed w s) s inv (moves w s _ (λ p. refl) (λ p. refl)) refl refl (promise_same w s _ (λ p. refl) (λ p. refl))
    (λ x h. absurd (down w s x h))

lasts_restart : (catalogue : Catalogue) (w : Scene) (s : ℕ) (place : Place) → place_of s w.places ≡ Some place → place.id ≡ s → InvViews catalogue w → InvViews catalogue (restarted catalogue w s)
lasts_restart catalogue w s place e i inv =
    let new = restarted catalogue w s in
    let there : place_of s new.places ≡ Some (restart_place catalogue place) = place-same s (restart_place catalogue) w.places (λ p. refl) ∙ ap (option_map (restart_place catalogue)) e in
    let ok : SiteOk new s (start catalogue s place.durable) = started_ok catalogue new s place.durable inv.opening (inv.known s place e) (ap kept_in there) in
    quiet_keeps catalogue w new s inv (moves w s (restart_place catalogue) (λ p. refl) (λ p. promise_on p)) refl refl (promise_same w s (restart_place catalogue) (λ p. refl) (λ p. promise_on p))
    (λ x h. let same : start catalogue place.id place.durable ≡ x = (let a = ap up_in there in cc) in rw (← same, i) ok)
  where
    promise_on : (p : Place) → (restart_place catalogue p).durable.promise ≡ p.durable.promise
    promise_on p = start_promise p.durable

start_promises : (catalogue : Catalogue) (s : ℕ) → promise_at (scene_of (start_world catalogue)) s ≡ opening
unfolding start_world
start_promises catalogue s = go (place_of s (map (start_place catalogue) (sites_of catalogue))) refl
  where
    go : (o : Option Place) → place_of s (map (start_place catalogue) (sites_of catalogue)) ≡ o → (kept_in o).promise ≡ opening
    go None e = refl
    go (Some p) e = let same = (start_at catalogue s (sites_of catalogue) p e).1 in rw (← same) (start_promise (empty_durable (start_copies catalogue s)))

lasts_start : (catalogue : Catalogue) → InvViews catalogue (scene_of (start_world catalogue))
unfolding start_world
lasts_start catalogue =
    let w = scene_of (start_world catalogue) in
    let all : (s : ℕ) (p : Place) → place_of s w.places ≡ Some p → Has (sites_of catalogue) s × (start_place catalogue s ≡ p) = (λ s p e. start_at catalogue s (sites_of catalogue) p e) in
    record {
      site = λ s x e. site_at_start s x (place_of s w.places) refl e;
      known = λ s p e. (all s p e).0;
      promise = λ s. AtMost-along (AtMost-refl opening) (start_promises catalogue s) (start_promises catalogue _);
      told = λ m h. absurd (has_none m h);
      view = λ v h. let e = has_one_is _ v h in record {
        own = AtMost-along (AtMost-refl opening) (sym (ap (λ (v : View). v.id) e)) (start_promises catalogue _);
        members = λ a c. AtMost-along (AtMost-refl opening) (sym (ap (λ (v : View). v.id) e)) (start_promises catalogue a);
      };
      unique = λ u v h k q. sym (has_one_is _ u h) ∙ has_one_is _ v k;
      opening = has_one _;
    }
  where
    site_at_start : (s : ℕ) (x : SiteState) (o : Option Place) → place_of s (map (start_place catalogue) (sites_of catalogue)) ≡ o → up_in o ≡ Some x → SiteOk (scene_of (start_world catalogue)) s x
    site_at_start s x None e up = cc
    site_at_start s x (Some p) e up =
        let all = start_at catalogue s (sites_of catalogue) p e in
        let same : start catalogue s (empty_durable (start_copies catalogue s)) ≡ x = (let a = ap (λ (p : Place). p.up) all.1 in cc) in
        rw (← same) (started_ok catalogue (scene_of (start_world catalogue)) s (empty_durable (start_copies catalogue s)) (has_one _) all.0 (ap kept_in (e ∙ ap (λ (p : Place). Some p) (sym all.1))))

heard : (catalogue : Catalogue) (w : Scene) (s : ℕ) (given : Input) → InvViews catalogue w → Arrives w s given → Heard w given
heard catalogue w s (input.Message from m) inv a = inv.told _ a
heard catalogue w s (input.Call port words) inv a = tt
heard catalogue w s input.Tick inv a = tt
heard catalogue w s input.Probe inv a = tt

lasts_step : (catalogue : Catalogue) (w : Scene) (s : ℕ) (x : SiteState) (given : Input) → plain_at w s ≡ Some x → Arrives w s given → InvViews catalogue w → InvViews catalogue (acted w s x (step catalogue x given))
lasts_step catalogue w s x given up a inv =
    let ok = inv.site s x up in
    let l = local-step catalogue x given ok.tidy in
    step_keeps catalogue w _ s x given (step catalogue x given) up inv (heard catalogue w s given inv a) l (stepping catalogue w s x given up ok.kept l)

pub views_last : (catalogue : Catalogue) → Lasts catalogue (InvViews catalogue)
views_last catalogue = record {
  starts = lasts_start catalogue;
  acts = lasts_step catalogue;
  crashes = lasts_crash catalogue;
  restarts = λ w s place e u i inv. lasts_restart catalogue w s place e i inv;
}
