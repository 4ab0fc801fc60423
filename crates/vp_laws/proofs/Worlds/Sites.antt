-- Which state each site has after an event, and how the world starts: every invariant of all sites uses this.
use Rattle.std.proofs.Common.{◌≢◌, subst, ◌+◌, ◌≤◌, ⊎_elim, ◌≡◌, ◌∙◌, ap, sym, ℕ, Bool, true, false, cond, List, [], ◌∷◌, map, refl, arith}
use Rattle.std.specs.Prelude.{Option, Some, None, ◌==◌, option_map}
use Rattle.vp_model.specs.Types.{Stored, Sent, Commit, Input, Refreshing, Live, Finished, ViewId}
use Rattle.vp_laws.proofs.Lists.Members.{has_none, map_has, Has, has_first, has_more}
use Rattle.vp_model.specs.Words.{opening}
use Rattle.vp_model.specs.Catalogue.{RecordEntry, sites_of, start_copies, Catalogue}
use Rattle.vp_model.specs.Durable.{empty_durable, DurableState, apply}
use Rattle.vp_model.specs.Site.{Stepped, SiteState}
use Rattle.vp_model.specs.Step.{durable_of, step, start, start_record}
use Rattle.vp_model.specs.World.{start_world, restart_place, Place, place_of, start_place}
use Rattle.vp_laws.proofs.Lists.Views.{same_site}
use Rattle.vp_laws.proofs.Worlds.Scenes.{scene_of, kept_in, kept_at, Moved, Acted, acted, moves, Scene, up_in, plain_at, place-same}
use Rattle.vp_laws.proofs.Worlds.Events.{Arrives, restarted, Lasts, crashed}
use Rattle.std.proofs.lemmas.Bool.Decides.{nat_tests}

pub none_waiting : (catalogue : Catalogue) (s : ℕ) (d : DurableState) (i : ViewId) → (start catalogue s d).waiting ≡ Some i → ⊥
unfolding start
none_waiting catalogue s d i h = cc

pub start_promise : (d : DurableState) → (apply (start_record d) d).promise ≡ d.promise
unfolding apply
start_promise d = refl

pub down : (w : Scene) (s : ℕ) (x : SiteState) → plain_at (crashed w s) s ≡ Some x → ⊥
down w s x h = go (place_of s w.places) (sym (ap up_in (place-same s (λ (place : Place). record place { up = None }) w.places (λ p. refl))) ∙ h)
  where
    go : (o : Option Place) → up_in (option_map (λ (place : Place). record place { up = None }) o) ≡ Some x → ⊥
    go None e = cc
    go (Some p) e = cc

-- the start
pub start_at : (catalogue : Catalogue) (s : ℕ) (sites : List ℕ) (p : Place) → place_of s (map (start_place catalogue) sites) ≡ Some p → Has sites s × (start_place catalogue s ≡ p)
start_at catalogue s [] p e = cc
start_at catalogue s (a ∷ sites) p e = go (a == s) refl e (λ q. start_at catalogue s sites p q)
  where
    go : (t : Bool) → (a == s) ≡ t → cond t (Some (start_place catalogue a)) (place_of s (map (start_place catalogue) sites)) ≡ Some p → (place_of s (map (start_place catalogue) sites) ≡ Some p → Has sites s × (start_place catalogue s ≡ p)) → Has (a ∷ sites) s × (start_place catalogue s ≡ p)
    go true t q rest = let here : a ≡ s = grind (arith, nat_tests, t) in (rw here (has_first s sites), let z : Some (start_place catalogue a) ≡ Some p = q in rw (← here) (let y = z in cc))
    go false t q rest = (has_more a sites s (rest q).0, (rest q).1)

-- the site that moved, or another one as it was
pub data NowIs (w : Scene) (s : ℕ) (moved : SiteState) (k : ℕ) (y : SiteState) : Type 0 where
  here : k ≡ s → moved ≡ y → NowIs w s moved k y
  other : k ≢ s → plain_at w k ≡ Some y → NowIs w s moved k y

pub now_is : (w new : Scene) (s : ℕ) (x : SiteState) (o : Stepped) → Acted w new s x o → (k : ℕ) (y : SiteState) → plain_at new k ≡ Some y → NowIs w s o.site k y
now_is w new s x o st k y h = ⊎_elim (λ (q : k ≡ s). NowIs.here q (let z = rw q at h in let n = st.now in cc)) (λ (n : k ≢ s). NowIs.other n (rw (ap up_in (st.moved.others k n)) at h)) (same_site k s)

pub data KeptIs (w new : Scene) (s : ℕ) (now : DurableState) (k : ℕ) : Type 0 where
  here : k ≡ s → kept_at new k ≡ now → KeptIs w new s now k
  other : k ≢ s → kept_at new k ≡ kept_at w k → KeptIs w new s now k

pub kept_is : (w new : Scene) (s : ℕ) (x : SiteState) (o : Stepped) → Acted w new s x o → (k : ℕ) → KeptIs w new s (durable_of o.site) k
kept_is w new s x o st k = ⊎_elim (λ (q : k ≡ s). KeptIs.here q (ap (kept_at new) q ∙ st.kept_now)) (λ (n : k ≢ s). KeptIs.other n (ap kept_in (st.moved.others k n))) (same_site k s)

-- one site goes down, or starts with what it has kept; all else stays
pub record Quiet (catalogue : Catalogue) (w new : Scene) (s : ℕ) : Type 0 where
  pub moved : Moved w new s
  pub sent : new.sent ≡ w.sent
  pub agreed : new.agreed ≡ w.agreed
  pub journal : new.journal ≡ w.journal
  pub now : (y : SiteState) → plain_at new s ≡ Some y → start catalogue s (kept_at w s) ≡ y
  pub promise : (kept_at new s).promise ≡ (kept_at w s).promise
  pub copies : (kept_at new s).copies ≡ (kept_at w s).copies
  pub doubts : (kept_at new s).doubts ≡ (kept_at w s).doubts
  pub decisions : (kept_at new s).decisions ≡ (kept_at w s).decisions
  pub life : (kept_at w s).life ≤ (kept_at new s).life

-- a site after such an event: it starts, or is another one as it was
pub data QuietIs (catalogue : Catalogue) (w : Scene) (s k : ℕ) (y : SiteState) : Type 0 where
  here : k ≡ s → start catalogue s (kept_at w s) ≡ y → QuietIs catalogue w s k y
  other : k ≢ s → plain_at w k ≡ Some y → QuietIs catalogue w s k y

pub quiet_is : (catalogue : Catalogue) (w new : Scene) (s : ℕ) → Quiet catalogue w new s → (k : ℕ) (y : SiteState) → plain_at new k ≡ Some y → QuietIs catalogue w s k y
quiet_is catalogue w new s q k y h = ⊎_elim (λ (e : k ≡ s). QuietIs.here e (q.now y (rw e at h))) (λ (n : k ≢ s). QuietIs.other n (rw (ap up_in (q.moved.others k n)) at h)) (same_site k s)

-- what a site has kept after such an event, by the part F of it that starting leaves alone
pub quiet_kept : {F : Type 0} (catalogue : Catalogue) (w new : Scene) (s : ℕ) → Quiet catalogue w new s → (part : DurableState → F) → part (kept_at new s) ≡ part (kept_at w s) → (k : ℕ) → part (kept_at new k) ≡ part (kept_at w k)
quiet_kept {F} catalogue w new s q part e k = ⊎_elim (λ (h : k ≡ s). ap (λ (k : ℕ). part (kept_at new k)) h ∙ e ∙ ap (λ (k : ℕ). part (kept_at w k)) (sym h)) (λ (n : k ≢ s). ap (λ o. part (kept_in o)) (q.moved.others k n)) (same_site k s)

down_kept : (o : Option Place) → kept_in (option_map (λ (place : Place). record place { up = None }) o) ≡ kept_in o
down_kept None = refl
down_kept (Some p) = refl

no_less : (a b : ℕ) → b ≡ a → a ≤ b
no_less a b e = omega arith

one_more : (a n b : ℕ) → a ≡ n → b ≡ n + 1 → a ≤ b
one_more a n b e f = omega arith

pub crash_quiet : (catalogue : Catalogue) (w : Scene) (s : ℕ) → Quiet catalogue w (crashed w s) s
crash_quiet catalogue w s =
    let same : kept_at (crashed w s) s ≡ kept_at w s = ap kept_in (place-same s (λ (place : Place). record place { up = None }) w.places (λ p. refl)) ∙ down_kept (place_of s w.places) in
    record {
      moved = moves w s (λ (place : Place). record place { up = None }) (λ p. refl) (λ p. refl);
      sent = refl;
      agreed = refl;
      journal = refl;
      now = λ y h. absurd (down w s y h);
      promise = ap (λ (d : DurableState). d.promise) same;
      copies = ap (λ (d : DurableState). d.copies) same;
      doubts = ap (λ (d : DurableState). d.doubts) same;
      decisions = ap (λ (d : DurableState). d.decisions) same;
      life = no_less (kept_at w s).life (kept_at (crashed w s) s).life (ap (λ (d : DurableState). d.life) same);
    }

pub restart_quiet : (catalogue : Catalogue) (w : Scene) (s : ℕ) (place : Place) → place_of s w.places ≡ Some place → place.id ≡ s → Quiet catalogue w (restarted catalogue w s) s
unfolding apply
restart_quiet catalogue w s place e i =
    let there : place_of s (restarted catalogue w s).places ≡ Some (restart_place catalogue place) = place-same s (restart_place catalogue) w.places (λ p. refl) ∙ ap (option_map (restart_place catalogue)) e in
    let was : kept_at w s ≡ place.durable = ap kept_in e in
    let now : kept_at (restarted catalogue w s) s ≡ apply (start_record place.durable) place.durable = ap kept_in there in
    record {
      moved = moves w s (restart_place catalogue) (λ p. refl) (λ p. start_promise p.durable);
      sent = refl;
      agreed = refl;
      journal = refl;
      now = λ y h. let same : start catalogue place.id place.durable ≡ y = (let a = ap up_in there in cc) in ap (start catalogue s) was ∙ ap (λ (k : ℕ). start catalogue k place.durable) (sym i) ∙ same;
      promise = ap (λ (d : DurableState). d.promise) now ∙ ap (λ (d : DurableState). d.promise) (sym was);
      copies = ap (λ (d : DurableState). d.copies) now ∙ ap (λ (d : DurableState). d.copies) (sym was);
      doubts = ap (λ (d : DurableState). d.doubts) now ∙ ap (λ (d : DurableState). d.doubts) (sym was);
      decisions = ap (λ (d : DurableState). d.decisions) now ∙ ap (λ (d : DurableState). d.decisions) (sym was);
      life = one_more (kept_at w s).life place.durable.life (kept_at (restarted catalogue w s) s).life (ap (λ (d : DurableState). d.life) was) (ap (λ (d : DurableState). d.life) now);
    }

-- each site as the world starts
pub started : (catalogue : Catalogue) (s : ℕ) (x : SiteState) → plain_at (scene_of (start_world catalogue)) s ≡ Some x → start catalogue s (empty_durable (start_copies catalogue s)) ≡ x
unfolding start_world
started catalogue s x h = go (place_of s (map (start_place catalogue) (sites_of catalogue))) refl h
  where
    go : (o : Option Place) → place_of s (map (start_place catalogue) (sites_of catalogue)) ≡ o → up_in o ≡ Some x → start catalogue s (empty_durable (start_copies catalogue s)) ≡ x
    go None e up = cc
    go (Some p) e up = let all = start_at catalogue s (sites_of catalogue) p e in let a = ap (λ (p : Place). p.up) all.1 in cc

-- a site that starts has no transaction and refreshes no copy, and so it is with each site as the world starts
pub no_live : (catalogue : Catalogue) (s : ℕ) (d : DurableState) (t : Live) → Has (start catalogue s d).live t → ⊥
unfolding start
no_live catalogue s d t h = has_none t h

pub no_finished : (catalogue : Catalogue) (s : ℕ) (d : DurableState) (f : Finished) → Has (start catalogue s d).finished f → ⊥
unfolding start
no_finished catalogue s d f h = has_none f h

pub no_refresh : (catalogue : Catalogue) (s : ℕ) (d : DurableState) (r : Refreshing) → Has (start catalogue s d).refresh r → ⊥
unfolding start
no_refresh catalogue s d r h = has_none r h

pub started_idle : (catalogue : Catalogue) (s : ℕ) (x : SiteState) (t : Live) → plain_at (scene_of (start_world catalogue)) s ≡ Some x → Has x.live t → ⊥
started_idle catalogue s x t up h = no_live catalogue s (empty_durable (start_copies catalogue s)) t (subst (λ (x : SiteState). Has x.live t) (sym (started catalogue s x up)) h)

-- one that has a live transaction after a quiet event is as it was
pub live_still : (catalogue : Catalogue) (w : Scene) (s k : ℕ) (y : SiteState) (t : Live) → Has y.live t → QuietIs catalogue w s k y → plain_at w k ≡ Some y
live_still catalogue w s k y t h (QuietIs.other n old) = old
live_still catalogue w s k y t h (QuietIs.here z same) = absurd (no_live catalogue s (kept_at w s) t (subst (λ (y : SiteState). Has y.live t) (sym same) h))

-- and so is one that has a finished transaction, or refreshes a copy
pub finished_still : (catalogue : Catalogue) (w : Scene) (s k : ℕ) (y : SiteState) (f : Finished) → Has y.finished f → QuietIs catalogue w s k y → plain_at w k ≡ Some y
finished_still catalogue w s k y f h (QuietIs.other n old) = old
finished_still catalogue w s k y f h (QuietIs.here z same) = absurd (no_finished catalogue s (kept_at w s) f (subst (λ (y : SiteState). Has y.finished f) (sym same) h))

pub refresh_still : (catalogue : Catalogue) (w : Scene) (s k : ℕ) (y : SiteState) (r : Refreshing) → Has y.refresh r → QuietIs catalogue w s k y → plain_at w k ≡ Some y
refresh_still catalogue w s k y r h (QuietIs.other n old) = old
refresh_still catalogue w s k y r h (QuietIs.here z same) = absurd (no_refresh catalogue s (kept_at w s) r (subst (λ (y : SiteState). Has y.refresh r) (sym same) h))

-- what it has kept then
pub record StartKept (d : DurableState) : Type 0 where
  pub doubts : d.doubts ≡ []
  pub decisions : d.decisions ≡ []
  pub dated : (a : ℕ × Stored) → Has d.copies a → a.1.date ≡ opening
  -- no copy has a table
  pub tables : (a : ℕ × Stored) → Has d.copies a → a.1.table ≡ None

pub start_dated : (catalogue : Catalogue) (s : ℕ) (a : ℕ × Stored) → Has (start_copies catalogue s) a → a.1.date ≡ opening
start_dated catalogue s a h = let r = map_has (λ (placed : ℕ × RecordEntry). (placed.0, record { value = Some placed.1.start; table = None; date = opening })) _ a h in ap (λ (c : ℕ × Stored). c.1.date) (sym r.2)

pub start_tables : (catalogue : Catalogue) (s : ℕ) (a : ℕ × Stored) → Has (start_copies catalogue s) a → a.1.table ≡ None
start_tables catalogue s a h = let r = map_has (λ (placed : ℕ × RecordEntry). (placed.0, record { value = Some placed.1.start; table = None; date = opening })) _ a h in ap (λ (c : ℕ × Stored). c.1.table) (sym r.2)

pub start_kept : (catalogue : Catalogue) (s : ℕ) → StartKept (kept_at (scene_of (start_world catalogue)) s)
unfolding start_world apply
start_kept catalogue s = go (place_of s (map (start_place catalogue) (sites_of catalogue))) refl
  where
    go : (o : Option Place) → place_of s (map (start_place catalogue) (sites_of catalogue)) ≡ o → StartKept (kept_in (place_of s (map (start_place catalogue) (sites_of catalogue))))
    go None e = rw e (record { doubts = refl; decisions = refl; dated = λ a h. absurd (has_none a h); tables = λ a h. absurd (has_none a h) })
    go (Some p) e =
        let all = start_at catalogue s (sites_of catalogue) p e in
        let d : p.durable ≡ apply (start_record (empty_durable (start_copies catalogue s))) (empty_durable (start_copies catalogue s)) = ap (λ (p : Place). p.durable) (sym all.1) in
        rw (e, d) (record { doubts = refl; decisions = refl; dated = start_dated catalogue s; tables = start_tables catalogue s })

pub start_journal : (catalogue : Catalogue) → (scene_of (start_world catalogue)).journal ≡ []
unfolding start_world
start_journal catalogue = refl

pub start_sent : (catalogue : Catalogue) (m : Sent) → Has (scene_of (start_world catalogue)).sent m → ⊥
unfolding start_world
start_sent catalogue m h = has_none m h

pub start_entered : (catalogue : Catalogue) (e : Commit) → Has (scene_of (start_world catalogue)).journal e → ⊥
start_entered catalogue e h = has_none e (rw start_journal at h)

-- an invariant beside one that is proved
pub record With (I P : Scene → Type 0) (w : Scene) : Type 0 where
  pub base : I w
  pub more : P w

pub record Beside (catalogue : Catalogue) (I P : Scene → Type 0) : Type 0 where
  pub starts : P (scene_of (start_world catalogue))
  pub acts : (w : Scene) (s : ℕ) (x : SiteState) (given : Input) → plain_at w s ≡ Some x → Arrives w s given → I w → P w → P (acted w s x (step catalogue x given))
  pub quiet : (w new : Scene) (s : ℕ) → Quiet catalogue w new s → I w → P w → P new

pub with_last : (catalogue : Catalogue) (I P : Scene → Type 0) → Lasts catalogue I → Beside catalogue I P → Lasts catalogue (With I P)
with_last catalogue I P i p = record {
  starts = record { base = i.starts; more = p.starts };
  acts = λ w s x given up r h. record { base = i.acts w s x given up r h.base; more = p.acts w s x given up r h.base h.more };
  crashes = λ w s h. record { base = i.crashes w s h.base; more = p.quiet w (crashed w s) s (crash_quiet catalogue w s) h.base h.more };
  restarts = λ w s place e u a h. record { base = i.restarts w s place e u a h.base; more = p.quiet w (restarted catalogue w s) s (restart_quiet catalogue w s place e a) h.base h.more };
}
