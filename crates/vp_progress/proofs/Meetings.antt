-- Sites that are mended come together, whatever the others do: each free record is unlocked at each of them.
use Rattle.std.proofs.Common.{◌≡◌, ◌∙◌, ap, sym, subst, ℕ, Bool, true, false, List, [], ◌∷◌, length, refl, arith, ⊎_elim}
use Rattle.std.specs.Prelude.{Option, Some, None, ◌==◌, not}
use Rattle.std.specs.List.{list_any}
use Rattle.vp_model.specs.Types.{View, Owner, Lock, Part, Live, Doubt, Decision, Refreshing}
use Rattle.vp_model.specs.Types.owner
use Rattle.vp_model.specs.Words.{has, keys}
use Rattle.vp_model.specs.Catalogue.{Catalogue, sites_of}
use Rattle.vp_model.specs.Durable.{DurableState}
use Rattle.vp_model.specs.Site.{SiteState}
use Rattle.vp_model.specs.Refresh.{refreshing_of}
use Rattle.vp_model.specs.World.{WorldState, Schedule, place_of, site_of}
use Rattle.vp_laws.proofs.Lists.Members.{Has, has_none, has_first, has_more, has_of, contains, has_test, has_from_test, any_false, any_of, not_true}
use Rattle.vp_laws.proofs.Lists.Numbers.{eq_self}
use Rattle.vp_laws.proofs.Table.Locks.{LocksAt}
use Rattle.vp_laws.proofs.Worlds.Scenes.{scene_of, kept_at}
use Rattle.vp_laws.proofs.Worlds.Sites.{With}
use Rattle.vp_laws.proofs.Worlds.Events.{in_last}
use Rattle.vp_laws.proofs.Invariant.Known.{Known}
use Rattle.vp_progress.specs.Going.{goes_on, mends}
use Rattle.vp_progress.specs.Whole.{AreUnspent}
use Rattle.vp_progress.specs.Progress.{world_of}
use Rattle.vp_progress.specs.Together.{IsFree, IsUnlocked, AreTogether}
use Rattle.vp_progress.specs.Meeting.{CanMeet}
use Rattle.vp_progress.proofs.Going.{world_goes_on, passing_flows_not}
use Rattle.vp_progress.proofs.Calm.{calms, each_mends, calm_fresh, each_fresh}
use Rattle.vp_progress.proofs.Can.{Can, can_now, can_then}
use Rattle.vp_progress.proofs.Started.{Past, past_of, Fit}
use Rattle.vp_progress.proofs.Held.{Holds, Quiet}
use Rattle.vp_progress.proofs.Certain.{none_found, doubts_at, decisions_at}
use Rattle.vp_progress.proofs.Acknowledged.{Settled, settles}
use Rattle.vp_progress.proofs.OneDoubt.{InvOne, one_last, can_with}
use Rattle.vp_progress.proofs.Current.{any_writes, refresh_at, Ready, refreshes_all}
use Rattle.vp_progress.proofs.Mended.{Joined, joins, quiet_from, same_has, Places, places_last}
use Rattle.vp_progress.proofs.Doubts.{doubts_kept, stay}
use Rattle.vp_progress.proofs.Elsewhere.{all_same, none_new}
use Rattle.vp_progress.proofs.Marks.{HoldsNow}
use Rattle.vp_progress.proofs.Marked.{AllKnown, marked_last, doubt_lock}

module _ (catalogue : Catalogue) (ns : List ℕ) (past : Past) where
  abbrev Clear : WorldState → Type 0
  Clear w = (q : ℕ) → Has ns q → (c : Doubt) → Has (doubts_at (site_of w q)) c → Has ns c.txn.site → ⊥

  -- none of these sites is in doubt about the record
  abbrev wanted : WorldState → ℕ → Bool
  wanted w rec = not (list_any (λ q. any_writes rec (doubts_at (site_of w q))) ns)

  certain : (w : WorldState) (q rec : ℕ) → Has ns q → wanted w rec ≡ true → any_writes rec (doubts_at (site_of w q)) ≡ false
  certain w q rec h e = any_false (λ (q : ℕ). any_writes rec (doubts_at (site_of w q))) ns (not_true _ e) q h

  abbrev Prepared : View → WorldState → WorldState → Type 0
  Prepared v from w = Ready catalogue ns past v (λ k. doubts_at (site_of from k)) (wanted from) (certain from) w

  -- a free record is wanted
  free_wanted : (v : View) (from w : WorldState) → Prepared v from w → (rec : ℕ) → IsFree catalogue ns w rec → wanted from rec ≡ true
  free_wanted v from w f rec free = rw none refl
    where
      each : (q : ℕ) → Has ns q → any_writes rec (doubts_at (site_of from q)) ≡ false
      each q h = let g = f.sure.quiet.holds q h in ap (any_writes rec) (sym (f.sure.same q) ∙ ap doubts_at g.up) ∙ free.certain q g.at (has_test ns q h) g.up

      none : list_any (λ q. any_writes rec (doubts_at (site_of from q))) ns ≡ false
      none = none_of ns each
        where
          none_of : (qs : List ℕ) → ((q : ℕ) → Has qs q → any_writes rec (doubts_at (site_of from q)) ≡ false) → list_any (λ q. any_writes rec (doubts_at (site_of from q))) qs ≡ false
          none_of [] h = refl
          none_of (q ∷ qs) h = rw (h q (has_first q qs), none_of qs (λ k m. h k (has_more q qs k m))) refl

  together : (v : View) (from w : WorldState) → Prepared v from w → Clear from → AllKnown catalogue (scene_of w) → AreTogether catalogue ns w
  together v from w f clear all = record {
    view = v;
    members = same_has v.members ns quiet.among quiet.all;
    joined = λ a b m n. quiet.base.joined a b (has_from_test ns a m) (has_from_test ns b n);
    idle = λ q m. let g = quiet.holds q (has_from_test ns q m) in (g.at, g.up, record { held = g.held; live = g.live; parts = g.parts; doubts = λ d there. outside q (has_from_test ns q m) g.at g.up d (has_of g.at.doubts d there); decisions = λ d p there near. elsewhere q (has_from_test ns q m) g.at g.up d (has_of g.at.decisions d there) p near });
    free = λ q rec x m up free. unlocked q rec x (has_from_test ns q m) up free;
  }
    where
      quiet : Quiet catalogue ns past v w
      quiet = f.sure.quiet

      clears : (q : ℕ) → Has ns q → (x : SiteState) → site_of w q ≡ Some x → (d : Doubt) → Has x.doubts d → Has ns d.txn.site → ⊥
      clears q h x up d there near = clear q h d (subst (λ (ds : List Doubt). Has ds d) (ap doubts_at (sym up) ∙ f.sure.same q) there) near

      outside : (q : ℕ) → Has ns q → (x : SiteState) → site_of w q ≡ Some x → (d : Doubt) → Has x.doubts d → has ns d.txn.site ≡ false
      outside q h x up d there = go (has ns d.txn.site) refl
        where
          go : (b : Bool) → has ns d.txn.site ≡ b → b ≡ false
          go false e = refl
          go true e = absurd (clears q h x up d there (has_from_test ns d.txn.site e))

      elsewhere : (q : ℕ) → Has ns q → (x : SiteState) → site_of w q ≡ Some x → (d : Decision) → Has x.decisions d → (p : ℕ) → has ns p ≡ true → has d.waiting p ≡ false
      elsewhere q h x up d there p near = go (has d.waiting p) refl
        where
          go : (b : Bool) → has d.waiting p ≡ b → b ≡ false
          go false e = refl
          go true e = absurd (f.sure.told q p d.txn h (has_from_test ns p near) (d, subst (λ (ds : List Decision). Has ds d) (ap decisions_at (sym up)) there, refl, has_from_test d.waiting p e))

      -- a doubt is of another view than the one that is held
      away : (q : ℕ) → Has ns q → (x : SiteState) → site_of w q ≡ Some x → x.held ≡ Some v → (d : Doubt) → Has x.doubts d → HoldsNow x.held d.view → ⊥
      away q h x up held d there holds =
          let k = quiet.base.known in
          let kept = subst (λ (s : DurableState). Has s.doubts d) (k.views.site q x up).kept there in
          let a = k.led.asked _ (k.shares.doubts q d kept).0.3 in
          let is : holds.0 ≡ v = (let z = sym holds.1 ∙ held in grind (arith, z)) in
          let same : a.0 ≡ v = k.views.unique a.0 v a.1 ((k.views.site q x up).held v held) (a.2 ∙ sym holds.2 ∙ ap (λ (v : View). v.id) is) in
          clears q h x up d there (quiet.among d.txn.site (subst (λ (v : View). Has v.members d.txn.site) same a.4))

      unlocked : (q rec : ℕ) (x : SiteState) → Has ns q → site_of w q ≡ Some x → IsFree catalogue ns w rec → IsUnlocked x rec
      unlocked q rec x h up free = record { unlocked = λ l there on. clash l (has_of x.locks l there) on l.owner refl; refreshed = fresh }
        where
          g : Holds catalogue v q w
          g = quiet.holds q h

          is : g.at ≡ x
          is = (let z = sym g.up ∙ up in grind (arith, z))

          fresh : refreshing_of rec x.refresh ≡ None
          fresh = ap (λ (o : Option SiteState). refreshing_of rec (refresh_at o)) (sym up) ∙ f.fresh q h rec (free_wanted v from w f rec free)

          ok : LocksAt catalogue x
          ok = quiet.base.known.guards.site q x up

          none_live : (t : Live) → Has x.live t → ⊥
          none_live t there = has_none t (subst (λ (ts : List Live). Has ts t) (ap (λ (x : SiteState). x.live) (sym is) ∙ g.live) there)

          none_parts : (p : Part) → Has x.parts p → ⊥
          none_parts p there = has_none p (subst (λ (ps : List Part). Has ps p) (ap (λ (x : SiteState). x.parts) (sym is) ∙ g.parts) there)

          clash : (l : Lock) → Has x.locks l → l.rec ≡ rec → (o : Owner) → l.owner ≡ o → ⊥
          clash l there on owner.Refresh by = let r = ok.guard l there by in none_found (λ (r : Refreshing). r.rec == rec) x.refresh fresh r.0 r.1 (rw (r.2 ∙ on) (eq_self rec))
          clash l there on (owner.Txn txn) by = ⊎_elim
              (λ t. none_live t.0 t.1)
              (λ more. ⊎_elim (λ p. none_parts p.0 p.1)
              (λ (d : (d : Doubt) × Has x.doubts d × (d.txn ≡ txn)).
              let writes = doubt_lock catalogue (scene_of w) all q x d.0 l up d.1 there (by ∙ ap owner.Txn (sym d.2)) (away q h x up (ap (λ (x : SiteState). x.held) (sym is) ∙ g.held) d.0 d.1) in
              let doubtful = any_of (λ (d : Doubt). has (keys d.writes) rec) x.doubts d.0 d.1 (has_test (keys d.0.writes) rec (subst (Has (keys d.0.writes)) on writes)) in
              let z = sym doubtful ∙ free.certain q x (has_test ns q h) up in cc) more)
              (ok.owners l txn there by)

  -- these sites are mended, and nothing is left that one of them could end
  record Meets (w : WorldState) : Type 0 where
    from : WorldState
    view : View
    ready : Prepared view from w
    clear : Clear from

  meets : (first : ℕ) (rest : List ℕ) → ns ≡ first ∷ rest → ((q : ℕ) → Has ns q → Has (sites_of catalogue) q) → (w : WorldState) → Fit catalogue ns past w → With (Known catalogue) InvOne (scene_of w) → Can catalogue (calms past.told ns) w Meets
  meets first rest is sub w f good =
      can_then catalogue (calms past.told ns) (λ new. Joined catalogue ns past new × With (Known catalogue) InvOne (scene_of new)) Meets w
      (can_with catalogue (calms past.told ns) (With (Known catalogue) InvOne) (one_last catalogue) (Joined catalogue ns past) w good (joins catalogue ns past first rest is sub w f))
      λ w1 j.
      let v = j.0.view in
      can_then catalogue (calms past.told ns) (Settled catalogue ns past v) Meets w1 (settles catalogue ns past v w1 (quiet_from catalogue ns past w1 j.0 j.1.more))
      λ w2 c. can_then catalogue (calms past.told ns) (Prepared v w2) Meets w2 (refreshes_all catalogue ns past v (λ k. doubts_at (site_of w2 k)) (wanted w2) (certain w2) w2 (record { quiet = c.quiet; same = λ k. refl; told = c.told }))
      λ w3 g. can_now catalogue (calms past.told ns) Meets w3 (record { from = w2; view = v; ready = g; clear = c.clear })

pub meet : (s : Schedule) (first : ℕ) (rest : List ℕ) → ((q : ℕ) → has (first ∷ rest) q ≡ true → has (sites_of s.catalogue) q ≡ true) → AreUnspent (first ∷ rest) (world_of s) → CanMeet s (first ∷ rest)
meet s first rest sub unspent =
    let ns = first ∷ rest in
    let good = in_last s.catalogue (With (Known s.catalogue) InvOne) (one_last s.catalogue) s.events in
    let inside : (q : ℕ) → Has ns q → Has (sites_of s.catalogue) q = (λ q h. has_from_test (sites_of s.catalogue) q (sub q (has_test ns q h))) in
    let c = meets s.catalogue ns (past_of (world_of s)) first rest refl inside (world_of s)
    (record { known = good.base; unspent = unspent; there = λ q h. in_last s.catalogue (Places s.catalogue) (places_last s.catalogue) s.events q (inside q h); same = refl; grown = omega arith }) good in
    let mending = each_mends s.catalogue (length (world_of s).sent) ns c.events (world_of s) c.passing in
    let is = world_goes_on s c.events (passing_flows_not s.catalogue (mends ns) (λ w count. refl) c.events (world_of s) mending) in
    let all = subst (λ (w : WorldState). AllKnown s.catalogue (scene_of w)) is (in_last s.catalogue (AllKnown s.catalogue) (marked_last s.catalogue) (goes_on s c.events).events) in
    record {
      more = c.events;
      mending = mending;
      fresh = each_fresh s.catalogue (calms (length (world_of s).sent) ns) (length (world_of s).sent) (calm_fresh (length (world_of s).sent) ns) c.events (world_of s) c.passing;
      together = subst (AreTogether s.catalogue ns) (sym is) (together s.catalogue ns (past_of (world_of s)) c.so.view c.so.from _ c.so.ready c.so.clear all);
      leaves = record {
        others = λ q out. ap (λ (w : WorldState). place_of q w.places) is ∙ all_same s.catalogue q ns out c.events (world_of s) mending;
        doubts = λ q d out there. stay s ns q d c.events out there mending;
        known = λ q d there.
            let now = subst (λ (w : WorldState). Has (kept_at (scene_of w) q).doubts d) is (subst (λ (ds : List Doubt). Has ds d) (doubts_kept (place_of q (world_of (goes_on s c.events)).places)) (has_of _ d there)) in
            contains _ d (subst (λ (ds : List Doubt). Has ds d) (sym (doubts_kept (place_of q (world_of s).places))) (none_new s.catalogue (length (world_of s).sent) ns q d c.events (world_of s) good.base c.passing now));
        journal = ap (λ (w : WorldState). w.journal) is ∙ c.so.ready.sure.quiet.base.same;
      };
    }
