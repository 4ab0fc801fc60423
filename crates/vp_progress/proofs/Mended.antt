-- Whatever has happened, events that mend lead to a whole world.
use Rattle.std.proofs.Common.{◌≡◌, ◌∙◌, ap, sym, subst, ℕ, Bool, true, false, cond, List, [], ◌∷◌, length, refl, arith, ⊎_elim}
use Rattle.std.specs.Prelude.{Option, Some, None, ◌==◌, map, option_map}
use Rattle.vp_model.specs.Types.{ViewId, View, Owner, Lock, Doubt, Refreshing, Live, Part}
use Rattle.vp_model.specs.Types.owner
use Rattle.vp_model.specs.Words.{has, opening}
use Rattle.vp_model.specs.Catalogue.{Catalogue, sites_of}
use Rattle.vp_model.specs.Durable.{DurableState}
use Rattle.vp_model.specs.Refresh.{refreshing_of}
use Rattle.vp_model.specs.Site.{SiteState}
use Rattle.vp_model.specs.Step.{step}
use Rattle.vp_model.specs.World.{Place, WorldState, Schedule, place_of, site_of, change_place, start_place, start_world, after_step, restart_place}
use Rattle.vp_laws.proofs.Lists.Members.{Has, has_none, has_cons, has_test, has_from_test}
use Rattle.vp_laws.proofs.Lists.Views.{same_site}
use Rattle.vp_laws.proofs.Lists.Numbers.{eq_self}
use Rattle.vp_laws.proofs.Table.Locks.{LocksAt}
use Rattle.vp_laws.proofs.Table.Waits.{IsWaited}
use Rattle.vp_laws.proofs.Worlds.Scenes.{Scene, scene_of, place-same, place-other}
use Rattle.vp_laws.proofs.Worlds.Sites.{With}
use Rattle.vp_laws.proofs.Worlds.Events.{Lasts, in_last}
use Rattle.vp_laws.proofs.Invariant.Known.{Known}
use Rattle.vp_progress.specs.Whole.{AreUnspent, IsWhole}
use Rattle.vp_progress.specs.Going.{goes_on}
use Rattle.vp_progress.specs.Progress.{world_of, CanBeWhole}
use Rattle.vp_progress.proofs.Going.{world_goes_on, passing_flows_not}
use Rattle.vp_progress.proofs.Calm.{opens, carries, calms, open_carries, carry_calm, each_mends, calm_fresh, each_fresh}
use Rattle.vp_progress.proofs.Can.{Can, can_now, can_then, can_by}
use Rattle.vp_progress.proofs.Started.{Past, past_of, Fit, Started, starts_all}
use Rattle.vp_progress.proofs.Based.{Based, OneEach}
use Rattle.vp_progress.proofs.Invited.{Invited, invites_all, accepts_all}
use Rattle.vp_progress.proofs.Held.{Holds, Fixed, fixes_view, joins_all, Quiet, empty_from}
use Rattle.vp_progress.proofs.Certain.{doubts_at, decisions_at, coordinator_stands}
use Rattle.vp_progress.proofs.Decided.{AllAwait, none_decided, InvDecided, decided_last}
use Rattle.vp_progress.proofs.Acknowledged.{Settled, settles}
use Rattle.vp_progress.proofs.OneDoubt.{InvOne, one_last, can_with}
use Rattle.vp_progress.proofs.Current.{any_writes, Ready, refresh_at, refreshes_all}

-- ---- each site of the catalogue has its place

abbrev pub Places : Catalogue → Scene → Type 0
Places catalogue w = (q : ℕ) → Has (sites_of catalogue) q → (p : Place) × (place_of q w.places ≡ Some p)

still_there : (s : ℕ) (f : Place → Place) (places : List Place) → ((p : Place) → (f p).id ≡ p.id) → (q : ℕ) → (p : Place) × (place_of q places ≡ Some p) → (p : Place) × (place_of q (change_place s f places) ≡ Some p)
still_there s f places same q p =
    ⊎_elim (λ (here : q ≡ s). rw here (f p.0, place-same s f places same ∙ ap (option_map f) (rw here at p.1))) (λ n. (p.0, place-other s q f places same n ∙ p.1)) (same_site q s)

first_there : (catalogue : Catalogue) (sites : List ℕ) (q : ℕ) → Has sites q → (p : Place) × (place_of q (map (start_place catalogue) sites) ≡ Some p)
first_there catalogue [] q h = absurd (has_none q h)
first_there catalogue (s ∷ sites) q h = go (s == q) refl (λ k. first_there catalogue sites q k)
  where
    go : (b : Bool) → (s == q) ≡ b → (Has sites q → (p : Place) × (place_of q (map (start_place catalogue) sites) ≡ Some p)) → (p : Place) × (cond b (Some (start_place catalogue s)) (place_of q (map (start_place catalogue) sites)) ≡ Some p)
    go true e rest = (start_place catalogue s, refl)
    go false e rest = ⊎_elim (λ (one : s ≡ q). absurd (let z : (q == q) ≡ false = subst (λ (a : ℕ). (a == q) ≡ false) one e in let y = eq_self q in cc)) (λ more. rest more) (has_cons s sites q h)

starts_there : (catalogue : Catalogue) → Places catalogue (scene_of (start_world catalogue))
unfolding start_world
starts_there catalogue q h = first_there catalogue (sites_of catalogue) q h

pub places_last : (catalogue : Catalogue) → Lasts catalogue (Places catalogue)
places_last catalogue = record {
  starts = starts_there catalogue;
  acts = λ w s x given up r h q k. still_there s (after_step (step catalogue x given)) w.places (λ p. refl) q (h q k);
  crashes = λ w s h q k. still_there s (λ (place : Place). record place { up = None }) w.places (λ p. refl) q (h q k);
  restarts = λ w s place e u i h q k. still_there s (restart_place catalogue) w.places (λ p. refl) q (h q k);
}

-- ---- one view

module _ (catalogue : Catalogue) (ns : List ℕ) (past : Past) where
  -- all hold one view of their own
  pub record Joined (w : WorldState) : Type 0 where
    pub view : View
    pub base : Based catalogue ns past w
    pub all : (q : ℕ) → Has ns q → Has view.members q
    pub among : (q : ℕ) → Has view.members q → Has ns q
    pub holds : (q : ℕ) → Has ns q → Holds catalogue view q w

  pub joins : (first : ℕ) (rest : List ℕ) → ns ≡ first ∷ rest → ((q : ℕ) → Has ns q → Has (sites_of catalogue) q) → (w : WorldState) → Fit catalogue ns past w → Can catalogue (calms past.told ns) w Joined
  joins first rest is sub w f =
      can_then catalogue (calms past.told ns) (Started catalogue ns past) Joined w (can_by catalogue (opens ns) (calms past.told ns) (λ w e p. carry_calm past.told ns w e (open_carries past.told ns w e p)) _ w (starts_all catalogue ns past w f))
      λ w1 s. can_then catalogue (calms past.told ns) (λ new. (id : ViewId) × (r : ℕ) × Has ns r × Invited catalogue ns past id r new) Joined w1 (invites_all catalogue ns past w1 first rest is sub s)
      λ w2 i. can_then catalogue (calms past.told ns) _ Joined w2 (can_by catalogue (carries past.told ns) (calms past.told ns) (carry_calm past.told ns) _ w2 (accepts_all catalogue ns past i.0 i.1 i.2 w2 i.3))
      λ w3 a. can_then catalogue (calms past.told ns) (λ new. (v : View) × Fixed catalogue ns past v i.1 new) Joined w3 (fixes_view catalogue ns past i.0 i.1 w3 i.2 a.still (λ q h n. a.done q h n))
      λ w4 v. can_then catalogue (calms past.told ns) _ Joined w4 (joins_all catalogue ns past v.0 i.1 i.2 w4 v.1)
      λ w5 h. can_now catalogue (calms past.told ns) Joined w5 (record { view = v.0; base = h.still.base; all = h.still.all; among = h.still.among; holds = h.done })

  pub quiet_from : (w : WorldState) (j : Joined w) → InvOne (scene_of w) → Quiet catalogue ns past j.view w
  quiet_from w j one = record {
    base = j.base;
    all = j.all;
    among = j.among;
    holds = j.holds;
    one = λ q x up. subst (λ (d : DurableState). OneEach d.doubts) (sym (j.base.known.views.site q x up).kept) (one.one q);
  }

-- ---- nothing is left

no_locks : (catalogue : Catalogue) (x : SiteState) → LocksAt catalogue x → x.live ≡ [] → x.parts ≡ [] → x.doubts ≡ [] → x.refresh ≡ [] → x.locks ≡ []
no_locks catalogue x ok live parts doubts refresh = empty_from x.locks (λ l h. go l h l.owner refl)
  where
    go : (l : Lock) → Has x.locks l → (o : Owner) → l.owner ≡ o → ⊥
    go l h owner.Refresh e = let r = ok.guard l h e in has_none r.0 (subst (λ (rs : List Refreshing). Has rs r.0) refresh r.1)
    go l h (owner.Txn txn) e =
        ⊎_elim (λ t. has_none t.0 (subst (λ (ts : List Live). Has ts t.0) live t.1))
        (λ more. ⊎_elim (λ p. has_none p.0 (subst (λ (ps : List Part). Has ps p.0) parts p.1)) (λ d. has_none d.0 (subst (λ (ds : List Doubt). Has ds d.0) doubts d.1)) more)
        (ok.owners l txn h e)

none_listed : (rs : List Refreshing) → ((rec : ℕ) → refreshing_of rec rs ≡ None) → rs ≡ []
none_listed [] h = refl
none_listed (r ∷ rs) h = absurd (let e = h r.rec in let t = eq_self r.rec in let z : refreshing_of r.rec (r ∷ rs) ≡ Some r = rw t refl in let y = sym z ∙ e in cc)

pub same_has : (xs ys : List ℕ) → ((q : ℕ) → Has xs q → Has ys q) → ((q : ℕ) → Has ys q → Has xs q) → (q : ℕ) → has xs q ≡ has ys q
same_has xs ys f g q = go (has xs q) (has ys q) refl refl
  where
    go : (a b : Bool) → has xs q ≡ a → has ys q ≡ b → a ≡ b
    go true true p r = refl
    go false false p r = refl
    go true false p r = let z = has_test ys q (f q (has_from_test xs q p)) in let y = sym z ∙ r in cc
    go false true p r = let z = has_test xs q (g q (has_from_test ys q r)) in let y = sym z ∙ p in cc

-- where no site is in doubt, every record is wanted
abbrev every : ℕ → Bool
every rec = true

whole_from : (catalogue : Catalogue) (past : Past) (v : View) (doubts : ℕ → List Doubt) (none : (q : ℕ) → Has (sites_of catalogue) q → doubts q ≡ []) (w : WorldState) → Ready catalogue (sites_of catalogue) past v doubts every (λ q rec here want. ap (any_writes rec) (none q here)) w → InvDecided catalogue (scene_of w) → IsWhole catalogue w
whole_from catalogue past v doubts none w f waits =
    let quiet = f.sure.quiet in
    record {
      view = v;
      members = same_has v.members (sites_of catalogue) quiet.among quiet.all;
      joined = λ a b p q. quiet.base.joined a b (has_from_test (sites_of catalogue) a p) (has_from_test (sites_of catalogue) b q);
      sites = λ q h.
          let here = has_from_test (sites_of catalogue) q h in
          let g = quiet.holds q here in
          let no_doubts : g.at.doubts ≡ [] = ap doubts_at (sym g.up) ∙ f.sure.same q ∙ none q here in
          let refresh = none_listed g.at.refresh (λ rec. ap (λ (o : Option SiteState). refreshing_of rec (refresh_at o)) (sym g.up) ∙ f.fresh q here rec refl) in
          let awaits = subst (λ (s : DurableState). AllAwait (sites_of catalogue) s.decisions) (sym (quiet.base.known.views.site q g.at g.up).kept) (waits.awaits q) in
          let no_decisions = none_decided (sites_of catalogue) g.at.decisions awaits (λ txn p there waits. f.sure.told q p txn here there (subst (λ (o : Option SiteState). IsWaited (decisions_at o) txn p) (sym g.up) waits)) in
          (g.at, g.up, record { held = g.held; locks = no_locks catalogue g.at (quiet.base.known.guards.site q g.at g.up) g.live g.parts no_doubts refresh; refresh = refresh; live = g.live; parts = g.parts; doubts = no_doubts; decisions = no_decisions });
    }

-- ---- from every schedule

record Mended (catalogue : Catalogue) (past : Past) (w : WorldState) : Type 0 where
  whole : InvDecided catalogue (scene_of w) → IsWhole catalogue w
  same : w.journal ≡ past.entries

module _ (catalogue : Catalogue) (past : Past) where
  abbrev ns : List ℕ
  ns = sites_of catalogue

  -- each doubt is of a site of the catalogue, and of those there is none
  no_doubt : (v : View) (w : WorldState) → Quiet catalogue ns past v w → ((q : ℕ) → Has ns q → (c : Doubt) → Has (doubts_at (site_of w q)) c → Has ns c.txn.site → ⊥) → (q : ℕ) → Has ns q → doubts_at (site_of w q) ≡ []
  no_doubt v w f clear q h =
      let g = f.holds q h in
      empty_from (doubts_at (site_of w q)) (λ c there. clear q h c there (coordinator_stands catalogue w f.base.known q g.at c g.up (subst (λ (o : Option SiteState). Has (doubts_at o) c) g.up there)))

  mended : (first : ℕ) (rest : List ℕ) → ns ≡ first ∷ rest → (w : WorldState) → Fit catalogue ns past w → With (Known catalogue) InvOne (scene_of w) → Can catalogue (calms past.told ns) w (Mended catalogue past)
  mended first rest is w f good =
      can_then catalogue (calms past.told ns) (λ new. Joined catalogue ns past new × With (Known catalogue) InvOne (scene_of new)) (Mended catalogue past) w
      (can_with catalogue (calms past.told ns) (With (Known catalogue) InvOne) (one_last catalogue) (Joined catalogue ns past) w good (joins catalogue ns past first rest is (λ q h. h) w f))
      λ w1 j.
      let v = j.0.view in
      can_then catalogue (calms past.told ns) (Settled catalogue ns past v) (Mended catalogue past) w1 (settles catalogue ns past v w1 (quiet_from catalogue ns past w1 j.0 j.1.more))
      λ w2 c.
      let doubts : ℕ → List Doubt = (λ k. doubts_at (site_of w2 k)) in
      let none = no_doubt v w2 c.quiet c.clear in
      can_then catalogue (calms past.told ns) (Ready catalogue ns past v doubts every (λ q rec here want. ap (any_writes rec) (none q here))) (Mended catalogue past) w2 (refreshes_all catalogue ns past v doubts every (λ q rec here want. ap (any_writes rec) (none q here)) w2 (record { quiet = c.quiet; same = λ k. refl; told = c.told }))
      λ w3 g. can_now catalogue (calms past.told ns) (Mended catalogue past) w3 (record { whole = whole_from catalogue past v doubts none w3 g; same = g.sure.quiet.base.same })

  mended_none : ns ≡ [] → (w : WorldState) → w.journal ≡ past.entries → Can catalogue (calms past.told ns) w (Mended catalogue past)
  mended_none is w same = can_now catalogue (calms past.told ns) (Mended catalogue past) w (record {
    whole = λ waits. record {
      view = record { id = opening; members = [] };
      members = λ q. ap (λ (ms : List ℕ). has ms q) (sym is);
      joined = λ a b p q. absurd (none a p);
      sites = λ q p. absurd (none q p);
    };
    same = same;
  })
    where
      none : (q : ℕ) → has ns q ≡ true → ⊥
      none q p = has_none q (subst (λ (ms : List ℕ). Has ms q) is (has_from_test ns q p))

can_mend : (s : Schedule) → AreUnspent (sites_of s.catalogue) (world_of s) → Can s.catalogue (calms (length (world_of s).sent) (sites_of s.catalogue)) (world_of s) (Mended s.catalogue (past_of (world_of s)))
can_mend s u = go (sites_of s.catalogue) refl
  where
    go : (sites : List ℕ) → sites_of s.catalogue ≡ sites → Can s.catalogue (calms (length (world_of s).sent) (sites_of s.catalogue)) (world_of s) (Mended s.catalogue (past_of (world_of s)))
    go [] is = mended_none s.catalogue (past_of (world_of s)) is (world_of s) refl
    go (first ∷ rest) is =
        let good = in_last s.catalogue (With (Known s.catalogue) InvOne) (one_last s.catalogue) s.events in
        mended s.catalogue (past_of (world_of s)) first rest is (world_of s)
        (record { known = good.base; unspent = u; there = in_last s.catalogue (Places s.catalogue) (places_last s.catalogue) s.events; same = refl; grown = omega arith })
        good

-- every schedule that spends no number can be mended
pub can_be_whole : (s : Schedule) → AreUnspent (sites_of s.catalogue) (world_of s) → CanBeWhole s
can_be_whole s u =
    let c = can_mend s u in
    let is = world_goes_on s c.events (passing_flows_not s.catalogue (calms (length (world_of s).sent) (sites_of s.catalogue)) (λ w count. refl) c.events (world_of s) c.passing) in
    record {
      more = c.events;
      mending = each_mends s.catalogue (length (world_of s).sent) (sites_of s.catalogue) c.events (world_of s) c.passing;
      fresh = each_fresh s.catalogue (calms (length (world_of s).sent) (sites_of s.catalogue)) (length (world_of s).sent) (calm_fresh (length (world_of s).sent) (sites_of s.catalogue)) c.events (world_of s) c.passing;
      whole = subst (IsWhole s.catalogue) (sym is) (c.so.whole (subst (λ (w : WorldState). InvDecided s.catalogue (scene_of w)) is (in_last s.catalogue (With (Known s.catalogue) (InvDecided s.catalogue)) (decided_last s.catalogue) (goes_on s c.events).events).more));
      journal = ap (λ (w : WorldState). w.journal) is ∙ c.so.same;
    }
