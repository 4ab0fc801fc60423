-- Pairs are healed and sites start: all of these sites are up, and no pair of them is cut.
use Rattle.std.proofs.Common.{◌≡◌, ◌≢◌, ◌∙◌, ap, sym, subst, ℕ, ◌+◌, ◌-◌, ◌<◌, ◌≤◌, ◌^◌, Bool, true, false, List, [], ◌∷◌, length, refl, arith, ⊎_elim}
use Rattle.std.specs.Prelude.{Option, Some, None, ◌==◌, not, map, filter, option_map}
use Rattle.std.specs.List.{list_any}
use Rattle.std.proofs.lemmas.Bool.Decides.{nat_tests}
use Rattle.vp_model.specs.Types.{Commit}
use Rattle.vp_model.specs.Types.event
use Rattle.vp_model.specs.Catalogue.{Catalogue}
use Rattle.vp_model.specs.Durable.{apply}
use Rattle.vp_model.specs.Site.{SiteState}
use Rattle.vp_model.specs.Step.{start}
use Rattle.vp_model.specs.World.{Place, WorldState, place_of, site_of, is_cut, same_pair, restart_place, restart, happens, next}
use Rattle.vp_laws.proofs.Lists.Members.{Has, has_none, has_first, has_more, has_cons, has_test, any_true, filter_has, any_of, map_has}
use Rattle.vp_laws.proofs.Lists.Changes.{mapped_has}
use Rattle.vp_laws.proofs.Lists.Views.{same_site}
use Rattle.vp_laws.proofs.Worlds.Scenes.{scene_of, up_in, place-same, place-other, place-id}
use Rattle.vp_laws.proofs.Worlds.Events.{restarted}
use Rattle.vp_laws.proofs.Invariant.Known.{Known}
use Rattle.vp_progress.specs.Whole.{life_in, promised_number, AreUnspent}
use Rattle.vp_progress.proofs.Calm.{opens}
use Rattle.vp_progress.proofs.Can.{Can, can_now, can_then, can_event, Each, one_by_one}
use Rattle.vp_progress.proofs.Acts.{stays_known}

-- ---- pairs

cut_less : (a b c d : ℕ) (cuts : List (ℕ × ℕ)) → list_any (same_pair c d) cuts ≡ false → list_any (same_pair c d) (filter (λ pair. not (same_pair a b pair)) cuts) ≡ false
cut_less a b c d cuts e = go (list_any (same_pair c d) (filter (λ pair. not (same_pair a b pair)) cuts)) refl
  where
    go : (t : Bool) → list_any (same_pair c d) (filter (λ pair. not (same_pair a b pair)) cuts) ≡ t → t ≡ false
    go false q = refl
    go true q =
        let p = any_true (same_pair c d) _ q in
        let h = filter_has (λ pair. not (same_pair a b pair)) cuts p.0 p.1 in
        let z = any_of (same_pair c d) cuts p.0 h.0 p.2 in cc

healed : (a b : ℕ) (cuts : List (ℕ × ℕ)) → list_any (same_pair a b) (filter (λ pair. not (same_pair a b pair)) cuts) ≡ false
healed a b cuts = go (list_any (same_pair a b) (filter (λ pair. not (same_pair a b pair)) cuts)) refl
  where
    go : (t : Bool) → list_any (same_pair a b) (filter (λ pair. not (same_pair a b pair)) cuts) ≡ t → t ≡ false
    go false q = refl
    go true q =
        let p = any_true (same_pair a b) _ q in
        let h = filter_has (λ pair. not (same_pair a b pair)) cuts p.0 p.1 in
        let n : not (same_pair a b p.0) ≡ true = h.1 in
        let y : same_pair a b p.0 ≡ true = p.2 in
        absurd (let z = rw y at n in cc)

-- ---- what holds while pairs are healed and sites start

abbrev pub AreJoined : List ℕ → WorldState → Type 0
AreJoined ns w = (a b : ℕ) → Has ns a → Has ns b → is_cut w a b ≡ false

abbrev pub IsThere : ℕ → WorldState → Type 0
IsThere q w = (p : Place) × (place_of q w.places ≡ Some p)

abbrev pub IsUp : ℕ → WorldState → Type 0
IsUp q w = (x : SiteState) × (site_of w q ≡ Some x)

-- the journal as it was, and how many messages had been sent
pub record Past : Type 0 where
  pub entries : List Commit
  pub told : ℕ

abbrev pub past_of : WorldState → Past
past_of w = record { entries = w.journal; told = length w.sent }

pub record Fit (catalogue : Catalogue) (ns : List ℕ) (past : Past) (w : WorldState) : Type 0 where
  pub known : Known catalogue (scene_of w)
  pub unspent : AreUnspent ns w
  pub there : (q : ℕ) → Has ns q → IsThere q w
  pub same : w.journal ≡ past.entries
  pub grown : past.told ≤ length w.sent

down_place : (o : Option Place) (p : Place) → o ≡ Some p → up_in o ≡ None → p.up ≡ None
down_place o p e n = sym (ap up_in e) ∙ n

module _ (catalogue : Catalogue) (ns : List ℕ) (past : Past) where
  abbrev F : WorldState → Type 0
  F w = Fit catalogue ns past w

  abbrev NotCut : ℕ × ℕ → WorldState → Type 0
  NotCut pair w = is_cut w pair.0 pair.1 ≡ false

  heals : (pair : ℕ × ℕ) (w : WorldState) → Has ns pair.0 → Has ns pair.1 → F w → Can catalogue (opens ns) w (Each F NotCut (pair ∷ []) w)
  unfolding happens
  heals pair w a b f =
      can_event catalogue (opens ns) _ w (event.Heal pair.0 pair.1) (rw (has_test ns pair.0 a, has_test ns pair.1 b) refl)
      (can_now catalogue (opens ns) _ _ (record {
        still = record { known = stays_known catalogue (event.Heal pair.0 pair.1) w f.known; unspent = record { lives = f.unspent.lives; promised = f.unspent.promised; seen = f.unspent.seen }; there = f.there; same = f.same; grown = f.grown };
        done = λ p h. ⊎_elim (λ (one : pair ≡ p). rw (← one) (healed pair.0 pair.1 w.cuts)) (λ more. absurd (has_none p more)) (has_cons pair [] p h);
        stays = λ p e. cut_less pair.0 pair.1 p.0 p.1 w.cuts e;
      }))

  start_world_of : (q : ℕ) (p : Place) (w : WorldState) → place_of q w.places ≡ Some p → p.up ≡ None → p.durable.life ≢ 2 ^ 32 - 1 → (restart catalogue q w).world ≡ record w { places = (restarted catalogue (scene_of w) q).places }
  unfolding restart
  start_world_of q p w e down life =
      let i = place-id q w.places p e in
      let n : (p.durable.life == 2 ^ 32 - 1) ≡ false = grind (arith, nat_tests, life) in
      rw (e, down, n, i) refl

  -- a site that is down starts
  abbrev begun : ℕ → WorldState → WorldState
  begun q w = record w { steps = w.steps + 1; places = (restarted catalogue (scene_of w) q).places }

  now_up : (q : ℕ) (p : Place) (w : WorldState) → place_of q w.places ≡ Some p → place_of q (begun q w).places ≡ Some (restart_place catalogue p)
  now_up q p w e = place-same q (restart_place catalogue) w.places (λ p. refl) ∙ ap (option_map (restart_place catalogue)) e

  as_before : (q k : ℕ) (w : WorldState) → k ≢ q → place_of k (begun q w).places ≡ place_of k w.places
  as_before q k w n = place-other q k (restart_place catalogue) w.places (λ p. refl) n

  promise_as : (p : Place) → promised_number (Some (restart_place catalogue p)) ≡ promised_number (Some p)
  unfolding apply
  promise_as p = refl

  seen_none : (p : Place) (x : SiteState) → up_in (Some (restart_place catalogue p)) ≡ Some x → x.seen < 2 ^ 64 - 1
  unfolding start
  seen_none p x e = let q : x.seen ≡ 0 = (let z : Some (start catalogue p.id p.durable) ≡ Some x = e in grind (arith, z)) in omega arith

  begun_unspent : (q : ℕ) (p : Place) (w : WorldState) → place_of q w.places ≡ Some p → AreUnspent ns w → AreUnspent ns (begun q w)
  begun_unspent q p w e u = record {
    lives = λ k h none. ⊎_elim (λ (one : k ≡ q). absurd (let z = sym (ap up_in (now_up q p w e)) ∙ (rw one at none) in cc))
        (λ other. subst (λ (o : Option Place). life_in o ≢ 2 ^ 32 - 1) (sym (as_before q k w other)) (u.lives k h (sym (ap up_in (as_before q k w other)) ∙ none)))
        (same_site k q);
    promised = λ k h. ⊎_elim (λ (one : k ≡ q). rw (one, now_up q p w e, promise_as p) (subst (λ (o : Option Place). promised_number o < 2 ^ 64 - 1) e (u.promised q (rw one at h))))
        (λ other. subst (λ (o : Option Place). promised_number o < 2 ^ 64 - 1) (sym (as_before q k w other)) (u.promised k h))
        (same_site k q);
    seen = λ k x h up. ⊎_elim (λ (one : k ≡ q). seen_none p x (sym (ap up_in (now_up q p w e)) ∙ (rw one at up)))
        (λ other. u.seen k x h (sym (ap up_in (as_before q k w other)) ∙ up))
        (same_site k q);
  }

  abbrev Joined : WorldState → Type 0
  Joined w = F w × AreJoined ns w

  begins : (q : ℕ) (p : Place) (w : WorldState) → Has ns q → place_of q w.places ≡ Some p → p.up ≡ None → Joined w → Can catalogue (opens ns) w (Each Joined IsUp (q ∷ []) w)
  unfolding happens
  begins q p w here e down f =
      let life : p.durable.life ≢ 2 ^ 32 - 1 = subst (λ (o : Option Place). life_in o ≢ 2 ^ 32 - 1) e (f.0.unspent.lives q (has_test ns q here) (ap up_in e ∙ down)) in
      let is : (next catalogue (event.Restart q) w).world ≡ begun q w = start_world_of q p (record w { steps = w.steps + 1 }) e down life in
      can_event catalogue (opens ns) _ w (event.Restart q) (has_test ns q here)
      (can_now catalogue (opens ns) _ _ (subst (λ (new : WorldState). Each Joined IsUp (q ∷ []) w new) (sym is) (record {
        still = (
          record {
            known = subst (λ (new : WorldState). Known catalogue (scene_of new)) is (stays_known catalogue (event.Restart q) w f.0.known);
            unspent = begun_unspent q p w e f.0.unspent;
            there = λ k h. ⊎_elim (λ (one : k ≡ q). rw one (restart_place catalogue p, now_up q p w e)) (λ other. let t = f.0.there k h in (t.0, as_before q k w other ∙ t.1)) (same_site k q);
            same = f.0.same;
            grown = f.0.grown;
          },
          f.1,
        );
        done = λ k h. ⊎_elim (λ (one : q ≡ k). rw (← one) (start catalogue p.id p.durable, ap up_in (now_up q p w e))) (λ more. absurd (has_none k more)) (has_cons q [] k h);
        stays = λ k u. ⊎_elim (λ (one : k ≡ q). rw one (start catalogue p.id p.durable, ap up_in (now_up q p w e))) (λ other. (u.0, ap up_in (as_before q k w other) ∙ u.1)) (same_site k q);
      })))

  -- it is up, or starts
  raises : (q : ℕ) (w : WorldState) → Has ns q → Joined w → Can catalogue (opens ns) w (Each Joined IsUp (q ∷ []) w)
  raises q w here f = go (site_of w q) refl
    where
      go : (o : Option SiteState) → site_of w q ≡ o → Can catalogue (opens ns) w (Each Joined IsUp (q ∷ []) w)
      go (Some x) e = can_now catalogue (opens ns) _ w (record { still = f; done = λ k h. ⊎_elim (λ (one : q ≡ k). rw (← one) (x, e)) (λ more. absurd (has_none k more)) (has_cons q [] k h); stays = λ k u. u })
      go None e = let t = f.0.there q here in begins q t.0 w here t.1 (down_place (place_of q w.places) t.0 t.1 e) f

  -- one site with each of these
  joins_one : (a : ℕ) (w : WorldState) → Has ns a → F w → Can catalogue (opens ns) w (Each F NotCut (map (λ (b : ℕ). (a, b)) ns) w)
  joins_one a w here f =
      one_by_one catalogue (opens ns) F NotCut (map (λ (b : ℕ). (a, b)) ns)
      (λ pair w h f. let p = map_has (λ (b : ℕ). (a, b)) ns pair h in heals pair w (rw (← (ap (λ (z : ℕ × ℕ). z.0) p.2)) here) (rw (← (ap (λ (z : ℕ × ℕ). z.1) p.2)) p.1) f)
      (map (λ (b : ℕ). (a, b)) ns) (λ p h. h) w f

  abbrev JoinedOf : List ℕ → WorldState → Type 0
  JoinedOf qs w = (a b : ℕ) → Has qs a → Has ns b → is_cut w a b ≡ false

  joins_all : (qs : List ℕ) → ((a : ℕ) → Has qs a → Has ns a) → (w : WorldState) → F w → Can catalogue (opens ns) w (λ new. F new × JoinedOf qs new × ((p : ℕ × ℕ) → NotCut p w → NotCut p new))
  joins_all [] sub w f = can_now catalogue (opens ns) _ w (f, (λ a b h. absurd (has_none a h)), (λ p e. e))
  joins_all (a ∷ qs) sub w f =
      can_then catalogue (opens ns) (Each F NotCut (map (λ (b : ℕ). (a, b)) ns) w) _ w (joins_one a w (sub a (has_first a qs)) f)
      λ mid m. can_then catalogue (opens ns) (λ new. F new × JoinedOf qs new × ((p : ℕ × ℕ) → NotCut p mid → NotCut p new)) _ mid (joins_all qs (λ b h. sub b (has_more a qs b h)) mid m.still)
      λ new n. can_now catalogue (opens ns) _ new (n.0, (λ c b h k. ⊎_elim (λ (one : a ≡ c). rw (← one) (n.2 (a, b) (m.done (a, b) (mapped_has (λ (b : ℕ). (a, b)) ns b k)))) (λ more. n.1 c b more k) (has_cons a qs c h)), (λ p e. n.2 p (m.stays p e)))

  -- all are up, and no pair is cut
  pub record Started (w : WorldState) : Type 0 where
    pub fit : Fit catalogue ns past w
    pub joined : AreJoined ns w
    pub up : (q : ℕ) → Has ns q → IsUp q w

  pub starts_all : (w : WorldState) → Fit catalogue ns past w → Can catalogue (opens ns) w Started
  starts_all w f =
      can_then catalogue (opens ns) (λ new. F new × JoinedOf ns new × ((p : ℕ × ℕ) → NotCut p w → NotCut p new)) Started w (joins_all ns (λ a h. h) w f)
      λ mid m. can_then catalogue (opens ns) (Each Joined IsUp ns mid) Started mid (one_by_one catalogue (opens ns) Joined IsUp ns raises ns (λ a h. h) mid (m.0, m.1))
      λ new n. can_now catalogue (opens ns) Started new (record { fit = n.still.0; joined = n.still.1; up = n.done })
