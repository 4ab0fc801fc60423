-- What the invariant sees of a world, and what a step changes in it. Every later proof uses the record `Acted`, and none of the
-- rows.
use Rattle.std.proofs.Common.{◌≡◌, ◌≢◌, ◌⊎◌, ◌∙◌, ap, sym, ℕ, Bool, true, false, cond, List, [], ◌∷◌, ◌++◌, refl, arith, inl, inr, ⊎_elim, ◌-◌}
use Rattle.std.specs.Prelude.{Option, Some, None, option_map, option_and_then, ◌==◌, slice_get}
use Rattle.std.proofs.lemmas.Bool.Decides.{nat_tests}
use Rattle.std.proofs.lemmas.Option.{slice_get_within, get_or_from_slice_get}
use Rattle.vp_model.specs.Types.{ViewId, View, Sent, Commit, Input}
use Rattle.vp_model.specs.Words.{same_view}
use Rattle.vp_model.specs.Catalogue.{Catalogue}
use Rattle.vp_model.specs.Durable.{DurableState, empty_durable, apply_all}
use Rattle.vp_model.specs.Site.{SiteState, Stepped}
use Rattle.vp_model.specs.Step.{durable_of, step}
use Rattle.vp_model.specs.World.{Place, WorldState, place_of, change_place, fixed_view, after_step, message_at}
use Rattle.vp_laws.proofs.Lists.Members.{Has, has_none, has_one, has_one_is, has_cases, has_left, has_right, has_of}
use Rattle.vp_laws.proofs.Lists.Views.{AtMost, AtMost-same, AtMost-along, same_is, same_from, same_site}
use Rattle.vp_laws.proofs.Moves.LocalViews.{Local}
use Rattle.vp_laws.proofs.Table.Durable.{step-folds}

pub record Scene : Type 0 where
  pub places : List Place
  pub agreed : List View
  pub sent : List Sent
  pub journal : List Commit

abbrev pub scene_of : WorldState → Scene
scene_of w = record { places = w.places; agreed = w.agreed; sent = w.sent; journal = w.journal }

-- total look-ups

abbrev pub kept_in : Option Place → DurableState
kept_in None = empty_durable []
kept_in (Some place) = place.durable

abbrev pub up_in : Option Place → Option SiteState
up_in place = option_and_then (λ place. place.up) place

abbrev pub plain_at : Scene → ℕ → Option SiteState
plain_at w s = up_in (place_of s w.places)

abbrev pub kept_at : Scene → ℕ → DurableState
kept_at w s = kept_in (place_of s w.places)

abbrev pub promise_at : Scene → ℕ → ViewId
promise_at w s = (kept_at w s).promise

pub place-other : (s k : ℕ) (f : Place → Place) (places : List Place) → ((p : Place) → (f p).id ≡ p.id) → k ≢ s → place_of k (change_place s f places) ≡ place_of k places
place-other s k f [] same n = refl
place-other s k f (p ∷ places) same n = let rest = place-other s k f places same n in grind (arith, nat_tests, rest, same p, n)

pub place-same : (s : ℕ) (f : Place → Place) (places : List Place) → ((p : Place) → (f p).id ≡ p.id) → place_of s (change_place s f places) ≡ option_map f (place_of s places)
place-same s f [] same = refl
place-same s f (p ∷ places) same = let rest = place-same s f places same in grind (arith, nat_tests, rest, same p)

pub place-id : (s : ℕ) (places : List Place) (p : Place) → place_of s places ≡ Some p → p.id ≡ s
place-id s [] p e = cc
place-id s (q ∷ places) p e = let rest = place-id s places p in grind (arith, nat_tests, rest, e)

mapped : (f : Place → Place) (o : Option Place) (p : Place) → option_map f o ≡ Some p → (q : Place) × (o ≡ Some q)
mapped f None p e = cc
mapped f (Some q) p e = (q, refl)

pub place-there : (s : ℕ) (f : Place → Place) (places : List Place) → ((p : Place) → (f p).id ≡ p.id) → (k : ℕ) (p : Place) → place_of k (change_place s f places) ≡ Some p → (q : Place) × (place_of k places ≡ Some q)
place-there s f places same k p e =
    ⊎_elim (λ here. mapped f _ p (rw here (sym (place-same s f places same) ∙ rw here at e)))
    (λ other. (p, sym (place-other s k f places same other) ∙ e))
    (same_site k s)

-- the moves of one site
pub record Moved (w new : Scene) (s : ℕ) : Type 0 where
  pub others : (k : ℕ) → k ≢ s → place_of k new.places ≡ place_of k w.places
  pub there : (k : ℕ) (p : Place) → place_of k new.places ≡ Some p → (q : Place) × (place_of k w.places ≡ Some q)
  pub rises : AtMost (promise_at w s) (promise_at new s)
  pub agreed : (v : View) → Has w.agreed v → Has new.agreed v
  pub sent : (m : Sent) → Has w.sent m → Has new.sent m
  pub journal : (c : Commit) → Has w.journal c → Has new.journal c

pub record Acted (w new : Scene) (s : ℕ) (x : SiteState) (o : Stepped) : Type 0 where
  pub moved : Moved w new s
  pub now : plain_at new s ≡ Some o.site
  pub kept_now : kept_at new s ≡ durable_of o.site
  pub sent : (m : Sent) → Has new.sent m → Has w.sent m ⊎ Has o.effects.messages m
  pub sends : (m : Sent) → Has o.effects.messages m → Has new.sent m
  pub fixed : (v : View) → Has new.agreed v → Has w.agreed v ⊎ ((b : ViewId × List ℕ) × (x.inviting ≡ Some b) × (o.site.held ≡ Some v) × (b.0 ≡ v.id))
  pub fixes : (b : ViewId × List ℕ) (v : View) → x.inviting ≡ Some b → o.site.held ≡ Some v → b.0 ≡ v.id → Has new.agreed v
  pub entered : (c : Commit) → Has new.journal c → Has w.journal c ⊎ Has o.effects.commits c
  pub enters : (c : Commit) → Has o.effects.commits c → Has new.journal c
  pub journal : new.journal ≡ w.journal ++ o.effects.commits

abbrev pub acted : Scene → ℕ → SiteState → Stepped → Scene
acted w s x o =
    record {
      places = change_place s (after_step o) w.places;
      agreed = w.agreed ++ fixed_view x.inviting o.site.held;
      sent = w.sent ++ o.effects.messages;
      journal = w.journal ++ o.effects.commits;
    }

fixed_view-is : (inviting : Option (ViewId × List ℕ)) (held : Option View) (v : View) → Has (fixed_view inviting held) v → (b : ViewId × List ℕ) × (inviting ≡ Some b) × (held ≡ Some v) × (b.0 ≡ v.id)
fixed_view-is None held v h = absurd (has_none v h)
fixed_view-is (Some b) None v h = absurd (has_none v h)
fixed_view-is (Some b) (Some u) v h = go (same_view u.id b.0) refl h
  where
    go : (t : Bool) → same_view u.id b.0 ≡ t → Has (cond t (u ∷ []) []) v → (c : ViewId × List ℕ) × (Some b ≡ Some c) × (Some u ≡ Some v) × (c.0 ≡ v.id)
    go true e q = let same = has_one_is u v q in (b, refl, ap (λ (z : View). Some z) same, sym (same_is u.id b.0 e) ∙ ap (λ (z : View). z.id) same)
    go false e q = absurd (has_none v q)

fixed_view-has : (inviting : Option (ViewId × List ℕ)) (held : Option View) (b : ViewId × List ℕ) (v : View) → inviting ≡ Some b → held ≡ Some v → b.0 ≡ v.id → Has (fixed_view inviting held) v
fixed_view-has inviting held b v i h e = rw (i, h, same_from v.id b.0 (sym e)) (has_one v)

pub up-place : (o : Option Place) (x : SiteState) → up_in o ≡ Some x → (p : Place) × (o ≡ Some p)
up-place None x e = cc
up-place (Some p) x e = (p, refl)

pub stepping : (catalogue : Catalogue) (w : Scene) (s : ℕ) (x : SiteState) (given : Input) → plain_at w s ≡ Some x → durable_of x ≡ kept_at w s → Local x given (step catalogue x given) → Acted w (acted w s x (step catalogue x given)) s x (step catalogue x given)
stepping catalogue w s x given up kept l =
    let o = step catalogue x given in
    let p = up-place (place_of s w.places) x up in
    let same = place-same s (after_step o) w.places (λ q. refl) in
    let there : place_of s (change_place s (after_step o) w.places) ≡ Some (after_step o p.0) = same ∙ ap (option_map (after_step o)) p.1 in
    let was : p.0.durable ≡ durable_of x = sym (kept ∙ ap kept_in p.1) in
    let folded : kept_at (acted w s x o) s ≡ durable_of o.site = ap kept_in there ∙ ap (apply_all o.effects.records) was ∙ step-folds catalogue x given in
    record {
      moved = record {
        others = λ k n. place-other s k (after_step o) w.places (λ q. refl) n;
        there = place-there s (after_step o) w.places (λ q. refl);
        rises = AtMost-along l.rises (sym (ap (λ (d : DurableState). d.promise) kept)) (ap (λ (d : DurableState). d.promise) folded);
        agreed = λ v h. has_left w.agreed _ v h;
        sent = λ m h. has_left w.sent _ m h;
        journal = λ c h. has_left w.journal _ c h;
      };
      now = ap up_in there;
      kept_now = folded;
      sent = λ m h. has_cases w.sent o.effects.messages m h;
      sends = λ m h. has_right w.sent o.effects.messages m h;
      fixed = λ v h. ⊎_elim (λ old. inl old) (λ new. inr (fixed_view-is x.inviting o.site.held v new)) (has_cases w.agreed (fixed_view x.inviting o.site.held) v h);
      fixes = λ b v i h e. has_right w.agreed _ v (fixed_view-has x.inviting o.site.held b v i h e);
      entered = λ c h. has_cases w.journal o.effects.commits c h;
      enters = λ c h. has_right w.journal o.effects.commits c h;
      journal = refl;
    }

pub promise_same : (w : Scene) (s : ℕ) (f : Place → Place) → ((p : Place) → (f p).id ≡ p.id) → ((p : Place) → (f p).durable.promise ≡ p.durable.promise) → promise_at (record w { places = change_place s f w.places }) s ≡ promise_at w s
promise_same w s f same promise = ap (λ o. (kept_in o).promise) (place-same s f w.places same) ∙ go (place_of s w.places)
  where
    go : (o : Option Place) → (kept_in (option_map f o)).promise ≡ (kept_in o).promise
    go None = refl
    go (Some p) = promise p

-- a site that goes down or starts again: all else is the same
pub moves : (w : Scene) (s : ℕ) (f : Place → Place) → ((p : Place) → (f p).id ≡ p.id) → ((p : Place) → (f p).durable.promise ≡ p.durable.promise) → Moved w (record w { places = change_place s f w.places }) s
moves w s f same promise = record {
  others = λ k n. place-other s k f w.places same n;
  there = place-there s f w.places same;
  rises = AtMost-same _ _ (sym (promise_same w s f same promise));
  agreed = λ v h. h;
  sent = λ m h. h;
  journal = λ c h. h;
}

-- a message that is found was sent
pub message_at-has : (w : WorldState) (n : ℕ) (m : Sent) → message_at w n ≡ Some m → Has w.sent m
message_at-has w n m e = go (n == 0) e
  where
    go : (b : Bool) → cond b None (slice_get w.sent (n - 1)) ≡ Some m → Has w.sent m
    go true q = cc
    go false q = has_of w.sent m (n - 1, slice_get_within w.sent (n - 1) m q, get_or_from_slice_get w.sent (n - 1) m m q)
