-- What each step keeps of a site's place and log holds of them at the end of each schedule.
use Rattle.std.proofs.Common.{◌≡◌, ◌∙◌, ap, sym, subst, ℕ, Bool, true, false, cond, List, ◌∷◌, [], ◌++◌, refl, map, arith, ⊎_elim}
use Rattle.std.specs.Prelude.{Some, ◌==◌, find}
use Rattle.std.proofs.lemmas.Bool.Decides.{nat_tests}
use Rattle.vp_model.specs.Types.{LogRecord, Event}
use Rattle.vp_model.specs.Words.{for_each}
use Rattle.vp_model.specs.Catalogue.{Catalogue, sites_of}
use Rattle.vp_model.specs.World.{Place, WorldState, Run, Moment, Schedule, place_of, next, moment, one_step, start_place, start_world, run_of, moments_of}
use Rattle.vp_laws.proofs.Lists.Members.{Has, has_cons, has_first, has_more, has_none}
use Rattle.vp_laws.proofs.Worlds.Events.{in_last}
use Rattle.vp_laws.proofs.Worlds.Occurs.{run-keeps}
use Rattle.vp_laws.proofs.Invariant.Views.{InvViews}
use Rattle.vp_laws.proofs.Keeping.Views.{views_last}
use Rattle.vp_runs.specs.Kept.{with_life, kept_after, kept_in}
use Rattle.vp_runs.proofs.Happened.{Effect, effect, Happened, happened}
use Rattle.vp_laws.proofs.Lists.Numbers.{eq_self}

-- these moments follow each other from one world to another
abbrev pub Follow : Catalogue → WorldState → List Moment → WorldState → Type 0
Follow catalogue w [] v = w ≡ v
Follow catalogue w (m ∷ moments) v = (m ≡ moment m.number w m.line.event (next catalogue m.line.event w)) × Follow catalogue m.after moments v

module _ (catalogue : Catalogue) where
  pub one_more : (number : ℕ) (e : Event) (moments : List Moment) (w v : WorldState) → Follow catalogue w moments v → Follow catalogue w (moments ++ moment number v e (next catalogue e v) ∷ []) (next catalogue e v).world
  one_more number e [] w v h = subst (λ (w : WorldState). Follow catalogue w (moment number v e (next catalogue e v) ∷ []) (next catalogue e v).world) (sym h) (refl, refl)
  one_more number e (m ∷ moments) w v h = (h.0, one_more number e moments m.after v h.1)

  steps_follow : (number : ℕ) (e : Event) (run : Run) → Follow catalogue (start_world catalogue) run.moments run.world → Follow catalogue (start_world catalogue) (one_step catalogue number e run).moments (one_step catalogue number e run).world
  unfolding one_step
  steps_follow number e run h = one_more number e run.moments (start_world catalogue) run.world h

  pub moments_follow : (events : List Event) → Follow catalogue (start_world catalogue) (moments_of (record { catalogue = catalogue; events = events })) (run_of (record { catalogue = catalogue; events = events })).world
  moments_follow events = run-keeps catalogue (λ (run : Run). Follow catalogue (start_world catalogue) run.moments run.world) (record { starts = refl; steps = steps_follow }) events

  -- ---- one site

  module _ (id : ℕ) (P : List (List LogRecord) → Place → Type 0) where
    abbrev Kept : List Moment → Type 0
    Kept moments = (m : Moment) → Has moments m → (old new : Place) (before after : List (List LogRecord)) → place_of id m.before.places ≡ Some old → Happened catalogue id m.line.event m.before old new before after → P before old → P after new

    abbrev At : WorldState → List (List LogRecord) → Type 0
    At w batches = (place : Place) × (place_of id w.places ≡ Some place) × P batches place

    one_moment : (m : Moment) (moments : List Moment) (w : WorldState) → Kept (m ∷ moments) → m ≡ moment m.number w m.line.event (next catalogue m.line.event w) → (batches : List (List LogRecord)) → At w batches
        → At m.after (kept_after catalogue id m batches)
    one_moment m moments w keeps is batches (old, at, h) =
        let old_here : place_of id m.before.places ≡ Some old = subst (λ (v : WorldState). place_of id v.places ≡ Some old) (ap (λ (m : Moment). m.before) (sym is)) at in
        let (new, now, done) = happened catalogue m id old old_here batches (subst (Effect catalogue) (sym is) (effect catalogue m.number m.line.event w)) in
        (new, now, keeps m (has_first m moments) old new batches (kept_after catalogue id m batches) old_here done h)

    through : (moments : List Moment) (w v : WorldState) → Kept moments → Follow catalogue w moments v → (batches : List (List LogRecord)) → At w batches → At v (for_each moments (kept_after catalogue id) batches)
    through [] w v keeps f batches h = subst (λ (v : WorldState). At v batches) f h
    through (m ∷ moments) w v keeps f batches h = through moments m.after v (λ n has. keeps n (has_more m moments n has)) f.1 (kept_after catalogue id m batches) (one_moment m moments w keeps f.0 batches h)

  started : (id : ℕ) (sites : List ℕ) → Has sites id → place_of id (map (start_place catalogue) sites) ≡ Some (start_place catalogue id)
  started id [] h = absurd (has_none id h)
  started id (s ∷ sites) h = ⊎_elim (λ (same : s ≡ id). rw (same, eq_self id) refl) (λ (more : Has sites id). go (s == id) refl (started id sites more)) (has_cons s sites id h)
    where
      is_same : (s == id) ≡ true → s ≡ id
      is_same e = grind (arith, nat_tests, e)

      go : (b : Bool) → (s == id) ≡ b → find (λ (place : Place). place.id == id) (map (start_place catalogue) sites) ≡ Some (start_place catalogue id) → cond b (Some (start_place catalogue s)) (find (λ (place : Place). place.id == id) (map (start_place catalogue) sites)) ≡ Some (start_place catalogue id)
      go true e rest = ap (λ (s : ℕ). Some (start_place catalogue s)) (is_same e)
      go false e rest = rest

  pub starts_at : (id : ℕ) → Has (sites_of catalogue) id → place_of id (start_world catalogue).places ≡ Some (start_place catalogue id)
  unfolding start_world
  starts_at id h = started id (sites_of catalogue) h

-- what holds at the start of the first life and lasts over each step holds at the end
pub through_schedule : (s : Schedule) (id : ℕ) (P : List (List LogRecord) → Place → Type 0) → P (with_life 1 []) (start_place s.catalogue id)
    → ((m : Moment) → Has (moments_of s) m → (old new : Place) (before after : List (List LogRecord)) → place_of id m.before.places ≡ Some old → Happened s.catalogue id m.line.event m.before old new before after → P before old → P after new)
    → (place : Place) → place_of id (run_of s).world.places ≡ Some place → P (kept_in s.catalogue id (moments_of s)) place
through_schedule s id P first keeps place at =
    let known : Has (sites_of s.catalogue) id = (in_last s.catalogue (InvViews s.catalogue) (views_last s.catalogue) s.events).known id place at in
    let (end, there, h) = through s.catalogue id P (moments_of s) (start_world s.catalogue) (run_of s).world keeps (moments_follow s.catalogue s.events) (with_life 1 []) (start_place s.catalogue id, starts_at s.catalogue id known, first) in
    let same : end ≡ place = (let z = sym there ∙ at in cc) in
    subst (P (kept_in s.catalogue id (moments_of s))) same h
