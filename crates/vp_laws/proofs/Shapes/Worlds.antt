-- Every world of a schedule, over a catalogue and with calls that have texts, is well formed.
use Rattle.std.proofs.Common.{◌≡◌, ◌∙◌, ℕ, ◌+◌, ◌-◌, ◌<◌, ◌^◌, zero, suc, Bool, true, false, cond, List, [], ◌∷◌, ◌++◌, refl, arith, map, ⊎_elim}
use Rattle.std.specs.Prelude.{Option, Some, None, ◌==◌, find, is_some, option_and_then}
use Rattle.std.specs.List.{AllByRecursion, Contains}
use Rattle.std.proofs.lemmas.Bool.Decides.{nat_tests}
use Rattle.vp_wire.specs.Grammar.{IsFrame}
use Rattle.vp_catalog.specs.Document.{IsCatalogue}
use Rattle.vp_model.specs.Types.{Event, Input, Sent}
use Rattle.vp_model.specs.Types.event
use Rattle.vp_model.specs.Types.input
use Rattle.vp_model.specs.Types.shown
use Rattle.vp_model.specs.Words.{change_first}
use Rattle.vp_model.specs.Catalogue.{Catalogue, sites_of, start_copies}
use Rattle.vp_model.specs.Durable.{DurableState, empty_durable}
use Rattle.vp_model.specs.Site.{SiteState}
use Rattle.vp_model.specs.Step.{step, start, start_record}
use Rattle.vp_model.specs.World.{Place, WorldState, Moved, Run, Moment, Schedule, start_place, place_of, site_of, change_place, message_at, is_cut, start_world, after_step, site_step, at_site, deliver, crash, restart, restart_place, restart_from, happens, next, one_step, flow, one_event, run_from, run_of, flowing, moments_of, shows}
use Rattle.vp_laws.specs.Shapes.{IsInput, IsShaped, IsSent}
use Rattle.vp_laws.specs.ShapeLaws.{message_frame, IsEvent, IsPlace, IsWorld}
use Rattle.vp_laws.proofs.Lists.Members.{Has, has_of, has_none, has_cases, has_one_is, find_has, map_has, any_of, all_of}
use Rattle.vp_laws.proofs.Lists.Keeps.{for_some-keeps, by_option, by_test}
use Rattle.vp_laws.proofs.Worlds.Scenes.{place-id, message_at-has}
use Rattle.vp_laws.proofs.Lists.Items.{all_at, all_append}
use Rattle.vp_laws.proofs.Shapes.Moves.{Forms, some_at}
use Rattle.vp_laws.proofs.Shapes.Steps.{step_forms, starts_are_shaped}
use Rattle.vp_laws.proofs.Shapes.Log.{fresh_is_durable, sent_is_frame}
use Rattle.vp_laws.proofs.Shapes.Fold.{all_applied}
use Rattle.vp_laws.proofs.Lists.Numbers.{eq_self}
use Rattle.vp_text.proofs.Items.{all_each}

-- the first item that passes is the one that is found
all_change_found : {X : Type 0} (P : X → Type 0) (test : X → Bool) (f : X → X) (xs : List X) (a : X) → find test xs ≡ Some a → P (f a) → AllByRecursion P xs → AllByRecursion P (change_first test f xs)
all_change_found P test f [] a e p h = tt
all_change_found {X} P test f (x ∷ xs) a e p h = go (test x) e (λ q. all_change_found P test f xs a q p h.1)
  where
    go : (b : Bool) → cond b (Some x) (find test xs) ≡ Some a → (find test xs ≡ Some a → AllByRecursion P (change_first test f xs)) → AllByRecursion P (cond b (f x ∷ xs) (x ∷ change_first test f xs))
    go true q rest = let same : x ≡ a = cc in (rw same p, h.1)
    go false q rest = (h.0, rest q)

placed : (o : Option Place) (x : SiteState) → option_and_then (λ place. place.up) o ≡ Some x → (p : Place) × (o ≡ Some p) × (p.up ≡ Some x)
placed None x e = cc
placed (Some p) x e = (p, refl, e)

module _ (catalogue : Catalogue) (k : IsCatalogue catalogue) where
  start-id : (s : ℕ) (d : DurableState) → (start catalogue s d).id ≡ s
  unfolding start
  start-id s d = refl

  abbrev W : WorldState → Type 0
  W = IsWorld catalogue

  abbrev Kept : Moved → Type 0
  Kept m = W m.world

  place_is : (w : WorldState) (s : ℕ) (p : Place) → W w → place_of s w.places ≡ Some p → IsPlace catalogue p
  place_is w s p h e = all_at (IsPlace catalogue) w.places h.places_are p (find_has (λ place. place.id == s) w.places p e)

  -- ---- the start

  start_place_is : (s : ℕ) → Has (sites_of catalogue) s → IsPlace catalogue (start_place catalogue s)
  start_place_is s h =
      let listed = any_of (λ m. m == s) (sites_of catalogue) s h (eq_self s) in
      let fresh = fresh_is_durable catalogue s k in
      let empty = empty_durable (start_copies catalogue s) in
      record { listed = listed; durable_is = all_applied catalogue s (start_record empty ∷ []) empty (omega arith, tt) fresh; up_is = (start-id s empty, starts_are_shaped catalogue s empty k listed fresh (omega arith)) }

  -- ---- a step of a site

  steps : (s : ℕ) (x : SiteState) (given : Input) (w : WorldState) → site_of w s ≡ Some x → IsInput given → W w → W (site_step catalogue s x given w).world
  unfolding site_step
  steps s x given w up i h =
      let p = placed (place_of s w.places) x up in
      let q = place_is w s p.0 h p.1 in
      let now = some_at (λ site. (site.id ≡ p.0.id) × IsShaped catalogue site) p.0.up x q.up_is p.2 in
      let o = step catalogue x given in
      let f : Forms catalogue x o = step_forms catalogue x given k now.1 i in
      record {
        places_are = all_change_found (IsPlace catalogue) (λ place. place.id == s) (after_step o) w.places p.0 p.1 (record { listed = q.listed; durable_is = all_applied catalogue p.0.id o.effects.records p.0.durable f.gives.records_are q.durable_is; up_is = (f.same ∙ now.0, f.site_is) }) h.places_are;
        sent_are = all_append (λ sent. IsFrame (message_frame sent)) w.sent o.effects.messages h.sent_are (all_each (IsSent x.id) (λ sent. IsFrame (message_frame sent)) (λ m g. sent_is_frame catalogue x.id m k now.1.listed g) o.effects.messages f.gives.messages_are);
      }

  at_sites : (s : ℕ) (given : Input) (w : WorldState) → IsInput given → W w → Kept (at_site catalogue s given w)
  unfolding at_site
  at_sites s given w i h = by_option Kept (λ site. site_step catalogue s site given w) (site_of w s) (shows w (shown.Down s)) (λ x up. steps s x given w up i h) (λ none. h)

  with_delivered : (w : WorldState) (ks : List ℕ) → W w → W (record w { delivered = ks })
  with_delivered w ks h = record { places_are = h.places_are; sent_are = h.sent_are }

  delivers : (n : ℕ) (m : Sent) (w : WorldState) → Has w.sent m → W w → Kept (deliver catalogue n m w)
  unfolding deliver
  delivers n m w sent h =
      let i = all_at (λ sent. IsFrame (message_frame sent)) w.sent h.sent_are m sent in
      by_option Kept _ (site_of w m.to) (shows w (shown.Down m.to))
      (λ x up. by_test Kept (is_cut w m.from m.to) (shows w (shown.Parted m.from m.to)) (site_step catalogue m.to x (input.Message m.from m.message) (record w { delivered = w.delivered ++ n ∷ [] }))
      (λ e. h) (λ e. steps m.to x (input.Message m.from m.message) (record w { delivered = w.delivered ++ n ∷ [] }) up (i.2.0, i.2.2) (with_delivered w (w.delivered ++ n ∷ []) h)))
      (λ none. h)

  crashes : (s : ℕ) (w : WorldState) → W w → Kept (crash s w)
  unfolding crash
  crashes s w h = by_option Kept _ (site_of w s) (shows w (shown.Down s))
      (λ x up. let p = placed (place_of s w.places) x up in let q = place_is w s p.0 h p.1 in
      record { places_are = all_change_found (IsPlace catalogue) (λ place. place.id == s) (λ place. record place { up = None }) w.places p.0 p.1 (record { listed = q.listed; durable_is = q.durable_is; up_is = tt }) h.places_are; sent_are = h.sent_are })
      (λ none. h)

  left : (life : ℕ) → life < 2 ^ 32 → (life == 2 ^ 32 - 1) ≡ false → life + 1 < 2 ^ 32
  left life a b = grind (arith, nat_tests, a, b)

  restarted_is : (p : Place) → IsPlace catalogue p → (p.durable.life == 2 ^ 32 - 1) ≡ false → IsPlace catalogue (restart_place catalogue p)
  restarted_is p q e =
      let room = left p.durable.life q.durable_is.life e in
      record { listed = q.listed; durable_is = all_applied catalogue p.id (start_record p.durable ∷ []) p.durable (room, tt) q.durable_is; up_is = (start-id p.id p.durable, starts_are_shaped catalogue p.id p.durable k q.listed q.durable_is room) }

  restarts_from : (p : Place) (s : ℕ) (w : WorldState) → place_of s w.places ≡ Some p → p.id ≡ s → W w → Kept (restart_from catalogue p w)
  restarts_from p s w e i h =
      by_test Kept (is_some p.up) (shows w (shown.Up p.id)) _ (λ u. h)
      (λ u. by_test Kept (p.durable.life == 2 ^ 32 - 1) (shows w (shown.LivesSpent (2 ^ 32 - 1))) (shows (record w { places = change_place p.id (restart_place catalogue) w.places }) (shown.Life (p.durable.life + 1))) (λ spent. h)
      (λ room. record { places_are = rw i (all_change_found (IsPlace catalogue) (λ place. place.id == s) (restart_place catalogue) w.places p e (restarted_is p (place_is w s p h e) room) h.places_are); sent_are = h.sent_are }))

  restarts : (s : ℕ) (w : WorldState) → W w → Kept (restart catalogue s w)
  unfolding restart
  restarts s w h = by_option Kept _ (place_of s w.places) (shows w shown.Nothing) (λ p e. restarts_from p s w e (place-id s w.places p e) h) (λ none. h)

  -- ---- events

  counted : (w : WorldState) (n : ℕ) → W w → W (record w { steps = n })
  counted w n h = record { places_are = h.places_are; sent_are = h.sent_are }

  happen : (e : Event) (w : WorldState) → IsEvent e → W w → Kept (happens catalogue e w)
  unfolding happens
  happen (event.Call s words) w i h = at_sites s (input.Call 0 words) w (omega arith, i) h
  happen (event.Deliver n) w i h = by_option Kept _ (message_at w n) (shows w shown.NoMessage) (λ m e. delivers n m w (message_at-has w n m e) h) (λ none. h)
  happen (event.Flow count) w i h = h
  happen (event.Tick s) w i h = at_sites s input.Tick w tt h
  happen (event.Probe s) w i h = at_sites s input.Probe w tt h
  happen (event.Cut a b) w i h = record { places_are = h.places_are; sent_are = h.sent_are }
  happen (event.Heal a b) w i h = record { places_are = h.places_are; sent_are = h.sent_are }
  happen (event.Crash s) w i h = crashes s w h
  happen (event.Restart s) w i h = restarts s w h

  -- the run's last world, and the worlds before and after each step
  record GoodRun (run : Run) : Type 0 where
    world : W run.world
    moments : (m : Moment) → Has run.moments m → W m.before × W m.after

  one_step-good : (number : ℕ) (e : Event) (run : Run) → IsEvent e → GoodRun run → GoodRun (one_step catalogue number e run)
  unfolding one_step
  one_step-good number e run i h =
      let now : W (next catalogue e run.world).world = happen e (record run.world { steps = run.world.steps + 1 }) i (counted run.world (run.world.steps + 1) h.world) in
      record {
        world = now;
        moments = λ m q. ⊎_elim (λ old. h.moments m old) (λ new. let same = has_one_is _ m new in rw (← same) (h.world, now)) (has_cases run.moments _ m q);
      }

  flow-good : (number count : ℕ) (run : Run) → GoodRun run → GoodRun (flow catalogue number count run)
  unfolding flow
  flow-good number zero run h = h
  flow-good number (suc count) run h =
      for_some-keeps GoodRun
      (λ n run. flow catalogue number count (one_step catalogue number (event.Deliver n) run))
      (λ n run h. flow-good number count (one_step catalogue number (event.Deliver n) run) (one_step-good number (event.Deliver n) run tt h))
      (flowing run.world) run h

  one_event-good : (number : ℕ) (e : Event) (run : Run) → IsEvent e → GoodRun run → GoodRun (one_event catalogue number e run)
  unfolding one_event
  one_event-good number (event.Flow count) run i h = flow-good number count run h
  one_event-good number e run i h = one_step-good number e run i h

  run_from-good : (number : ℕ) (events : List Event) (run : Run) → AllByRecursion IsEvent events → GoodRun run → GoodRun (run_from catalogue number events run)
  unfolding run_from
  run_from-good number [] run i h = h
  run_from-good number (e ∷ events) run i h = run_from-good (number + 1) events (one_event catalogue number e run) i.1 (one_event-good number e run i.0 h)

  start_is : W (start_world catalogue)
  unfolding start_world
  start_is = record { places_are = all_of (IsPlace catalogue) (map (start_place catalogue) (sites_of catalogue)) (λ p h. let q = map_has (start_place catalogue) (sites_of catalogue) p h in rw (← q.2) (start_place_is q.0 q.1)); sent_are = tt }

  run-good : (events : List Event) → AllByRecursion IsEvent events → GoodRun (run_of (record { catalogue = catalogue; events = events }))
  unfolding run_of
  run-good events i = run_from-good 1 events _ i (record { world = start_is; moments = λ m q. absurd (has_none m q) })

pub last_world : (s : Schedule) → IsCatalogue s.catalogue → AllByRecursion IsEvent s.events → IsWorld s.catalogue (run_of s).world
last_world s k i = (run-good s.catalogue k s.events i).world

pub each_world : (s : Schedule) (m : Moment) → IsCatalogue s.catalogue → AllByRecursion IsEvent s.events → Contains (moments_of s) m → IsWorld s.catalogue m.before × IsWorld s.catalogue m.after
each_world s m k i h = (run-good s.catalogue k s.events i).moments m (has_of (moments_of s) m h)
