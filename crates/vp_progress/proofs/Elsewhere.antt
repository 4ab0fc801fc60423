-- What events that mend some sites leave: the other sites as they were; and where no prepare comes, no site is in a new doubt.
use Rattle.std.proofs.Common.{◌≡◌, ◌≢◌, ◌∙◌, ap, sym, subst, ℕ, ◌+◌, ◌-◌, ◌^◌, Bool, true, false, List, [], ◌∷◌, ◌++◌, refl, ⊎_elim}
use Rattle.std.specs.Prelude.{Option, Some, None, ◌==◌, ◌&&◌, not, nat_lt}
use Rattle.std.specs.Option.{option_map_or}
use Rattle.vp_model.specs.Types.{Sent, Message, Event, Input, Doubt}
use Rattle.vp_model.specs.Types.event
use Rattle.vp_model.specs.Types.input
use Rattle.vp_model.specs.Types.message
use Rattle.vp_model.specs.Types.shown
use Rattle.vp_model.specs.Words.{has}
use Rattle.vp_model.specs.Catalogue.{Catalogue}
use Rattle.vp_model.specs.Durable.{DurableState}
use Rattle.vp_model.specs.Site.{SiteState}
use Rattle.vp_model.specs.Step.{step}
use Rattle.vp_model.specs.World.{Place, WorldState, Moved, place_of, site_of, message_at, is_cut, shows, after_step, change_place, site_step, at_site, deliver, restart_place, restart_from, restart, happens, next}
use Rattle.vp_laws.proofs.Lists.Members.{Has, both_true}
use Rattle.vp_laws.proofs.Lists.Keeps.{by_option, by_test}
use Rattle.vp_laws.proofs.Worlds.Scenes.{Scene, scene_of, kept_at, acted, place-other, place-id}
use Rattle.vp_laws.proofs.Worlds.Sites.{quiet_kept, crash_quiet, restart_quiet}
use Rattle.vp_laws.proofs.Worlds.Events.{crashed, restarted, happens-good}
use Rattle.vp_laws.proofs.Worlds.Occurs.{Gives, Occurs, occurs}
use Rattle.vp_laws.proofs.Invariant.Known.{Known}
use Rattle.vp_laws.proofs.Keeping.Known.{known_last}
use Rattle.vp_laws.proofs.Keeping.Does.{does}
use Rattle.vp_laws.proofs.Keeping.NewEntries.{doubt_from}
use Rattle.vp_progress.specs.Going.{world_after, EachPasses, is_within, is_regroup, mends}
use Rattle.vp_progress.proofs.Calm.{is_prepare, is_calm, calms}
use Rattle.vp_progress.proofs.Counted.{stepped_scene}

-- ---- other sites

module _ (catalogue : Catalogue) (q : ℕ) where
  abbrev Same : WorldState → Moved → Type 0
  Same w m = place_of q m.world.places ≡ place_of q w.places

  step_same : (s : ℕ) (x : SiteState) (given : Input) (w : WorldState) → q ≢ s → Same w (site_step catalogue s x given w)
  unfolding site_step
  step_same s x given w n = place-other s q (after_step (step catalogue x given)) w.places (λ p. refl) n

  at_site_same : (s : ℕ) (given : Input) (w : WorldState) → q ≢ s → Same w (at_site catalogue s given w)
  unfolding at_site
  at_site_same s given w n = by_option (Same w) (λ site. site_step catalogue s site given w) (site_of w s) (shows w (shown.Down s)) (λ x up. step_same s x given w n) (λ down. refl)

  deliver_same : (k : ℕ) (m : Sent) (w : WorldState) → q ≢ m.to → Same w (deliver catalogue k m w)
  unfolding deliver
  deliver_same k m w n = by_option (Same w) _ (site_of w m.to) (shows w (shown.Down m.to))
      (λ x up. by_test (Same w) (is_cut w m.from m.to) (shows w (shown.Parted m.from m.to)) (site_step catalogue m.to x (input.Message m.from m.message) (record w { delivered = w.delivered ++ k ∷ [] }))
      (λ parted. refl) (λ joined. step_same m.to x (input.Message m.from m.message) (record w { delivered = w.delivered ++ k ∷ [] }) n))
      (λ down. refl)

  restart_from_same : (place : Place) (w : WorldState) → q ≢ place.id → Same w (restart_from catalogue place w)
  restart_from_same place w n = go place.up refl
    where
      go : (up : Option SiteState) → place.up ≡ up → Same w (restart_from catalogue place w)
      go (Some x) u = rw u refl
      go None u = rw u (by_test (Same w) (place.durable.life == 2 ^ 32 - 1) (shows w (shown.LivesSpent (2 ^ 32 - 1))) (shows (record w { places = change_place place.id (restart_place catalogue) w.places }) (shown.Life (place.durable.life + 1)))
          (λ t. refl) (λ t. place-other place.id q (restart_place catalogue) w.places (λ p. refl) n))

  restart_same : (s : ℕ) (w : WorldState) → q ≢ s → Same w (restart catalogue s w)
  unfolding restart
  restart_same s w n = by_option (Same w) (λ place. restart_from catalogue place w) (place_of s w.places) (shows w shown.Nothing) (λ place e. restart_from_same place w (λ same. n (same ∙ place-id s w.places place e))) (λ none. refl)

  module _ (ns : List ℕ) (outside : has ns q ≡ false) where
    away : (s : ℕ) → has ns s ≡ true → q ≢ s
    away s e same = let z = sym outside ∙ ap (has ns) same ∙ e in cc

    one_same : (e : Event) (w : WorldState) → mends ns w e ≡ true → Same w (next catalogue e w)
    unfolding happens
    one_same (event.Call s words) w pass = at_site_same s (input.Call 0 words) (record w { steps = w.steps + 1 }) (away s (both_true (has ns s) (is_regroup words) pass).0)
    one_same (event.Deliver k) w pass = go (message_at w k) pass
      where
        go : (o : Option Sent) → is_within ns o ≡ true → Same w (option_map_or (λ sent. deliver catalogue k sent (record w { steps = w.steps + 1 })) o (shows (record w { steps = w.steps + 1 }) shown.NoMessage))
        go None e = cc
        go (Some m) e = deliver_same k m (record w { steps = w.steps + 1 }) (away m.to (both_true (has ns m.from) (has ns m.to) e).1)
    one_same (event.Tick s) w pass = at_site_same s input.Tick (record w { steps = w.steps + 1 }) (away s pass)
    one_same (event.Heal a b) w pass = refl
    one_same (event.Restart s) w pass = restart_same s (record w { steps = w.steps + 1 }) (away s pass)
    one_same (event.Flow count) w pass = cc
    one_same (event.Probe s) w pass = cc
    one_same (event.Cut a b) w pass = cc
    one_same (event.Crash s) w pass = cc

    pub all_same : (events : List Event) (w : WorldState) → EachPasses catalogue (mends ns) w events → place_of q (world_after catalogue events w).places ≡ place_of q w.places
    all_same [] w h = refl
    all_same (e ∷ events) w h = all_same events (next catalogue e w).world h.1 ∙ one_same e w h.0

-- ---- doubts

module _ (catalogue : Catalogue) (told : ℕ) (ns : List ℕ) (q : ℕ) (d : Doubt) where
  abbrev Doubted : Scene → Type 0
  Doubted w = Has (kept_at w q).doubts d

  no_prepare : (e : Event) (w : WorldState) (s : ℕ) (given : Input) → calms told ns w e ≡ true → Gives e w s given → (from : ℕ) (m : Message) → is_prepare m ≡ true → given ≡ input.Message from m → ⊥
  no_prepare e w s _ pass (Gives.called words is) from m p c = let z = c in cc
  no_prepare e w s _ pass (Gives.ticked is) from m p c = let z = c in cc
  no_prepare e w s _ pass (Gives.probed is) from m p c = let z = c in cc
  no_prepare e w s _ pass (Gives.came k a is at to) from m p c =
      let same : a.message ≡ m = (let z = c in cc) in
      let calm : is_calm (Some a) ≡ true = subst (λ (o : Option Sent). is_calm o ≡ true) at (both_true (is_within ns (message_at w k)) (is_calm (message_at w k)) (both_true (nat_lt told k) (is_within ns (message_at w k) && is_calm (message_at w k)) (subst (λ (e : Event). calms told ns w e ≡ true) is pass)).1).1 in
      let z : not (is_prepare m) ≡ true = subst (λ (m : Message). not (is_prepare m) ≡ true) same calm in
      clash (is_prepare m) p z
    where
      clash : (b : Bool) → b ≡ true → not b ≡ true → ⊥
      clash true e z = cc
      clash false e z = cc

  was_there : (e : Event) (w : WorldState) (m : Moved) → Known catalogue (scene_of w) → Known catalogue (scene_of m.world) → calms told ns w e ≡ true → Occurs catalogue e w m → Doubted (scene_of m.world) → Doubted (scene_of w)
  was_there e w m k n pass (Occurs.acts s x given v same up arrives gives is) h =
      let scene : scene_of m.world ≡ acted (scene_of w) s x (step catalogue x given) = ap (λ (m : Moved). scene_of m.world) is ∙ stepped_scene catalogue s x given v ∙ ap (λ (z : Scene). acted z s x (step catalogue x given)) same in
      let now = subst (Known catalogue) scene n in
      ⊎_elim (λ old. old) (λ f. absurd (no_prepare e w s given pass gives f.from (message.Prepare f.part.txn f.prepared.view f.prepared.number f.reads f.writes) refl f.prepared.comes))
      (doubt_from catalogue (scene_of w) (acted (scene_of w) s x (step catalogue x given)) s x given (step catalogue x given) k now (does catalogue (scene_of w) s x given up arrives k) q d (subst Doubted scene h))
  was_there e w m k n pass (Occurs.stands same shown) h = subst Doubted same h
  was_there e w m k n pass (Occurs.crashes s same shown) h = subst (λ (ds : List Doubt). Has ds d) (quiet_kept catalogue (scene_of w) (crashed (scene_of w) s) s (crash_quiet catalogue (scene_of w) s) (λ (k : DurableState). k.doubts) (crash_quiet catalogue (scene_of w) s).doubts q) (subst Doubted same h)
  was_there e w m k n pass (Occurs.restarts s place at up id same shown) h =
      let quiet = restart_quiet catalogue (scene_of w) s place at id in
      subst (λ (ds : List Doubt). Has ds d) (quiet_kept catalogue (scene_of w) (restarted catalogue (scene_of w) s) s quiet (λ (k : DurableState). k.doubts) quiet.doubts q) (subst Doubted same h)

  -- no doubt is new after these events
  pub none_new : (events : List Event) (w : WorldState) → Known catalogue (scene_of w) → EachPasses catalogue (calms told ns) w events → Doubted (scene_of (world_after catalogue events w)) → Doubted (scene_of w)
  none_new [] w k pass h = h
  none_new (e ∷ events) w k pass h =
      let n = happens-good catalogue (Known catalogue) (known_last catalogue) e (record w { steps = w.steps + 1 }) k in
      was_there e w (next catalogue e w) k n pass.0 (occurs catalogue e w) (none_new events (next catalogue e w).world n pass.1 h)
