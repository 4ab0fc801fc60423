-- What one step of a schedule does to the place of each site, and to its log.
use Rattle.std.proofs.Common.{◌≡◌, ◌≢◌, ◌∙◌, ap, sym, subst, ℕ, ◌+◌, ◌-◌, ◌^◌, Bool, true, false, cond, List, ◌∷◌, [], ◌++◌, length, refl, ⊎_elim}
use Rattle.std.specs.Prelude.{⊤, Option, Some, None, ◌==◌, option_map, option_and_then}
use Rattle.std.proofs.lemmas.Bool.{eqb-true}
use Rattle.vp_model.specs.Types.{LogRecord, Event, Input, Sent, Shown}
use Rattle.vp_model.specs.Types.event
use Rattle.vp_model.specs.Types.input
use Rattle.vp_model.specs.Types.shown
use Rattle.vp_model.specs.Catalogue.{Catalogue}
use Rattle.vp_model.specs.Site.{SiteState, Stepped}
use Rattle.vp_model.specs.Step.{step}
use Rattle.vp_model.specs.Told.{is_step}
use Rattle.vp_model.specs.Justified.{site_named}
use Rattle.vp_model.specs.World.{Place, WorldState, Moved, Moment, place_of, site_of, message_at, is_cut, change_place, after_step, site_step, at_site, deliver, crash, restart, restart_place, restart_from, cut, heal, happens, next, shows, moment}
use Rattle.vp_laws.proofs.Lists.Keeps.{by_option, by_test}
use Rattle.vp_laws.proofs.Lists.Views.{same_site}
use Rattle.vp_laws.proofs.Worlds.Scenes.{place-same, place-other, place-id}
use Rattle.vp_laws.proofs.Worlds.Occurs.{Gives, counted}
use Rattle.vp_runs.specs.Keeping.{kept_with}
use Rattle.vp_runs.specs.Kept.{input_of, is_restart_of, with_life, with_start, kept_after}
use Rattle.vp_laws.proofs.Lists.Numbers.{eq_self, eq_not}

-- ---- what a moment does

-- it leaves the place of a site like this, and the log as this makes it
pub record Leaves (catalogue : Catalogue) (m : Moment) (id : ℕ) (place : Option Place) (log : List (List LogRecord) → List (List LogRecord)) : Type 0 where
  pub place_is : place_of id m.after.places ≡ place
  pub log_is : (batches : List (List LogRecord)) → kept_after catalogue id m batches ≡ log batches

-- both stay as they are
abbrev pub LeavesIt : Catalogue → Moment → ℕ → Type 0
LeavesIt catalogue m id = Leaves catalogue m id (place_of id m.before.places) (λ batches. batches)

abbrev pub LeavesOthers : Catalogue → Moment → ℕ → Type 0
LeavesOthers catalogue m s = (id : ℕ) → id ≢ s → LeavesIt catalogue m id

-- the site does a step
pub record Acts (catalogue : Catalogue) (m : Moment) (s : ℕ) : Type 0 where
  pub x : SiteState
  pub given : Input
  pub first : ℕ
  pub up : site_of m.before s ≡ Some x
  pub gives : Gives m.line.event m.before s given
  pub shown_is : m.line.shown ≡ shown.Step (step catalogue x given).effects.commits first (step catalogue x given).effects.messages (step catalogue x given).effects.replies
  pub sent_is : m.after.sent ≡ m.before.sent ++ (step catalogue x given).effects.messages
  pub here : (old : Place) → place_of s m.before.places ≡ Some old
      → Leaves catalogue m s (Some (after_step (step catalogue x given) old)) (kept_with (after_step (step catalogue x given) old).durable (step catalogue x given).effects.records)

abbrev pub put_down : Place → Place
put_down place = record place { up = None }

-- A restart is for a site that is up, has spent its lives, or starts.
pub data RestartEffect (catalogue : Catalogue) (m : Moment) (s : ℕ) (old : Place) : Type 0 where
  is_up : (x : SiteState) → old.up ≡ Some x → LeavesIt catalogue m s → RestartEffect catalogue m s old
  spent : old.up ≡ None → old.durable.life ≡ 2 ^ 32 - 1 → LeavesIt catalogue m s → RestartEffect catalogue m s old
  starts : old.up ≡ None → old.durable.life ≢ 2 ^ 32 - 1 → Leaves catalogue m s (Some (restart_place catalogue old)) (with_life (old.durable.life + 1)) → RestartEffect catalogue m s old

-- neither a crash nor a restart
abbrev pub IsPlain : Event → Type 0
IsPlain (event.Crash s) = ⊥
IsPlain (event.Restart s) = ⊥
IsPlain e = ⊤

pub data Effect (catalogue : Catalogue) (m : Moment) : Type 0 where
  acts : (s : ℕ) → Acts catalogue m s → LeavesOthers catalogue m s → Effect catalogue m
  crashes : (s : ℕ) → m.line.event ≡ event.Crash s → m.after.sent ≡ m.before.sent → ((old : Place) → place_of s m.before.places ≡ Some old → Leaves catalogue m s (Some (put_down old)) (λ batches. batches))
      → LeavesOthers catalogue m s → Effect catalogue m
  restarts : (s : ℕ) → m.line.event ≡ event.Restart s → m.after.sent ≡ m.before.sent → ((old : Place) → place_of s m.before.places ≡ Some old → RestartEffect catalogue m s old) → LeavesOthers catalogue m s → Effect catalogue m
  stands : IsPlain m.line.event → is_step m.line.shown ≡ false → m.after.sent ≡ m.before.sent → ((id : ℕ) → LeavesIt catalogue m id) → Effect catalogue m

no_restart : (id : ℕ) (e : Event) → IsPlain e → is_restart_of id e ≡ false
no_restart id (event.Crash s) plain = absurd plain
no_restart id (event.Restart s) plain = absurd plain
no_restart id e plain = refl

-- an event that gives an input names the site and the input
pub named : (e : Event) (w : WorldState) (s : ℕ) (given : Input) → Gives e w s given → IsPlain e × (site_named w e ≡ Some s) × (input_of w e ≡ Some given)
named e w s given (Gives.called words is) = rw is (tt, refl, refl)
named e w s given (Gives.came k m is at to) = rw is (tt, ap (option_map (λ (m : Sent). m.to)) at ∙ ap Some to, ap (option_map (λ (m : Sent). input.Message m.from m.message)) at)
named e w s given (Gives.ticked is) = rw is (tt, refl, refl)
named e w s given (Gives.probed is) = rw is (tt, refl, refl)

module _ (catalogue : Catalogue) (number : ℕ) (e : Event) (w : WorldState) where
  abbrev D : Moved → Type 0
  D m = Effect catalogue (moment number w e m)

  abbrev It : Moved → ℕ → Type 0
  It m = LeavesIt catalogue (moment number w e m)

  -- an event that is no step, and no restart of the site
  leaves_it : (m : Moved) (id : ℕ) → place_of id m.world.places ≡ place_of id w.places → is_step m.shown ≡ false → is_restart_of id e ≡ false → It m id
  leaves_it m id p s r = record { place_is = p; log_is = λ batches. rw (s, r) refl }

  quiet : (m : Moved) → IsPlain e → m.world.places ≡ w.places → m.world.sent ≡ w.sent → is_step m.shown ≡ false → D m
  quiet m plain p q s = Effect.stands plain s q (λ id. leaves_it m id (ap (place_of id) p) s (no_restart id e plain))

  -- a step of a site
  module _ (s : ℕ) (x : SiteState) (given : Input) (delivered : List ℕ) (up : site_of w s ≡ Some x) (g : Gives e w s given) where
    abbrev from : WorldState
    from = record (counted w) { delivered = delivered }

    abbrev o : Stepped
    o = step catalogue x given

    stepped : D (site_step catalogue s x given from)
    unfolding site_step
    stepped =
        let n = named e w s given g in
        Effect.acts s
        (record {
          x = x;
          given = given;
          first = length w.sent + 1;
          up = up;
          gives = g;
          shown_is = refl;
          sent_is = refl;
          here = λ old at.
              let now : place_of s (change_place s (after_step o) w.places) ≡ Some (after_step o old) = place-same s (after_step o) w.places (λ p. refl) ∙ ap (option_map (after_step o)) at in
              record { place_is = now; log_is = λ batches. rw (n.1, n.2, now, up, eq_self s) refl };
        })
        (λ id other. record {
          place_is = place-other s id (after_step o) w.places (λ p. refl) other;
          log_is = λ batches. rw (n.1, eq_not s id (λ same. other (sym same)), no_restart id e n.0) refl;
        })

  at_sites : (s : ℕ) (given : Input) → Gives e w s given → D (at_site catalogue s given (counted w))
  unfolding at_site
  at_sites s given g =
      by_option D (λ site. site_step catalogue s site given (counted w)) (site_of w s) (shows (counted w) (shown.Down s))
      (λ x up. stepped s x given w.delivered up g)
      (λ down. quiet (shows (counted w) (shown.Down s)) (named e w s given g).0 refl refl refl)

  delivers : (k : ℕ) (m : Sent) → e ≡ event.Deliver k → message_at w k ≡ Some m → D (deliver catalogue k m (counted w))
  unfolding deliver
  delivers k m is sent =
      let given = input.Message m.from m.message in
      let g : Gives e w m.to given = Gives.came k m is sent refl in
      let plain = (named e w m.to given g).0 in
      by_option D _ (site_of w m.to) (shows (counted w) (shown.Down m.to))
      (λ x up. by_test D (is_cut w m.from m.to) (shows (counted w) (shown.Parted m.from m.to)) (site_step catalogue m.to x given (record (counted w) { delivered = w.delivered ++ k ∷ [] }))
      (λ parted. quiet (shows (counted w) (shown.Parted m.from m.to)) plain refl refl refl)
      (λ joined. stepped m.to x given (w.delivered ++ k ∷ []) up g))
      (λ down. quiet (shows (counted w) (shown.Down m.to)) plain refl refl refl)

  -- a crash
  crashed : (s : ℕ) → e ≡ event.Crash s → D (shows (record (counted w) { places = change_place s put_down w.places }) shown.Nothing)
  crashed s is =
      Effect.crashes s is refl
      (λ old at. record { place_is = place-same s put_down w.places (λ p. refl) ∙ ap (option_map put_down) at; log_is = λ batches. rw is refl })
      (λ id other. record { place_is = place-other s id put_down w.places (λ p. refl) other; log_is = λ batches. rw is refl })

  -- one of a site that is down
  stays_down : (s : ℕ) → e ≡ event.Crash s → site_of w s ≡ None → D (shows (counted w) (shown.Down s))
  stays_down s is down =
      Effect.crashes s is refl
      (λ old at. let it : old.up ≡ None = ap (option_and_then (λ (place : Place). place.up)) (sym at) ∙ down in record { place_is = at ∙ ap (λ (up : Option SiteState). Some (record old { up = up })) it; log_is = λ batches. rw is refl })
      (λ id other. record { place_is = refl; log_is = λ batches. rw is refl })

  crashes_at : (s : ℕ) → e ≡ event.Crash s → D (crash s (counted w))
  unfolding crash
  crashes_at s is = by_option D _ (site_of w s) (shows (counted w) (shown.Down s)) (λ x up. crashed s is) (λ down. stays_down s is down)

  -- a restart that begins no life
  restarts_none : (s id : ℕ) (what : Shown) → e ≡ event.Restart s → is_step what ≡ false → ((batches : List (List LogRecord)) → with_start what batches ≡ batches) → It (shows (counted w) what) id
  restarts_none s id what is r none = record { place_is = refl; log_is = λ batches. rw (is, r, none batches) (go batches (s == id)) }
    where
      go : (batches : List (List LogRecord)) (b : Bool) → cond b batches batches ≡ batches
      go batches true = refl
      go batches false = refl

  unstarted : (s : ℕ) (what : Shown) → e ≡ event.Restart s → is_step what ≡ false → ((batches : List (List LogRecord)) → with_start what batches ≡ batches)
      → ((old : Place) → place_of s w.places ≡ Some old → It (shows (counted w) what) s → RestartEffect catalogue (moment number w e (shows (counted w) what)) s old) → D (shows (counted w) what)
  unstarted s what is r none why = Effect.restarts s is refl (λ old at. why old at (restarts_none s s what is r none)) (λ id other. restarts_none s id what is r none)

  restarted : (s : ℕ) (place : Place) → e ≡ event.Restart s → place_of s w.places ≡ Some place → place.up ≡ None → place.durable.life ≢ 2 ^ 32 - 1
      → D (shows (record (counted w) { places = change_place s (restart_place catalogue) w.places }) (shown.Life (place.durable.life + 1)))
  restarted s place is there down left =
      Effect.restarts s is refl
      (λ old at.
      let same : place ≡ old = (let z = sym there ∙ at in cc) in
      RestartEffect.starts (ap (λ (p : Place). p.up) (sym same) ∙ down) (λ spent. left (ap (λ (p : Place). p.durable.life) same ∙ spent))
      (record { place_is = place-same s (restart_place catalogue) w.places (λ p. refl) ∙ ap (option_map (restart_place catalogue)) at; log_is = λ batches. rw (is, eq_self s, same) refl }))
      (λ id other. record { place_is = place-other s id (restart_place catalogue) w.places (λ p. refl) other; log_is = λ batches. rw (is, eq_not s id (λ same. other (sym same))) refl })

  restarts_from : (s : ℕ) (place : Place) → e ≡ event.Restart s → place_of s w.places ≡ Some place → place.id ≡ s → D (restart_from catalogue place (counted w))
  restarts_from s place is there i = go place.up refl
    where
      it : (old : Place) → place_of s w.places ≡ Some old → place ≡ old
      it old at = let z = sym there ∙ at in cc

      is_spent : (n : ℕ) → (n == 2 ^ 32 - 1) ≡ true → n ≡ 2 ^ 32 - 1
      is_spent n t = eqb-true n (2 ^ 32 - 1) t

      is_left : (n : ℕ) → (n == 2 ^ 32 - 1) ≡ false → n ≢ 2 ^ 32 - 1
      is_left n t same = let z : (n == n) ≡ false = ap (λ m. n == m) same ∙ t in let y = eq_self n in cc

      go : (up : Option SiteState) → place.up ≡ up → D (restart_from catalogue place (counted w))
      go (Some x) u = rw u (unstarted s (shown.Up place.id) is refl (λ batches. refl) (λ old at stays. RestartEffect.is_up x (ap (λ (p : Place). p.up) (sym (it old at)) ∙ u) stays))
      go None u =
          rw (u, i) (by_test D (place.durable.life == 2 ^ 32 - 1) (shows (counted w) (shown.LivesSpent (2 ^ 32 - 1)))
          (shows (record (counted w) { places = change_place s (restart_place catalogue) w.places }) (shown.Life (place.durable.life + 1)))
          (λ t. unstarted s (shown.LivesSpent (2 ^ 32 - 1)) is refl (λ batches. refl)
          (λ old at stays. RestartEffect.spent (ap (λ (p : Place). p.up) (sym (it old at)) ∙ u) (ap (λ (p : Place). p.durable.life) (sym (it old at)) ∙ is_spent place.durable.life t) stays))
          (λ t. restarted s place is there u (is_left place.durable.life t)))

  restarts_at : (s : ℕ) → e ≡ event.Restart s → D (restart catalogue s (counted w))
  unfolding restart
  restarts_at s is =
      by_option D _ (place_of s w.places) (shows (counted w) shown.Nothing)
      (λ place there. restarts_from s place is there (place-id s w.places place there))
      (λ none. unstarted s shown.Nothing is refl (λ batches. refl) (λ old at stays. let z = sym none ∙ at in absurd cc))

pub effect : (catalogue : Catalogue) (number : ℕ) (e : Event) (w : WorldState) → Effect catalogue (moment number w e (next catalogue e w))
unfolding happens
effect catalogue number (event.Call s words) w = at_sites catalogue number (event.Call s words) w s (input.Call 0 words) (Gives.called words refl)
effect catalogue number (event.Deliver k) w =
    by_option (D catalogue number (event.Deliver k) w) _ (message_at w k) (shows (counted w) shown.NoMessage)
    (λ m sent. delivers catalogue number (event.Deliver k) w k m refl sent)
    (λ none. quiet catalogue number (event.Deliver k) w (shows (counted w) shown.NoMessage) tt refl refl refl)
effect catalogue number (event.Flow count) w = quiet catalogue number (event.Flow count) w (shows (counted w) shown.Nothing) tt refl refl refl
effect catalogue number (event.Tick s) w = at_sites catalogue number (event.Tick s) w s input.Tick (Gives.ticked refl)
effect catalogue number (event.Probe s) w = at_sites catalogue number (event.Probe s) w s input.Probe (Gives.probed refl)
effect catalogue number (event.Cut a b) w = quiet catalogue number (event.Cut a b) w (shows (cut a b (counted w)) shown.Nothing) tt refl refl refl
effect catalogue number (event.Heal a b) w = quiet catalogue number (event.Heal a b) w (shows (heal a b (counted w)) shown.Nothing) tt refl refl refl
effect catalogue number (event.Crash s) w = crashes_at catalogue number (event.Crash s) w s refl
effect catalogue number (event.Restart s) w = restarts_at catalogue number (event.Restart s) w s refl

-- ---- what it does to one site

-- its place and its log before and after: nothing changes, it does a step, it goes down, or it begins its next life
pub data Happened (catalogue : Catalogue) (id : ℕ) (e : Event) (w : WorldState) (old new : Place) (before after : List (List LogRecord)) : Type 0 where
  stays : new ≡ old → after ≡ before → Happened catalogue id e w old new before after
  steps : (x : SiteState) (given : Input) → Gives e w id given → old.up ≡ Some x → new ≡ after_step (step catalogue x given) old
      → after ≡ kept_with new.durable (step catalogue x given).effects.records before → Happened catalogue id e w old new before after
  crashes : new ≡ record old { up = None } → after ≡ before → Happened catalogue id e w old new before after
  restarts : old.up ≡ None → new ≡ restart_place catalogue old → after ≡ with_life (old.durable.life + 1) before → Happened catalogue id e w old new before after

module _ (catalogue : Catalogue) (m : Moment) (id : ℕ) (old : Place) (at : place_of id m.before.places ≡ Some old) (before : List (List LogRecord)) where
  abbrev Now : Type 0
  Now = (new : Place) × (place_of id m.after.places ≡ Some new) × Happened catalogue id m.line.event m.before old new before (kept_after catalogue id m before)

  nothing : LeavesIt catalogue m id → Now
  nothing h = (old, h.place_is ∙ at, Happened.stays refl (h.log_is before))

  -- this one is the site itself, or another one
  of_site : (s : ℕ) → (s ≡ id → Now) → LeavesOthers catalogue m s → Now
  of_site s own others = ⊎_elim own (λ (n : s ≢ id). nothing (others id (λ same. n (sym same)))) (same_site s id)

  up_here : (x : SiteState) → site_of m.before id ≡ Some x → old.up ≡ Some x
  up_here x up = ap (option_and_then (λ (place : Place). place.up)) (sym at) ∙ up

  acted : Acts catalogue m id → Now
  acted a = let h = a.here old at in (after_step (step catalogue a.x a.given) old, h.place_is, Happened.steps a.x a.given a.gives (up_here a.x a.up) refl (h.log_is before))

  went_down : Leaves catalogue m id (Some (put_down old)) (λ batches. batches) → Now
  went_down h = (put_down old, h.place_is, Happened.crashes refl (h.log_is before))

  began : RestartEffect catalogue m id old → Now
  began (RestartEffect.is_up x u h) = nothing h
  began (RestartEffect.spent down life h) = nothing h
  began (RestartEffect.starts down left h) = (restart_place catalogue old, h.place_is, Happened.restarts down refl (h.log_is before))

  pub happened : Effect catalogue m → Now
  happened (Effect.acts s a others) = of_site s (λ same. acted (subst (Acts catalogue m) same a)) others
  happened (Effect.crashes s is sent own others) = of_site s (λ same. went_down (subst (λ s. (old : Place) → place_of s m.before.places ≡ Some old → Leaves catalogue m s (Some (put_down old)) (λ batches. batches)) same own old at)) others
  happened (Effect.restarts s is sent own others) = of_site s (λ same. began (subst (λ s. (old : Place) → place_of s m.before.places ≡ Some old → RestartEffect catalogue m s old) same own old at)) others
  happened (Effect.stands plain no_step sent all) = nothing (all id)
