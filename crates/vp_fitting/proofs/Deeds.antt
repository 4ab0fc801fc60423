-- What a moment of a schedule is to its sites: one of them does something, or none does.
use Rattle.std.proofs.Common.{◌≡◌, ◌≢◌, ◌∙◌, ap, sym, ℕ, ◌+◌, ◌-◌, ◌^◌, Bool, true, false, cond, List, ◌∷◌, [], ◌++◌, map, refl, append-nil}
use Rattle.std.specs.Prelude.{Option, Some, None, ◌==◌, option_map, option_and_then}
use Rattle.vp_model.specs.Types.{Event, Input, Sent, Reply}
use Rattle.vp_model.specs.Types.event
use Rattle.vp_model.specs.Types.input
use Rattle.vp_model.specs.Types.shown
use Rattle.vp_model.specs.Catalogue.{Catalogue}
use Rattle.vp_model.specs.Site.{SiteState, Stepped}
use Rattle.vp_model.specs.Step.{step}
use Rattle.vp_model.specs.Told.{is_step}
use Rattle.vp_model.specs.World.{Place, WorldState, Moved, Moment, place_of, site_of, message_at, is_cut, change_place, after_step, site_step, at_site, deliver, crash, restart, restart_place, restart_from, cut, heal, happens, next, shows, moment}
use Rattle.vp_wire.specs.Grammar.{frame_bytes}
use Rattle.vp_laws.specs.ShapeLaws.{message_frame, reply_frame}
use Rattle.vp_laws.proofs.Lists.Keeps.{by_option, by_test}
use Rattle.vp_laws.proofs.Lists.Numbers.{eq_self, eq_not}
use Rattle.vp_laws.proofs.Worlds.Scenes.{scene_of, place-same, place-other, place-id, up-place, message_at-has}
use Rattle.vp_laws.proofs.Worlds.Events.{Arrives}
use Rattle.vp_laws.proofs.Worlds.Occurs.{Gives, counted}
use Rattle.vp_runs.specs.Kept.{is_restart_of}
use Rattle.vp_runs.proofs.Happened.{named, IsPlain}
use Rattle.vp_fitting.specs.Fitting.{Deed, is_crash_of, deeds_at, given_at}

-- ---- what a deed makes of its site

-- the place after it, the messages that it sends, and the frames of its step
pub record Outcome : Type 0 where
  pub place : Place
  pub messages : List Sent
  pub given : List (List (List ℕ))

abbrev pub frames_of : ℕ → Stepped → List (List ℕ)
frames_of id o =
    map (λ (sent : Sent). frame_bytes (message_frame sent)) o.effects.messages ++ map (λ (reply : Reply). frame_bytes (reply_frame id reply)) o.effects.replies

abbrev pub put_down : Place → Place
put_down place = record place { up = None }

abbrev pub stepped_by : Catalogue → ℕ → Input → Place → Option SiteState → Outcome
stepped_by catalogue id given old None = record { place = old; messages = []; given = [] }
stepped_by catalogue id given old (Some x) =
    record { place = after_step (step catalogue x given) old; messages = (step catalogue x given).effects.messages; given = frames_of id (step catalogue x given) ∷ [] }

abbrev pub done_by : Catalogue → ℕ → Deed → Place → Outcome
done_by catalogue id (Deed.takes given) old = stepped_by catalogue id given old old.up
done_by catalogue id Deed.crashes old = record { place = put_down old; messages = []; given = [] }
done_by catalogue id Deed.restarts old = record { place = restart_place catalogue old; messages = []; given = [] }

-- ---- what a moment is

-- a message that is taken was sent
abbrev pub IsHeard : WorldState → ℕ → Deed → Type 0
IsHeard w s (Deed.takes given) = Arrives (scene_of w) s given
IsHeard w s d = Unit {0}

-- the site does this in the moment, and no other site anything
pub record OnlyDoes (s : ℕ) (d : Deed) (given : List (List (List ℕ))) (m : Moment) : Type 0 where
  pub deeds : deeds_at s m ≡ d ∷ []
  pub made : given_at s m ≡ given
  pub others : (id : ℕ) → id ≢ s → (deeds_at id m ≡ []) × (given_at id m ≡ [])

pub record Does (catalogue : Catalogue) (m : Moment) (s : ℕ) (old : Place) (d : Deed) : Type 0 where
  pub at : place_of s m.before.places ≡ Some old
  pub heard : IsHeard m.before s d
  pub now : place_of s m.after.places ≡ Some (done_by catalogue s d old).place
  pub others : (id : ℕ) → id ≢ s → place_of id m.after.places ≡ place_of id m.before.places
  pub sent : m.after.sent ≡ m.before.sent ++ (done_by catalogue s d old).messages
  pub only : OnlyDoes s d (done_by catalogue s d old).given m

pub data Did (catalogue : Catalogue) (m : Moment) : Type 0 where
  does : (s : ℕ) (old : Place) (d : Deed) → Does catalogue m s old d → Did catalogue m
  stands : m.after.places ≡ m.before.places → m.after.sent ≡ m.before.sent → ((id : ℕ) → (deeds_at id m ≡ []) × (given_at id m ≡ [])) → Did catalogue m

either_none : (b : Bool) → cond {A = List Deed} b [] [] ≡ []
either_none true = refl
either_none false = refl

no_crash : (id : ℕ) (e : Event) → IsPlain e → is_crash_of id e ≡ false
no_crash id (event.Crash s) plain = absurd plain
no_crash id e plain = refl

no_restart : (id : ℕ) (e : Event) → IsPlain e → is_restart_of id e ≡ false
no_restart id (event.Restart s) plain = absurd plain
no_restart id e plain = refl

module _ (catalogue : Catalogue) (number : ℕ) (e : Event) (w : WorldState) where
  abbrev D : Moved → Type 0
  D m = Did catalogue (moment number w e m)

  quiet : (m : Moved) → IsPlain e → m.world.places ≡ w.places → m.world.sent ≡ w.sent → is_step m.shown ≡ false → D m
  quiet m plain p q s = Did.stands p q (λ id. (rw (s, no_crash id e plain, no_restart id e plain) refl, rw s refl))

  -- ---- a step of a site

  module _ (s : ℕ) (x : SiteState) (given : Input) (delivered : List ℕ) (old : Place) (at : place_of s w.places ≡ Some old) (up : old.up ≡ Some x) (here : site_of w s ≡ Some x) (g : Gives e w s given)
      (arrives : Arrives (scene_of w) s given) where
    abbrev from : WorldState
    from = record (counted w) { delivered = delivered }

    abbrev o : Stepped
    o = step catalogue x given

    pub step_does : Does catalogue (moment number w e (site_step catalogue s x given from)) s old (Deed.takes given)
    unfolding site_step
    step_does =
        let n = named e w s given g in
        record {
          at = at;
          heard = arrives;
          now = rw up (place-same s (after_step o) w.places (λ p. refl) ∙ ap (option_map (after_step o)) at);
          others = λ id other. place-other s id (after_step o) w.places (λ p. refl) other;
          sent = rw up refl;
          only = record {
            deeds = rw (n.1, eq_self s, n.2) refl;
            made = rw (n.1, eq_self s, up) refl;
            others = λ id other. (rw (n.1, eq_not s id (λ same. other (sym same)), no_crash id e n.0, no_restart id e n.0) refl, rw (n.1, eq_not s id (λ same. other (sym same))) refl);
          };
        }

  stepped : (s : ℕ) (x : SiteState) (given : Input) (delivered : List ℕ) → site_of w s ≡ Some x → Gives e w s given → Arrives (scene_of w) s given
      → D (site_step catalogue s x given (record (counted w) { delivered = delivered }))
  stepped s x given delivered here g arrives =
      let p = up-place (place_of s w.places) x here in
      Did.does s p.0 (Deed.takes given) (step_does s x given delivered p.0 p.1 (there p.0 p.1) here g arrives)
    where
      there : (p : Place) → place_of s w.places ≡ Some p → p.up ≡ Some x
      there p at = sym (ap (option_and_then (λ (place : Place). place.up)) at) ∙ here

  at_sites : (s : ℕ) (given : Input) → Gives e w s given → Arrives (scene_of w) s given → D (at_site catalogue s given (counted w))
  unfolding at_site
  at_sites s given g arrives =
      by_option D (λ site. site_step catalogue s site given (counted w)) (site_of w s) (shows (counted w) (shown.Down s))
      (λ x up. stepped s x given w.delivered up g arrives)
      (λ down. quiet (shows (counted w) (shown.Down s)) (named e w s given g).0 refl refl refl)

  delivers : (k : ℕ) (m : Sent) → e ≡ event.Deliver k → message_at w k ≡ Some m → D (deliver catalogue k m (counted w))
  unfolding deliver
  delivers k m is sent =
      let given = input.Message m.from m.message in
      let g : Gives e w m.to given = Gives.came k m is sent refl in
      let plain = (named e w m.to given g).0 in
      by_option D _ (site_of w m.to) (shows (counted w) (shown.Down m.to))
      (λ x up. by_test D (is_cut w m.from m.to) (shows (counted w) (shown.Parted m.from m.to)) (site_step catalogue m.to x given (record (counted w) { delivered = w.delivered ++ k ∷ [] }))
      (λ parted. quiet (shows (counted w) (shown.Parted m.from m.to)) plain refl refl refl)
      (λ joined. stepped m.to x given (w.delivered ++ k ∷ []) up g (message_at-has w k m sent)))
      (λ down. quiet (shows (counted w) (shown.Down m.to)) plain refl refl refl)

-- ---- a crash

module _ (catalogue : Catalogue) (number : ℕ) (w : WorldState) (s : ℕ) where
  pub crash_does : (old : Place) → place_of s w.places ≡ Some old
      → Does catalogue (moment number w (event.Crash s) (shows (record (counted w) { places = change_place s put_down w.places }) shown.Nothing)) s old Deed.crashes
  crash_does old at =
      record {
        at = at;
        heard = tt;
        now = place-same s put_down w.places (λ p. refl) ∙ ap (option_map put_down) at;
        others = λ id other. place-other s id put_down w.places (λ p. refl) other;
        sent = sym (append-nil w.sent);
        only = record { deeds = rw (eq_self s) refl; made = refl; others = λ id other. (rw (eq_not s id (λ same. other (sym same))) refl, refl) };
      }

  crashes_at : Did catalogue (moment number w (event.Crash s) (crash s (counted w)))
  unfolding crash
  crashes_at =
      by_option (λ m. Did catalogue (moment number w (event.Crash s) m)) _ (site_of w s) (shows (counted w) (shown.Down s))
      (λ x up. let p = up-place (place_of s w.places) x up in Did.does s p.0 Deed.crashes (crash_does p.0 p.1))
      (λ down. Did.stands refl refl (λ id. (either_none (s == id), refl)))

  -- ---- a restart

  pub restart_does : (old : Place) (life : ℕ) → place_of s w.places ≡ Some old
      → Does catalogue (moment number w (event.Restart s) (shows (record (counted w) { places = change_place s (restart_place catalogue) w.places }) (shown.Life life))) s old Deed.restarts
  restart_does old life at =
      record {
        at = at;
        heard = tt;
        now = place-same s (restart_place catalogue) w.places (λ p. refl) ∙ ap (option_map (restart_place catalogue)) at;
        others = λ id other. place-other s id (restart_place catalogue) w.places (λ p. refl) other;
        sent = sym (append-nil w.sent);
        only = record { deeds = rw (eq_self s) refl; made = refl; others = λ id other. (rw (eq_not s id (λ same. other (sym same))) refl, refl) };
      }

  abbrev R : Moved → Type 0
  R m = Did catalogue (moment number w (event.Restart s) m)

  restarts_from : (place : Place) → place_of s w.places ≡ Some place → place.id ≡ s → R (restart_from catalogue place (counted w))
  restarts_from place there i = go place.up refl
    where
      go : (up : Option SiteState) → place.up ≡ up → R (restart_from catalogue place (counted w))
      go (Some x) u = rw u (Did.stands refl refl (λ id. (either_none (s == id), refl)))
      go None u =
          rw (u, i) (by_test R (place.durable.life == 2 ^ 32 - 1) (shows (counted w) (shown.LivesSpent (2 ^ 32 - 1)))
          (shows (record (counted w) { places = change_place s (restart_place catalogue) w.places }) (shown.Life (place.durable.life + 1)))
          (λ t. Did.stands refl refl (λ id. (either_none (s == id), refl)))
          (λ t. Did.does s place Deed.restarts (restart_does place (place.durable.life + 1) there)))

  restarts_at : R (restart catalogue s (counted w))
  unfolding restart
  restarts_at =
      by_option R _ (place_of s w.places) (shows (counted w) shown.Nothing)
      (λ place there. restarts_from place there (place-id s w.places place there))
      (λ none. Did.stands refl refl (λ id. (either_none (s == id), refl)))

pub did : (catalogue : Catalogue) (number : ℕ) (e : Event) (w : WorldState) → Did catalogue (moment number w e (next catalogue e w))
unfolding happens
did catalogue number (event.Call s words) w = at_sites catalogue number (event.Call s words) w s (input.Call 0 words) (Gives.called words refl) tt
did catalogue number (event.Deliver k) w =
    by_option (D catalogue number (event.Deliver k) w) _ (message_at w k) (shows (counted w) shown.NoMessage)
    (λ m sent. delivers catalogue number (event.Deliver k) w k m refl sent)
    (λ none. quiet catalogue number (event.Deliver k) w (shows (counted w) shown.NoMessage) tt refl refl refl)
did catalogue number (event.Flow count) w = quiet catalogue number (event.Flow count) w (shows (counted w) shown.Nothing) tt refl refl refl
did catalogue number (event.Tick s) w = at_sites catalogue number (event.Tick s) w s input.Tick (Gives.ticked refl) tt
did catalogue number (event.Probe s) w = at_sites catalogue number (event.Probe s) w s input.Probe (Gives.probed refl) tt
did catalogue number (event.Cut a b) w = quiet catalogue number (event.Cut a b) w (shows (cut a b (counted w)) shown.Nothing) tt refl refl refl
did catalogue number (event.Heal a b) w = quiet catalogue number (event.Heal a b) w (shows (heal a b (counted w)) shown.Nothing) tt refl refl refl
did catalogue number (event.Crash s) w = crashes_at catalogue number w s
did catalogue number (event.Restart s) w = restarts_at catalogue number w s
