-- One more event, and what is shown of it.
use Rattle.std.proofs.Common.{◌≡◌, ◌∙◌, ap, sym, subst, Bool, true, false, cond, ℕ, ◌+◌, ◌-◌, ◌≤◌, List, [], ◌∷◌, ◌++◌, Some, None, length, refl, arith, length-append}
use Rattle.std.specs.Prelude.{Option, ◌==◌, nat_lt}
use Rattle.std.specs.List.{AllByRecursion}
use Rattle.std.proofs.lemmas.Bool.{false≢true}
use Rattle.std.proofs.lemmas.Bool.Decides.{nat_tests}
use Rattle.vp_text.proofs.Items.{all_each}
use Rattle.vp_model.specs.Types.{Event, Input, Sent, Reply, Shown}
use Rattle.vp_model.specs.Types.event
use Rattle.vp_model.specs.Types.counted
use Rattle.vp_model.specs.Types.shown
use Rattle.vp_model.specs.Words.{has}
use Rattle.vp_model.specs.Catalogue.{Catalogue, sites_of}
use Rattle.vp_model.specs.Limits.{world_limits, refused}
use Rattle.vp_model.specs.Site.{SiteState}
use Rattle.vp_model.specs.Step.{step}
use Rattle.vp_model.specs.Told.{is_step}
use Rattle.vp_model.specs.World.{Place, WorldState, Moved, Run, site_of, place_of, message_at, site_step, next, start_world, start_run, one_step, one_event, run_from, run_of}
use Rattle.vp_model.proofs.RunGrows.{run_from-more}
use Rattle.vp_model.proofs.CountedSteps.{next_counts}
use Rattle.vp_catalog.specs.Document.{IsCatalogue}
use Rattle.vp_wire.specs.Grammar.{IsFrame}
use Rattle.vp_laws.specs.Shapes.{IsInput, IsShaped, IsSent, IsReply}
use Rattle.vp_laws.specs.ShapeLaws.{IsEvent, IsPlace, IsWorld, message_frame, reply_frame}
use Rattle.vp_laws.proofs.Lists.Items.{all_and_one, all_at}
use Rattle.vp_laws.proofs.Lists.Members.{find_has}
use Rattle.vp_laws.proofs.Shapes.Log.{sent_is_frame, reply_is_frame}
use Rattle.vp_laws.proofs.Shapes.Moves.{some_at}
use Rattle.vp_laws.proofs.Shapes.Steps.{steps_are_shaped}
use Rattle.vp_laws.proofs.Shapes.Worlds.{last_world}
use Rattle.vp_laws.proofs.Worlds.Occurs.{Gives, Occurs, occurs}
use Rattle.vp_laws.proofs.Worlds.Scenes.{scene_of, up-place, message_at-has}
use Rattle.vp_fitting.specs.Fitting.{IsSingle, frames_in}
use Rattle.vp_fitting.specs.Laws.{over}
use Rattle.vp_merge.specs.Played.{IsPut, IsReached}
use Rattle.vp_merge.specs.Telling.{AreFrames}

-- ---- the world after one more event

single_step : (catalogue : Catalogue) (number : ℕ) (e : Event) (run : Run) → IsSingle e → (one_event catalogue number e run).world ≡ (next catalogue e run.world).world
unfolding one_event one_step
single_step catalogue number (event.Flow count) run single = absurd single
single_step catalogue number e run single = refl

world_more : (catalogue : Catalogue) (events : List Event) (e : Event) → IsSingle e → (run_of (over catalogue (events ++ e ∷ []))).world ≡ (next catalogue e (run_of (over catalogue events)).world).world
unfolding run_of
world_more catalogue events e single =
    ap (λ (run : Run). run.world) (run_from-more catalogue 1 events e (start_run catalogue)) ∙ single_step catalogue (1 + length events) e (run_from catalogue 1 events (start_run catalogue)) single

pub starts_reached : (catalogue : Catalogue) → IsCatalogue catalogue → IsReached catalogue (start_world catalogue) []
unfolding run_of run_from start_world
starts_reached catalogue k = record { catalogue_is = k; world_is = refl; events_are = tt; counted = refl; few = omega arith; few_sent = omega arith }

within : (steps : ℕ) (sent : ℕ) → cond (nat_lt 100000 steps) (Some counted.Steps) (cond (nat_lt 2000000 sent) (Some counted.Messages) None) ≡ None → (steps ≤ 100000) × (sent ≤ 2000000)
within steps sent e = go (nat_lt 100000 steps) refl (nat_lt 2000000 sent) refl e
  where
    go : (a : Bool) → nat_lt 100000 steps ≡ a → (b : Bool) → nat_lt 2000000 sent ≡ b → cond a (Some counted.Steps) (cond b (Some counted.Messages) None) ≡ None → (steps ≤ 100000) × (sent ≤ 2000000)
    go true p b q z = absurd cc
    go false p true q z = absurd cc
    go false p false q z = (grind (arith, nat_tests, p), grind (arith, nat_tests, q))

-- what is shown, and what was sent with it
abbrev pub Sends : Shown → List Sent → List Sent → Type 0
Sends (shown.Step commits first messages replies) before after = (first ≡ length before + 1) × (after ≡ before ++ messages)
Sends what before after = after ≡ before

module _ (catalogue : Catalogue) (w : WorldState) (events : List Event) (e : Event) (h : IsReached catalogue w events) (put : IsPut (sites_of catalogue) e) where
  pub reached_more : refused world_limits catalogue e w ≡ None → IsReached catalogue (next catalogue e w).world (events ++ e ∷ [])
  reached_more free =
      let count = length-append events (e ∷ []) in
      let steps : (next catalogue e w).world.steps ≡ w.steps + 1 = next_counts catalogue e w in
      let room = within (next catalogue e w).world.steps (length (next catalogue e w).world.sent) free in
      let was = h.counted in
      record {
        catalogue_is = h.catalogue_is;
        world_is = world_more catalogue events e put.0 ∙ ap (λ (v : WorldState). (next catalogue e v).world) h.world_is;
        events_are = all_and_one (IsPut (sites_of catalogue)) events e h.events_are put;
        counted = omega (arith, count, steps, was);
        few = room.0;
        few_sent = room.1;
      }

  -- ---- what is shown

  calls : (events : List Event) → AllByRecursion (IsPut (sites_of catalogue)) events → AllByRecursion IsEvent events
  calls = all_each (IsPut (sites_of catalogue)) IsEvent call_is
    where
      call_is : (e : Event) → IsPut (sites_of catalogue) e → IsEvent e
      call_is (event.Call site words) put = put.1.1
      call_is (event.Deliver k) put = tt
      call_is (event.Flow count) put = tt
      call_is (event.Tick site) put = tt
      call_is (event.Probe site) put = tt
      call_is (event.Cut a b) put = tt
      call_is (event.Heal a b) put = tt
      call_is (event.Crash site) put = tt
      call_is (event.Restart site) put = tt

  pub world_is_shaped : IsWorld catalogue w
  world_is_shaped = subst (IsWorld catalogue) h.world_is (last_world (over catalogue events) h.catalogue_is (calls events h.events_are))

  given_is : (s : ℕ) (given : Input) → Gives e w s given → IsInput given
  given_is s _ (Gives.called words is) = (omega arith, (subst (IsPut (sites_of catalogue)) is put).1.1)
  given_is s _ (Gives.came k m is at to) = let f = all_at (λ (sent : Sent). IsFrame (message_frame sent)) w.sent world_is_shaped.sent_are m (message_at-has w k m at) in (f.2.0, f.2.2)
  given_is s _ (Gives.ticked is) = tt
  given_is s _ (Gives.probed is) = tt

  abbrev Shows : Moved → ℕ → Type 0
  Shows m site = Sends m.shown w.sent m.world.sent × (length m.world.sent ≤ 2000000 → AreFrames site m.shown)

  no_step : (site : ℕ) (m : Moved) → m.world.sent ≡ w.sent → is_step m.shown ≡ false → Shows m site
  no_step site m same none = go m.shown none
    where
      go : (what : Shown) → is_step what ≡ false → Sends what w.sent m.world.sent × (length m.world.sent ≤ 2000000 → AreFrames site what)
      go (shown.Step commits first messages replies) e = absurd (false≢true (sym e))
      go shown.Nothing e = (same, λ few. tt)
      go shown.NoMessage e = (same, λ few. tt)
      go (shown.Down s) e = (same, λ few. tt)
      go (shown.Parted from to) e = (same, λ few. tt)
      go (shown.Up s) e = (same, λ few. tt)
      go (shown.Life life) e = (same, λ few. tt)
      go (shown.LivesSpent life) e = (same, λ few. tt)

  step_shows : (site : ℕ) → has (sites_of catalogue) site ≡ true → (s : ℕ) (x : SiteState) (given : Input) (v : WorldState) → scene_of v ≡ scene_of w → IsShaped catalogue x → IsInput given → Shows (site_step catalogue s x given v) site
  unfolding site_step
  step_shows site listed s x given v same shaped form =
      let o = step catalogue x given in
      let f = (steps_are_shaped catalogue x given h.catalogue_is shaped form).1 in
      let sent : v.sent ≡ w.sent = ap (λ scene. scene.sent) same in
      let count = length-append v.sent o.effects.messages in (
        (ap (λ (all : List Sent). length all + 1) sent, ap (λ (all : List Sent). all ++ o.effects.messages) sent),
        λ few. (
          all_each (IsSent x.id) (λ (m : Sent). IsFrame (message_frame m)) (λ m g. sent_is_frame catalogue x.id m h.catalogue_is shaped.listed g) o.effects.messages f.messages_are,
          all_each IsReply (λ (reply : Reply). IsFrame (reply_frame site reply)) (λ reply g. reply_is_frame catalogue site reply h.catalogue_is listed g) o.effects.replies f.replies_are,
          omega (arith, few, count),
        ),
      )

  shaped_at : (s : ℕ) (x : SiteState) → site_of w s ≡ Some x → IsShaped catalogue x
  shaped_at s x up =
      let p = up-place (place_of s w.places) x up in
      let is = all_at (IsPlace catalogue) w.places world_is_shaped.places_are p.0 (find_has (λ (place : Place). place.id == s) w.places p.0 p.1) in
      let here : p.0.up ≡ Some x = sym (ap (λ (o : Option Place). site_in o) p.1) ∙ up in
      (some_at (λ (site : SiteState). (site.id ≡ p.0.id) × IsShaped catalogue site) p.0.up x is.up_is here).1
    where
      site_in : Option Place → Option SiteState
      site_in None = None
      site_in (Some p) = p.up

  pub event_shows : (site : ℕ) → has (sites_of catalogue) site ≡ true → Shows (next catalogue e w) site
  event_shows site listed = go (next catalogue e w) (occurs catalogue e w)
    where
      go : (m : Moved) → Occurs catalogue e w m → Shows m site
      go m (Occurs.acts s x given v same up arrives gives is) = subst (λ (m : Moved). Shows m site) (sym is) (step_shows site listed s x given v same (shaped_at s x up) (given_is s given gives))
      go m (Occurs.stands same none) = no_step site m (ap (λ scene. scene.sent) same) none
      go m (Occurs.crashes s same none) = no_step site m (ap (λ scene. scene.sent) same) none
      go m (Occurs.restarts s place at down id same none) = no_step site m (ap (λ scene. scene.sent) same) none

-- ---- crashes and restarts

pub data IsQuiet : Event → Type 0 where
  crash_is : (s : ℕ) → IsQuiet (event.Crash s)
  restart_is : (s : ℕ) → IsQuiet (event.Restart s)

never_gives : (e : Event) (w : WorldState) (s : ℕ) (given : Input) → IsQuiet e → Gives e w s given → ⊥
never_gives _ w s given (IsQuiet.crash_is r) (Gives.called words is) = cc
never_gives _ w s given (IsQuiet.crash_is r) (Gives.came k m is at to) = cc
never_gives _ w s given (IsQuiet.crash_is r) (Gives.ticked is) = cc
never_gives _ w s given (IsQuiet.crash_is r) (Gives.probed is) = cc
never_gives _ w s given (IsQuiet.restart_is r) (Gives.called words is) = cc
never_gives _ w s given (IsQuiet.restart_is r) (Gives.came k m is at to) = cc
never_gives _ w s given (IsQuiet.restart_is r) (Gives.ticked is) = cc
never_gives _ w s given (IsQuiet.restart_is r) (Gives.probed is) = cc

no_frames : (site : ℕ) (what : Shown) → is_step what ≡ false → frames_in site what ≡ []
no_frames site (shown.Step commits first messages replies) e = absurd (false≢true (sym e))
no_frames site shown.Nothing e = refl
no_frames site shown.NoMessage e = refl
no_frames site (shown.Down s) e = refl
no_frames site (shown.Parted from to) e = refl
no_frames site (shown.Up s) e = refl
no_frames site (shown.Life life) e = refl
no_frames site (shown.LivesSpent life) e = refl

-- nothing is sent or given
pub quiet_event : (catalogue : Catalogue) (e : Event) (w : WorldState) (site : ℕ) → IsQuiet e → ((next catalogue e w).world.sent ≡ w.sent) × (frames_in site (next catalogue e w).shown ≡ [])
quiet_event catalogue e w site quiet = go (next catalogue e w) (occurs catalogue e w)
  where
    go : (m : Moved) → Occurs catalogue e w m → (m.world.sent ≡ w.sent) × (frames_in site m.shown ≡ [])
    go m (Occurs.acts s x given v same up arrives gives is) = absurd (never_gives e w s given quiet gives)
    go m (Occurs.stands same none) = (ap (λ scene. scene.sent) same, no_frames site m.shown none)
    go m (Occurs.crashes s same none) = (ap (λ scene. scene.sent) same, no_frames site m.shown none)
    go m (Occurs.restarts s place at down id same none) = (ap (λ scene. scene.sent) same, no_frames site m.shown none)
