-- What is done instead of a step that is stopped.
use Rattle.std.proofs.Common.{◌≡◌, ◌∙◌, ap, sym, subst, ℕ, zero, suc, ◌+◌, ◌-◌, ◌≤◌, Bool, true, false, cond, List, [], ◌∷◌, ◌++◌, length, refl, arith, append_assoc, append-nil}
use Rattle.std.specs.Prelude.{Option, Some, None, IsSome, ◌==◌, slice_get, option_map, option_and_then, if◌then◌else◌}
use Rattle.std.specs.Option.{option_map_or, option_or}
use Rattle.std.specs.List.{AllByRecursion, range_with_len}
use Rattle.std.proofs.lemmas.List.{length-append}
use Rattle.vp_model.specs.Types.{Event, Sent, Counted}
use Rattle.vp_model.specs.Types.event
use Rattle.vp_model.specs.Types.shown
use Rattle.vp_model.specs.Catalogue.{Catalogue}
use Rattle.vp_model.specs.Site.{SiteState}
use Rattle.vp_model.specs.Told.{is_step}
use Rattle.vp_model.specs.World.{Place, WorldState, shows, site_of, message_at, change_place, crash, happens, next, moment}
use Rattle.vp_model.specs.Limits.{world_limits, exceeded, limit_in}
use Rattle.vp_runs.specs.Stopped.{stop_at, count_lost, message_taken, pass_over, stopped_world, run_in}
use Rattle.vp_runs.proofs.Delivered.{IsSingle, steps_to, run_is}
use Rattle.vp_runs.proofs.Happened.{Effect, effect}
use Rattle.vp_world.specs.Steps.{taker, passed_over}
use Rattle.vp_stopping.specs.Singles.{moment_in, run_in_place}
use Rattle.vp_stopping.proofs.SingleLimits.{limit_at, limit_run, or_none}

-- ---- messages that count as delivered without being given to a site

range_on : (a n : ℕ) → range_with_len a (suc n) ≡ range_with_len a n ++ (a + n) ∷ []
range_on a zero = ap (λ k. k ∷ []) (none a)
  where
    none : (a : ℕ) → a ≡ a + 0
    none a = omega arith
range_on a (suc n) = ap (λ rest. a ∷ rest) (range_on (a + 1) n ∙ ap (λ k. range_with_len (a + 1) n ++ k ∷ []) (more a n))
  where
    more : (a n : ℕ) → (a + 1) + n ≡ a + suc n
    more a n = omega arith

pub pass_more : (ns : List ℕ) (k : ℕ) (w : WorldState) → passed_over k (pass_over ns w) ≡ pass_over (ns ++ k ∷ []) w
pass_more ns k w = ap (λ (d : List ℕ). record w { delivered = d }) (append_assoc w.delivered ns (k ∷ []))

-- one more of the messages after the first so many
pub lose_more : (before i : ℕ) (w : WorldState) → before ≤ i → passed_over (i + 1) (pass_over (range_with_len (before + 1) (i - before)) w) ≡ pass_over (range_with_len (before + 1) ((i + 1) - before)) w
lose_more before i w le =
    pass_more (range_with_len (before + 1) (i - before)) (i + 1) w
    ∙ ap (λ k. pass_over (range_with_len (before + 1) (i - before) ++ k ∷ []) w) (number before i le)
    ∙ ap (λ ns. pass_over ns w) (sym (range_on (before + 1) (i - before)))
    ∙ ap (λ n. pass_over (range_with_len (before + 1) n) w) (longer before i le)
  where
    number : (before i : ℕ) → before ≤ i → i + 1 ≡ (before + 1) + (i - before)
    number before i le = omega (arith, le)

    longer : (before i : ℕ) → before ≤ i → suc (i - before) ≡ (i + 1) - before
    longer before i le = omega (arith, le)

-- ---- who does a step

module _ (catalogue : Catalogue) (w : WorldState) (site : ℕ) where
  pub taken_single : (e : Event) → taker catalogue e w ≡ Some site → IsSingle e
  taken_single (event.Call s words) takes = tt
  taken_single (event.Deliver k) takes = tt
  taken_single (event.Flow count) takes = cc
  taken_single (event.Tick s) takes = tt
  taken_single (event.Probe s) takes = tt
  taken_single (event.Cut a b) takes = tt
  taken_single (event.Heal a b) takes = tt
  taken_single (event.Crash s) takes = tt
  taken_single (event.Restart s) takes = tt

  pub taken_there : (k : ℕ) → taker catalogue (event.Deliver k) w ≡ Some site → IsSome (message_at w k)
  taken_there k takes = go (message_at w k) takes
    where
      go : (o : Option Sent) → option_and_then (λ site. if is_step (next catalogue (event.Deliver k) w).shown then Some site else None) (option_map (λ (sent : Sent). sent.to) o) ≡ Some site → IsSome o
      go None e = cc
      go (Some sent) e = refl

-- ---- messages stay sent

grown : (xs ys : List Sent) (i : ℕ) → IsSome (slice_get xs i) → IsSome (slice_get (xs ++ ys) i)
grown [] ys i there = cc
grown (x ∷ xs) ys zero there = refl
grown (x ∷ xs) ys (suc i) there = grown xs ys i there

pub still_there : (v w : WorldState) (more : List Sent) (k : ℕ) → v.sent ≡ w.sent ++ more → IsSome (message_at w k) → IsSome (message_at v k)
still_there v w more k e there = go (k == 0) there
  where
    go : (b : Bool) → IsSome (cond b None (slice_get w.sent (k - 1))) → IsSome (cond b None (slice_get v.sent (k - 1)))
    go true h = h
    go false h = subst (λ sent. IsSome (slice_get sent (k - 1))) (sym e) (grown w.sent more (k - 1) h)

module _ (catalogue : Catalogue) where
  pub step_sends : (e : Event) (w : WorldState) → (more : List Sent) × ((next catalogue e w).world.sent ≡ w.sent ++ more)
  step_sends e w = by (effect catalogue 0 e w)
    where
      same : (next catalogue e w).world.sent ≡ w.sent → (more : List Sent) × ((next catalogue e w).world.sent ≡ w.sent ++ more)
      same h = ([], h ∙ sym (append-nil w.sent))

      by : Effect catalogue (moment 0 w e (next catalogue e w)) → (more : List Sent) × ((next catalogue e w).world.sent ≡ w.sent ++ more)
      by (Effect.acts s a others) = (_, a.sent_is)
      by (Effect.crashes s is sent own others) = same sent
      by (Effect.restarts s is sent own others) = same sent
      by (Effect.stands plain none sent all) = same sent

  crash_sends : (s : ℕ) (w : WorldState) → (next catalogue (event.Crash s) w).world.sent ≡ w.sent
  unfolding happens crash
  crash_sends s w = go (site_of w s)
    where
      go : (o : Option SiteState)
          → (option_map_or (λ (site : SiteState). shows (record w { places = change_place s (λ (place : Place). record place { up = None }) w.places; steps = w.steps + 1 }) shown.Nothing) o (shows (record w { steps = w.steps + 1 }) (shown.Down s))).world.sent ≡ w.sent
      go None = refl
      go (Some x) = refl

  -- ---- what replaces the step

  module _ (kept : Bool) (site : ℕ) (e : Event) (w : WorldState) (single : IsSingle e) where
    all_single : AllByRecursion IsSingle (stop_at kept site e)
    all_single = go kept
      where
        go : (b : Bool) → AllByRecursion IsSingle (stop_at b site e)
        go true = (single, (tt, tt))
        go false = (tt, tt)

    pub place_world : (run_in_place catalogue kept site e w).world ≡ steps_to catalogue (stop_at kept site e) w
    place_world = run_is catalogue 1 (stop_at kept site e) (run_in w) all_single

    pub place_limit : limit_in world_limits (run_in_place catalogue kept site e w).moments ≡ limit_at catalogue (stop_at kept site e) w
    place_limit = limit_run catalogue 1 (stop_at kept site e) (run_in w) all_single

    abbrev v : WorldState
    v = (run_in_place catalogue kept site e w).world

    pub place_sends : (more : List Sent) × (v.sent ≡ w.sent ++ more) × (length v.sent - length w.sent ≡ count_lost kept (moment_in catalogue e w))
    place_sends = subst (λ (v : WorldState). (more : List Sent) × (v.sent ≡ w.sent ++ more) × (length v.sent - length w.sent ≡ count_lost kept (moment_in catalogue e w))) (sym place_world) (go kept)
      where
        go : (b : Bool) → (more : List Sent) × ((steps_to catalogue (stop_at b site e) w).sent ≡ w.sent ++ more) × (length (steps_to catalogue (stop_at b site e) w).sent - length w.sent ≡ count_lost b (moment_in catalogue e w))
        go true =
            let step = step_sends e w in
            let last = crash_sends site (next catalogue e w).world in
            (step.0, last ∙ step.1, ap (λ sent. length sent - length w.sent) last)
        go false =
            let last = crash_sends site w in
            ([], last ∙ sym (append-nil w.sent), ap (λ sent. length sent - length w.sent) last ∙ nothing (length w.sent))
          where
            nothing : (n : ℕ) → n - n ≡ 0
            nothing n = omega arith

    pub place_grows : length w.sent ≤ length v.sent
    place_grows =
        let sends = place_sends in
        let longer : length v.sent ≡ length w.sent + length sends.0 = ap length sends.1 ∙ length-append w.sent sends.0 in
        omega (arith, longer)

    -- the world after the stop: the message that was taken counts as delivered, and then those that are lost
    pub place_stopped : (taken : List ℕ) → taken ≡ message_taken e → pass_over (range_with_len (length w.sent + 1) (length v.sent - length w.sent)) (pass_over taken v) ≡ stopped_world catalogue kept site (moment_in catalogue e w)
    place_stopped taken is =
        ap (λ n. pass_over (range_with_len (length w.sent + 1) n) (pass_over taken v)) place_sends.2
        ∙ ap (λ (d : List ℕ). record v { delivered = d }) (append_assoc v.delivered taken (range_with_len (length w.sent + 1) (count_lost kept (moment_in catalogue e w))))
        ∙ ap (λ (t : List ℕ). pass_over (t ++ range_with_len (length w.sent + 1) (count_lost kept (moment_in catalogue e w))) v) is

-- ---- how the stop ends

module _ (catalogue : Catalogue) (site : ℕ) (e : Event) (w : WorldState) (single : IsSingle e) where
  abbrev crash_event : Event
  crash_event = event.Crash site

  -- without the step
  pub lost_limit : limit_in world_limits (run_in_place catalogue false site e w).moments ≡ exceeded world_limits (next catalogue crash_event w).world
  lost_limit = place_limit catalogue false site e w single ∙ or_none (exceeded world_limits (next catalogue crash_event w).world)

  -- with it: a limit may end it, or the crash after it
  pub kept_limit_first : (what : Counted) → exceeded world_limits (next catalogue e w).world ≡ Some what → limit_in world_limits (run_in_place catalogue true site e w).moments ≡ Some what
  kept_limit_first what some = place_limit catalogue true site e w single ∙ ap (λ o. option_or o (limit_at catalogue (crash_event ∷ []) (next catalogue e w).world)) some

  pub kept_limit_then : exceeded world_limits (next catalogue e w).world ≡ None → limit_in world_limits (run_in_place catalogue true site e w).moments ≡ exceeded world_limits (next catalogue crash_event (next catalogue e w).world).world
  kept_limit_then none =
      place_limit catalogue true site e w single ∙ ap (λ o. option_or o (limit_at catalogue (crash_event ∷ []) (next catalogue e w).world)) none
      ∙ or_none (exceeded world_limits (next catalogue crash_event (next catalogue e w).world).world)
