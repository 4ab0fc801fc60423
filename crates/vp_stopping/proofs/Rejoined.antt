-- What a run becomes that was stopped within a step, and went on.
use Rattle.std.proofs.Common.{◌≡◌, ◌∙◌, ap, sym, subst, ℕ, zero, suc, ◌-◌, Bool, false, cond, List, [], ◌∷◌, ◌++◌, take, drop, refl, arith}
use Rattle.std.specs.Prelude.{Option, Some, None, ◌==◌, slice_get, option_map, option_and_then}
use Rattle.std.specs.Option.{option_map_or, option_or}
use Rattle.std.specs.List.{AllByRecursion}
use Rattle.std.proofs.lemmas.Bool.Decides.{nat_tests}
use Rattle.std.proofs.lemmas.List.{take-append-drop}
use Rattle.vp_model.specs.Types.{Counted}
use Rattle.vp_model.specs.Catalogue.{Catalogue}
use Rattle.vp_model.specs.World.{WorldState, Run, Moment, Schedule, moment, next, start_world, run_from, run_of, moments_of}
use Rattle.vp_model.specs.Limits.{world_limits, exceeded, limit_in, limit_reached}
use Rattle.vp_runs.proofs.Through.{Follow}
use Rattle.vp_runs.specs.Stopped.{moment_of, appender, stopped, stopped_events, stop_at, stopped_world, passed_numbers, pass_over, run_after, run_in, singles}
use Rattle.vp_runs.specs.StopLaws.{SameButDelivered}
use Rattle.vp_runs.proofs.Delivered.{IsSingle, steps_to, run_is}
use Rattle.vp_runs.proofs.Following.{schedule_goes, after_goes, led_to}
use Rattle.vp_runs.proofs.StoppedRuns.{whole_single, stop_single, stopped_runs}
use Rattle.vp_stopping.proofs.SingleLimits.{limit_at, limit_more, limit_same, limit_followed, limit_run, limit_of_singles, limit_append, limit_one}
use Rattle.vp_stopping.specs.RanStopped.{limit_stopped}

-- steps are counted from 1
pub at_step : (step : ℕ) (ms : List Moment) (m : Moment) → moment_of step ms ≡ Some m → (before : ℕ) × (step ≡ suc before) × (slice_get ms before ≡ Some m)
at_step zero ms m at = cc
at_step (suc n) ms m at =
    let some : (suc n == 0) ≡ false = grind (arith, nat_tests) in
    let less : suc n - 1 ≡ n = omega arith in
    (n, refl, ap (slice_get ms) (sym less) ∙ sym (ap (λ (b : Bool). cond b None (slice_get ms (suc n - 1))) some) ∙ at)

-- moments that follow each other, until one of them
front_follows : (catalogue : Catalogue) (n : ℕ) (ms : List Moment) (m : Moment) (w v : WorldState) → Follow catalogue w ms v → slice_get ms n ≡ Some m → Follow catalogue w (take n ms) m.before
front_follows catalogue n [] m w v h at = cc
front_follows catalogue zero (x ∷ ms) m w v h at = let same : x ≡ m = cc in sym (ap (λ (y : Moment). y.before) (sym same ∙ h.0))
front_follows catalogue (suc n) (x ∷ ms) m w v h at = (h.0, front_follows catalogue n ms m x.after v h.1 at)

module _ (s : Schedule) (step : ℕ) (kept : Bool) (m : Moment) (site : ℕ) (at : moment_of step (moments_of s) ≡ Some m) where
  abbrev pub comes_to : Schedule
  comes_to = record { catalogue = s.catalogue; events = stopped_events s step kept site m }

  abbrev pub in_place : Run
  in_place = run_from s.catalogue 1 (stop_at kept site m.line.event) (run_in m.before)

  abbrev pub rest : Run
  rest = run_after s step kept site m

  front_along : Follow s.catalogue (start_world s.catalogue) (take (step - 1) (moments_of s)) m.before
  front_along =
      let (n, is, there) = at_step step (moments_of s) m at in
      let less : n ≡ step - 1 = omega (arith, is) in
      subst (λ k. Follow s.catalogue (start_world s.catalogue) (take k (moments_of s)) m.before) less
      (front_follows s.catalogue n (moments_of s) m (start_world s.catalogue) (run_of s).world (schedule_goes s).follow there)

  -- the limit of the whole is that of its front, of the stop, or of what follows
  limit_whole : limit_reached world_limits comes_to ≡ option_or (limit_in world_limits (take (step - 1) (moments_of s))) (option_or (limit_in world_limits in_place.moments) (limit_in world_limits rest.moments))
  limit_whole =
      let (n, is, there) = at_step step (moments_of s) m at in
      let less : n ≡ step - 1 = omega (arith, is) in
      let front = singles (take (step - 1) (moments_of s)) in
      let stop = stop_at kept site m.line.event in
      let tail = singles rest.moments in
      let start = start_world s.catalogue in
      let single : AllByRecursion IsSingle comes_to.events = subst (λ k. AllByRecursion IsSingle (singles (take (k - 1) (moments_of s)) ++ (stop ++ singles (run_after s k kept site m).moments))) (sym is)
      (subst (λ j. AllByRecursion IsSingle (singles (take j (moments_of s)) ++ (stop ++ singles (run_after s (suc n) kept site m).moments))) (omega arith) (whole_single s n kept m site there)) in
      let led : steps_to s.catalogue front start ≡ m.before = sym (subst (λ k. m.before ≡ steps_to s.catalogue (singles (take k (moments_of s))) start) less (led_to s.catalogue n (moments_of s) m start (run_of s).world (schedule_goes s).follow there)) in
      let stop_all = stop_single s n kept m site there in
      let place : in_place.world ≡ steps_to s.catalogue stop m.before = run_is s.catalogue 1 stop (run_in m.before) stop_all in
      let v = stopped_world s.catalogue kept site m in
      let same : SameButDelivered v (steps_to s.catalogue stop m.before) =
      subst (λ (w : WorldState). SameButDelivered (pass_over (passed_numbers kept m) w) (steps_to s.catalogue stop m.before)) (sym place) ((steps_to s.catalogue stop m.before).delivered ++ passed_numbers kept m, refl) in
      let following = (after_goes s.catalogue 1 _ v).follow in
      limit_of_singles comes_to single
      ∙ limit_more s.catalogue front (stop ++ tail) start
      ∙ ap (λ o. option_or o (limit_at s.catalogue (stop ++ tail) (steps_to s.catalogue front start))) (sym (limit_followed s.catalogue (take (step - 1) (moments_of s)) start m.before front_along))
      ∙ ap (option_or (limit_in world_limits (take (step - 1) (moments_of s))))
      (
      ap (limit_at s.catalogue (stop ++ tail)) led
      ∙ limit_more s.catalogue stop tail m.before
      ∙ ap (λ o. option_or o (limit_at s.catalogue tail (steps_to s.catalogue stop m.before))) (sym (limit_run s.catalogue 1 stop (run_in m.before) stop_all))
      ∙ ap (option_or (limit_in world_limits in_place.moments)) (sym (limit_same s.catalogue tail v (steps_to s.catalogue stop m.before) same) ∙ sym (limit_followed s.catalogue rest.moments v rest.world following))
      )

  pub limit_is : limit_in world_limits (take (step - 1) (moments_of s)) ≡ None → limit_reached world_limits comes_to ≡ option_or (limit_in world_limits in_place.moments) (limit_in world_limits rest.moments)
  limit_is none = limit_whole ∙ ap (λ o. option_or o (option_or (limit_in world_limits in_place.moments) (limit_in world_limits rest.moments))) none

  pub limit_before : (what : Counted) → limit_in world_limits (take (step - 1) (moments_of s)) ≡ Some what → limit_reached world_limits comes_to ≡ Some what
  limit_before what some = limit_whole ∙ ap (λ o. option_or o (option_or (limit_in world_limits in_place.moments) (limit_in world_limits rest.moments))) some

  -- the schedule that the run becomes
  pub stopped_is : appender s.catalogue m ≡ Some site → stopped step kept s ≡ Some comes_to
  unfolding stopped
  stopped_is by =
      ap (option_and_then (λ (n : Moment). option_map (λ (a : ℕ). record { catalogue = s.catalogue; events = stopped_events s step kept a n }) (appender s.catalogue n))) at
      ∙ ap (option_map (λ (a : ℕ). record { catalogue = s.catalogue; events = stopped_events s step kept a m })) by

  pub journal_is : appender s.catalogue m ≡ Some site → rest.world.journal ≡ (run_of comes_to).world.journal
  journal_is by = ap (λ (w : WorldState). w.journal) (stopped_runs s step kept m site at by).1

-- there is none if no site appends
pub stopped_none : (s : Schedule) (step : ℕ) (kept : Bool) → moment_of step (moments_of s) ≡ None → stopped step kept s ≡ None
unfolding stopped
stopped_none s step kept none =
    ap (option_and_then (λ (n : Moment). option_map (λ (a : ℕ). record { catalogue = s.catalogue; events = stopped_events s step kept a n }) (appender s.catalogue n))) none

pub stopped_nobody : (s : Schedule) (step : ℕ) (kept : Bool) (m : Moment) → moment_of step (moments_of s) ≡ Some m → appender s.catalogue m ≡ None → stopped step kept s ≡ None
unfolding stopped
stopped_nobody s step kept m at none =
    ap (option_and_then (λ (n : Moment). option_map (λ (a : ℕ). record { catalogue = s.catalogue; events = stopped_events s step kept a n }) (appender s.catalogue n))) at
    ∙ ap (option_map (λ (a : ℕ). record { catalogue = s.catalogue; events = stopped_events s step kept a m })) none

-- ---- the limit that ends the run

-- the moments until a step, and those after it
front_grows : (step : ℕ) (ms : List Moment) → (more : List Moment) × (take step ms ≡ take (step - 1) ms ++ more)
front_grows step ms = (drop (step - 1) (take step ms), sym (ap (λ (front : List Moment). front ++ drop (step - 1) (take step ms)) (fewer step ms) ∙ take-append-drop (step - 1) (take step ms)))
  where
    fewer : (step : ℕ) (ms : List Moment) → take (step - 1) ms ≡ take (step - 1) (take step ms)
    fewer zero ms = refl
    fewer (suc n) ms = ap (λ k. take k ms) (one_less n) ∙ shorter n ms ∙ ap (λ k. take k (take (suc n) ms)) (sym (one_less n))
      where
        one_less : (n : ℕ) → suc n - 1 ≡ n
        one_less n = omega arith

        shorter : (n : ℕ) (ms : List Moment) → take n ms ≡ take n (take (suc n) ms)
        shorter zero ms = refl
        shorter (suc n) [] = refl
        shorter (suc n) (m ∷ ms) = ap (λ rest. m ∷ rest) (shorter n ms)

pub limit_up_to : (step : ℕ) (ms : List Moment) (what : Counted) → limit_in world_limits (take (step - 1) ms) ≡ Some what → limit_in world_limits (take step ms) ≡ Some what
limit_up_to step ms what some =
    let more = front_grows step ms in
    ap (limit_in world_limits) more.1 ∙ limit_append (take (step - 1) ms) more.0 ∙ ap (λ o. option_or o (limit_in world_limits more.0)) some

none_first : (a b : Option Counted) → option_or a b ≡ None → a ≡ None
none_first None b e = refl
none_first (Some x) b e = e

pub none_up_to : (step : ℕ) (ms : List Moment) → limit_in world_limits ms ≡ None → limit_in world_limits (take step ms) ≡ None
none_up_to step ms none =
    none_first (limit_in world_limits (take step ms)) (limit_in world_limits (drop step ms))
    (sym (limit_append (take step ms) (drop step ms)) ∙ ap (limit_in world_limits) (take-append-drop step ms) ∙ none)

abbrev limit_by : Option Schedule → ℕ → Schedule → Option Counted
limit_by o step s = option_map_or (limit_reached world_limits) o (limit_in world_limits (take step (moments_of s)))

-- nothing is stopped
pub none_stopped : (s : Schedule) (step : ℕ) (kept : Bool) → stopped step kept s ≡ None → limit_stopped step kept s ≡ limit_in world_limits (take step (moments_of s))
none_stopped s step kept none = ap (λ o. limit_by o step s) none

-- a limit ends the steps before
pub ended_before : (s : Schedule) (step : ℕ) (kept : Bool) (what : Counted) → limit_in world_limits (take (step - 1) (moments_of s)) ≡ Some what → limit_stopped step kept s ≡ Some what
ended_before s step kept what some = by (moment_of step (moments_of s)) refl
  where
    by : (o : Option Moment) → moment_of step (moments_of s) ≡ o → limit_stopped step kept s ≡ Some what
    by None none = none_stopped s step kept (stopped_none s step kept none) ∙ limit_up_to step (moments_of s) what some
    by (Some m) at = go (appender s.catalogue m) refl
      where
        go : (o : Option ℕ) → appender s.catalogue m ≡ o → limit_stopped step kept s ≡ Some what
        go None nobody = none_stopped s step kept (stopped_nobody s step kept m at nobody) ∙ limit_up_to step (moments_of s) what some
        go (Some site) by = ap (λ o. limit_by o step s) (stopped_is s step kept m site at by) ∙ limit_before s step kept m site at what some

-- ---- the moment of the step itself

followed_at : (catalogue : Catalogue) (n : ℕ) (ms : List Moment) (m : Moment) (w v : WorldState) → Follow catalogue w ms v → slice_get ms n ≡ Some m → m ≡ moment m.number m.before m.line.event (next catalogue m.line.event m.before)
followed_at catalogue n [] m w v h at = cc
followed_at catalogue zero (x ∷ ms) m w v h at =
    let same : x ≡ m = cc in
    let is = subst (λ (y : Moment). y ≡ moment y.number w y.line.event (next catalogue y.line.event w)) same h.0 in
    subst (λ (w : WorldState). m ≡ moment m.number w m.line.event (next catalogue m.line.event w)) (sym (ap (λ (y : Moment). y.before) is)) is
followed_at catalogue (suc n) (x ∷ ms) m w v h at = followed_at catalogue n ms m x.after v h.1 at

one_taken : (n : ℕ) (ms : List Moment) (m : Moment) → slice_get ms n ≡ Some m → take (suc n) ms ≡ take n ms ++ m ∷ []
one_taken n [] m at = cc
one_taken zero (x ∷ ms) m at = let same : x ≡ m = cc in ap (λ (y : Moment). y ∷ []) same
one_taken (suc n) (x ∷ ms) m at = ap (λ rest. x ∷ rest) (one_taken n ms m at)

module _ (s : Schedule) (step : ℕ) (m : Moment) (at : moment_of step (moments_of s) ≡ Some m) where
  pub moment_is : m ≡ moment m.number m.before m.line.event (next s.catalogue m.line.event m.before)
  moment_is =
      let (n, is, there) = at_step step (moments_of s) m at in
      followed_at s.catalogue n (moments_of s) m (start_world s.catalogue) (run_of s).world (schedule_goes s).follow there

  pub up_to_it : take step (moments_of s) ≡ take (step - 1) (moments_of s) ++ m ∷ []
  up_to_it =
      let (n, is, there) = at_step step (moments_of s) m at in
      subst (λ k. take step (moments_of s) ≡ take k (moments_of s) ++ m ∷ []) (omega (arith, is))
      (subst (λ k. take k (moments_of s) ≡ take n (moments_of s) ++ m ∷ []) (sym is) (one_taken n (moments_of s) m there))

  -- the limit of its step, if none was exceeded before
  pub limit_of_it : limit_in world_limits (take (step - 1) (moments_of s)) ≡ None → limit_in world_limits (take step (moments_of s)) ≡ exceeded world_limits (next s.catalogue m.line.event m.before).world
  limit_of_it none =
      ap (limit_in world_limits) up_to_it ∙ limit_append (take (step - 1) (moments_of s)) (m ∷ [])
      ∙ ap (λ o. option_or o (limit_in world_limits (m ∷ []))) none ∙ limit_one m ∙ ap (λ (y : Moment). exceeded world_limits y.after) moment_is
