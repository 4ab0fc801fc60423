-- The schedule that a stopped run becomes.
use Rattle.std.proofs.Common.{◌≡◌, ◌∙◌, ap, sym, subst, ℕ, zero, suc, ◌-◌, arith, Bool, true, false, cond, List, ◌++◌, refl, map, take}
use Rattle.std.specs.Prelude.{Some, None, ◌==◌, slice_get}
use Rattle.std.proofs.lemmas.Bool.Decides.{nat_tests}
use Rattle.std.specs.List.{AllByRecursion}
use Rattle.vp_text.proofs.Items.{all_append}
use Rattle.vp_model.specs.Types.{Event}
use Rattle.vp_model.specs.World.{WorldState, Run, Moment, Schedule, start_world, start_run, run_from, run_of, moments_of}
use Rattle.vp_runs.specs.Stopped.{stop_at, passed_numbers, pass_over, stopped_world, follow, raise_number, first_lost, count_lost, singles, run_in, run_after}
use Rattle.vp_runs.specs.StopLaws.{SameButDelivered, StoppedRunsAreSchedules}
use Rattle.vp_runs.proofs.Delivered.{IsSingle, steps_to, steps_more, steps_same, run_is}
use Rattle.vp_runs.proofs.Following.{Goes, schedule_goes, after_goes, followed, led_to, single_at, all_taken, all_events}

module _ (s : Schedule) (step : ℕ) (kept : Bool) (m : Moment) (site : ℕ) (at : slice_get (moments_of s) step ≡ Some m) where
  goes : Goes s.catalogue (start_world s.catalogue) (run_of s)
  goes = schedule_goes s

  abbrev pub front : List Event
  front = singles (take step (moments_of s))

  pub front_single : AllByRecursion IsSingle front
  front_single = all_events (take step (moments_of s)) (all_taken (λ (m : Moment). IsSingle m.line.event) step (moments_of s) goes.single)

  -- the steps that replace the event
  abbrev pub stop : List Event
  stop = stop_at kept site m.line.event

  pub stop_single : AllByRecursion IsSingle stop
  stop_single = go kept
    where
      go : (b : Bool) → AllByRecursion IsSingle (stop_at b site m.line.event)
      go true = (single_at step (moments_of s) m goes.single at, (tt, tt))
      go false = (tt, tt)

  abbrev pub world_then : WorldState
  world_then = steps_to s.catalogue stop m.before

  stopped_is : (run_from s.catalogue 1 stop (run_in m.before)).world ≡ world_then
  stopped_is = run_is s.catalogue 1 stop (run_in m.before) stop_single

  abbrev pub rest : Run
  rest = run_after s (suc step) kept site m

  rest_goes : Goes s.catalogue (stopped_world s.catalogue kept site m) rest
  rest_goes = after_goes s.catalogue 1 (map (raise_number (first_lost m) (count_lost kept m)) (follow s.events (take (suc step) (moments_of s)) m)) (stopped_world s.catalogue kept site m)

  abbrev pub whole : List Event
  whole = front ++ (stop ++ singles rest.moments)

  pub whole_single : AllByRecursion IsSingle whole
  whole_single = all_append IsSingle front (stop ++ singles rest.moments) front_single (all_append IsSingle stop (singles rest.moments) stop_single (all_events rest.moments rest_goes.single))

  -- the schedule's world
  ends_in : (run_of (record { catalogue = s.catalogue; events = whole })).world ≡ steps_to s.catalogue (singles rest.moments) world_then
  unfolding run_of
  ends_in =
      run_is s.catalogue 1 whole (start_run s.catalogue) whole_single
      ∙ steps_more s.catalogue front (stop ++ singles rest.moments) (start_world s.catalogue)
      ∙ ap (steps_to s.catalogue (stop ++ singles rest.moments)) (sym (led_to s.catalogue step (moments_of s) m (start_world s.catalogue) (run_of s).world goes.follow at))
      ∙ steps_more s.catalogue stop (singles rest.moments) m.before

  begins_same : SameButDelivered (stopped_world s.catalogue kept site m) world_then
  begins_same =
      subst (λ (w : WorldState). SameButDelivered (pass_over (passed_numbers kept m) w) world_then) (sym stopped_is)
      (world_then.delivered ++ passed_numbers kept m, refl)

  pub comes_to : SameButDelivered rest.world (run_of (record { catalogue = s.catalogue; events = whole })).world
  comes_to =
      subst (λ (w : WorldState). SameButDelivered rest.world w) (sym ends_in)
      (subst (λ (v : WorldState). SameButDelivered v (steps_to s.catalogue (singles rest.moments) world_then)) (sym (followed s.catalogue rest.moments (stopped_world s.catalogue kept site m) rest.world rest_goes.follow))
      (steps_same s.catalogue (singles rest.moments) (stopped_world s.catalogue kept site m) world_then begins_same))

pub stopped_runs : StoppedRunsAreSchedules
stopped_runs s zero kept m site at by = cc
stopped_runs s (suc step) kept m site at by =
    let less : suc step - 1 ≡ step = omega arith in
    let some : (suc step == 0) ≡ false = grind (arith, nat_tests) in
    let there : slice_get (moments_of s) (suc step - 1) ≡ Some m = sym (ap (λ (b : Bool). cond b None (slice_get (moments_of s) (suc step - 1))) some) ∙ at in
    subst (λ (n : ℕ). SameButDelivered (run_after s (suc step) kept site m).world (run_of (record { catalogue = s.catalogue; events = singles (take n (moments_of s)) ++ (stop_at kept site m.line.event ++ singles (run_after s (suc step) kept site m).moments) })).world) (sym less)
    (comes_to s step kept m site (subst (λ (n : ℕ). slice_get (moments_of s) n ≡ Some m) less there))
