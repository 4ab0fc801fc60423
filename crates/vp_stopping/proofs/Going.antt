-- A run that goes on after a stop, to its end.
use Rattle.std.proofs.Common.{◌≡◌, ◌∙◌, ap, sym, subst, ℕ, zero, suc, ◌+◌, ◌-◌, ◌<◌, ◌≤◌, Bool, List, [], ◌∷◌, ◌++◌, length, take, map, refl, arith, append_assoc, append-nil}
use Rattle.std.specs.Prelude.{Option, Some, None, Result, Ok, Err}
use Rattle.std.specs.Option.{option_map_or, option_or}
use Rattle.std.proofs.lemmas.List.{map-append}
use Rattle.vp_model.specs.Types.{Event, Counted}
use Rattle.vp_model.specs.Types.event
use Rattle.vp_model.specs.Catalogue.{Catalogue}
use Rattle.vp_model.specs.Limits.{world_limits, exceeded, limit_in, limit_reached, refused}
use Rattle.vp_model.specs.World.{WorldState, Run, Moment, Schedule, next, moment, flowing, moments_of, run_from, journal_of}
use Rattle.vp_runs.specs.Stopped.{appender, stopped, stopped_world, stop_at, run_in, raise_number, singles, follow, count_lost, first_lost}
use Rattle.vp_world.specs.Known.{Known}
use Rattle.vp_world.specs.Limits.{Ends}
use Rattle.vp_world.specs.Steps.{taker}
use Rattle.vp_world.specs.declared.end.WorldEnd.{WorldEnd}
use Rattle.vp_world.specs.declared.end.WorldEnd.TheVariants as end
use Rattle.vp_stopping.specs.declared.stopped.Steps.{Steps}
use Rattle.vp_cluster.specs.declared.host.StoppedLog.{StoppedLog}
use Rattle.vp_stopping.specs.declared.stopped.Stopped.{Stopped}
use Rattle.vp_stopping.specs.Left.{next_single, left_then}
use Rattle.vp_stopping.specs.Singles.{HaveDone, AreBefore, GoesOn, moment_in, run_in_place}
use Rattle.vp_stopping.proofs.SingleLimits.{limit_append, limit_one}
use Rattle.vp_stopping.proofs.Walking.{Goes, goes_first, goes_grows, goes_step, goes_over}
use Rattle.vp_stopping.proofs.InPlace.{taken_single, place_grows, place_sends}
use Rattle.vp_stopping.proofs.Rejoined.{comes_to, in_place, rest, limit_is, stopped_is, journal_is, moment_is}

-- ---- what is left is done

-- so much of it is done
pub record Going (catalogue : Catalogue) (whole : Run) (before : List Event) (steps : Steps) (left : List Event) : Type 0 where
  pub ms : List Moment
  pub w : WorldState
  pub done : HaveDone catalogue (before ++ singles ms) w steps
  pub goes : Goes catalogue whole ms w left
  pub none : limit_in world_limits ms ≡ None

pub going_first : (steps : Steps) (left : List Event) → Going steps.world.catalogue (run_from steps.world.catalogue 1 left (run_in steps.world.world)) steps.done steps left
going_first steps left = record {
  ms = [];
  w = steps.world.world;
  done = (refl, sym (append-nil steps.done));
  goes = goes_first steps.world.catalogue 1 left (run_in steps.world.world);
  none = refl;
}

module _ (catalogue : Catalogue) (whole : Run) (before : List Event) (steps : Steps) (left : List Event) (h : Going catalogue whole before steps left) where
  known : steps.world ≡ record { catalogue = catalogue; world = h.w }
  known = h.done.0

  pub going_over : next_single steps.world.world left ≡ None → HaveDone catalogue (before ++ singles whole.moments) whole.world steps × (limit_in world_limits whole.moments ≡ None)
  going_over over =
      let here = subst (λ (k : Known). next_single k.world left ≡ None) known over in
      let all = goes_over catalogue whole h.ms h.w left h.goes here in
      subst (λ (r : Run). HaveDone catalogue (before ++ singles r.moments) r.world steps × (limit_in world_limits r.moments ≡ None)) all (h.done, h.none)

  module _ (e : Event) (at : next_single steps.world.world left ≡ Some e) where
    here : next_single h.w left ≡ Some e
    here = subst (λ (k : Known). next_single k.world left ≡ Some e) known at

    abbrev v : WorldState
    v = (next catalogue e h.w).world

    number : ℕ
    number = (goes_step catalogue whole h.ms h.w left h.goes e here).1.0

    abbrev m : Moment
    m = moment number h.w e (next catalogue e h.w)

    then_ : Goes catalogue whole (h.ms ++ m ∷ []) v (left_then h.w left)
    unfolding number
    then_ = (goes_step catalogue whole h.ms h.w left h.goes e here).1.1

    limit_then : limit_in world_limits (h.ms ++ m ∷ []) ≡ exceeded world_limits (next steps.world.catalogue e steps.world.world).world
    limit_then =
        limit_append h.ms (m ∷ []) ∙ ap (λ o. option_or o (limit_in world_limits (m ∷ []))) h.none ∙ limit_one m
        ∙ sym (ap (λ (k : Known). exceeded world_limits (next k.catalogue e k.world).world) known)

    pub going_on : (after : Steps) (following : List Event) → HaveDone steps.world.catalogue (steps.done ++ e ∷ []) (next steps.world.catalogue e steps.world.world).world after
        → exceeded world_limits (next steps.world.catalogue e steps.world.world).world ≡ None → following ≡ left_then steps.world.world left → Going catalogue whole before after following
    going_on after following done none left_is = record {
      ms = h.ms ++ m ∷ [];
      w = v;
      done = (
        done.0 ∙ ap (λ (k : Known). record { catalogue = k.catalogue; world = (next k.catalogue e k.world).world }) known,
        done.1 ∙ ap (λ (d : List Event). d ++ e ∷ []) h.done.1 ∙ append_assoc before (singles h.ms) (e ∷ [])
            ∙ ap (λ (d : List Event). before ++ d) (sym (map-append (λ (m : Moment). m.line.event) h.ms (m ∷ []))),
      );
      goes = subst (Goes catalogue whole (h.ms ++ m ∷ []) v) (sym (left_is ∙ ap (λ (k : Known). left_then k.world left) known)) then_;
      none = limit_then ∙ none;
    }

    pub going_ended : (what : Counted) → exceeded world_limits (next steps.world.catalogue e steps.world.world).world ≡ Some what → limit_in world_limits whole.moments ≡ Some what
    going_ended what some =
        let more = goes_grows catalogue whole (h.ms ++ m ∷ []) v (left_then h.w left) then_ in
        ap (limit_in world_limits) more.1 ∙ limit_append (h.ms ++ m ∷ []) more.0 ∙ ap (λ o. option_or o (limit_in world_limits more.0)) (limit_then ∙ some)

    pub going_ends : {B : Type 0} (why : WorldEnd) (r : Result B WorldEnd) → Ends {A = Steps} (refused world_limits steps.world.catalogue e steps.world.world) (Err why) → r ≡ Err why → Ends (limit_in world_limits whole.moments) r
    going_ends (end.Limit what much) r h is = rw is (going_ended what h.0, h.1)
    going_ends end.NoMemory r h is = rw is tt

-- ---- each step leaves fewer

-- there is no step
pub none_left : (o at : Option Event) → o ≡ at → ((e : Event) → o ≡ Some e → ⊥) → at ≡ None
none_left None at is some = sym is
none_left (Some e) at is some = absurd (some e refl)

-- how many steps are left at most
abbrev pub most_left : List Event → ℕ
most_left [] = 0
most_left (event.Flow count ∷ events) = count + most_left events
most_left (e ∷ events) = most_left events + 1

pub left_falls : (w : WorldState) (left : List Event) (e : Event) → next_single w left ≡ Some e → most_left (left_then w left) < most_left left
left_falls w [] e at = cc
left_falls w (event.Flow zero ∷ events) e at = let less = left_falls w events e at in omega (arith, less)
left_falls w (event.Flow (suc count) ∷ events) e at = go (flowing w) (left_falls w events e) at
  where
    go : (o : Option ℕ) → (next_single w events ≡ Some e → most_left (left_then w events) < most_left events) → option_map_or (λ k. Some (event.Deliver k)) o (next_single w events) ≡ Some e → most_left (option_map_or (λ k. event.Flow count ∷ events) o (left_then w events)) < suc count + most_left events
    go (Some k) falls at = omega arith
    go None falls at = let less = falls at in omega (arith, less)
left_falls w (event.Call s words ∷ events) e at = omega arith
left_falls w (event.Deliver k ∷ events) e at = omega arith
left_falls w (event.Tick s ∷ events) e at = omega arith
left_falls w (event.Probe s ∷ events) e at = omega arith
left_falls w (event.Cut a b ∷ events) e at = omega arith
left_falls w (event.Heal a b ∷ events) e at = omega arith
left_falls w (event.Crash s ∷ events) e at = omega arith
left_falls w (event.Restart s ∷ events) e at = omega arith

-- ---- the stop

-- no message is gone
pub stop_grows : (steps stop : Steps) (site : ℕ) (e : Event) (kept : Bool) (done : List Event) → taker steps.world.catalogue e steps.world.world ≡ Some site
    → HaveDone steps.world.catalogue done (stopped_world steps.world.catalogue kept site (moment_in steps.world.catalogue e steps.world.world)) stop
    → length steps.world.world.sent ≤ length stop.world.world.sent
stop_grows steps stop site e kept done takes did =
    let grows = place_grows steps.world.catalogue kept site e steps.world.world (taken_single steps.world.catalogue steps.world.world site e takes) in
    let same = ap (λ (k : Known). length k.world.sent) did.0 in
    omega (arith, grows, same)

-- what is left keeps its messages
pub raised_so : (steps stop : Steps) (left following : List Event) (before now : ℕ) → before ≡ length steps.world.world.sent → now ≡ length stop.world.world.sent → following ≡ map (raise_number (before + 1) (now - before)) left
    → following ≡ map (raise_number (length steps.world.world.sent + 1) (length stop.world.world.sent - length steps.world.world.sent)) left
raised_so steps stop left following before now first last is =
    is ∙ ap (λ n. map (raise_number (n + 1) (now - n)) left) first ∙ ap (λ n. map (raise_number (length steps.world.world.sent + 1) (n - length steps.world.world.sent)) left) last

-- ---- the whole

module _ (s : Schedule) (step : ℕ) (e : Event) (steps : Steps) (left : List Event) (h : AreBefore s step e steps left) (site : ℕ) (at : StoppedLog) (by : appender s.catalogue h.m ≡ Some site)
    (takes : taker steps.world.catalogue e steps.world.world ≡ Some site) where
  abbrev kept : Bool
  kept = at.kept

  abbrev c : Catalogue
  c = steps.world.catalogue

  abbrev w : WorldState
  w = steps.world.world

  pub c_is : c ≡ s.catalogue
  c_is = ap (λ (k : Known). k.catalogue) h.done.0

  w_is : w ≡ h.m.before
  w_is = ap (λ (k : Known). k.world) h.done.0

  -- the moment, but for its number
  its_moment : (P : Moment → Type 0) → ((number : ℕ) → P (moment number h.m.before e (next s.catalogue e h.m.before))) → P h.m
  its_moment P all =
      subst P (sym (moment_is s step h.m h.is))
      (subst (λ e. P (moment h.m.number h.m.before e (next s.catalogue e h.m.before))) (sym h.event_is) (all h.m.number))

  pub world_is : stopped_world c kept site (moment_in c e w) ≡ stopped_world s.catalogue kept site h.m
  world_is =
      its_moment (λ m. stopped_world c kept site (moment_in c e w) ≡ stopped_world s.catalogue kept site m)
      (λ number. ap (λ (k : Known). stopped_world k.catalogue kept site (moment_in k.catalogue e k.world)) h.done.0)

  abbrev In : Run
  In = run_in_place c kept site e w

  place_is : In ≡ in_place s step kept h.m site h.is
  place_is = ap (λ (k : Known). run_in_place k.catalogue kept site e k.world) h.done.0 ∙ ap (λ e. run_in_place s.catalogue kept site e h.m.before) (sym h.event_is)

  abbrev Whole : Run
  Whole = rest s step kept h.m site h.is

  -- a limit ends the stop
  stop_ended : (what : Counted) (limit : ℕ) → limit_in world_limits In.moments ≡ Some what → (t : Schedule) × (stopped step kept s ≡ Some t) × (limit_reached world_limits t ≡ Some what)
  stop_ended what limit some = (
    comes_to s step kept h.m site h.is,
    stopped_is s step kept h.m site h.is by,
    limit_is s step kept h.m site h.is h.none
        ∙ ap (λ (r : Run). option_or (limit_in world_limits r.moments) (limit_in world_limits Whole.moments)) (sym place_is)
        ∙ ap (λ o. option_or o (limit_in world_limits Whole.moments)) some,
  )

  pub stop_ends : (why : WorldEnd) (r : Result Stopped WorldEnd) → Ends {A = Steps} (limit_in world_limits In.moments) (Err why) → r ≡ Err why → GoesOn s step at r
  stop_ends (end.Limit what much) r ended is = rw is (ended.1, stop_ended what much ended.0)
  stop_ends end.NoMemory r ended is = rw is tt

  -- the stop is done
  module _ (stop : Steps) (following : List Event) (none : limit_in world_limits In.moments ≡ None) (done : HaveDone c (steps.done ++ stop_at kept site e) (stopped_world c kept site (moment_in c e w)) stop)
      (left_is : following ≡ map (raise_number (length w.sent + 1) (length stop.world.world.sent - length w.sent)) left) where
    stop_is : stop.world ≡ record { catalogue = s.catalogue; world = stopped_world s.catalogue kept site h.m }
    stop_is = done.0 ∙ ap (λ (c : Catalogue). record { catalogue = c; world = stopped_world steps.world.catalogue kept site (moment_in steps.world.catalogue e w) }) c_is
        ∙ ap (λ (v : WorldState). record { catalogue = s.catalogue; world = v }) world_is

    first_is : length w.sent + 1 ≡ first_lost h.m
    first_is = ap (λ (w : WorldState). length w.sent + 1) w_is

    count_is : length stop.world.world.sent - length w.sent ≡ count_lost kept h.m
    count_is =
        ap (λ (k : Known). length k.world.sent - length w.sent) done.0
        ∙ (place_sends c kept site e w (taken_single c w site e takes)).2
        ∙ its_moment (λ m. count_lost kept (moment_in c e w) ≡ count_lost kept m) (λ number. ap (λ (k : Known). count_lost kept (moment_in k.catalogue e k.world)) h.done.0)

    following_is : following ≡ map (raise_number (first_lost h.m) (count_lost kept h.m)) (follow s.events (take step (moments_of s)) h.m)
    following_is =
        left_is ∙ ap (λ first. map (raise_number first (length stop.world.world.sent - length w.sent)) left) first_is
        ∙ ap (λ count. map (raise_number (first_lost h.m) count) left) count_is
        ∙ ap (map (raise_number (first_lost h.m) (count_lost kept h.m))) h.left_is

    pub whole_is : run_from stop.world.catalogue 1 following (run_in stop.world.world) ≡ Whole
    whole_is =
        ap (λ (k : Known). run_from k.catalogue 1 following (run_in k.world)) stop_is
        ∙ ap (λ events. run_from s.catalogue 1 events (run_in (stopped_world s.catalogue kept site h.m))) following_is

    limit_then_is : limit_reached world_limits (comes_to s step kept h.m site h.is) ≡ limit_in world_limits Whole.moments
    limit_then_is =
        limit_is s step kept h.m site h.is h.none
        ∙ ap (λ (r : Run). option_or (limit_in world_limits r.moments) (limit_in world_limits Whole.moments)) (sym place_is)
        ∙ ap (λ o. option_or o (limit_in world_limits Whole.moments)) none

    -- a limit ends what follows
    rest_ended : (what : Counted) → limit_in world_limits (run_from stop.world.catalogue 1 following (run_in stop.world.world)).moments ≡ Some what
        → (t : Schedule) × (stopped step kept s ≡ Some t) × (limit_reached world_limits t ≡ Some what)
    rest_ended what some = (
      comes_to s step kept h.m site h.is,
      stopped_is s step kept h.m site h.is by,
      limit_then_is ∙ ap (λ (r : Run). limit_in world_limits r.moments) (sym whole_is) ∙ some,
    )

    pub rest_ends : (why : WorldEnd) (r : Result Stopped WorldEnd) → Ends {A = Steps} (limit_in world_limits (run_from stop.world.catalogue 1 following (run_in stop.world.world)).moments) (Err why) → r ≡ Err why → GoesOn s step at r
    rest_ends (end.Limit what much) r ended is = rw is (ended.1, rest_ended what ended.0)
    rest_ends end.NoMemory r ended is = rw is tt

    -- all is done
    pub rest_done : (ended : Steps) → HaveDone stop.world.catalogue (stop.done ++ singles (run_from stop.world.catalogue 1 following (run_in stop.world.world)).moments) (run_from stop.world.catalogue 1 following (run_in stop.world.world)).world ended
        → limit_in world_limits (run_from stop.world.catalogue 1 following (run_in stop.world.world)).moments ≡ None
        → (it : Stopped) → it.schedule.catalogue ≡ s.catalogue → it.schedule.events ≡ ended.done → it.commits ≡ ended.world.world.journal → it.log ≡ at.log → GoesOn s step at (Ok it)
    rest_done ended all within it catalogue_is events_are commits_are log_is =
        let events : it.schedule.events ≡ (comes_to s step kept h.m site h.is).events =
        events_are ∙ all.1 ∙ ap (λ (r : Run). stop.done ++ singles r.moments) whole_is
        ∙ ap (λ (d : List Event). d ++ singles Whole.moments) (done.1 ∙ ap (λ (d : List Event). d ++ stop_at kept site e) h.done.1 ∙ ap (λ e. singles (take (step - 1) (moments_of s)) ++ stop_at kept site e) (sym h.event_is))
        ∙ append_assoc (singles (take (step - 1) (moments_of s))) (stop_at kept site h.m.line.event) (singles Whole.moments) in
        let same : comes_to s step kept h.m site h.is ≡ it.schedule =
        ap (λ (c : Catalogue). record { catalogue = c; events = (comes_to s step kept h.m site h.is).events }) (sym catalogue_is)
        ∙ ap (λ (es : List Event). record { catalogue = it.schedule.catalogue; events = es }) (sym events) in (
          stopped_is s step kept h.m site h.is by ∙ ap Some same,
          ap (limit_reached world_limits) (sym same) ∙ limit_then_is ∙ ap (λ (r : Run). limit_in world_limits r.moments) (sym whole_is) ∙ within,
          commits_are ∙ ap (λ (k : Known). k.world.journal) all.0 ∙ ap (λ (r : Run). r.world.journal) whole_is ∙ journal_is s step kept h.m site h.is by ∙ ap journal_of same,
          log_is,
        )
