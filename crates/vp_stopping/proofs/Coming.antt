-- How a run comes to a step, moment by moment.
use Rattle.std.proofs.Common.{◌≡◌, ◌∙◌, ap, sym, subst, ℕ, zero, suc, ◌+◌, ◌-◌, ◌≤◌, ◌<◌, Bool, true, false, cond, List, [], ◌∷◌, ◌++◌, length, take, refl, arith, append_assoc}
use Rattle.std.specs.Prelude.{Option, Some, None, Result, Err, ◌==◌, slice_get}
use Rattle.std.specs.Option.{option_or}
use Rattle.std.specs.List.{AllByRecursion}
use Rattle.std.proofs.lemmas.Bool.Decides.{nat_tests}
use Rattle.std.proofs.lemmas.List.{map-append, length-append}
use Rattle.std.proofs.lemmas.Option.{slice_get_past}
use Rattle.vp_model.specs.Types.{Event, Counted}
use Rattle.vp_model.specs.Catalogue.{sites_of}
use Rattle.vp_model.specs.Limits.{world_limits, exceeded, limit_in, refused}
use Rattle.vp_model.specs.World.{WorldState, Run, Moment, Schedule, site_of, next, moment, moments_of, run_of, start_world}
use Rattle.vp_laws.specs.ShapeLaws.{IsEvent}
use Rattle.vp_laws.proofs.Lists.Members.{Has, has_first, has_left, has_right}
use Rattle.vp_runs.specs.Keeping.{durable_in}
use Rattle.vp_runs.specs.Kept.{kept_in}
use Rattle.vp_runs.proofs.Steps.{events_are}
use Rattle.vp_runs.specs.Stopped.{moment_of, follow, singles}
use Rattle.vp_world.specs.Known.{Known}
use Rattle.vp_world.specs.Limits.{Ends}
use Rattle.vp_world.specs.declared.end.WorldEnd.{WorldEnd}
use Rattle.vp_world.specs.declared.end.WorldEnd.TheVariants as end
use Rattle.vp_schedule.specs.Document.{IsSchedule}
use Rattle.vp_world.specs.Steps.{taker, DoesEvent, IsReady}
use Rattle.vp_playing.specs.Played.{StepsAll}
use Rattle.vp_playing.proofs.Seen.{sees_append}
use Rattle.vp_stopping.specs.declared.stopped.Steps.{Steps}
use Rattle.vp_stopping.specs.declared.stopped.Front.{Front}
use Rattle.vp_stopping.specs.Left.{next_single, left_then}
use Rattle.vp_cluster.specs.Nodes.{NodesValue, Begin, MayDo, Does}
use Rattle.vp_cluster.specs.Letters.{letter_of}
use Rattle.vp_cluster.specs.Clusters.{AreTied}
use Rattle.vp_cluster.specs.Ports.{LendsAt}
use Rattle.vp_stopping.specs.Singles.{HaveDone, IsBegun, IsBefore, ComesTo}
use Rattle.vp_cluster.proofs.Running.{events_formed}
use Rattle.vp_stopping.proofs.SingleLimits.{limit_append, limit_one}
use Rattle.vp_cluster.proofs.Tied.{facts, front_tied, front_folds, nodes_are_ready}
use Rattle.vp_stopping.proofs.TiedStops.{lent_now}
use Rattle.vp_stopping.proofs.Walking.{goes_grows, goes_over}
use Rattle.vp_stopping.proofs.Front.{Came, Next, came_first, came_goes, came_next}

-- so many moments came
pub record Comes (s : Schedule) (j : ℕ) (steps : Steps) (nodes : NodesValue) (left : List Event) : Type 0 where
  pub ms : List Moment
  pub length_is : length ms ≡ j
  pub w : WorldState
  pub done : HaveDone s.catalogue (singles ms) w steps
  pub came : Came s ms w left
  pub none : limit_in world_limits ms ≡ None
  pub begun : NodesValue
  pub begins : Begin s.catalogue begun
  pub nodes_are : StepsAll Does s.catalogue ms begun nodes

pub comes_first : (s : Schedule) (front : Front) → IsBegun s front → Comes s 0 front.steps front.nodes front.left
comes_first s front h = record {
  ms = [];
  length_is = refl;
  w = start_world s.catalogue;
  done = h.done;
  came = subst (Came s [] (start_world s.catalogue)) (sym h.left_is) (came_first s);
  none = refl;
  begun = front.nodes;
  begins = h.nodes;
  nodes_are = refl;
}

-- ---- indices in lists

within : {A : Type 0} (xs : List A) (x : A) (more : List A) (n : ℕ) → n ≡ length xs → slice_get ((xs ++ x ∷ []) ++ more) n ≡ Some x
within [] x more zero e = refl
within [] x more (suc n) e = absurd (omega (arith, e))
within (y ∷ xs) x more zero e = absurd (omega (arith, e))
within (y ∷ xs) x more (suc n) e = within xs x more n (omega (arith, e))

front_of : {A : Type 0} (xs more : List A) (n : ℕ) → n ≡ length xs → take n (xs ++ more) ≡ xs
front_of [] more zero e = refl
front_of [] more (suc n) e = absurd (omega (arith, e))
front_of (x ∷ xs) more zero e = absurd (omega (arith, e))
front_of (x ∷ xs) more (suc n) e = ap (λ rest. x ∷ rest) (front_of xs more n (omega (arith, e)))

longer_front : {A : Type 0} (xs more : List A) (n : ℕ) → length xs ≤ n → (rest : List A) × (take n (xs ++ more) ≡ xs ++ rest)
longer_front [] more n le = (take n more, refl)
longer_front (x ∷ xs) more zero le = absurd (omega (arith, le))
longer_front (x ∷ xs) more (suc n) le = let rest = longer_front xs more n (omega (arith, le)) in (rest.0, ap (λ front. x ∷ front) rest.1)

none_past : (step : ℕ) (ms : List Moment) → length ms < step → moment_of step ms ≡ None
none_past step ms lt = go (step == 0) refl
  where
    go : (b : Bool) → (step == 0) ≡ b → cond b None (slice_get ms (step - 1)) ≡ None
    go true e = refl
    go false e = slice_get_past ms (step - 1) (omega (arith, lt))

module _ (s : Schedule) (is : IsSchedule s) (j : ℕ) (steps : Steps) (nodes : NodesValue) (left : List Event) (h : Comes s j steps nodes left) where
  known : steps.world ≡ record { catalogue = s.catalogue; world = h.w }
  known = h.done.0

  -- there is no more
  module _ (over : next_single steps.world.world left ≡ None) where
    all_came : moments_of s ≡ h.ms
    all_came =
        let over_here = subst (λ (k : Known). next_single k.world left ≡ None) known over in
        ap (λ (r : Run). r.moments) (sym (goes_over s.catalogue (run_of s) h.ms h.w left (came_goes s h.ms h.w left h.came) over_here))

    pub comes_over : (step : ℕ) → j < step → (moment_of step (moments_of s) ≡ None) × (limit_in world_limits (moments_of s) ≡ None)
    comes_over step lt =
        let len = h.length_is in
        (ap (moment_of step) all_came ∙ none_past step h.ms (omega (arith, lt, len)), ap (limit_in world_limits) all_came ∙ h.none)

  -- the next step
  module _ (e : Event) (at : next_single steps.world.world left ≡ Some e) where
    abbrev v : WorldState
    v = (next s.catalogue e h.w).world

    here : next_single h.w left ≡ Some e
    here = subst (λ (k : Known). next_single k.world left ≡ Some e) known at

    it : Next s h.ms h.w left h.came e
    it = came_next s h.ms h.w left h.came e here

    abbrev m : Moment
    m = moment it.number h.w e (next s.catalogue e h.w)

    grows : (more : List Moment) × (moments_of s ≡ (h.ms ++ m ∷ []) ++ more)
    grows = goes_grows s.catalogue (run_of s) (h.ms ++ m ∷ []) v (left_then h.w left) (came_goes s (h.ms ++ m ∷ []) v (left_then h.w left) it.came)

    formed : AllByRecursion IsEvent s.events
    formed = events_formed (sites_of s.catalogue) s.events is.events_are

    has_it : Has (moments_of s) m
    has_it = subst (λ ms. Has ms m) (sym grows.1) (has_left (h.ms ++ m ∷ []) grows.0 m (has_right h.ms (m ∷ []) m (has_first m [])))

    moments_are : moments_of s ≡ h.ms ++ m ∷ grows.0
    moments_are = grows.1 ∙ append_assoc h.ms (m ∷ []) grows.0

    pub comes_formed : IsEvent e
    comes_formed = events_are s.catalogue s.events formed m has_it

    -- the nodes may do it
    pub comes_ready : IsReady MayDo steps.world.catalogue e steps.world.world nodes
    comes_ready =
        subst (λ (k : Known). IsReady MayDo k.catalogue e k.world nodes) (sym known)
        (nodes_are_ready s is.catalogue_is formed h.begun h.begins h.ms grows.0 m nodes moments_are h.nodes_are)

    -- it is done
    pub comes_on : (after : Steps) (now : NodesValue) (following : List Event)
        → HaveDone steps.world.catalogue (steps.done ++ e ∷ []) (next steps.world.catalogue e steps.world.world).world after → exceeded world_limits (next steps.world.catalogue e steps.world.world).world ≡ None
        → DoesEvent Does steps.world.catalogue e steps.world.world nodes now → following ≡ left_then steps.world.world left → Comes s (j + 1) after now following
    comes_on after now following done none does left_is =
        let k = known in
        let none_here : exceeded world_limits v ≡ None = subst (λ (k : Known). exceeded world_limits (next k.catalogue e k.world).world ≡ None) k none in
        record {
          ms = h.ms ++ m ∷ [];
          length_is = length-append h.ms (m ∷ []) ∙ ap (λ n. n + 1) h.length_is;
          w = v;
          done = (
            done.0 ∙ ap (λ (k : Known). record { catalogue = k.catalogue; world = (next k.catalogue e k.world).world }) k,
            done.1 ∙ ap (λ (d : List Event). d ++ e ∷ []) h.done.1 ∙ sym (map-append (λ (m : Moment). m.line.event) h.ms (m ∷ [])),
          );
          came = subst (Came s (h.ms ++ m ∷ []) v) (sym (left_is ∙ ap (λ (k : Known). left_then k.world left) k)) it.came;
          none = limit_append h.ms (m ∷ []) ∙ ap (λ o. option_or o (limit_in world_limits (m ∷ []))) h.none ∙ limit_one m ∙ none_here;
          begun = h.begun;
          begins = h.begins;
          nodes_are =
              sees_append (λ (m : Moment). DoesEvent Does s.catalogue m.line.event m.before) h.ms (m ∷ []) h.begun nodes now h.nodes_are
              (now, subst (λ (k : Known). DoesEvent Does k.catalogue e k.world nodes now) k does, refl);
        }

    -- a limit ends it
    comes_ended : (step : ℕ) (what : Counted) → j + 1 < step → exceeded world_limits (next steps.world.catalogue e steps.world.world).world ≡ Some what → limit_in world_limits (take (step - 1) (moments_of s)) ≡ Some what
    comes_ended step what lt some =
        let len : length (h.ms ++ m ∷ []) ≡ j + 1 = length-append h.ms (m ∷ []) ∙ ap (λ n. n + 1) h.length_is in
        let front = longer_front (h.ms ++ m ∷ []) grows.0 (step - 1) (omega (arith, lt, len)) in
        let some_here : exceeded world_limits v ≡ Some what = subst (λ (k : Known). exceeded world_limits (next k.catalogue e k.world).world ≡ Some what) known some in
        ap (λ ms. limit_in world_limits (take (step - 1) ms)) grows.1 ∙ ap (limit_in world_limits) front.1
        ∙ limit_append (h.ms ++ m ∷ []) front.0
        ∙ ap (λ o. option_or o (limit_in world_limits front.0)) (limit_append h.ms (m ∷ []) ∙ ap (λ o. option_or o (limit_in world_limits (m ∷ []))) h.none ∙ limit_one m ∙ some_here)

    pub comes_ends : (step : ℕ) (why : WorldEnd) (r : Result (Option (Front × Event)) WorldEnd) → j + 1 < step → Ends {A = Front} (refused world_limits steps.world.catalogue e steps.world.world) (Err why) → r ≡ Err why → ComesTo s step r
    comes_ends step (end.Limit what much) r lt ended is = rw is (ended.1, comes_ended step what lt ended.0)
    comes_ends step end.NoMemory r lt ended is = rw is tt

    -- it is the step that was asked for
    pub comes_before : (step : ℕ) → step ≡ j + 1 → (front : Front) → front.steps ≡ steps → front.nodes ≡ nodes → front.left ≡ left_then steps.world.world left → IsBefore s step front e
    comes_before step step_is front steps_are nodes_are left_is =
        let len = h.length_is in
        let some : (step == 0) ≡ false = grind (arith, nat_tests, step_is) in
        let less : step - 1 ≡ length h.ms = omega (arith, step_is, len) in
        let front_is : take (step - 1) (moments_of s) ≡ h.ms = ap (take (step - 1)) moments_are ∙ front_of h.ms (m ∷ [] ++ grows.0) (step - 1) less in
        let longer : length (h.ms ++ m ∷ []) ≡ j + 1 = length-append h.ms (m ∷ []) ∙ ap (λ n. n + 1) h.length_is in
        let up_to : take step (moments_of s) ≡ h.ms ++ m ∷ [] = ap (take step) grows.1 ∙ front_of (h.ms ++ m ∷ []) grows.0 step (step_is ∙ sym longer) in
        let at_it : moment_of step (moments_of s) ≡ Some m = ap (λ b. cond b None (slice_get (moments_of s) (step - 1))) some ∙ ap (λ ms. slice_get ms (step - 1)) grows.1 ∙ within h.ms m grows.0 (step - 1) less in
        let following : left_then steps.world.world left ≡ left_then h.w left = ap (λ (k : Known). left_then k.world left) known in
        let tied_here = front_tied s is.catalogue_is formed h.ms (m ∷ grows.0) moments_are h.w h.begun nodes h.begins h.came.along h.nodes_are in
        let folds_here = front_folds s is.catalogue_is formed h.ms (m ∷ grows.0) moments_are h.w h.begun nodes h.begins h.came.along h.nodes_are in
        record {
          before = record {
            m = m;
            is = at_it;
            event_is = refl;
            done = subst (HaveDone s.catalogue (singles (take (step - 1) (moments_of s))) h.w) (sym steps_are) (subst (λ ms. HaveDone s.catalogue (singles ms) h.w steps) (sym front_is) h.done);
            left_is = left_is ∙ following ∙ it.left_is ∙ ap (λ ms. follow s.events ms m) (sym up_to);
            none = ap (limit_in world_limits) front_is ∙ h.none;
          };
          formed = comes_formed;
          tied =
              subst (λ (n : NodesValue). AreTied s.catalogue (take (step - 1) (moments_of s)) h.w n) (sym nodes_are)
              (subst (λ ms. AreTied s.catalogue ms h.w nodes) (sym front_is)
              tied_here);
          folds = λ id place at.
              subst (λ ms. durable_in s.catalogue id (kept_in s.catalogue id ms) ≡ place.durable) (sym front_is)
              (folds_here id place at ((facts s is.catalogue_is formed m has_it).views.known id place at));
          may_stop = λ id site takes up letter at.
              subst (λ (n : NodesValue). LendsAt n.catalogue site letter.to n.hosts) (sym nodes_are)
              (lent_now s.catalogue is.catalogue_is m h.ms nodes (facts s is.catalogue_is formed m has_it) tied_here
              folds_here
              id site
              (sym (ap (λ (steps : Steps). taker steps.world.catalogue e steps.world.world) steps_are ∙ ap (λ (k : Known). taker k.catalogue e k.world) known) ∙ takes)
              (sym (ap (λ (steps : Steps). site_of steps.world.world id) steps_are ∙ ap (λ (k : Known). site_of k.world id) known) ∙ up)
              letter (sym (ap (λ (n : NodesValue). letter_of n.catalogue n.letters e) nodes_are) ∙ at));
        }
