-- What the stepper has done of a run, and what it is ready for.
use Rattle.std.proofs.Common.{◌≡◌, ◌∙◌, ap, sym, subst, ℕ, suc, ◌+◌, ◌<◌, false, List, [], ◌∷◌, ◌++◌, refl, arith, length, drop, append_assoc}
use Rattle.std.specs.Prelude.{⊤, Ok, Option, Some, None, IfSome, get_or}
use Rattle.std.specs.List.{list_any}
use Rattle.vp_model.specs.Types.{Event, Line}
use Rattle.vp_model.specs.Types.event
use Rattle.vp_model.specs.Catalogue.{Catalogue}
use Rattle.vp_model.specs.Limits.{world_limits, is_over}
use Rattle.vp_model.specs.World.{WorldState, Moment, Run, Schedule, flowing, one_step, flow, one_event, run_from, run_of, start_run, start_world, moments_of}
use Rattle.vp_world.specs.Known.{Known}
use Rattle.vp_world.specs.Asked.{Asked}
use Rattle.vp_world.specs.Steps.{asked_of, DoesEvent, IsReady}
use Rattle.vp_playing.specs.Played.{run_in, lines_in, Sees, SeesAll, StepsAll, IsReadyFor}
use Rattle.vp_playing.proofs.Seen.{sees_append}
use Rattle.vp_playing.proofs.Turns.{following, event_after, run_grows, next_first, all_dropped, Flowing, flow_starts, flow_starts_run, flow_stops, flow_is_over, flow_turns, flow_turns_run, whole_moments}

-- ---- parts of a run

one_step_of : (catalogue : Catalogue) (n : ℕ) (e : Event) (run : Run) → ((count : ℕ) → e ≡ event.Flow count → ⊥) → one_event catalogue n e run ≡ one_step catalogue n e run
unfolding one_event
one_step_of catalogue n (event.Flow count) run none = absurd (none count refl)
one_step_of catalogue n e run none = refl

module _ {S : Type 0} (may : Catalogue → Asked → S → Type 0) (did : Asked → S → S → Type 0) (catalogue : Catalogue) where
  -- a stepper that is ready for some moments is ready for any part of them, once it has done those before
  pub part_is_ready : (xs ys rest ms : List Moment) (old mid : S) → ms ≡ (xs ++ ys) ++ rest → StepsAll did catalogue xs old mid → IsReadyFor may did catalogue ms old → IsReadyFor may did catalogue ys mid
  part_is_ready xs ys rest ms old mid e so_far ready before more m now is steps =
      ready (xs ++ before) (more ++ rest) m now
      (e ∙ ap (λ (zs : List Moment). (xs ++ zs) ++ rest) is ∙ append_assoc xs (before ++ m ∷ more) rest ∙ ap (λ (zs : List Moment). xs ++ zs) (append_assoc before (m ∷ more) rest) ∙ sym (append_assoc xs before (m ∷ (more ++ rest))))
      (sees_append (λ (m : Moment). DoesEvent did catalogue m.line.event m.before) xs before old mid now so_far steps)

  pub step_is_ready : (n : ℕ) (e : Event) (w : WorldState) (s : S) → IsReadyFor may did catalogue (one_step catalogue n e (run_in w)).moments s → IsReady may catalogue e w s
  unfolding one_step
  step_is_ready n e w s ready = ready [] [] _ s refl refl

  pub flow_is_ready : (n count : ℕ) (e : Event) (w : WorldState) (s : S) → e ≡ event.Flow count → IsReadyFor may did catalogue (one_event catalogue n e (run_in w)).moments s → IsReadyFor may did catalogue (flow catalogue n count (run_in w)).moments s
  unfolding one_event
  flow_is_ready n count e w s is ready = subst (λ (x : Event). IsReadyFor may did catalogue (one_event catalogue n x (run_in w)).moments s) is ready

  pub other_is_ready : (n : ℕ) (e : Event) (w : WorldState) (s : S) → ((count : ℕ) → e ≡ event.Flow count → ⊥) → IsReadyFor may did catalogue (one_event catalogue n e (run_in w)).moments s → IsReady may catalogue e w s
  other_is_ready n e w s none ready =
      step_is_ready n e w s (subst (λ (run : Run). IsReadyFor may did catalogue run.moments s) (one_step_of catalogue n e (run_in w) none) ready)

-- a stepper that may be asked for all is ready for any moments
pub always_ready : {S : Type 0} (did : Asked → S → S → Type 0) (catalogue : Catalogue) (moments : List Moment) (s : S) → IsReadyFor (λ _ _ _. ⊤) did catalogue moments s
always_ready did catalogue moments s before rest m now is done = anything (asked_of catalogue m.line.event m.before)
  where
    anything : (o : Option Asked) → IfSome o (λ _. ⊤)
    anything None = tt
    anything (Some a) = tt

-- ---- one step

pub step_did : {S : Type 0} (did : Asked → S → S → Type 0) (catalogue : Catalogue) (n : ℕ) (e : Event) (w : WorldState) (old new : S) → DoesEvent did catalogue e w old new → StepsAll did catalogue (one_step catalogue n e (run_in w)).moments old new
unfolding one_step
step_did did catalogue n e w old new done = (new, done, refl)

-- ---- a flow

-- nothing is seen of any line
abbrev pub unseen : Catalogue → ℕ × Line → Unit {0} → Unit {0} → Type 0
unseen catalogue line old new = Unit {0}

all_unseen : (catalogue : Catalogue) (lines : List (ℕ × Line)) → SeesAll (unseen catalogue) lines tt tt
all_unseen catalogue [] = refl
all_unseen catalogue (line ∷ lines) = (tt, tt, all_unseen catalogue lines)

-- the steps of the first i deliveries of a flow in the world w are done
pub record Delivering {S : Type 0} (did : Asked → S → S → Type 0) (catalogue : Catalogue) (n count : ℕ) (w : WorldState) (i : ℕ) (now : WorldState) (old new : S) : Type 0 where
  pub at : Flowing unseen catalogue n count w i now tt tt
  pub done : StepsAll did catalogue at.run.moments old new

pub delivering_starts : {S : Type 0} (did : Asked → S → S → Type 0) (catalogue : Catalogue) (n count : ℕ) (w : WorldState) (old : S) → Delivering did catalogue n count w 0 w old old
delivering_starts did catalogue n count w old = record {
  at = flow_starts unseen catalogue n count w tt;
  done = subst (λ (run : Run). StepsAll did catalogue run.moments old old) (sym (flow_starts_run unseen catalogue n count w tt)) refl;
}

module _ {S : Type 0} (did : Asked → S → S → Type 0) (catalogue : Catalogue) (n count : ℕ) (w : WorldState) (i : ℕ) (known : Known) (old new : S) (same : known.catalogue ≡ catalogue) (so_far : Delivering did catalogue n count w i known.world old new) where
  pub flow_did : flow catalogue n count (run_in w) ≡ so_far.at.run → StepsAll did catalogue (flow catalogue n count (run_in w)).moments old new
  flow_did e = subst (λ (run : Run). StepsAll did catalogue run.moments old new) (sym e) so_far.done

  -- it stops where no message may be delivered, or all are delivered
  pub flow_stopped : i < count → flowing known.world ≡ None → StepsAll did catalogue (flow catalogue n count (run_in w)).moments old new
  flow_stopped lt none = flow_did (flow_stops unseen catalogue n count w i known.world tt tt so_far.at lt none)

  pub flow_ended : count ≡ i → StepsAll did catalogue (flow catalogue n count (run_in w)).moments old new
  flow_ended e = flow_did (flow_is_over unseen catalogue n count w i known.world tt tt so_far.at e)

  -- the next delivery
  module _ (k : ℕ) (lt : i < count) (some : flowing known.world ≡ Some k) where
    abbrev delivered : Run
    delivered = one_step catalogue n (event.Deliver k) (run_in known.world)

    pub delivery_is_ready : (may : Catalogue → Asked → S → Type 0) → IsReadyFor may did catalogue (flow catalogue n count (run_in w)).moments old → IsReady may known.catalogue (event.Deliver k) known.world new
    delivery_is_ready may ready =
        let whole = whole_moments unseen catalogue n count w i known.world tt tt so_far.at k lt some in
        subst (λ c. IsReady may c (event.Deliver k) known.world new) (sym same)
        (step_is_ready may did catalogue n (event.Deliver k) known.world new
        (part_is_ready may did catalogue so_far.at.run.moments delivered.moments whole.0 (flow catalogue n count (run_in w)).moments old new whole.1 so_far.done ready))

    delivered_once : list_any (is_over world_limits) delivered.moments ≡ false → (now : S) → StepsAll did catalogue delivered.moments new now → Delivering did catalogue n count w (suc i) delivered.world old now
    delivered_once none now done =
        let shown = all_unseen catalogue (lines_in delivered.moments) in
        record {
          at = flow_turns unseen catalogue n count w i known.world tt tt so_far.at k lt some tt none shown;
          done =
              subst (λ (run : Run). StepsAll did catalogue run.moments old now) (sym (flow_turns_run unseen catalogue n count w i known.world tt tt so_far.at k lt some tt none shown))
              (sees_append (λ (m : Moment). DoesEvent did catalogue m.line.event m.before) so_far.at.run.moments delivered.moments old new now so_far.done done);
        }

    pub delivery_did : {T : Type 0} (sees begins : Catalogue → ℕ × Line → T → T → Type 0) (own : List (ℕ × Line)) (after : Known) (before seen : T) (now : S) → Sees sees begins known.catalogue own (one_step known.catalogue n (event.Deliver k) (run_in known.world)) (Ok after) before seen
        → StepsAll did known.catalogue (one_step known.catalogue n (event.Deliver k) (run_in known.world)).moments new now → Delivering did catalogue n count w (i + 1) after.world old now
    delivery_did sees begins own after before seen now h done =
        let played : one_step known.catalogue n (event.Deliver k) (run_in known.world) ≡ delivered = ap (λ c. one_step c n (event.Deliver k) (run_in known.world)) same in
        let turn = delivered_once (subst (λ (run : Run). list_any (is_over world_limits) run.moments ≡ false) played h.0) now (subst (λ (run : Run). StepsAll did catalogue run.moments new now) played (subst (λ c. StepsAll did c (one_step known.catalogue n (event.Deliver k) (run_in known.world)).moments new now) same done)) in
        subst (λ j. Delivering did catalogue n count w j after.world old now) (next_is i)
        (subst (λ (v : WorldState). Delivering did catalogue n count w (suc i) v old now) (sym (ap (λ (a : Known). a.world) h.1 ∙ ap (λ (run : Run). run.world) played)) turn)
      where
        next_is : (i : ℕ) → suc i ≡ i + 1
        next_is i = omega arith

-- ---- a schedule, event by event

-- the steps of the first i events of the schedule are done
pub record Stepping {S : Type 0} (did : Asked → S → S → Type 0) (s : Schedule) (i : ℕ) (now : WorldState) (old new : S) : Type 0 where
  pub run : Run
  pub world : now ≡ run.world
  pub ahead : run_from s.catalogue (i + 1) (drop i s.events) run ≡ run_of s
  pub done : StepsAll did s.catalogue run.moments old new

pub stepping_starts : {S : Type 0} (did : Asked → S → S → Type 0) (s : Schedule) (now : WorldState) (old : S) → now ≡ start_world s.catalogue → Stepping did s 0 now old old
unfolding run_of
stepping_starts did s now old e = record { run = start_run s.catalogue; world = e; ahead = refl; done = refl }

pub stepping_ends : {S : Type 0} (did : Asked → S → S → Type 0) (s : Schedule) (i : ℕ) (now : WorldState) (old new : S) → Stepping did s i now old new → i ≡ length s.events → StepsAll did s.catalogue (moments_of s) old new
unfolding run_from
stepping_ends did s i now old new p e =
    let last : p.run ≡ run_of s = subst (λ (es : List Event). run_from s.catalogue (i + 1) es p.run ≡ run_of s) (all_dropped s.events i e) p.ahead in
    subst (λ (run : Run). StepsAll did s.catalogue run.moments old new) last p.done

module _ {S : Type 0} (did : Asked → S → S → Type 0) (s : Schedule) (i number : ℕ) (known : Known) (old new : S) (same : known.catalogue ≡ s.catalogue) (counted : number ≡ i) (p : Stepping did s i known.world old new) (x : Event) (lt : i < length s.events) (at : x ≡ get_or s.events i x) where
  -- the steps of the next event, and the run with them
  abbrev pub added : Run
  added = one_event s.catalogue (i + 1) x (run_in known.world)

  after_is : one_event s.catalogue (i + 1) x p.run ≡ following p.run.moments added
  after_is = event_after s.catalogue (i + 1) x p.run ∙ ap (λ w. following p.run.moments (one_event s.catalogue (i + 1) x (run_in w))) (sym p.world)

  ahead_after : run_from s.catalogue (i + 1 + 1) (drop (suc i) s.events) (following p.run.moments added) ≡ run_of s
  unfolding run_from
  ahead_after =
      ap (run_from s.catalogue (i + 1 + 1) (drop (suc i) s.events)) (sym after_is)
      ∙ subst (λ (es : List Event). run_from s.catalogue (i + 1) es p.run ≡ run_of s) (next_first s.events i x lt at) p.ahead

  -- the event as it is played
  abbrev pub played : Run
  played = one_event known.catalogue (number + 1) x (run_in known.world)

  played_is : played ≡ added
  played_is = ap (λ c. one_event c (number + 1) x (run_in known.world)) same ∙ ap (λ j. one_event s.catalogue (j + 1) x (run_in known.world)) counted

  pub event_is_ready : (may : Catalogue → Asked → S → Type 0) → IsReadyFor may did s.catalogue (moments_of s) old → IsReadyFor may did known.catalogue played.moments new
  event_is_ready may ready =
      let more = run_grows s.catalogue (i + 1 + 1) (drop (suc i) s.events) (following p.run.moments added) in
      subst (λ c. IsReadyFor may did c played.moments new) (sym same)
      (subst (λ (run : Run). IsReadyFor may did s.catalogue run.moments new) (sym played_is)
      (part_is_ready may did s.catalogue p.run.moments added.moments more.0 (moments_of s) old new (ap (λ (run : Run). run.moments) (sym ahead_after) ∙ more.1) p.done ready))

  pub event_did : {T : Type 0} (sees begins : Catalogue → ℕ × Line → T → T → Type 0) (own : List (ℕ × Line)) (after : Known) (unseen seen : T) (now : S) → Sees sees begins known.catalogue own played (Ok after) unseen seen → StepsAll did known.catalogue played.moments new now → Stepping did s (i + 1) after.world old now
  event_did sees begins own after unseen seen now h done = record {
    run = following p.run.moments added;
    world = ap (λ (a : Known). a.world) h.1 ∙ ap (λ (run : Run). run.world) played_is;
    ahead = subst (λ j. run_from s.catalogue (i + 1 + 1) (drop j s.events) (following p.run.moments added) ≡ run_of s) (next_is i) ahead_after;
    done = sees_append (λ (m : Moment). DoesEvent did s.catalogue m.line.event m.before) p.run.moments added.moments old new now p.done (subst (λ (run : Run). StepsAll did s.catalogue run.moments new now) played_is (subst (λ c. StepsAll did c played.moments new now) same done));
  }
    where
      next_is : (i : ℕ) → suc i ≡ i + 1
      next_is i = omega arith
