-- How a drawing goes on, step by step.
use Rattle.std.proofs.Common.{◌≡◌, ◌∙◌, ℕ, zero, suc, ◌+◌, ◌<◌, List, [], ◌∷◌, length, refl, sym, ap, subst, arith}
use Rattle.std.specs.Prelude.{◌-◌, get_or, drop, Some, None, Result, Ok, Err}
use Rattle.vp_model.specs.Types.{Event}
use Rattle.vp_model.specs.Types.event
use Rattle.vp_model.specs.Catalogue.{Catalogue}
use Rattle.vp_model.specs.Limits.{limit_in}
use Rattle.vp_model.specs.World.{Moment, Run, Schedule, flow, flowing, moment, next, one_event, one_step, run_from, run_of, start_run, start_world}
use Rattle.vp_pictures.specs.Heads.{head}
use Rattle.vp_pictures.specs.declared.sheet.Part.{Part}
use Rattle.vp_pictures.specs.declared.sheet.Sheet.{Sheet}
use Rattle.vp_world.specs.Known.{Known}
use Rattle.vp_drawing.specs.Drawings.{Draws, DrawsMoment, DrawsSchedule, IsDrawing, IsSoFar}
use Rattle.vp_drawing.specs.Limits.{picture_limits}
use Rattle.vp_drawing.specs.Moments.{blank, draw_moment, draw_moments}
use Rattle.vp_drawing.specs.declared.drawing.Drawing.{Drawing}
use Rattle.vp_drawing.specs.declared.end.DrawingEnd.{DrawingEnd}
use Rattle.vp_drawing.specs.declared.end.DrawingEnd.TheVariants as end
use Rattle.vp_drawing.proofs.Running.{drawn_more, flow_limited, limit_at, none_reached, run_limited, within_more}

-- the world where the drawing goes on is that of the same catalogue
pub same_catalogue : (catalogue : Catalogue) (m : Moment) (known : Known) (old new : Drawing) → DrawsMoment catalogue m (Ok known) old new → known.catalogue ≡ catalogue
same_catalogue catalogue m known old new draws = ap (λ (k : Known). k.catalogue) draws.1

-- one step more
pub step_draws : (catalogue : Catalogue) (n : ℕ) (e : Event) (run : Run) (base : Sheet) (known : Known) (result : Result Known DrawingEnd) (old new : Drawing)
    → IsSoFar catalogue run base known old → DrawsMoment known.catalogue (moment n known.world e (next known.catalogue e known.world)) result old new → Draws catalogue (one_step catalogue n e run) base result new
unfolding one_step
step_draws catalogue n e run base known (Err end.NoMemory) old new so_far draws = tt
step_draws catalogue n e run base known (Err (end.Limit what)) old new so_far draws =
    let m = moment n run.world e (next catalogue e run.world) in
    limit_at run.moments m what so_far.within (rw so_far.known_is at draws)
step_draws catalogue n e run base known (Ok after) old new so_far draws =
    let m = moment n run.world e (next catalogue e run.world) in
    let done : DrawsMoment catalogue m (Ok after) old new = rw so_far.known_is at draws in
    record {
      known_is = done.1;
      within = within_more run.moments m so_far.within done.0;
      is = done.2;
      sheet_is = done.3 ∙ ap (draw_moment catalogue m) so_far.sheet_is ∙ sym (drawn_more catalogue run.moments m base);
    }

-- an event that is no flow is one step
pub one_step_of : (catalogue : Catalogue) (n : ℕ) (e : Event) (run : Run) → ((count : ℕ) → e ≡ event.Flow count → ⊥) → one_event catalogue n e run ≡ one_step catalogue n e run
unfolding one_event
one_step_of catalogue n (event.Flow count) run none = absurd (none count refl)
one_step_of catalogue n e run none = refl

-- ---- a flow, delivery by delivery

next_is : (i : ℕ) → suc i ≡ i + 1
next_is i = omega arith

flow_none : (catalogue : Catalogue) (n : ℕ) (run : Run) → flow catalogue n 0 run ≡ run
unfolding flow
flow_none catalogue n run = refl

flow_stopped : (catalogue : Catalogue) (n left : ℕ) (run : Run) → flowing run.world ≡ None → flow catalogue n (suc left) run ≡ run
unfolding flow
flow_stopped catalogue n left run none = rw none refl

flow_next : (catalogue : Catalogue) (n left k : ℕ) (run : Run) → flowing run.world ≡ Some k → flow catalogue n (suc left) run ≡ flow catalogue n left (one_step catalogue n (event.Deliver k) run)
unfolding flow
flow_next catalogue n left k run some = rw some refl

-- i deliveries of a flow are drawn, whatever was drawn before it
pub record Flowing (n count : ℕ) (begun : Known) (old : Drawing) (i : ℕ) (now : Known) (new : Drawing) : Type 0 where
  pub same : now.catalogue ≡ begun.catalogue
  pub is : IsDrawing now new
  pub so_far : (run : Run) (base : Sheet) → IsSoFar begun.catalogue run base begun old
      → (after : Run) × IsSoFar begun.catalogue after base now new × (flow begun.catalogue n (count - i) after ≡ flow begun.catalogue n count run)

module _ (n count : ℕ) (begun : Known) (old : Drawing) where
  pub flow_begins : IsDrawing begun old → Flowing n count begun old 0 begun old
  flow_begins is = record { same = refl; is = is; so_far = λ run base so_far. (run, so_far, ap (λ k. flow begun.catalogue n k run) (all_left count)) }
    where
      all_left : (count : ℕ) → count - 0 ≡ count
      all_left count = omega arith

  one_less : (i : ℕ) → i < count → count - i ≡ suc (count - suc i)
  one_less i lt = omega (arith, lt)

  module _ (i : ℕ) (now : Known) (new : Drawing) (h : Flowing n count begun old i now new) (run : Run) (base : Sheet) (so_far : IsSoFar begun.catalogue run base begun old) where
    -- no message may be delivered
    pub flow_stops : i < count → flowing now.world ≡ None → Draws begun.catalogue (flow begun.catalogue n count run) base (Ok now) new
    flow_stops lt none =
        let here = h.so_far run base so_far in
        let ends : flow begun.catalogue n count run ≡ here.0 = sym here.2 ∙ ap (λ k. flow begun.catalogue n k here.0) (one_less i lt) ∙ flow_stopped begun.catalogue n (count - suc i) here.0 (rw here.1.known_is at none) in
        rw ends here.1

    -- all are done
    pub flow_is_over : count ≡ i → Draws begun.catalogue (flow begun.catalogue n count run) base (Ok now) new
    flow_is_over e =
        let here = h.so_far run base so_far in
        let ends : flow begun.catalogue n count run ≡ here.0 = sym here.2 ∙ ap (λ k. flow begun.catalogue n k here.0) (none_left count i e) ∙ flow_none begun.catalogue n here.0 in
        rw ends here.1
      where
        none_left : (count i : ℕ) → count ≡ i → count - i ≡ 0
        none_left count i e = omega (arith, e)

  module _ (i : ℕ) (now : Known) (new : Drawing) (h : Flowing n count begun old i now new) (lt : i < count) (k : ℕ) (some : flowing now.world ≡ Some k) where
    -- a limit ends it
    pub flow_ends : (why : DrawingEnd) (later : Drawing) → DrawsMoment now.catalogue (moment n now.world (event.Deliver k) (next now.catalogue (event.Deliver k) now.world)) (Err why) new later
        → (run : Run) (base : Sheet) → IsSoFar begun.catalogue run base begun old → Draws begun.catalogue (flow begun.catalogue n count run) base (Err why) later
    flow_ends end.NoMemory later draws run base so_far = tt
    flow_ends (end.Limit what) later draws run base so_far =
        let here = h.so_far run base so_far in
        let step = step_draws begun.catalogue n (event.Deliver k) here.0 base now (Err (end.Limit what)) new later here.1 draws in
        let rest : flow begun.catalogue n (count - suc i) (one_step begun.catalogue n (event.Deliver k) here.0) ≡ flow begun.catalogue n count run =
        sym (flow_next begun.catalogue n (count - suc i) k here.0 (rw here.1.known_is at some)) ∙ ap (λ k. flow begun.catalogue n k here.0) (sym (one_less i lt)) ∙ here.2 in
        rw (← rest) (flow_limited begun.catalogue n (count - suc i) (one_step begun.catalogue n (event.Deliver k) here.0) what step)

    flow_turned : (later : Known) (after : Drawing) → DrawsMoment now.catalogue (moment n now.world (event.Deliver k) (next now.catalogue (event.Deliver k) now.world)) (Ok later) new after → Flowing n count begun old (suc i) later after
    flow_turned later after draws = record {
      same = ap (λ (k : Known). k.catalogue) draws.1 ∙ h.same;
      is = draws.2;
      so_far = λ run base so_far.
          let here = h.so_far run base so_far in (
            one_step begun.catalogue n (event.Deliver k) here.0,
            step_draws begun.catalogue n (event.Deliver k) here.0 base now (Ok later) new after here.1 draws,
            sym (flow_next begun.catalogue n (count - suc i) k here.0 (rw here.1.known_is at some)) ∙ ap (λ k. flow begun.catalogue n k here.0) (sym (one_less i lt)) ∙ here.2,
          );
    }

    pub flow_turns : (later : Known) (after : Drawing) → DrawsMoment now.catalogue (moment n now.world (event.Deliver k) (next now.catalogue (event.Deliver k) now.world)) (Ok later) new after → Flowing n count begun old (i + 1) later after
    flow_turns later after draws = subst (λ j. Flowing n count begun old j later after) (next_is i) (flow_turned later after draws)

-- ---- a schedule, event by event

-- nothing is said where memory runs out
pub draws_nothing : (s : Schedule) (part : Part) (result : Result Sheet DrawingEnd) → result ≡ Err end.NoMemory → DrawsSchedule s part result
draws_nothing s part result e = rw e tt

-- i events are drawn, and the rest comes
pub record Playing (s : Schedule) (part : Part) (i : ℕ) (now : Known) (d : Drawing) : Type 0 where
  pub run : Run
  pub so_far : IsSoFar s.catalogue run (head s.catalogue (blank part)) now d
  pub ahead : run_from s.catalogue (i + 1) (drop i s.events) run ≡ run_of s

all_dropped : (es : List Event) (i : ℕ) → i ≡ length es → drop i es ≡ []
all_dropped [] zero e = refl
all_dropped [] (suc i) e = refl
all_dropped (x ∷ es) zero e = absurd (omega (arith, e))
all_dropped (x ∷ es) (suc i) e = all_dropped es i (omega (arith, e))

next_first : (es : List Event) (i : ℕ) (x : Event) → i < length es → x ≡ get_or es i x → drop i es ≡ x ∷ drop (suc i) es
next_first [] i x lt e = absurd (omega (arith, lt))
next_first (y ∷ es) zero x lt e = ap (λ (z : Event). z ∷ es) (sym e)
next_first (y ∷ es) (suc i) x lt e = next_first es i x (omega (arith, lt)) e

module _ (s : Schedule) (part : Part) where
  pub play_begins : (now : Known) (d : Drawing) → IsDrawing (record { catalogue = s.catalogue; world = start_world s.catalogue }) d → d.sheet ≡ head s.catalogue (blank part) → now ≡ record { catalogue = s.catalogue; world = start_world s.catalogue } → Playing s part 0 now d
  unfolding run_of
  play_begins now d is sheet e = record { run = start_run s.catalogue; so_far = record { known_is = e; within = refl; is = rw e is; sheet_is = sheet }; ahead = refl }

  module _ (i : ℕ) (now : Known) (d : Drawing) (h : Playing s part i now d) where
    -- all events are drawn
    pub play_is_over : i ≡ length s.events → DrawsSchedule s part (Ok d.sheet)
    unfolding run_from
    play_is_over e =
        let whole : h.run ≡ run_of s = subst (λ (es : List Event). run_from s.catalogue (i + 1) es h.run ≡ run_of s) (all_dropped s.events i e) h.ahead in (
          subst (λ (r : Run). limit_in picture_limits r.moments ≡ None) whole (none_reached h.run.moments h.so_far.within),
          subst (λ (r : Run). d.sheet ≡ draw_moments s.catalogue r.moments (head s.catalogue (blank part))) whole h.so_far.sheet_is,
        )

    module _ (x : Event) (lt : i < length s.events) (there : x ≡ get_or s.events i x) where
      abbrev after : Run
      after = one_event s.catalogue (i + 1) x h.run

      after_ahead : run_from s.catalogue (i + 1 + 1) (drop (suc i) s.events) after ≡ run_of s
      unfolding run_from
      after_ahead = subst (λ (es : List Event). run_from s.catalogue (i + 1) es h.run ≡ run_of s) (next_first s.events i x lt there) h.ahead

      -- what is drawn of the next event, by whatever draws an event in a world
      pub play_next : (n : ℕ) → n ≡ i + 1 → (result : Result Known DrawingEnd) (new : Drawing)
          → ((run : Run) (base : Sheet) → IsSoFar now.catalogue run base now d → Draws now.catalogue (one_event now.catalogue n x run) base result new)
          → Draws s.catalogue after (head s.catalogue (blank part)) result new
      play_next n is result new draws =
          let base = head s.catalogue (blank part) in
          let same : now.catalogue ≡ s.catalogue = ap (λ (k : Known). k.catalogue) h.so_far.known_is in
          let drawn = draws h.run base (subst (λ c. IsSoFar c h.run base now d) (sym same) h.so_far) in
          subst (λ c. Draws c (one_event c (i + 1) x h.run) base result new) same (subst (λ n. Draws now.catalogue (one_event now.catalogue n x h.run) base result new) is drawn)

      -- the next event is drawn
      pub play_turns : (later : Known) (new : Drawing) → Draws s.catalogue after (head s.catalogue (blank part)) (Ok later) new → Playing s part (i + 1) later new
      play_turns later new draws = record { run = after; so_far = draws; ahead = subst (λ j. run_from s.catalogue (i + 1 + 1) (drop j s.events) after ≡ run_of s) (next_is i) after_ahead }

      -- a limit ends it
      pub play_ends : (why : DrawingEnd) (new : Drawing) → Draws s.catalogue after (head s.catalogue (blank part)) (Err why) new → DrawsSchedule s part (Err why)
      play_ends end.NoMemory new draws = tt
      play_ends (end.Limit what) new draws = subst (λ (r : Run). limit_in picture_limits r.moments ≡ Some what) after_ahead (run_limited s.catalogue (i + 1 + 1) (drop (suc i) s.events) after what draws)
