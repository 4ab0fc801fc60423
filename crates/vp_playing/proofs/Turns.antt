-- What each event adds to the run of a schedule, and what an observer sees of it.
use Rattle.std.proofs.Common.{◌≡◌, ◌∙◌, inl, inr, ap, sym, ℕ, zero, suc, ◌+◌, ◌<◌, Bool, true, false, cond, List, [], ◌∷◌, ◌++◌, refl, arith, length, drop, append_assoc, append-nil, subst}
use Rattle.std.proofs.lemmas.Bool.{false≢true}
use Rattle.std.proofs.lemmas.List.{map-append}
use Rattle.std.proofs.lemmas.List.Folds.{list_any-append, find-append}
use Rattle.std.proofs.Math.Seq.{drop-append_seam}
use Rattle.std.specs.Prelude.{Result, Ok, Err, Option, Some, None, ◌-◌, ◌||◌, find, take, option_and_then, get_or}
use Rattle.std.specs.Option.{option_or}
use Rattle.std.specs.List.{AllByRecursion, list_any, before_first, position_or_len}
use Rattle.vp_text.proofs.Items.{all_push}
use Rattle.vp_model.specs.Types.{Event, Line, Counted}
use Rattle.vp_model.specs.Types.event
use Rattle.vp_model.specs.Words.{for_some}
use Rattle.vp_model.specs.Catalogue.{Catalogue}
use Rattle.vp_model.specs.World.{WorldState, Moment, Run, Schedule, next, flowing, one_step, flow, one_event, run_from, run_of, start_run, start_world, moments_of}
use Rattle.vp_model.specs.Texts.Trace.{own_line}
use Rattle.vp_model.specs.Limits.{world_limits, exceeded, refused, is_over, limit_in, limit_reached, lines_within_from, lines_within}
use Rattle.vp_world.specs.Known.{Known}
use Rattle.vp_world.specs.Limits.{Ends}
use Rattle.vp_world.specs.declared.end.WorldEnd.{WorldEnd}
use Rattle.vp_world.specs.declared.end.WorldEnd.TheVariants as end
use Rattle.vp_playing.specs.Played.{run_in, lines_in, SeesAll, SeesSome, Sees, Plays}
use Rattle.vp_playing.proofs.Seen.{sees_append, sees_steps, sees_none, some_first, some_then}

abbrev over : Moment → Bool
over = is_over world_limits

-- some moments, and then those of the run
abbrev pub following : List Moment → Run → Run
following ms run = record { moments = ms ++ run.moments; world = run.world }

after_none : (run : Run) → run ≡ following run.moments (run_in run.world)
after_none run = ap (λ (ms : List Moment). record { moments = ms; world = run.world }) (sym (append-nil run.moments))

following_more : (xs ys : List Moment) (run : Run) → following (xs ++ ys) run ≡ following xs (following ys run)
following_more xs ys run = ap (λ (ms : List Moment). record { moments = ms; world = run.world }) (append_assoc xs ys run.moments)

step_after : (catalogue : Catalogue) (n : ℕ) (e : Event) (run : Run) → one_step catalogue n e run ≡ following run.moments (one_step catalogue n e (run_in run.world))
unfolding one_step
step_after catalogue n e run = refl

flow_after : (catalogue : Catalogue) (n count : ℕ) (run : Run) → flow catalogue n count run ≡ following run.moments (flow catalogue n count (run_in run.world))
unfolding flow
flow_after catalogue n zero run = after_none run
flow_after catalogue n (suc count) run = go (flowing run.world) (flow_after catalogue n count)
  where
    next : ℕ → Run → Run
    next k run = flow catalogue n count (one_step catalogue n (event.Deliver k) run)

    go : (o : Option ℕ) → ((r : Run) → flow catalogue n count r ≡ following r.moments (flow catalogue n count (run_in r.world))) → for_some o next run ≡ following run.moments (for_some o next (run_in run.world))
    go None rest = after_none run
    go (Some k) rest =
        let alone = one_step catalogue n (event.Deliver k) (run_in run.world) in
        let after = flow catalogue n count (run_in alone.world) in
        ap (flow catalogue n count) (step_after catalogue n (event.Deliver k) run)
        ∙ rest (following run.moments alone)
        ∙ following_more run.moments alone.moments after
        ∙ ap (following run.moments) (sym (rest alone))

step_numbered : (catalogue : Catalogue) (n : ℕ) (e : Event) (run : Run) → AllByRecursion (λ (m : Moment). m.number ≡ n) run.moments → AllByRecursion (λ (m : Moment). m.number ≡ n) (one_step catalogue n e run).moments
unfolding one_step
step_numbered catalogue n e run h = all_push (λ (m : Moment). m.number ≡ n) run.moments _ h refl

flow_numbered : (catalogue : Catalogue) (n count : ℕ) (run : Run) → AllByRecursion (λ (m : Moment). m.number ≡ n) run.moments → AllByRecursion (λ (m : Moment). m.number ≡ n) (flow catalogue n count run).moments
unfolding flow
flow_numbered catalogue n zero run h = h
flow_numbered catalogue n (suc count) run h = go (flowing run.world) (λ k. flow_numbered catalogue n count (one_step catalogue n (event.Deliver k) run) (step_numbered catalogue n (event.Deliver k) run h))
  where
    next : ℕ → Run → Run
    next k run = flow catalogue n count (one_step catalogue n (event.Deliver k) run)

    go : (o : Option ℕ) → ((k : ℕ) → AllByRecursion (λ (m : Moment). m.number ≡ n) (next k run).moments) → AllByRecursion (λ (m : Moment). m.number ≡ n) (for_some o next run).moments
    go None rest = h
    go (Some k) rest = rest k

pub event_after : (catalogue : Catalogue) (n : ℕ) (e : Event) (run : Run) → one_event catalogue n e run ≡ following run.moments (one_event catalogue n e (run_in run.world))
unfolding one_event
event_after catalogue n (event.Flow count) run = flow_after catalogue n count run
event_after catalogue n e run = step_after catalogue n e run

-- each step of an event has the event's number
numbered : (catalogue : Catalogue) (n : ℕ) (e : Event) (w : WorldState) → AllByRecursion (λ (m : Moment). m.number ≡ n) (one_event catalogue n e (run_in w)).moments
unfolding one_event
numbered catalogue n (event.Flow count) w = flow_numbered catalogue n count (run_in w) tt
numbered catalogue n e w = step_numbered catalogue n e (run_in w) tt

-- a run only gets more moments
pub run_grows : (catalogue : Catalogue) (n : ℕ) (events : List Event) (run : Run) → (rest : List Moment) × ((run_from catalogue n events run).moments ≡ run.moments ++ rest)
unfolding run_from
run_grows catalogue n [] run = ([], sym (append-nil run.moments))
run_grows catalogue n (e ∷ events) run =
    let more = run_grows catalogue (n + 1) events (one_event catalogue n e run) in
    let alone = one_event catalogue n e (run_in run.world) in (
      alone.moments ++ more.0,
      more.1 ∙ ap (λ (r : Run). r.moments ++ more.0) (event_after catalogue n e run) ∙ append_assoc run.moments alone.moments more.0,
    )

found_all : (P : Moment → Type 0) (ms : List Moment) (m : Moment) → AllByRecursion P ms → find over ms ≡ Some m → P m
found_all P [] m h e = cc
found_all P (x ∷ ms) m h e = go (over x) e (found_all P ms m h.1)
  where
    go : (b : Bool) → cond b (Some x) (find over ms) ≡ Some m → (find over ms ≡ Some m → P m) → P m
    go true q rest = let same : x ≡ m = cc in subst P same h.0
    go false q rest = rest q

-- what a limit leaves
none_found : (ms : List Moment) → list_any over ms ≡ false → find over ms ≡ None
none_found [] e = refl
none_found (m ∷ ms) e = go (over m) e (none_found ms)
  where
    go : (b : Bool) → (b || list_any over ms) ≡ false → (list_any over ms ≡ false → find over ms ≡ None) → cond b (Some m) (find over ms) ≡ None
    go true q rest = cc
    go false q rest = rest q

found_any : (ms : List Moment) (counted : Counted) → limit_in world_limits ms ≡ Some counted → list_any over ms ≡ true
found_any [] counted e = cc
found_any (m ∷ ms) counted e = go (over m) e (found_any ms counted)
  where
    go : (b : Bool) → option_and_then (λ (m : Moment). exceeded world_limits m.after) (cond b (Some m) (find over ms)) ≡ Some counted → (limit_in world_limits ms ≡ Some counted → list_any over ms ≡ true) → (b || list_any over ms) ≡ true
    go true q rest = refl
    go false q rest = rest q

-- the first moment that exceeds a limit is the first among those after some that exceed none
found_following : (xs ys rest : List Moment) → list_any over xs ≡ false → find over ((xs ++ ys) ++ rest) ≡ option_or (find over ys) (find over rest)
found_following xs ys rest none =
    find-append over (xs ++ ys) rest ∙ ap (λ o. option_or o (find over rest)) (find-append over xs ys)
    ∙ ap (λ o. option_or (option_or o (find over ys)) (find over rest)) (none_found xs none)

limit_after : (xs ys rest : List Moment) (counted : Counted) → list_any over xs ≡ false → limit_in world_limits ys ≡ Some counted → limit_in world_limits ((xs ++ ys) ++ rest) ≡ Some counted
limit_after xs ys rest counted none some =
    ap (option_and_then (λ (m : Moment). exceeded world_limits m.after)) (found_following xs ys rest none) ∙ go (find over ys) some
  where
    go : (o : Option Moment) → option_and_then (λ (m : Moment). exceeded world_limits m.after) o ≡ Some counted → option_and_then (λ (m : Moment). exceeded world_limits m.after) (option_or o (find over rest)) ≡ Some counted
    go None q = cc
    go (Some m) q = q

none_reached : (ms : List Moment) → list_any over ms ≡ false → limit_in world_limits ms ≡ None
none_reached ms e = ap (option_and_then (λ (m : Moment). exceeded world_limits m.after)) (none_found ms e)

both_false : (xs ys : List Moment) → list_any over xs ≡ false → list_any over ys ≡ false → list_any over (xs ++ ys) ≡ false
both_false xs ys x y = list_any-append over xs ys ∙ rw (x, y) refl

-- a limit ends the steps, and the lines of those before it are seen
pub record IsCutShort {S : Type 0} (sees : ℕ × Line → S → S → Type 0) (moments : List Moment) (counted : Counted) (old new : S) : Type 0 where
  pub limit : limit_in world_limits moments ≡ Some counted
  pub seen : SeesAll sees (lines_in (before_first over moments)) old new

one_more : (n : ℕ) (m : Moment) (ms : List Moment) → take (1 + n) (m ∷ ms) ≡ m ∷ take n ms
one_more n m ms = ap (λ k. take k (m ∷ ms)) (follows n)
  where
    follows : (n : ℕ) → 1 + n ≡ suc n
    follows n = omega arith

before_more : (m : Moment) (ms : List Moment) → over m ≡ false → before_first over (m ∷ ms) ≡ m ∷ before_first over ms
before_more m ms e = rw e (one_more (position_or_len over ms) m ms)

either_false : (a b : Bool) → (a || b) ≡ false → (a ≡ false) × (b ≡ false)
either_false false b e = (refl, e)
either_false true b e = absurd (false≢true (sym e))

none_before : (ms : List Moment) → list_any over ms ≡ false → before_first over ms ≡ ms
none_before [] none = refl
none_before (m ∷ ms) none =
    let q = either_false (over m) (list_any over ms) none in
    before_more m ms q.0 ∙ ap (λ (front : List Moment). m ∷ front) (none_before ms q.1)

before_front : (ms rest : List Moment) → list_any over ms ≡ true → before_first over (ms ++ rest) ≡ before_first over ms
before_front [] rest e = absurd (false≢true e)
before_front (m ∷ ms) rest e = go (over m) refl e (before_front ms rest)
  where
    go : (b : Bool) → over m ≡ b → (b || list_any over ms) ≡ true → (list_any over ms ≡ true → before_first over (ms ++ rest) ≡ before_first over ms) → before_first over (m ∷ (ms ++ rest)) ≡ before_first over (m ∷ ms)
    go true is q more = rw is refl
    go false is q more = before_more m (ms ++ rest) is ∙ ap (λ (front : List Moment). m ∷ front) (more q) ∙ sym (before_more m ms is)

before_after_all : (xs ys : List Moment) → list_any over xs ≡ false → before_first over (xs ++ ys) ≡ xs ++ before_first over ys
before_after_all [] ys none = refl
before_after_all (m ∷ xs) ys none =
    let q = either_false (over m) (list_any over xs) none in
    before_more m (xs ++ ys) q.0 ∙ ap (λ (front : List Moment). m ∷ front) (before_after_all xs ys q.1)

before_after : (xs ys rest : List Moment) → list_any over xs ≡ false → list_any over ys ≡ true → before_first over ((xs ++ ys) ++ rest) ≡ xs ++ before_first over ys
before_after xs ys rest none some =
    ap (before_first over) (append_assoc xs ys rest) ∙ before_after_all xs (ys ++ rest) none ∙ ap (λ (front : List Moment). xs ++ front) (before_front ys rest some)

cut_after : {S : Type 0} (sees : ℕ × Line → S → S → Type 0) (xs ys rest : List Moment) (counted : Counted) (old mid new : S) → list_any over xs ≡ false → SeesAll sees (lines_in xs) old mid → limit_in world_limits ys ≡ Some counted → SeesAll sees (lines_in (before_first over ys)) mid new → IsCutShort sees ((xs ++ ys) ++ rest) counted old new
cut_after sees xs ys rest counted old mid new none so_far some more = record {
  limit = limit_after xs ys rest counted none some;
  seen =
      subst (λ (ms : List Moment). SeesAll sees (lines_in ms) old new) (sym (before_after xs ys rest none (found_any ys counted some)))
      (sees_steps sees xs (before_first over ys) old mid new so_far more);
}

-- what is before the first step over a limit is the same where more steps come
before_grows : (ys rest : List Moment) → (more : List Moment) × (before_first over (ys ++ rest) ≡ before_first over ys ++ more)
before_grows ys rest = go (list_any over ys) refl
  where
    go : (b : Bool) → list_any over ys ≡ b → (more : List Moment) × (before_first over (ys ++ rest) ≡ before_first over ys ++ more)
    go true e = ([], before_front ys rest e ∙ sym (append-nil (before_first over ys)))
    go false e = (before_first over rest, before_after_all ys rest e ∙ ap (λ (front : List Moment). front ++ before_first over rest) (sym (none_before ys e)))

-- all lines of some steps, and some of those of the next
some_after : {S : Type 0} (sees begins : ℕ × Line → S → S → Type 0) (xs ys rest : List Moment) (old mid new : S) → list_any over xs ≡ false → SeesAll sees (lines_in xs) old mid → SeesSome sees begins (lines_in (before_first over ys)) mid new
    → SeesSome sees begins (lines_in (before_first over ((xs ++ ys) ++ rest))) old new
some_after {S} sees begins xs ys rest old mid new none so_far some =
    let more = before_grows ys rest in
    let front = before_first over ys in
    let is : before_first over ((xs ++ ys) ++ rest) ≡ xs ++ (front ++ more.0) = ap (before_first over) (append_assoc xs ys rest) ∙ before_after_all xs (ys ++ rest) none ∙ ap (λ (tail : List Moment). xs ++ tail) more.1 in
    subst (λ (ms : List Moment). SeesSome sees begins (lines_in ms) old new) (sym is)
    (subst (λ (lines : List (ℕ × Line)). SeesSome sees begins lines old new) (sym (map-append (λ (m : Moment). (m.number, m.line)) xs (front ++ more.0) ∙ ap (λ (tail : List (ℕ × Line)). lines_in xs ++ tail) (map-append (λ (m : Moment). (m.number, m.line)) front more.0)))
    (some_then sees begins (lines_in xs) (lines_in front ++ lines_in more.0) old mid new so_far (some_first sees begins (lines_in front) (lines_in more.0) mid new some)))

-- ---- a flow, delivery by delivery

-- i deliveries of a flow in the world w are done
pub record Flowing {S : Type 0} (sees : Catalogue → ℕ × Line → S → S → Type 0) (catalogue : Catalogue) (n count : ℕ) (w : WorldState) (i : ℕ) (now : WorldState) (old new : S) : Type 0 where
  pub run : Run
  pub world : now ≡ run.world
  pub ahead : flow catalogue n (count - i) run ≡ flow catalogue n count (run_in w)
  pub within : list_any over run.moments ≡ false
  pub seen : SeesAll (sees catalogue) (lines_in run.moments) old new

pub flow_starts : {S : Type 0} (sees : Catalogue → ℕ × Line → S → S → Type 0) (catalogue : Catalogue) (n count : ℕ) (w : WorldState) (old : S) → Flowing sees catalogue n count w 0 w old old
flow_starts sees catalogue n count w old = record { run = run_in w; world = refl; ahead = ap (λ k. flow catalogue n k (run_in w)) (all_left count); within = refl; seen = refl }
  where
    all_left : (count : ℕ) → count - 0 ≡ count
    all_left count = omega arith

pub flow_starts_run : {S : Type 0} (sees : Catalogue → ℕ × Line → S → S → Type 0) (catalogue : Catalogue) (n count : ℕ) (w : WorldState) (old : S) → (flow_starts sees catalogue n count w old).run ≡ run_in w
unfolding flow_starts
flow_starts_run sees catalogue n count w old = refl

one_less : (count i : ℕ) → i < count → count - i ≡ suc (count - suc i)
one_less count i lt = omega (arith, lt)

module _ {S : Type 0} (sees : Catalogue → ℕ × Line → S → S → Type 0) (catalogue : Catalogue) (n count : ℕ) (w : WorldState) (i : ℕ) (now : WorldState) (old new : S) (so_far : Flowing sees catalogue n count w i now old new) where
  -- the flow ends where no message may be delivered
  pub flow_stops : i < count → flowing now ≡ None → flow catalogue n count (run_in w) ≡ so_far.run
  unfolding flow
  flow_stops lt none = sym so_far.ahead ∙ ap (λ k. flow catalogue n k so_far.run) (one_less count i lt) ∙ rw (sym so_far.world, none) refl

  pub flow_is_over : count ≡ i → flow catalogue n count (run_in w) ≡ so_far.run
  unfolding flow
  flow_is_over e = sym so_far.ahead ∙ ap (λ k. flow catalogue n k so_far.run) (none_left count i e)
    where
      none_left : (count i : ℕ) → count ≡ i → count - i ≡ 0
      none_left count i e = omega (arith, e)

  -- the next delivery
  module _ (k : ℕ) (lt : i < count) (some : flowing now ≡ Some k) where
    abbrev pub delivered : Run
    delivered = one_step catalogue n (event.Deliver k) (run_in now)

    ahead_more : flow catalogue n (count - suc i) (following so_far.run.moments delivered) ≡ flow catalogue n count (run_in w)
    unfolding flow one_step
    ahead_more = sym (sym so_far.ahead ∙ ap (λ k. flow catalogue n k so_far.run) (one_less count i lt) ∙ rw (sym so_far.world, some) refl)

    pub flow_turns : (after : S) → list_any over delivered.moments ≡ false → SeesAll (sees catalogue) (lines_in delivered.moments) new after → Flowing sees catalogue n count w (suc i) delivered.world old after
    flow_turns after none more = record {
      run = following so_far.run.moments delivered;
      world = refl;
      ahead = ahead_more;
      within = both_false so_far.run.moments delivered.moments so_far.within none;
      seen = sees_steps (sees catalogue) so_far.run.moments delivered.moments old new after so_far.seen more;
    }

    pub flow_turns_run : (after : S) (none : list_any over delivered.moments ≡ false) (more : SeesAll (sees catalogue) (lines_in delivered.moments) new after) → (flow_turns after none more).run ≡ following so_far.run.moments delivered
    unfolding flow_turns
    flow_turns_run after none more = refl

    -- the moments of the whole flow are those so far, this delivery's, and more
    pub whole_moments : (rest : List Moment) × ((flow catalogue n count (run_in w)).moments ≡ (so_far.run.moments ++ delivered.moments) ++ rest)
    whole_moments =
        let more = flow catalogue n (count - suc i) (run_in delivered.world) in
        (more.moments, ap (λ (r : Run). r.moments) (sym ahead_more ∙ flow_after catalogue n (count - suc i) (following so_far.run.moments delivered)))

    pub flow_is_cut : (counted : Counted) (after : S) → limit_in world_limits delivered.moments ≡ Some counted → SeesAll (sees catalogue) (lines_in (before_first over delivered.moments)) new after → IsCutShort (sees catalogue) (flow catalogue n count (run_in w)).moments counted old after
    flow_is_cut counted after some more =
        let whole = whole_moments in
        subst (λ (ms : List Moment). IsCutShort (sees catalogue) ms counted old after) (sym whole.1)
        (cut_after (sees catalogue) so_far.run.moments delivered.moments whole.0 counted old new after so_far.within so_far.seen some more)

    pub flow_is_left : (begins : Catalogue → ℕ × Line → S → S → Type 0) (after : S) → SeesSome (sees catalogue) (begins catalogue) (lines_in (before_first over delivered.moments)) new after
        → SeesSome (sees catalogue) (begins catalogue) (lines_in (before_first over (flow catalogue n count (run_in w)).moments)) old after
    flow_is_left begins after some =
        let whole = whole_moments in
        subst (λ (ms : List Moment). SeesSome (sees catalogue) (begins catalogue) (lines_in (before_first over ms)) old after) (sym whole.1)
        (some_after (sees catalogue) (begins catalogue) so_far.run.moments delivered.moments whole.0 old new after so_far.within so_far.seen some)

-- ---- a schedule, event by event

-- the first i events of the schedule were played
pub record Played {S : Type 0} (sees : Catalogue → ℕ × Line → S → S → Type 0) (s : Schedule) (i : ℕ) (now : WorldState) (old new : S) : Type 0 where
  pub run : Run
  pub world : now ≡ run.world
  pub ahead : run_from s.catalogue (i + 1) (drop i s.events) run ≡ run_of s
  pub within : list_any over run.moments ≡ false
  pub lines : List (ℕ × Line)
  pub shown : lines ++ lines_within_from world_limits s.catalogue (i + 1) (drop i s.events) run ≡ lines_within world_limits s
  pub seen : SeesAll (sees s.catalogue) lines old new

pub play_starts : {S : Type 0} (sees : Catalogue → ℕ × Line → S → S → Type 0) (s : Schedule) (now : WorldState) (old : S) → now ≡ start_world s.catalogue → Played sees s 0 now old old
unfolding run_of
play_starts sees s now old e = record { run = start_run s.catalogue; world = e; ahead = refl; within = refl; lines = []; shown = refl; seen = refl }

-- all events were played, and no limit was reached
pub record IsPlayed {S : Type 0} (sees : Catalogue → ℕ × Line → S → S → Type 0) (s : Schedule) (now : WorldState) (old new : S) : Type 0 where
  pub none : limit_reached world_limits s ≡ None
  pub world : now ≡ (run_of s).world
  pub seen : SeesAll (sees s.catalogue) (lines_within world_limits s) old new

-- a limit ended the events
pub record IsEnded {S : Type 0} (sees : Catalogue → ℕ × Line → S → S → Type 0) (s : Schedule) (counted : Counted) (old new : S) : Type 0 where
  pub some : limit_reached world_limits s ≡ Some counted
  pub seen : SeesAll (sees s.catalogue) (lines_within world_limits s) old new

pub all_dropped : (es : List Event) (i : ℕ) → i ≡ length es → drop i es ≡ []
all_dropped [] zero e = refl
all_dropped [] (suc i) e = refl
all_dropped (x ∷ es) zero e = absurd (omega (arith, e))
all_dropped (x ∷ es) (suc i) e = all_dropped es i (omega (arith, e))

pub play_ends : {S : Type 0} (sees : Catalogue → ℕ × Line → S → S → Type 0) (s : Schedule) (i : ℕ) (now : WorldState) (old new : S) → Played sees s i now old new → i ≡ length s.events → IsPlayed sees s now old new
unfolding run_from lines_within_from
play_ends sees s i now old new p e =
    let none_left : drop i s.events ≡ [] = all_dropped s.events i e in
    let last : p.run ≡ run_of s = subst (λ (es : List Event). run_from s.catalogue (i + 1) es p.run ≡ run_of s) none_left p.ahead in
    record {
      none = none_reached (moments_of s) (subst (λ (r : Run). list_any over r.moments ≡ false) last p.within);
      world = p.world ∙ ap (λ (r : Run). r.world) last;
      seen =
          subst (λ (lines : List (ℕ × Line)). SeesAll (sees s.catalogue) lines old new)
          (
          sym (append-nil p.lines)
          ∙ subst (λ (es : List Event). p.lines ++ lines_within_from world_limits s.catalogue (i + 1) es p.run ≡ lines_within world_limits s) none_left p.shown
          )
          p.seen;
    }

pub next_first : (es : List Event) (i : ℕ) (x : Event) → i < length es → x ≡ get_or es i x → drop i es ≡ x ∷ drop (suc i) es
next_first [] i x lt e = absurd (omega (arith, lt))
next_first (y ∷ es) zero x lt e = ap (λ (z : Event). z ∷ es) (sym e)
next_first (y ∷ es) (suc i) x lt e = next_first es i x (omega (arith, lt)) e

module _ {S : Type 0} (sees : Catalogue → ℕ × Line → S → S → Type 0) (s : Schedule) (i : ℕ) (now : WorldState) (old new : S) (p : Played sees s i now old new) (x : Event) (lt : i < length s.events) (at : x ≡ get_or s.events i x) where
  -- the steps of the next event
  abbrev pub added : Run
  added = one_event s.catalogue (i + 1) x (run_in now)

  abbrev after : Run
  after = one_event s.catalogue (i + 1) x p.run

  after_is : after ≡ following p.run.moments added
  after_is = event_after s.catalogue (i + 1) x p.run ∙ ap (λ w. following p.run.moments (one_event s.catalogue (i + 1) x (run_in w))) (sym p.world)

  ahead_after : run_from s.catalogue (i + 1 + 1) (drop (suc i) s.events) (following p.run.moments added) ≡ run_of s
  unfolding run_from
  ahead_after =
      ap (run_from s.catalogue (i + 1 + 1) (drop (suc i) s.events)) (sym after_is)
      ∙ subst (λ (es : List Event). run_from s.catalogue (i + 1) es p.run ≡ run_of s) (next_first s.events i x lt at) p.ahead

  abbrev rest_within : List (ℕ × Line)
  rest_within = lines_within_from world_limits s.catalogue (i + 1 + 1) (drop (suc i) s.events) (following p.run.moments added)

  steps_are : drop (length p.run.moments) (following p.run.moments added).moments ≡ added.moments
  steps_are = drop-append_seam p.run.moments added.moments

  -- the lines of the steps that the event adds, each with its number
  abbrev under : List Moment → List (ℕ × Line)
  under steps = own_line (i + 1) x ++ (lines_in (before_first over steps) ++ (cond (list_any over steps) [] rest_within))

  shown_after : p.lines ++ under added.moments ≡ lines_within world_limits s
  unfolding lines_within_from
  shown_after =
      ap (λ (steps : List Moment). p.lines ++ under steps) (sym steps_are)
      ∙ subst (λ (r : Run). p.lines ++ (own_line (i + 1) x ++ (lines_in (before_first over (drop (length p.run.moments) r.moments)) ++ (cond (list_any over (drop (length p.run.moments) r.moments)) [] (lines_within_from world_limits s.catalogue (i + 1 + 1) (drop (suc i) s.events) r)))) ≡ lines_within world_limits s) after_is
      (subst (λ (es : List Event). p.lines ++ lines_within_from world_limits s.catalogue (i + 1) es p.run ≡ lines_within world_limits s) (next_first s.events i x lt at) p.shown)

  -- the event's own line, and those of these steps of it
  abbrev pub shown_of : List Moment → List (ℕ × Line)
  shown_of steps = own_line (i + 1) x ++ lines_in steps

  -- all steps of the event are done
  pub play_turns : (now_seen : S) → list_any over added.moments ≡ false → SeesAll (sees s.catalogue) (shown_of added.moments) new now_seen → Played sees s (suc i) added.world old now_seen
  play_turns now_seen none more = record {
    run = following p.run.moments added;
    world = refl;
    ahead = ap (λ n. run_from s.catalogue n (drop (suc i) s.events) (following p.run.moments added)) next_number ∙ ahead_after;
    within = both_false p.run.moments added.moments p.within none;
    lines = p.lines ++ shown_of added.moments;
    shown =
        ap (λ n. (p.lines ++ shown_of added.moments) ++ lines_within_from world_limits s.catalogue n (drop (suc i) s.events) (following p.run.moments added)) next_number
        ∙ append_assoc p.lines (shown_of added.moments) rest_within
        ∙ ap (λ (lines : List (ℕ × Line)). p.lines ++ lines) (append_assoc (own_line (i + 1) x) (lines_in added.moments) rest_within)
        ∙ ap (λ (steps : List Moment). p.lines ++ (own_line (i + 1) x ++ (lines_in steps ++ rest_within))) (sym (none_before added.moments none))
        ∙ ap (λ (any : Bool). p.lines ++ (own_line (i + 1) x ++ (lines_in (before_first over added.moments) ++ cond any [] rest_within))) (sym none)
        ∙ shown_after;
    seen = sees_append (sees s.catalogue) p.lines (shown_of added.moments) old new now_seen p.seen more;
  }
    where
      next_number : suc i + 1 ≡ i + 1 + 1
      next_number = omega arith

  -- the moments of the whole run are those so far, those of this event, and more
  whole_run : (rest : List Moment) × (moments_of s ≡ (p.run.moments ++ added.moments) ++ rest)
  whole_run =
      let more = run_grows s.catalogue (i + 1 + 1) (drop (suc i) s.events) (following p.run.moments added) in
      (more.0, ap (λ (r : Run). r.moments) (sym ahead_after) ∙ more.1)

  -- the first step of the run that exceeds a limit is one of this event's
  pub cut_here : (counted : Counted) → limit_in world_limits added.moments ≡ Some counted → (m : Moment) × (find over (moments_of s) ≡ Some m) × (m.number ≡ i + 1)
  cut_here counted e = go (find over added.moments) refl e
    where
      go : (o : Option Moment) → find over added.moments ≡ o → option_and_then (λ (m : Moment). exceeded world_limits m.after) o ≡ Some counted → (m : Moment) × (find over (moments_of s) ≡ Some m) × (m.number ≡ i + 1)
      go None is q = cc
      go (Some m) is q = (
        m,
        ap (find over) whole_run.1 ∙ found_following p.run.moments added.moments whole_run.0 p.within ∙ ap (λ o. option_or o (find over whole_run.0)) is,
        found_all (λ (m : Moment). m.number ≡ i + 1) added.moments m (numbered s.catalogue (i + 1) x now) is,
      )

  -- a limit ends the steps of the event
  pub play_is_cut : (counted : Counted) (now_seen : S) → limit_in world_limits added.moments ≡ Some counted → SeesAll (sees s.catalogue) (shown_of (before_first over added.moments)) new now_seen → IsEnded sees s counted old now_seen
  play_is_cut counted now_seen limit more =
      let some = found_any added.moments counted limit in
      let front = before_first over added.moments in
      let shown_last : p.lines ++ shown_of front ≡ lines_within world_limits s =
      ap (λ (lines : List (ℕ × Line)). p.lines ++ (own_line (i + 1) x ++ lines)) (sym (append-nil (lines_in front)))
      ∙ ap (λ (any : Bool). p.lines ++ (own_line (i + 1) x ++ (lines_in front ++ cond any [] rest_within))) (sym some)
      ∙ shown_after in
      record {
        some = ap (limit_in world_limits) whole_run.1 ∙ limit_after p.run.moments added.moments whole_run.0 counted p.within limit;
        seen =
            subst (λ (lines : List (ℕ × Line)). SeesAll (sees s.catalogue) lines old now_seen) shown_last
            (sees_append (sees s.catalogue) p.lines (shown_of front) old new now_seen p.seen more);
      }

  -- some lines of the event
  pub play_is_left : (begins : Catalogue → ℕ × Line → S → S → Type 0) (now_seen : S) → SeesSome (sees s.catalogue) (begins s.catalogue) (shown_of (before_first over added.moments)) new now_seen
      → SeesSome (sees s.catalogue) (begins s.catalogue) (lines_within world_limits s) old now_seen
  play_is_left begins now_seen some =
      let front = before_first over added.moments in
      let rest = cond (list_any over added.moments) [] rest_within in
      subst (λ (lines : List (ℕ × Line)). SeesSome (sees s.catalogue) (begins s.catalogue) lines old now_seen)
      (ap (λ (lines : List (ℕ × Line)). p.lines ++ lines) (append_assoc (own_line (i + 1) x) (lines_in front) rest) ∙ shown_after)
      (some_then (sees s.catalogue) (begins s.catalogue) p.lines (shown_of front ++ rest) old new now_seen p.seen (some_first (sees s.catalogue) (begins s.catalogue) (shown_of front) rest new now_seen some))

-- ---- one step

abbrev pub stepped : Catalogue → ℕ → Event → WorldState → Run
stepped catalogue n e w = one_step catalogue n e (run_in w)

abbrev pub line_of : Catalogue → Event → WorldState → Line
line_of catalogue e w = record { event = e; shown = (next catalogue e w).shown }

-- a step that exceeds no limit
pub step_within : (catalogue : Catalogue) (n : ℕ) (e : Event) (w : WorldState) → refused world_limits catalogue e w ≡ None → list_any over (stepped catalogue n e w).moments ≡ false
unfolding one_step
step_within catalogue n e w none = rw none refl

step_lines : (catalogue : Catalogue) (n : ℕ) (e : Event) (w : WorldState) → lines_in (stepped catalogue n e w).moments ≡ (n, line_of catalogue e w) ∷ []
unfolding one_step
step_lines catalogue n e w = refl

pub step_world : (catalogue : Catalogue) (n : ℕ) (e : Event) (w : WorldState) → (stepped catalogue n e w).world ≡ (next catalogue e w).world
unfolding one_step
step_world catalogue n e w = refl

-- a step that exceeds one
pub step_is_cut : {S : Type 0} (sees : ℕ × Line → S → S → Type 0) (catalogue : Catalogue) (n : ℕ) (e : Event) (w : WorldState) (counted : Counted) (s : S) → refused world_limits catalogue e w ≡ Some counted → IsCutShort sees (stepped catalogue n e w).moments counted s s
unfolding one_step
step_is_cut sees catalogue n e w counted s some = record { limit = rw some some; seen = rw some refl }

-- what the result of a step says
pub step_ends : {S : Type 0} (sees begins : Catalogue → ℕ × Line → S → S → Type 0) (catalogue : Catalogue) (n : ℕ) (e : Event) (w : WorldState) (why : WorldEnd) (s : S) → Ends {A = Unit {0}} (refused world_limits catalogue e w) (Err why) → Sees sees begins catalogue [] (stepped catalogue n e w) (Err why) s s
step_ends sees begins catalogue n e w (end.Limit what limit) s h = let cut = step_is_cut (sees catalogue) catalogue n e w what s h.0 in (cut.limit, h.1, cut.seen)
step_ends sees begins catalogue n e w end.NoMemory s h = sees_none (sees catalogue) (begins catalogue) (lines_in (before_first over (stepped catalogue n e w).moments)) s s refl

-- there is no memory for what is seen of it
pub step_is_left : {S : Type 0} (sees begins : Catalogue → ℕ × Line → S → S → Type 0) (catalogue : Catalogue) (n : ℕ) (e : Event) (w : WorldState) (line : Line) (old new : S) → refused world_limits catalogue e w ≡ None → line ≡ line_of catalogue e w → begins catalogue (n, line) old new → Sees sees begins catalogue [] (stepped catalogue n e w) (Err end.NoMemory) old new
step_is_left {S} sees begins catalogue n e w line old new none line_is begun =
    subst (λ (ms : List Moment). SeesSome (sees catalogue) (begins catalogue) (lines_in ms) old new) (sym (none_before (stepped catalogue n e w).moments (step_within catalogue n e w none)))
    (subst (λ (lines : List (ℕ × Line)). SeesSome (sees catalogue) (begins catalogue) lines old new) (sym (step_lines catalogue n e w))
    (inr (inl (subst (λ (l : Line). begins catalogue (n, l) old new) line_is begun))))

-- it was seen, and there is no memory for the world to go on
pub step_was_seen : {S : Type 0} (sees begins : Catalogue → ℕ × Line → S → S → Type 0) (catalogue : Catalogue) (n : ℕ) (e : Event) (w : WorldState) (line : Line) (old new : S) → refused world_limits catalogue e w ≡ None → line ≡ line_of catalogue e w → sees catalogue (n, line) old new → Sees sees begins catalogue [] (stepped catalogue n e w) (Err end.NoMemory) old new
step_was_seen {S} sees begins catalogue n e w line old new none line_is seen =
    subst (λ (ms : List Moment). SeesSome (sees catalogue) (begins catalogue) (lines_in ms) old new) (sym (none_before (stepped catalogue n e w).moments (step_within catalogue n e w none)))
    (subst (λ (lines : List (ℕ × Line)). SeesSome (sees catalogue) (begins catalogue) lines old new) (sym (step_lines catalogue n e w))
    (inr (inr (new, subst (λ (l : Line). sees catalogue (n, l) old new) line_is seen, refl))))

pub step_shows : {S : Type 0} (sees begins : Catalogue → ℕ × Line → S → S → Type 0) (catalogue : Catalogue) (n : ℕ) (e : Event) (w : WorldState) (known : Known) (line : Line) (old new : S) → refused world_limits catalogue e w ≡ None → known ≡ record { catalogue = catalogue; world = (next catalogue e w).world } → line ≡ line_of catalogue e w → sees catalogue (n, line) old new → Sees sees begins catalogue [] (stepped catalogue n e w) (Ok known) old new
step_shows sees begins catalogue n e w known line old new none is line_is seen = (
  step_within catalogue n e w none,
  is ∙ ap (λ (after : WorldState). record { catalogue = catalogue; world = after }) (sym (step_world catalogue n e w)),
  subst (λ (lines : List (ℕ × Line)). SeesAll (sees catalogue) lines old new) (sym (step_lines catalogue n e w))
      (new, subst (λ (l : Line). sees catalogue (n, l) old new) line_is seen, refl),
)

-- ---- the result of a flow

module _ {S : Type 0} (sees begins : Catalogue → ℕ × Line → S → S → Type 0) (catalogue : Catalogue) (n count : ℕ) (w : WorldState) (i : ℕ) (known : Known) (old new : S) (same : known.catalogue ≡ catalogue) (so_far : Flowing sees catalogue n count w i known.world old new) where
  pub flow_shows : flow catalogue n count (run_in w) ≡ so_far.run → Sees sees begins catalogue [] (flow catalogue n count (run_in w)) (Ok known) old new
  flow_shows e =
      subst (λ (run : Run). Sees sees begins catalogue [] run (Ok known) old new) (sym e)
      (so_far.within, ap (λ c. record { catalogue = c; world = known.world }) same ∙ ap (λ (after : WorldState). record { catalogue = catalogue; world = after }) so_far.world, so_far.seen)

  pub flow_turns_on : (k : ℕ) (after : Known) (now_seen : S) → i < count → flowing known.world ≡ Some k → Sees sees begins known.catalogue [] (stepped known.catalogue n (event.Deliver k) known.world) (Ok after) new now_seen → (after.catalogue ≡ catalogue) × Flowing sees catalogue n count w (i + 1) after.world old now_seen
  flow_turns_on k after now_seen lt some h =
      let g = subst (λ c. Sees sees begins c [] (stepped c n (event.Deliver k) known.world) (Ok after) new now_seen) same h in
      let turn = flow_turns sees catalogue n count w i known.world old new so_far k lt some now_seen g.0 g.2 in
      (ap (λ (a : Known). a.catalogue) g.1, subst (λ (a : WorldState). Flowing sees catalogue n count w (i + 1) a old now_seen) (sym (ap (λ (a : Known). a.world) g.1)) (subst (λ j. Flowing sees catalogue n count w j (stepped catalogue n (event.Deliver k) known.world).world old now_seen) (next_is i) turn))
    where
      next_is : (i : ℕ) → suc i ≡ i + 1
      next_is i = omega arith

  pub flow_ends : (k : ℕ) (why : WorldEnd) (now_seen : S) → i < count → flowing known.world ≡ Some k → Sees sees begins known.catalogue [] (stepped known.catalogue n (event.Deliver k) known.world) (Err why) new now_seen → Sees sees begins catalogue [] (flow catalogue n count (run_in w)) (Err why) old now_seen
  flow_ends k (end.Limit what limit) now_seen lt some h =
      let g = subst (λ c. Sees sees begins c [] (stepped c n (event.Deliver k) known.world) (Err (end.Limit what limit)) new now_seen) same h in
      let cut = flow_is_cut sees catalogue n count w i known.world old new so_far k lt some what now_seen g.0 g.2 in
      (cut.limit, g.1, cut.seen)
  flow_ends k end.NoMemory now_seen lt some h =
      let g = subst (λ c. Sees sees begins c [] (stepped c n (event.Deliver k) known.world) (Err end.NoMemory) new now_seen) same h in
      flow_is_left sees catalogue n count w i known.world old new so_far k lt some begins now_seen g

-- ---- the result of a schedule

pub play_is_over : {S : Type 0} (sees begins : Catalogue → ℕ × Line → S → S → Type 0) (s : Schedule) (i : ℕ) (known : Known) (old new : S) → known.catalogue ≡ s.catalogue → Played sees s i known.world old new → i ≡ length s.events → Plays sees begins s (Ok known) old new
play_is_over sees begins s i known old new same so_far e =
    let h = play_ends sees s i known.world old new so_far e in (
      h.none,
      ap (λ c. record { catalogue = c; world = known.world }) same ∙ ap (λ (w : WorldState). record { catalogue = s.catalogue; world = w }) h.world,
      h.seen,
    )

module _ {S : Type 0} (sees begins : Catalogue → ℕ × Line → S → S → Type 0) (s : Schedule) (i number : ℕ) (known : Known) (old new : S) (same : known.catalogue ≡ s.catalogue) (counted : number ≡ i) (so_far : Played sees s i known.world old new) (x : Event) (lt : i < length s.events) (at : x ≡ get_or s.events i x) where
  abbrev pub Answers : Result Known WorldEnd → S → Type 0
  Answers result now_seen = Sees sees begins known.catalogue (own_line (number + 1) x) (one_event known.catalogue (number + 1) x (run_in known.world)) result new now_seen

  answers_so : (result : Result Known WorldEnd) (now_seen : S) → Answers result now_seen → Sees sees begins s.catalogue (own_line (i + 1) x) (one_event s.catalogue (i + 1) x (run_in known.world)) result new now_seen
  answers_so result now_seen h =
      subst (λ j. Sees sees begins s.catalogue (own_line (j + 1) x) (one_event s.catalogue (j + 1) x (run_in known.world)) result new now_seen) counted
      (subst (λ c. Sees sees begins c (own_line (number + 1) x) (one_event c (number + 1) x (run_in known.world)) result new now_seen) same h)

  pub play_goes_on : (after : Known) (now_seen : S) → Answers (Ok after) now_seen → (after.catalogue ≡ s.catalogue) × Played sees s (i + 1) after.world old now_seen
  play_goes_on after now_seen h =
      let g = answers_so (Ok after) now_seen h in
      let turn = play_turns sees s i known.world old new so_far x lt at now_seen g.0 g.2 in (
        ap (λ (a : Known). a.catalogue) g.1,
        subst (λ (a : WorldState). Played sees s (i + 1) a old now_seen) (sym (ap (λ (a : Known). a.world) g.1)) (subst (λ j. Played sees s j (one_event s.catalogue (i + 1) x (run_in known.world)).world old now_seen) (next_is i) turn),
      )
    where
      next_is : (i : ℕ) → suc i ≡ i + 1
      next_is i = omega arith

  pub play_is_ended : (why : WorldEnd) (now_seen : S) → Answers (Err why) now_seen → Plays sees begins s (Err why) old now_seen
  play_is_ended (end.Limit what limit) now_seen h =
      let g = answers_so (Err (end.Limit what limit)) now_seen h in
      let ended = play_is_cut sees s i known.world old new so_far x lt at what now_seen g.0 g.2 in
      (ended.some, g.1, ended.seen)
  play_is_ended end.NoMemory now_seen h = play_is_left sees s i known.world old new so_far x lt at begins now_seen (answers_so (Err end.NoMemory) now_seen h)
