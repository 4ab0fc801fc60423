-- What the generator does, round by round.
use Rattle.std.proofs.Common.{◌≡◌, ◌∙◌, ap, sym, subst, refl, arith, ℕ, zero, suc, ◌+◌, ◌<◌, ◌≤◌, true, List, [], ◌∷◌, ◌++◌, length, append_assoc, append-nil}
use Rattle.std.specs.Prelude.{Option, Some, None, Result, Ok, Err, option_and_then, ◌-◌, take, get_or}
use Rattle.std.specs.Option.{option_map_or}
use Rattle.std.proofs.Math.ListN.{length-append}
use Rattle.std.proofs.Math.Seq.{get_or-append_seam, take-append_seam}
use Rattle.vp_text.specs.Printing.{is_begun}
use Rattle.vp_model.specs.Texts.Schedule.{schedule_text}
use Rattle.vp_model.specs.Types.{Newest, Live, Event, Line, Reply}
use Rattle.vp_model.specs.Catalogue.{Catalogue}
use Rattle.vp_model.specs.Site.{SiteState}
use Rattle.vp_model.specs.World.{WorldState, Moment, Run, Schedule, one_event, run_from, run_of, start_run, start_world}
use Rattle.vp_model.specs.Limits.{world_limits, first_over, limit_in, lines_within}
use Rattle.vp_model.specs.Generated.{newest, Choice, Generating, generated_catalogue, generated_event, next_draw, drawn, emit, one_round, rounds, generating, made, made_within}
use Rattle.vp_model.specs.Told.{replies_in}
use Rattle.vp_model.specs.Texts.Trace.{own_line}
use Rattle.vp_model.proofs.RunGrows.{run_from-more}
use Rattle.vp_world.specs.Known.{Known}
use Rattle.vp_world.specs.declared.end.WorldEnd.{WorldEnd}
use Rattle.vp_world.specs.declared.end.WorldEnd.TheVariants as end
use Rattle.vp_playing.specs.Played.{run_in, Sees}
use Rattle.vp_laws.proofs.Words.CutTraces.{limits_cut_traces}
use Rattle.vp_replay.specs.Summary.{replies_of}
use Rattle.vp_replay.specs.Generated.{Makes}
use Rattle.vp_replay.specs.declared.generating.GeneratedRun.{GeneratedRun}
use Rattle.vp_playing.proofs.Seen.{sees_appended}
use Rattle.vp_playing.proofs.Turns.{Played, play_starts, play_goes_on, play_is_ended, play_is_over, cut_here, event_after}

-- ---- calls

fits_live : (x : Live) (t : Newest) → newest (x ∷ []) ≡ Some t → t.next ≡ length x.answers + 1
fits_live x t e = cc

newest_some : (live : List Live) (t : Newest) → newest live ≡ Some t → 1 ≤ t.next
newest_some [] t e = cc
newest_some (x ∷ []) t e = let is = fits_live x t e in omega (arith, is)
newest_some (x ∷ y ∷ live) t e = newest_some (y ∷ live) t e

-- a call has a number from 1 on
pub next_some : (o : Option SiteState) (t : Newest) → option_and_then (λ (site : SiteState). newest site.live) o ≡ Some t → 1 ≤ t.next
next_some None t e = cc
next_some (Some site) t e = newest_some site.live t e

-- ---- rounds

abbrev pub started : ℕ → Generating
started seed = record { run = start_run generated_catalogue; events = []; source = seed }

abbrev pub after_rounds : ℕ → ℕ → Generating
after_rounds seed i = rounds i (started seed)

-- the event of the next round, and the state of the source after it
abbrev pub choice_in : WorldState → ℕ → Choice
choice_in w s = generated_event w (drawn (next_draw s) 16) (drawn (next_draw (next_draw s)) 5 + 1) (next_draw (next_draw s))

abbrev pub choice_of : Generating → Choice
choice_of g = choice_in g.run.world g.source

pub round_events : (g : Generating) → (one_round g).events ≡ g.events ++ (choice_of g).0 ∷ []
unfolding one_round emit
round_events g = refl

round_run : (g : Generating) → (one_round g).run ≡ one_event generated_catalogue (length g.events + 1) (choice_of g).0 g.run
unfolding one_round emit
round_run g = refl

round_source : (g : Generating) → (one_round g).source ≡ (choice_of g).1
unfolding one_round emit
round_source g = refl

rounds_split : (i k : ℕ) (g : Generating) → rounds (i + k) g ≡ rounds k (rounds i g)
unfolding rounds
rounds_split zero k g = ap (λ n. rounds n g) (none k)
  where
    none : (k : ℕ) → zero + k ≡ k
    none k = omega arith
rounds_split (suc i) k g = ap (λ n. rounds n g) (later i k) ∙ rounds_split i k (one_round g)
  where
    later : (i k : ℕ) → suc i + k ≡ suc (i + k)
    later i k = omega arith

pub one_more : (seed i : ℕ) → after_rounds seed (i + 1) ≡ one_round (after_rounds seed i)
unfolding rounds
one_more seed i = rounds_split i 1 (started seed)

rounds_count : (i : ℕ) (g : Generating) → length (rounds i g).events ≡ i + length g.events
unfolding rounds
rounds_count zero g = none (length g.events)
  where
    none : (n : ℕ) → n ≡ zero + n
    none n = omega arith
rounds_count (suc i) g =
    rounds_count i (one_round g) ∙ ap (λ (es : List Event). i + length es) (round_events g)
    ∙ ap (λ n. i + n) (length-append g.events ((choice_of g).0 ∷ [])) ∙ shifted i (length g.events)
  where
    shifted : (i n : ℕ) → i + (n + 1) ≡ suc i + n
    shifted i n = omega arith

pub count_is : (seed i : ℕ) → length (after_rounds seed i).events ≡ i
count_is seed i = rounds_count i (started seed) ∙ omega arith

rounds_grow : (i : ℕ) (g : Generating) → (more : List Event) × ((rounds i g).events ≡ g.events ++ more)
unfolding rounds
rounds_grow zero g = ([], sym (append-nil g.events))
rounds_grow (suc i) g =
    let later = rounds_grow i (one_round g) in (
      (choice_of g).0 ∷ later.0,
      later.1 ∙ ap (λ (es : List Event). es ++ later.0) (round_events g) ∙ append_assoc g.events ((choice_of g).0 ∷ []) later.0,
    )

-- what holds at the start and after one more round holds after any number of them
rounds_keep : (P : Generating → Type 0) → ((g : Generating) → P g → P (one_round g)) → (i : ℕ) (g : Generating) → P g → P (rounds i g)
unfolding rounds
rounds_keep P step zero g h = h
rounds_keep P step (suc i) g h = rounds_keep P step i (one_round g) (step g h)

-- the events give the run
abbrev Gives : Generating → Type 0
Gives g = g.run ≡ run_from generated_catalogue 1 g.events (start_run generated_catalogue)

round_gives : (g : Generating) → Gives g → Gives (one_round g)
round_gives g h =
    round_run g
    ∙ ap (λ n. one_event generated_catalogue n (choice_of g).0 g.run) (plus_one (length g.events))
    ∙ ap (one_event generated_catalogue (1 + length g.events) (choice_of g).0) h
    ∙ sym (run_from-more generated_catalogue 1 g.events (choice_of g).0 (start_run generated_catalogue))
    ∙ ap (λ (es : List Event). run_from generated_catalogue 1 es (start_run generated_catalogue)) (sym (round_events g))
  where
    plus_one : (n : ℕ) → n + 1 ≡ 1 + n
    plus_one n = omega arith

pub run_is : (seed i : ℕ) → (after_rounds seed i).run ≡ run_of (record { catalogue = generated_catalogue; events = (after_rounds seed i).events })
unfolding run_of run_from
run_is seed i = rounds_keep Gives round_gives i (started seed) refl

generating_is : (seed count : ℕ) → generating seed count ≡ after_rounds seed count
unfolding generating
generating_is seed count = refl

pub made_run : (seed count : ℕ) → (generating seed count).run ≡ run_of (made seed count)
made_run seed count =
    ap (λ (g : Generating). g.run) (generating_is seed count) ∙ run_is seed count
    ∙ ap (λ (g : Generating). run_of (record { catalogue = generated_catalogue; events = g.events })) (sym (generating_is seed count))

-- ---- the event of a round in the whole schedule

module _ (seed count i : ℕ) (lt : i < count) where
  abbrev so_far : Generating
  so_far = after_rounds seed i

  -- the events of the schedule are those so far, this one, and more
  pub parts : (more : List Event) × ((made seed count).events ≡ (so_far.events ++ (choice_of so_far).0 ∷ []) ++ more)
  parts =
      let more = rounds_grow (count - (i + 1)) (one_round so_far) in (
        more.0,
        ap (λ (g : Generating). g.events) (generating_is seed count ∙ ap (λ n. rounds n (started seed)) (left count i lt) ∙ rounds_split (i + 1) (count - (i + 1)) (started seed) ∙ ap (rounds (count - (i + 1))) (one_more seed i))
            ∙ more.1
            ∙ ap (λ (es : List Event). es ++ more.0) (round_events so_far),
      )
    where
      left : (count i : ℕ) → i < count → count ≡ (i + 1) + (count - (i + 1))
      left count i lt = omega (arith, lt)

  pub event_at : (choice_of so_far).0 ≡ get_or (made seed count).events i (choice_of so_far).0
  event_at =
      let x = (choice_of so_far).0 in
      sym (
      ap (λ (es : List Event). get_or es i x) (parts.1 ∙ append_assoc so_far.events (x ∷ []) parts.0)
      ∙ ap (λ k. get_or (so_far.events ++ x ∷ parts.0) k x) (sym (count_is seed i))
      ∙ get_or-append_seam so_far.events x parts.0 x
      )

  pub within_made : i < length (made seed count).events
  within_made = let n = count_is seed count in rw (generating_is seed count, n) lt

  -- the events before this one
  pub front_is : take i (made seed count).events ≡ so_far.events
  front_is =
      ap (take i) (parts.1 ∙ append_assoc so_far.events ((choice_of so_far).0 ∷ []) parts.0)
      ∙ ap (λ k. take k (so_far.events ++ ((choice_of so_far).0 ∷ parts.0))) (sym (count_is seed i))
      ∙ take-append_seam so_far.events ((choice_of so_far).0 ∷ parts.0)

-- ---- the loop

-- an observer that collects the replies
abbrev pub Collects : Catalogue → ℕ × Line → List Reply → List Reply → Type 0
Collects catalogue line old new = new ≡ old ++ replies_in line.1.shown

-- some of the replies, if memory ran out
abbrev pub Begins : Catalogue → ℕ × Line → List Reply → List Reply → Type 0
Begins catalogue line old new = (count : ℕ) × (new ≡ old ++ take count (replies_in line.1.shown))

-- i events were made and played
pub record IsMaking (seed count i : ℕ) (known : Known) (state : ℕ) (m : GeneratedRun) : Type 0 where
  pub world : known.world ≡ (after_rounds seed i).run.world
  pub source : state ≡ (after_rounds seed i).source
  pub events : m.events ≡ (after_rounds seed i).events
  pub catalogue : known.catalogue ≡ generated_catalogue
  pub played : Played Collects (made seed count) i known.world [] m.replies

pub making_starts : (seed count : ℕ) (known : Known) → known ≡ record { catalogue = generated_catalogue; world = start_world generated_catalogue } → IsMaking seed count 0 known seed (record { events = []; replies = [] })
unfolding rounds
making_starts seed count known e = record {
  world = ap (λ (k : Known). k.world) e;
  source = refl;
  events = refl;
  catalogue = ap (λ (k : Known). k.catalogue) e;
  played = play_starts Collects (made seed count) known.world [] (ap (λ (k : Known). k.world) e);
}

module _ (seed count i : ℕ) (known : Known) (source : ℕ) (m : GeneratedRun) (h : IsMaking seed count i known source m) where
  pub making_is_over : i ≡ count → Makes seed count (Ok known) m
  making_is_over e =
      let s = made seed count in
      let plays = play_is_over Collects Begins s i known [] m.replies h.catalogue h.played (e ∙ sym (ap (λ (g : Generating). length g.events) (generating_is seed count) ∙ count_is seed count)) in (
        ap (λ (r : Run). limit_in world_limits r.moments) (made_run seed count) ∙ plays.0,
        plays.1 ∙ ap (λ (r : Run). record { catalogue = generated_catalogue; world = r.world }) (sym (made_run seed count)),
        h.events ∙ ap (λ k. (after_rounds seed k).events) e ∙ sym (ap (λ (g : Generating). g.events) (generating_is seed count)),
        sees_appended (λ (line : ℕ × Line). replies_in line.1.shown) (lines_within world_limits s) [] m.replies plays.2 ∙ ap replies_of (limits_cut_traces.whole world_limits s plays.0),
      )

  -- one more event
  module _ (lt : i < count) (x : Event) (next : ℕ) (chosen : (x, next) ≡ choice_in known.world source) (number : ℕ) (counted : number ≡ i) where
    abbrev so_made : Generating
    so_made = after_rounds seed i

    number_is : number + 1 ≡ length so_made.events + 1
    number_is = ap (λ n. n + 1) (counted ∙ sym (count_is seed i))

    so_chosen : (x, next) ≡ choice_of (after_rounds seed i)
    so_chosen = chosen ∙ ap (λ w. choice_in w source) h.world ∙ ap (choice_in (after_rounds seed i).run.world) h.source

    x_is : x ≡ (choice_of (after_rounds seed i)).0
    x_is = ap (λ (c : Choice). c.0) so_chosen

    at : x ≡ get_or (made seed count).events i x
    at = subst (λ (y : Event). y ≡ get_or (made seed count).events i y) (sym x_is) (event_at seed count i lt)

    abbrev pub Answers : Result Known WorldEnd → List Reply → Type 0
    Answers result replies = Sees Collects Begins known.catalogue (own_line (number + 1) x) (one_event known.catalogue (number + 1) x (run_in known.world)) result m.replies replies

    pub making_goes_on : (after : Known) (replies : List Reply) → Answers (Ok after) replies → IsMaking seed count (i + 1) after next (record { events = m.events ++ x ∷ []; replies = replies })
    making_goes_on after replies a =
        let turn = play_goes_on Collects Begins (made seed count) i number known [] m.replies h.catalogue counted h.played x (within_made seed count i lt) at after replies a in
        record {
          world =
              ap (λ (k : Known). k.world) (a.1)
              ∙ ap (λ c. (one_event c (number + 1) x (run_in known.world)).world) h.catalogue
              ∙ ap (λ n. (one_event generated_catalogue n x (run_in known.world)).world) number_is
              ∙ ap (λ (y : Event). (one_event generated_catalogue (length so_made.events + 1) y (run_in known.world)).world) x_is
              ∙ ap (λ (w : WorldState). (one_event generated_catalogue (length so_made.events + 1) (choice_of so_made).0 (run_in w)).world) h.world
              ∙ sym (ap (λ (r : Run). r.world) (event_after generated_catalogue (length so_made.events + 1) (choice_of so_made).0 so_made.run))
              ∙ sym (ap (λ (g : Generating). g.run.world) (one_more seed i) ∙ ap (λ (r : Run). r.world) (round_run so_made));
          source = ap (λ (c : Choice). c.1) so_chosen ∙ sym (ap (λ (g : Generating). g.source) (one_more seed i) ∙ round_source (after_rounds seed i));
          events =
              ap (λ (es : List Event). es ++ x ∷ []) h.events ∙ ap (λ (y : Event). (after_rounds seed i).events ++ y ∷ []) x_is
              ∙ sym (ap (λ (g : Generating). g.events) (one_more seed i) ∙ round_events (after_rounds seed i));
          catalogue = turn.0;
          played = turn.1;
        }

    pub making_is_ended : (why : WorldEnd) (replies : List Reply) → Answers (Err why) replies → Makes seed count (Err why) (record { events = m.events; replies = replies })
    making_is_ended (end.Limit what limit) replies a =
        let plays = play_is_ended Collects Begins (made seed count) i number known [] m.replies h.catalogue counted h.played x (within_made seed count i lt) at (end.Limit what limit) replies a in
        let here = ap (λ c. limit_in world_limits (one_event c (i + 1) x (run_in known.world)).moments) (sym h.catalogue) ∙ ap (λ n. limit_in world_limits (one_event known.catalogue (n + 1) x (run_in known.world)).moments) (sym counted) ∙ a.0 in
        let cut = cut_here Collects (made seed count) i known.world [] m.replies h.played x (within_made seed count i lt) at what here in
        let first : first_over world_limits (generating seed count).run.moments ≡ Some cut.0 = ap (λ (r : Run). first_over world_limits r.moments) (made_run seed count) ∙ cut.1 in
        let before : i ≡ cut.0.number - 1 = omega (arith, cut.2) in (
          ap (λ (r : Run). limit_in world_limits r.moments) (made_run seed count) ∙ plays.0,
          plays.1,
          h.events ∙ sym (front_is seed count i lt) ∙ ap (λ k. take k (made seed count).events) before
              ∙ sym (ap (λ (o : Option Moment). option_map_or (λ (m : Moment). take (m.number - 1) (made seed count).events) o (made seed count).events) first),
        )
    making_is_ended end.NoMemory replies a = tt

-- ---- what is printed

-- a beginning of the text of the events
pub begun_made : (seed count : ℕ) (known : Known) (m : GeneratedRun) (old new : List ℕ) → Makes seed count (Ok known) m → is_begun old (schedule_text (record { catalogue = generated_catalogue; events = m.events })) new ≡ true → is_begun old (schedule_text (made_within world_limits seed count)) new ≡ true
begun_made seed count known m old new makes h =
    subst (λ (s : Schedule). is_begun old (schedule_text s) new ≡ true)
    (ap (λ (es : List Event). record { catalogue = generated_catalogue; events = es }) makes.2 ∙ sym (limits_cut_traces.generated world_limits seed count makes.0))
    h
