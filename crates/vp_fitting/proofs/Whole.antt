-- How a merge ends, and the laws.
use Rattle.std.proofs.Common.{◌≡◌, ◌≢◌, ◌⊎◌, ◌∙◌, ap, sym, subst, ℕ, ◌+◌, ◌-◌, ◌≤◌, zero, suc, Bool, true, false, cond, List, ◌∷◌, [], ◌++◌, refl, arith, append-nil, append_assoc, inl, inr}
use Rattle.std.specs.Prelude.{Option, Some, None, Result, Ok, Err, ◌&&◌, is_some, option_and_then}
use Rattle.std.proofs.lemmas.List.{append_cancel_left}
use Rattle.vp_catalog.specs.Document.{IsCatalogue}
use Rattle.vp_model.specs.Types.{Event, Input, Sent, Counted}
use Rattle.vp_model.specs.Catalogue.{Catalogue, sites_of, start_copies}
use Rattle.vp_model.specs.Durable.{empty_durable}
use Rattle.vp_model.specs.Step.{step, start}
use Rattle.vp_model.specs.Limits.{Limits, refused}
use Rattle.vp_model.specs.World.{Place, WorldState, Schedule, next, run_of, moments_of}
use Rattle.vp_model.specs.Types.input
use Rattle.vp_wire.specs.Grammar.{IsFrame}
use Rattle.vp_laws.specs.ShapeLaws.{message_frame}
use Rattle.vp_laws.proofs.Lists.Items.{all_at}
use Rattle.vp_laws.proofs.Lists.Members.{Has, has_of, contains, has_right, has_first, both_true}
use Rattle.vp_laws.proofs.Shapes.Worlds.{last_world}
use Rattle.vp_runs.specs.declared.arrival.Arrival.{Arrival}
use Rattle.vp_runs.specs.declared.arrival.Arrival.TheVariants.{Bad, Stray, Stops, Gives}
use Rattle.vp_recording.specs.declared.recording.Recording.{Recording}
use Rattle.vp_recording.specs.Recordings.{AreOfNodes}
use Rattle.vp_fitting.specs.Asked.{Due, asks, dues_of, outs_of}
use Rattle.vp_fitting.specs.Fitting.{Deed, IsFitting, asked_then, asked_from, asked_of, deeds_of, given_by, frames_in}
use Rattle.vp_fitting.specs.Laws.{over, AreTold, MatchesAll, IsWhole, MergesMatch, IsNeverSent, UnsentIsNeverSent, FittingRecordingsMerge}
use Rattle.vp_fitting.specs.Merged.{Merging, Choice, Merge, Done, tells, is_own, is_told, can_take, own_events, event_of, events_in, is_ready, done_with, done_from, turn_done, taken_by, first_of, ready, merge_end, end_of, gone_on, by_choice, merged_from, merged, turns_left, first_track, at_first}
use Rattle.vp_fitting.proofs.Runs.{Runs, run_in, begins, no_moments, limit_none}
use Rattle.vp_fitting.proofs.Choices.{IsChosen, chosen_is, Stays, none_chosen, none_left, fewer_left}
use Rattle.vp_laws.proofs.Moves.LocalViews.{letter}
use Rattle.vp_fitting.proofs.Messages.{asked_by, joined}
use Rattle.vp_fitting.proofs.Follows.{AreDue, dues_rise, dues_numbered, one_due, Follows, follows_first, follows_same, follows_takes, follows_stops, asked_now, gives_other, stops_other, bad_other, stray_other, none_recorded}
use Rattle.vp_runs.proofs.Through.{starts_at}
use Rattle.vp_fitting.proofs.Deeds.{frames_of}
use Rattle.vp_fitting.proofs.Alone.{alone, given-more, agrees_last}
use Rattle.vp_fitting.proofs.Taking.{Taking, TakingAt, its_turn, after_turn, InLife, to_life, unless_ok, Took, took, took_made, steps_on, deeds_in, given_in, start_life}
use Rattle.vp_fitting.proofs.Waiting.{Starts, Halts, Holds, held_last, sent_before, starts_left, starts_send, WaitsAt, waits_at, waits_halt}

not_none : (d : Deed) (deeds : List Deed) → d ∷ deeds ≡ [] → ⊥
not_none d deeds e = cc

abbrev ok_of : Done → Result Done Counted
ok_of done = Ok done

same_done : (a b : Done) → ok_of a ≡ ok_of b → a ≡ b
same_done a b e = cc

-- not an input
abbrev IsOther : Arrival → Type 0
IsOther (Gives given) = ⊥
IsOther a = Unit {0}

module _ (limits : Limits) (catalogue : Catalogue) (recordings : List Recording) (k : IsCatalogue catalogue) where
  abbrev T : Merging → Type 0
  T m = Taking limits catalogue recordings m.world m.events m.left

  abbrev sites : List ℕ
  sites = sites_of catalogue

  frames_sent : (w : WorldState) (events : List Event) → Runs limits catalogue w events → (m : Sent) → Has w.sent m → IsFrame (message_frame m)
  frames_sent w events h m has =
      all_at (λ (sent : Sent). IsFrame (message_frame sent)) (run_in catalogue events).world.sent (last_world (over catalogue events) k h.calls).sent_are m (subst (λ (w : WorldState). Has w.sent m) (sym h.world) has)

  -- ---- a turn

  -- what came of a turn's events: the site has taken its input, or it had none
  data Came (m : Merging) (c : Choice) (final : Done) : Type 0 where
    gave : (mid : Done) (given : Input) → TakingAt limits catalogue recordings mid.world mid.events c.site c.due.life (c.due ∷ c.rest) m.left → asks c.site c.due.turn.frame ≡ Gives given
        → Took limits catalogue recordings c.site c.due c.rest m.left given mid.events final.events final.world final.made → Came m c final
    stood : (a : Arrival) → TakingAt limits catalogue recordings final.world final.events c.site c.due.life (c.due ∷ c.rest) m.left → asks c.site c.due.turn.frame ≡ a → IsOther a → final.made ≡ [] → Came m c final

  module _ (m : Merging) (t : T m) (c : Choice) (chosen : IsChosen (can_take m.world.sent) m.left sites c) (final : Done) (done : turn_done limits catalogue m c ≡ Ok final) where
    abbrev first : Done
    first = record { world = m.world; events = m.events; made = [] }

    abbrev own : List Event
    own = own_events m.world.sent c.site (asks c.site c.due.turn.frame)

    turn : TakingAt limits catalogue recordings m.world m.events c.site (m.left c.site).life (c.due ∷ c.rest) m.left
    turn = subst (λ (dues : List Due). TakingAt limits catalogue recordings m.world m.events c.site (m.left c.site).life dues m.left) chosen.dues (its_turn limits catalogue recordings m.world m.events m.left c.site chosen.listed t)

    up_to : (a b : ℕ) → a ≤ b → a + (b - a) ≡ b
    up_to a b le = omega (arith, le)

    in_life : InLife limits catalogue recordings c.site c.due c.rest m.left own first final
    in_life = to_life limits catalogue recordings c.site c.due c.rest m.left own (c.due.life - (m.left c.site).life) (m.left c.site).life (up_to (m.left c.site).life c.due.life turn.follows.due.0) first final turn done

    some_event : (o : Option Event) → is_some o ≡ true → (e : Event) × (o ≡ Some e)
    some_event None p = absurd cc
    some_event (Some e) p = (e, refl)

    gives : (given : Input) → asks c.site c.due.turn.frame ≡ Gives given → Came m c final
    gives given is =
        let mid = in_life.mid in
        let e = some_event (event_of m.world.sent c.site given) (subst (λ (a : Arrival). is_ready m.world.sent c.site a ≡ true) is chosen.passed) in
        let rest : done_from limits catalogue c.site (e.0 ∷ []) mid ≡ Ok final =
        subst (λ (events : List Event). done_from limits catalogue c.site events mid ≡ Ok final) (ap (own_events m.world.sent c.site) is ∙ ap events_in e.1) in_life.rest
        in
        let after = done_with catalogue c.site e.0 mid in
        let free = unless_ok limits catalogue recordings (refused limits catalogue e.0 mid.world) (ok_of after) final rest in
        let last : after ≡ final = same_done after final free.1 in
        let at = in_life.taking in
        let it = steps_on catalogue c.site mid.world at.up.x given c.due.turn.frame e.0 at.up.up at.runs.cuts (frames_sent mid.world mid.events at.runs) (asked_by c.site c.due.turn.frame given is)
        (ap (λ (all : List Sent). event_of all c.site given) in_life.sent ∙ e.1)
        in
        let made : mid.made ++ frames_in c.site (next catalogue e.0 mid.world).shown ≡ frames_of c.site (step catalogue at.up.x given) =
        ap (λ (made : List (List ℕ)). made ++ frames_in c.site (next catalogue e.0 mid.world).shown) in_life.made
        ∙ took_made limits catalogue recordings c.site c.due c.rest m.left given mid.world mid.events at e.0 it free.0
        in
        subst (Came m c) last (Came.gave mid given at is
        (subst (λ (made : List (List ℕ)). Took limits catalogue recordings c.site c.due c.rest m.left given mid.events (mid.events ++ e.0 ∷ []) (next catalogue e.0 mid.world).world made) (sym made)
        (took limits catalogue recordings c.site c.due c.rest m.left given mid.world mid.events at e.0 it free.0)))

    stands : (a : Arrival) → asks c.site c.due.turn.frame ≡ a → own_events m.world.sent c.site a ≡ [] → IsOther a → Came m c final
    stands a is none other =
        let rest : done_from limits catalogue c.site [] in_life.mid ≡ Ok final =
        subst (λ (events : List Event). done_from limits catalogue c.site events in_life.mid ≡ Ok final) (ap (own_events m.world.sent c.site) is ∙ none) in_life.rest
        in
        let last : in_life.mid ≡ final = same_done in_life.mid final rest in
        subst (Came m c) last (Came.stood a in_life.taking is other in_life.made)

    came : Came m c final
    came = by (asks c.site c.due.turn.frame) refl
      where
        by : (a : Arrival) → asks c.site c.due.turn.frame ≡ a → Came m c final
        by (Gives given) is = gives given is
        by (Bad at) is = stands (Bad at) is refl tt
        by Stray is = stands Stray is refl tt
        by Stops is = stands Stops is refl tt

  -- ---- the turn is taken

  module _ (m : Merging) (c : Choice) (final : Done) (told : is_told c.site c.due final.made ≡ true) where
    tells_all : tells c.due.short (outs_of c.due) final.made ≡ true
    tells_all = (both_true (is_own (asks c.site c.due.turn.frame)) (tells c.due.short (outs_of c.due) final.made) told).1

    owns : is_own (asks c.site c.due.turn.frame) ≡ true
    owns = (both_true (is_own (asks c.site c.due.turn.frame)) (tells c.due.short (outs_of c.due) final.made) told).0

    stopped : TakingAt limits catalogue recordings final.world final.events c.site c.due.life (c.due ∷ c.rest) m.left → asks c.site c.due.turn.frame ≡ Stops → final.made ≡ [] → T (taken_by m c final)
    stopped at is made =
        let none = none_recorded c.due.short (outs_of c.due) (subst (λ (made : List (List ℕ)). tells c.due.short (outs_of c.due) made ≡ true) made tells_all) in
        after_turn limits catalogue recordings final.world final.events m.left c.site c.due.life c.rest
        (record { runs = at.runs; up = at.up; follows = follows_stops recordings c.site (deeds_in limits catalogue recordings final.events c.site) (given_in limits catalogue recordings final.events c.site) c.due c.rest is none at.follows; others = at.others })

    next_taking : Came m c final → T (taken_by m c final)
    next_taking (Came.gave mid given at is it) =
        after_turn limits catalogue recordings final.world final.events m.left c.site c.due.life c.rest
        (record {
          runs = it.runs;
          up = it.up;
          follows = follows_same recordings c.site _ _ _ _ c.due.life c.rest it.deeds it.made_is
              (follows_takes recordings c.site (deeds_in limits catalogue recordings mid.events c.site) (given_in limits catalogue recordings mid.events c.site) c.due c.rest given final.made is tells_all at.follows);
          others = it.others;
        })
    next_taking (Came.stood (Gives given) at is other made) = absurd other
    next_taking (Came.stood Stops at is other made) = stopped at is made
    next_taking (Came.stood (Bad n) at is other made) = absurd (let z : is_own (asks c.site c.due.turn.frame) ≡ false = ap is_own is in let y = owns in cc)
    next_taking (Came.stood Stray at is other made) = absurd (let z : is_own (asks c.site c.due.turn.frame) ≡ false = ap is_own is in let y = owns in cc)

  -- ---- how a merge ends

  data Ending : Merge → Type 0 where
    whole : (m : Merging) → T m → ((id : ℕ) → Has sites id → (m.left id).dues ≡ []) → Ending (Merge.whole m.events)
    unsent : (m : Merging) → T m → ready catalogue m ≡ None → (c : Choice) → IsChosen (λ site d. true) m.left sites c → Ending (Merge.unsent c.site c.due.number)
    unlike : (m : Merging) (c : Choice) (final : Done) → T m → IsChosen (can_take m.world.sent) m.left sites c → Came m c final → is_told c.site c.due final.made ≡ false → Ending (Merge.unlike c.site c.due.number)
    too_long : (what : Counted) → Ending (Merge.too_long what)

  ends_here : (m : Merging) → T m → ready catalogue m ≡ None → Ending (end_of catalogue m)
  ends_here m t none = go (first_of (λ site d. true) sites m.left) refl
    where
      no_dues : (id : ℕ) → Stays (λ site d. true) m.left id → (m.left id).dues ≡ []
      no_dues id (Stays.none e) = e
      no_dues id (Stays.waits d dues e p) = absurd cc

      go : (o : Option Choice) → first_of (λ site d. true) sites m.left ≡ o → Ending (merge_end m o)
      go None e = Ending.whole m t (λ id l. no_dues id (none_chosen (λ site d. true) m.left sites e id l))
      go (Some c) e = Ending.unsent m t none c (chosen_is (λ site d. true) m.left sites c e)

  less : (a b n : ℕ) → a + 1 ≤ b → b ≤ suc n → a ≤ n
  less a b n h le = omega (arith, h, le)

  ends : (n : ℕ) (m : Merging) → T m → turns_left sites m.left ≤ n → Ending (merged_from n limits catalogue m)
  unfolding merged_from
  ends zero m t le = ends_here m t (none_left (can_take m.world.sent) sites m.left le)
  ends (suc n) m t le = go (λ next t le. ends n next t le) (ready catalogue m) refl
    where
      go : ((next : Merging) → T next → turns_left sites next.left ≤ n → Ending (merged_from n limits catalogue next)) → (o : Option Choice) → ready catalogue m ≡ o → Ending (by_choice limits catalogue (merged_from n limits catalogue) m o)
      go rest None e = ends_here m t e
      go rest (Some c) e = turn (turn_done limits catalogue m c) refl
        where
          chosen : IsChosen (can_take m.world.sent) m.left sites c
          chosen = chosen_is (can_take m.world.sent) m.left sites c e

          turn : (r : Result Done Counted) → turn_done limits catalogue m c ≡ r → Ending (gone_on (merged_from n limits catalogue) m c r)
          turn (Err what) f = Ending.too_long what
          turn (Ok final) f = told (is_told c.site c.due final.made) refl
            where
              it : Came m c final
              it = came m t c chosen final f

              told : (b : Bool) → is_told c.site c.due final.made ≡ b → Ending (cond b (merged_from n limits catalogue (taken_by m c final)) (Merge.unlike c.site c.due.number))
              told true g =
                  rest (taken_by m c final) (next_taking m c final g it)
                  (less _ _ n (fewer_left c.site (record { life = c.due.life; dues = c.rest }) m.left c.due chosen.dues sites chosen.listed) le)
              told false g = Ending.unlike m c final t chosen it g

  -- ---- from the start

  module _ (nodes : AreOfNodes catalogue recordings) where
    first_due : (id : ℕ) → Has sites id → AreDue 1 (dues_of id recordings)
    first_due id l = dues_rise id 0 1 recordings (nodes.rise id (contains sites id l)) (λ r h. nodes.lives r (contains recordings r h))

    starts : T (at_first catalogue recordings)
    starts =
        record {
          runs = begins limits catalogue;
          sites = λ id l. record {
            up = record {
              x = start catalogue id (empty_durable (start_copies catalogue id));
              up = ap (option_and_then (λ (p : Place). p.up)) (starts_at catalogue id l);
              life_is = start_life limits catalogue recordings id (empty_durable (start_copies catalogue id));
            };
            follows = follows_same recordings id _ _ _ _ 1 (dues_of id recordings) (ap (deeds_of id) (no_moments catalogue)) (ap (given_by id) (no_moments catalogue)) (follows_first recordings id (first_due id l));
          };
        }

    merge_ends : Ending (merged limits catalogue recordings)
    unfolding merged
    merge_ends = ends (turns_left sites (first_track recordings)) (at_first catalogue recordings) starts (omega arith)

    -- ---- a whole merge

    whole_is : (m : Merging) → T m → ((id : ℕ) → Has sites id → (m.left id).dues ≡ []) → IsWhole limits catalogue recordings m.events
    whole_is m t none =
        record {
          matches = record {
            fits = record { singles = t.runs.singles; each = λ id c. all_done id (has_of sites id c) };
            told = λ id c. all_told id (has_of sites id c);
          };
          calls = t.runs.calls;
          within = limit_none limits catalogue m.events m.world t.runs;
        }
      where
        ended_at : (id : ℕ) → Has sites id → Follows recordings id (deeds_in limits catalogue recordings m.events id) (given_in limits catalogue recordings m.events id) (m.left id).life []
        ended_at id l = subst (λ (dues : List Due). Follows recordings id (deeds_in limits catalogue recordings m.events id) (given_in limits catalogue recordings m.events id) (m.left id).life dues) (none id l) (t.sites id l).follows

        all_done : (id : ℕ) → Has sites id → deeds_of id (moments_of (over catalogue m.events)) ≡ asked_of id recordings
        all_done id l = sym (append-nil (deeds_in limits catalogue recordings m.events id)) ∙ (ended_at id l).asked

        all_told : (id : ℕ) → Has sites id → AreTold id (dues_of id recordings) (given_by id (moments_of (over catalogue m.events)))
        all_told id l = subst (AreTold id (dues_of id recordings)) (append-nil (given_in limits catalogue recordings m.events id)) ((ended_at id l).told [] refl)

    -- ---- where it waits

    module _ (m : Merging) (t : T m) (none : ready catalogue m ≡ None) where
      abbrev asked : ℕ → List Deed
      asked id = asked_of id recordings

      abbrev bound : ℕ → List Deed
      bound id = deeds_in limits catalogue recordings m.events id ++ starts_left (m.left id).life (m.left id).dues

      abbrev Tail : ℕ → Type 0
      Tail id = (tail : List Deed) × (asked id ≡ bound id ++ tail) × Halts m.world.sent id tail

      tail_of : (id : ℕ) → Has sites id → (rest : List Deed) → asked_from id (m.left id).life (m.left id).dues ≡ starts_left (m.left id).life (m.left id).dues ++ rest → asked id ≡ bound id ++ rest
      tail_of id l rest e =
          sym (t.sites id l).follows.asked ∙ ap (λ (deeds : List Deed). deeds_in limits catalogue recordings m.events id ++ deeds) e
          ∙ sym (append_assoc (deeds_in limits catalogue recordings m.events id) (starts_left (m.left id).life (m.left id).dues) rest)

      halts : (id : ℕ) → Has sites id → Tail id
      halts id l = by (none_chosen (can_take m.world.sent) m.left sites none id l)
        where
          by : Stays (can_take m.world.sent) m.left id → Tail id
          by (Stays.none e) = ([], tail_of id l [] (rw e refl), Halts.ends)
          by (Stays.waits d dues e p) =
              let w = waits_halt m.world.sent id (m.left id).life d dues (waits_at m.world.sent id d p) in
              (Deed.takes w.0 ∷ w.1, tail_of id l (Deed.takes w.0 ∷ w.1) (rw e w.2), w.3)

      holds : Holds catalogue m.world.sent asked bound
      holds =
          record {
            halts = halts;
            sends = λ id l x has.
                subst (λ (w : WorldState). Has w.sent x) t.runs.world
                ((agrees_last catalogue m.events).sends id l x (subst (λ (all : List Sent). Has all x) (starts_send catalogue id (deeds_in limits catalogue recordings m.events id) (m.left id).life (m.left id).dues) has));
          }

      module _ (c : Choice) (chosen : IsChosen (λ site d. true) m.left sites c) where
        waits_there : WaitsAt m.world.sent c.site c.due
        waits_there = by (none_chosen (can_take m.world.sent) m.left sites none c.site chosen.listed)
          where
            by : Stays (can_take m.world.sent) m.left c.site → WaitsAt m.world.sent c.site c.due
            by (Stays.none e) = absurd (let z = sym e ∙ chosen.dues in cc)
            by (Stays.waits d dues e p) =
                let z = sym e ∙ chosen.dues in
                let same : d ≡ c.due = cc in
                subst (WaitsAt m.world.sent c.site) same (waits_at m.world.sent c.site d p)

        is_due : (d : Due) → Has (dues_of c.site recordings) d → d.number ≡ c.due.number → c.due ≡ d
        is_due d has e =
            let f = (t.sites c.site chosen.listed).follows in
            let part : f.before ++ (c.due ∷ c.rest) ≡ dues_of c.site recordings = ap (λ (dues : List Due). f.before ++ dues) (sym chosen.dues) ∙ f.part in
            let there : Has (dues_of c.site recordings) c.due = subst (λ (dues : List Due). Has dues c.due) part (has_right f.before (c.due ∷ c.rest) c.due (has_first c.due c.rest)) in
            one_due 1 (dues_of c.site recordings) (dues_numbered c.site 1 recordings) c.due d there has (sym e)

        fitting : (events : List Event) → IsFitting (over catalogue events) recordings → (id : ℕ) → Has sites id → Starts (deeds_of id (moments_of (over catalogue events))) (asked id)
        fitting events fits id l = fits.each id (contains sites id l)

        -- the message that the turn takes
        is_letter : (x : Sent) → x.to ≡ c.site → asks c.site c.due.turn.frame ≡ Gives (input.Message x.from x.message) → x ≡ letter waits_there.waits.from c.site waits_there.waits.message
        is_letter x to e =
            let it = waits_there.waits in
            let z : Gives (input.Message x.from x.message) ≡ Gives (input.Message it.from it.message) = sym e ∙ waits_there.asks_is ∙ ap Gives it.given_is in
            let from : x.from ≡ it.from = cc in
            let message : x.message ≡ it.message = cc in
            joined x.from it.from x.to c.site x.message it.message from to message

        abbrev Unlike : WorldState → Type 0
        Unlike w = (x : Sent) → Has w.sent x → x ≢ letter waits_there.waits.from c.site waits_there.waits.message

        never : (s : Schedule) → s.catalogue ≡ catalogue → IsFitting s recordings → Unlike (run_of s).world
        never s same = subst (λ (s : Schedule). IsFitting s recordings → Unlike (run_of s).world) (ap (λ (c : Catalogue). over c s.events) (sym same))
            (λ fits x has.
            let h = held_last catalogue m.world.sent asked bound holds s.events in
            waits_there.waits.none x (sent_before catalogue m.world.sent asked bound holds (run_in catalogue s.events) h.agrees (h.stays (fitting s.events fits)) x has))

        never_sent : IsNeverSent catalogue recordings c.site c.due.number
        never_sent s same fits d has e x there to takes =
            never s same fits x (has_of (run_of s).world.sent x there) (is_letter x to (subst (λ (d : Due). asks c.site d.turn.frame ≡ Gives (input.Message x.from x.message)) (sym (is_due d (has_of (dues_of c.site recordings) d has) e)) takes))

        -- so no schedule does all
        not_all : (events : List Event) → MatchesAll (over catalogue events) recordings → ⊥
        not_all events all =
            let h = held_last catalogue m.world.sent asked bound holds events in
            let front = h.stays (λ id l. ([], append-nil (deeds_of id (moments_of (over catalogue events))) ∙ all.fits.each id (contains sites id l))) c.site chosen.listed in
            let w = waits_halt m.world.sent c.site (m.left c.site).life c.due c.rest waits_there in
            let tail : List Deed = Deed.takes w.0 ∷ w.1 in
            let e : asked c.site ≡ bound c.site ++ tail = tail_of c.site chosen.listed tail (rw chosen.dues w.2) in
            let same : bound c.site ++ (tail ++ front.0) ≡ bound c.site ++ [] =
            sym (append_assoc (bound c.site) tail front.0) ∙ ap (λ (deeds : List Deed). deeds ++ front.0) (sym e ∙ sym (all.fits.each c.site (contains sites c.site chosen.listed))) ∙ front.1 ∙ sym (append-nil (bound c.site))
            in
            not_none (Deed.takes w.0) (w.1 ++ front.0) (append_cancel_left (bound c.site) (tail ++ front.0) [] same)

    -- ---- where it differs

    module _ (events : List Event) (all : MatchesAll (over catalogue events) recordings) (s : ℕ) (listed : Has sites s) where
      -- another schedule that has done the same first has given the same first
      gave_first : (before : List Event) (more : List Deed) → asked_of s recordings ≡ deeds_in limits catalogue recordings before s ++ more
          → (rest : List (List (List ℕ))) × AreTold s (dues_of s recordings) (given_in limits catalogue recordings before s ++ rest)
      gave_first before more e =
          let here = agrees_last catalogue before in
          let there = agrees_last catalogue events in
          let r = given-more catalogue s (deeds_in limits catalogue recordings before s) more in
          let same : given_by s (moments_of (over catalogue events)) ≡ given_in limits catalogue recordings before s ++ r.0 =
          sym (there.given_is s listed) ∙ ap (λ (deeds : List Deed). (alone catalogue s deeds).given) (all.fits.each s (contains sites s listed) ∙ e)
          ∙ r.1 ∙ ap (λ (given : List (List (List ℕ))). given ++ r.0) (here.given_is s listed)
          in
          (r.0, subst (AreTold s (dues_of s recordings)) same (all.told s (contains sites s listed)))

    not_unlike : (events : List Event) → MatchesAll (over catalogue events) recordings → (m : Merging) (c : Choice) (final : Done) → Has sites c.site → is_told c.site c.due final.made ≡ false → Came m c final → ⊥
    not_unlike events all m c final listed untold (Came.gave mid given at is it) =
        let more = asked_from c.site c.due.life c.rest in
        let g = gave_first events all c.site listed final.events more
        (sym (asked_now recordings c.site (deeds_in limits catalogue recordings mid.events c.site) (given_in limits catalogue recordings mid.events c.site) c.due c.rest at.follows)
        ∙ ap (λ (a : Arrival). deeds_in limits catalogue recordings mid.events c.site ++ asked_then a more) is
        ∙ sym (append_assoc (deeds_in limits catalogue recordings mid.events c.site) (Deed.takes given ∷ []) more)
        ∙ ap (λ (deeds : List Deed). deeds ++ more) (sym it.deeds))
        in
        gives_other recordings c.site (deeds_in limits catalogue recordings mid.events c.site) (given_in limits catalogue recordings mid.events c.site) c.due c.rest given final.made g.0 is
        (subst (λ (a : Arrival). (is_own a && tells c.due.short (outs_of c.due) final.made) ≡ false) is untold) at.follows
        (subst (AreTold c.site (dues_of c.site recordings)) (ap (λ (given : List (List (List ℕ))). given ++ g.0) it.made_is ∙ append_assoc (given_in limits catalogue recordings mid.events c.site) (final.made ∷ []) g.0) g.1)
    not_unlike events all m c final listed untold (Came.stood a at is other made) =
        let g = gave_first events all c.site listed final.events (asked_from c.site c.due.life (c.due ∷ c.rest)) (sym at.follows.asked) in
        by a is other (subst (λ (a : Arrival). (is_own a && tells c.due.short (outs_of c.due) final.made) ≡ false) is untold) g.0 g.1
      where
        by : (a : Arrival) → asks c.site c.due.turn.frame ≡ a → IsOther a → (is_own a && tells c.due.short (outs_of c.due) final.made) ≡ false → (rest : List (List (List ℕ))) → AreTold c.site (dues_of c.site recordings) (given_in limits catalogue recordings final.events c.site ++ rest) → ⊥
        by (Gives input) is other untold rest h = other
        by Stops is other untold rest h = stops_other recordings c.site (deeds_in limits catalogue recordings final.events c.site) (given_in limits catalogue recordings final.events c.site) c.due c.rest rest is (subst (λ (made : List (List ℕ)). tells c.due.short (outs_of c.due) made ≡ false) made untold) at.follows h
        by (Bad n) is other untold rest h = bad_other recordings c.site (deeds_in limits catalogue recordings final.events c.site) (given_in limits catalogue recordings final.events c.site) c.due c.rest n rest is at.follows h
        by Stray is other untold rest h = stray_other recordings c.site (deeds_in limits catalogue recordings final.events c.site) (given_in limits catalogue recordings final.events c.site) c.due c.rest rest is at.follows h

    -- ---- the laws

    abbrev Merges : Type 0
    Merges = ((events : List Event) × (merged limits catalogue recordings ≡ Merge.whole events)) ⊎ ((what : Counted) × (merged limits catalogue recordings ≡ Merge.too_long what))

    all_merge : (events : List Event) → MatchesAll (over catalogue events) recordings → Merges
    all_merge events all = by (merged limits catalogue recordings) merge_ends refl
      where
        by : (r : Merge) → Ending r → merged limits catalogue recordings ≡ r → Merges
        by _ (Ending.whole m t none) e = inl (m.events, e)
        by _ (Ending.unsent m t none c chosen) e = absurd (not_all m t none c chosen events all)
        by _ (Ending.unlike m c final t chosen it untold) e = absurd (not_unlike events all m c final chosen.listed untold it)
        by _ (Ending.too_long what) e = inr (what, e)

whole_ending : (limits : Limits) (catalogue : Catalogue) (recordings : List Recording) (k : IsCatalogue catalogue) (nodes : AreOfNodes catalogue recordings) (events : List Event) (r : Merge) → Ending limits catalogue recordings k r → r ≡ Merge.whole events
    → IsWhole limits catalogue recordings events
whole_ending limits catalogue recordings k nodes events _ (Ending.whole m t none) e = let same : m.events ≡ events = cc in subst (IsWhole limits catalogue recordings) same (whole_is limits catalogue recordings k nodes m t none)
whole_ending limits catalogue recordings k nodes events _ (Ending.unsent m t none c chosen) e = absurd cc
whole_ending limits catalogue recordings k nodes events _ (Ending.unlike m c final t chosen it untold) e = absurd cc
whole_ending limits catalogue recordings k nodes events _ (Ending.too_long what) e = absurd cc

pub merges_match : MergesMatch
merges_match limits catalogue recordings events k nodes e = whole_ending limits catalogue recordings k nodes events (merged limits catalogue recordings) (merge_ends limits catalogue recordings k nodes) e

unsent_ending : (limits : Limits) (catalogue : Catalogue) (recordings : List Recording) (k : IsCatalogue catalogue) (nodes : AreOfNodes catalogue recordings) (site number : ℕ) (r : Merge) → Ending limits catalogue recordings k r → r ≡ Merge.unsent site number
    → IsNeverSent catalogue recordings site number
unsent_ending limits catalogue recordings k nodes site number _ (Ending.unsent m t none c chosen) e =
    let one : c.site ≡ site = cc in
    let two : c.due.number ≡ number = cc in
    subst (IsNeverSent catalogue recordings site) two (subst (λ (site : ℕ). IsNeverSent catalogue recordings site c.due.number) one (never_sent limits catalogue recordings k nodes m t none c chosen))
unsent_ending limits catalogue recordings k nodes site number _ (Ending.whole m t none) e = absurd cc
unsent_ending limits catalogue recordings k nodes site number _ (Ending.unlike m c final t chosen it untold) e = absurd cc
unsent_ending limits catalogue recordings k nodes site number _ (Ending.too_long what) e = absurd cc

pub unsent_is_never_sent : UnsentIsNeverSent
unsent_is_never_sent limits catalogue recordings site number k nodes e = unsent_ending limits catalogue recordings k nodes site number (merged limits catalogue recordings) (merge_ends limits catalogue recordings k nodes) e

pub fitting_recordings_merge : FittingRecordingsMerge
fitting_recordings_merge limits catalogue recordings s k nodes same all =
    all_merge limits catalogue recordings k nodes s.events (subst (λ (s : Schedule). MatchesAll s recordings) (ap (λ (c : Catalogue). over c s.events) same) all)
