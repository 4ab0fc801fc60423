-- A turn of a merge.
use Rattle.std.proofs.Common.{◌≡◌, ◌∙◌, ap, sym, subst, Bool, true, false, cond, ℕ, zero, suc, ◌+◌, ◌<◌, List, [], ◌∷◌, Some, None, Ok, Err, set, refl, arith}
use Rattle.std.specs.Prelude.{Option, ◌&&◌, ◌-◌, position, slice_get, option_map, IfSome, get_or}
use Rattle.std.specs.List.{AllByRecursion}
use Rattle.std.proofs.lemmas.Option.{get_or_from_slice_get}
use Rattle.std.proofs.lemmas.Iterator.Adapters.{position_from-zero}
use Rattle.vp_text.proofs.Items.{all_each}
use Rattle.vp_model.specs.Types.{Event, Counted}
use Rattle.vp_model.specs.Catalogue.{Catalogue, sites_of}
use Rattle.vp_model.specs.Limits.{world_limits}
use Rattle.vp_model.specs.World.{WorldState}
use Rattle.vp_laws.specs.Catalogues.{AreApart}
use Rattle.vp_laws.proofs.Lists.Catalogues.{catalogue_apart}
use Rattle.vp_laws.proofs.Lists.Members.{Has, has_test}
use Rattle.vp_model.specs.Words.{has}
use Rattle.vp_recording.specs.declared.recording.Recording.{Recording}
use Rattle.vp_runs.specs.declared.arrival.Arrival.{Arrival}
use Rattle.vp_fitting.specs.Asked.{Due, asks}
use Rattle.vp_fitting.specs.Merged.{Choice, Merge, Merging as MergingState, Track as Left, by_choice, can_take, done_from, end_of, first_of, gone_on, is_own, is_told, events_in, merged_from, own_events, is_ready, ready, restarts_then, taken_by, tells, turn_done, turns_left, with_track}
use Rattle.vp_fitting.proofs.Choices.{fewer_left}
use Rattle.vp_merge.specs.Dues.{due_of, dues_left}
use Rattle.vp_merge.specs.Lives.{Lives, StartsLives, Takes, TakesEvent}
use Rattle.vp_merge.specs.Merging.{AreThere, IsMerging, TakesTurn, choice_at, left_of, state_of}
use Rattle.vp_merge.specs.Numbers.{HasTurn, IsIndex, as_sent}
use Rattle.vp_merge.specs.Played.{IsPlayed, IsPut, done_at}
use Rattle.vp_merge.specs.Telling.{bytes_of}
use Rattle.vp_merge.specs.Tracks.{IsNext, IsTrack, can_go, dues_with, is_ready_by, own_event, track_of}
use Rattle.vp_merge.specs.declared.fault.MergeFault.{MergeFault}
use Rattle.vp_merge.specs.declared.fault.MergeFault.TheVariants as faults
use Rattle.vp_merge.specs.declared.merging.Merging.{Merging}
use Rattle.vp_merge.specs.declared.numbers.FrameNumbers.{FrameNumbers}
use Rattle.vp_merge.specs.declared.played.Played.{Played}
use Rattle.vp_merge.specs.declared.track.NextTurn.{NextTurn}
use Rattle.vp_merge.specs.declared.track.Track.{Track}
use Rattle.vp_merge.proofs.Entries.{same_there}
use Rattle.vp_merge.proofs.OwnEvents.{same_ready, same_events, event_is_put}
use Rattle.vp_merge.proofs.Choosing.{sites_in, left_fits, left_set, set_sites, all_set, all_there, there_site, Agrees, Picked, picks, none_goes}

pub same_state : (w v : WorldState) (es fs : List Event) (f g : ℕ → Left) → w ≡ v → es ≡ fs → f ≡ g → record { world = w; events = es; left = f } ≡ (let m : MergingState = record { world = v; events = fs; left = g } in m)
same_state w v es fs f g a b c = rw (a, b, c) refl

-- ---- the merge before a turn

module _ (recordings : List Recording) (m : Merging) (h : IsMerging m.played.world.catalogue m) where
  abbrev pub catalogue : Catalogue
  catalogue = m.played.world.catalogue

  abbrev pub tracks : List Track
  tracks = m.tracks.items

  abbrev pub state : MergingState
  state = state_of recordings m

  abbrev pub passes : ℕ → Due → Bool
  passes = can_take m.played.world.world.sent

  pub apart : AreApart (sites_in tracks)
  apart = subst AreApart (sym h.sites) (catalogue_apart catalogue h.played.catalogue_is.so_far)

  next_is : (t : Track) (n : NextTurn) → t.next ≡ Some n → IsTrack m.numbers t → IsNext m.numbers t.site n
  next_is t n is it = subst (λ (o : Option NextTurn). IfSome o (IsNext m.numbers t.site)) is it

  frame_there : (t : Track) (n : NextTurn) → t.next ≡ Some n → AreThere m.numbers t → HasTurn m.numbers n.due.turn.now.frame
  frame_there t n is there = (subst (λ (o : Option NextTurn). AllByRecursion (λ (d : Due). HasTurn m.numbers d.turn.frame) (dues_with o (dues_left t.rest))) is there).0

  rest_there : (t : Track) (n : NextTurn) → t.next ≡ Some n → AreThere m.numbers t → AllByRecursion (λ (d : Due). HasTurn m.numbers d.turn.frame) (dues_left t.rest)
  rest_there t n is there = (subst (λ (o : Option NextTurn). AllByRecursion (λ (d : Due). HasTurn m.numbers d.turn.frame) (dues_with o (dues_left t.rest))) is there).1

  passed : (t : Track) (n : NextTurn) → t.next ≡ Some n → IsTrack m.numbers t → AreThere m.numbers t → passes t.site (due_of n.due) ≡ is_ready_by m.numbers t.site n.place n.asked
  passed t n is it there =
      let next = next_is t n is it in
      ap (is_ready m.played.world.world.sent t.site) (sym next.asked)
      ∙ sym (same_ready m.numbers m.played.world.world.sent h.index t.site n.place n.due.turn.now.frame next.place (frame_there t n is there) n.asked (sym next.asked))

  agree : (ts : List Track) → AllByRecursion (λ (t : Track). left_of recordings tracks t.site ≡ track_of t) ts → AllByRecursion (IsTrack m.numbers) ts → AllByRecursion (AreThere m.numbers) ts
      → AllByRecursion (Agrees m.numbers passes (left_of recordings tracks)) ts
  agree [] a b d = tt
  agree (t ∷ ts) a b d = (record { left_is = a.0; passes_is = λ n is. passed t n is b.0 d.0 }, agree ts a.1 b.1 d.1)

  pub all_agree : AllByRecursion (Agrees m.numbers passes (left_of recordings tracks)) tracks
  all_agree = agree tracks (left_fits recordings tracks apart) h.tracks_are h.there

  pub ready_is : ready catalogue state ≡ first_of passes (sites_in tracks) (left_of recordings tracks)
  ready_is = ap (λ (sites : List ℕ). first_of passes sites (left_of recordings tracks)) (sym h.sites)

  -- where none can go
  pub none_ready : position (can_go m.numbers) tracks ≡ None → ready catalogue state ≡ None
  none_ready e = ready_is ∙ none_goes m.numbers passes (left_of recordings tracks) tracks 0 all_agree (sym (position_from-zero (can_go m.numbers) tracks) ∙ e)

  ends_at : (turns : ℕ) → ready catalogue state ≡ None → merged_from turns world_limits catalogue state ≡ end_of catalogue state
  unfolding merged_from
  ends_at zero e = refl
  ends_at (suc turns) e = ap (by_choice world_limits catalogue (merged_from turns world_limits catalogue) state) e

  pub ended_at : (turns : ℕ) → position (can_go m.numbers) tracks ≡ None → merged_from turns world_limits catalogue state ≡ end_of catalogue state
  ended_at turns e = ends_at turns (none_ready e)

  -- ---- a turn

  -- where one can go, a turn is left
  pub some_left : (place : ℕ) → position (can_go m.numbers) tracks ≡ Some place → 0 < turns_left (sites_of catalogue) (left_of recordings tracks)
  some_left place at =
      let p = picks m.numbers passes (left_of recordings tracks) tracks place all_agree (sym (position_from-zero (can_go m.numbers) tracks) ∙ at) in
      let dues =
      ap (λ (left : Left). left.dues) (all_there (λ (t : Track). left_of recordings tracks t.site ≡ track_of t) tracks place p.track (left_fits recordings tracks apart) p.at)
      ∙ ap (λ (o : Option NextTurn). dues_with o (dues_left p.track.rest)) p.next_is
      in
      let less = fewer_left p.track.site (record { life = 0; dues = dues_left p.track.rest }) (left_of recordings tracks) (due_of p.next.due) dues (sites_of catalogue) (subst (λ (sites : List ℕ). Has sites p.track.site) h.sites (there_site tracks place p.track p.at)) in
      omega (arith, less)

  module _ (place : ℕ) (at : position (can_go m.numbers) tracks ≡ Some place) (t : Track) (t_is : t ≡ get_or tracks place t) where
    p : Picked m.numbers passes (left_of recordings tracks) tracks place
    p = picks m.numbers passes (left_of recordings tracks) tracks place all_agree (sym (position_from-zero (can_go m.numbers) tracks) ∙ at)

    same : t ≡ p.track
    same = t_is ∙ get_or_from_slice_get tracks place p.track t p.at

    there : slice_get tracks place ≡ Some t
    there = p.at ∙ ap (λ (x : Track). Some x) (sym same)

    -- its track has a next turn
    pub no_next : t.next ≡ None → ⊥
    no_next none = let z : Some p.next ≡ None = sym p.next_is ∙ ap (λ (x : Track). x.next) (sym same) ∙ none in cc

    pub site_listed : has (sites_of catalogue) t.site ≡ true
    site_listed = subst (λ (sites : List ℕ). has sites t.site ≡ true) h.sites (has_test (sites_in tracks) t.site (there_site tracks place t there))

    module _ (n : NextTurn) (n_is : t.next ≡ Some n) where
      abbrev pub c : Choice
      c = record { site = t.site; due = due_of n.due; rest = dues_left t.rest }

      chosen : ready catalogue state ≡ Some c
      chosen =
          ready_is ∙ p.choice ∙ ap choice_at (sym same)
          ∙ ap (option_map (λ (n : NextTurn). let c : Choice = record { site = t.site; due = due_of n.due; rest = dues_left t.rest } in c)) n_is

      is_next : IsNext m.numbers t.site n
      is_next = next_is t n n_is (all_there (IsTrack m.numbers) tracks place t h.tracks_are there)

      its_frame : HasTurn m.numbers n.due.turn.now.frame
      its_frame = frame_there t n n_is (all_there (AreThere m.numbers) tracks place t h.there there)

      -- its event is one of a schedule
      pub event_put : IfSome (own_event m.numbers t.site n.place n.asked) (IsPut (sites_of catalogue))
      event_put = event_is_put m.numbers m.played.world.world.sent h.index t.site n.place n.due.turn.now.frame is_next.place its_frame (sites_of catalogue) site_listed h.played.few_sent n.asked (sym is_next.asked) is_next.form

      life_is : (left_of recordings tracks t.site).life ≡ t.life
      life_is = ap (λ (left : Left). left.life) (all_there (λ (t : Track). left_of recordings tracks t.site ≡ track_of t) tracks place t (left_fits recordings tracks apart) there)

      pub own : List Event
      own = events_in (own_event m.numbers t.site n.place n.asked)

      turn_is : turn_done world_limits catalogue state c ≡ done_from world_limits catalogue t.site (restarts_then t.site (n.due.life - t.life) own) (done_at m.played [])
      unfolding own
      turn_is =
          ap (λ life. done_from world_limits catalogue t.site (restarts_then t.site (n.due.life - life) (own_events m.played.world.world.sent t.site (asks t.site n.due.turn.now.frame))) (done_at m.played [])) life_is
          ∙ ap (λ (events : List Event). done_from world_limits catalogue t.site (restarts_then t.site (n.due.life - t.life) events) (done_at m.played []))
          (ap (own_events m.played.world.world.sent t.site) (sym is_next.asked) ∙ sym (same_events m.numbers m.played.world.world.sent h.index t.site n.place n.due.turn.now.frame is_next.place its_frame n.asked (sym is_next.asked)))

      goes_on : (turns : ℕ) → merged_from (turns + 1) world_limits catalogue state ≡ gone_on (merged_from turns world_limits catalogue) state c (turn_done world_limits catalogue state c)
      unfolding merged_from
      goes_on turns =
          let e : turns + 1 ≡ suc turns = omega arith in
          ap (λ k. merged_from k world_limits catalogue state) e ∙ ap (by_choice world_limits catalogue (merged_from turns world_limits catalogue) state) chosen

      pub too_long : (what : Counted) → done_from world_limits catalogue t.site (restarts_then t.site (n.due.life - t.life) own) (done_at m.played []) ≡ Err what → (turns : ℕ) → merged_from (turns + 1) world_limits catalogue state ≡ Merge.too_long what
      too_long what e turns = goes_on turns ∙ ap (gone_on (merged_from turns world_limits catalogue) state c) (turn_is ∙ e)

      -- the lives were not all begun
      pub lives_end : (fault : MergeFault) → StartsLives t.site (n.due.life - t.life) m.played (Err fault) → TakesTurn catalogue recordings m (Err fault)
      lives_end (faults.Limit what limit) e = (λ turns. too_long what (e.0 own []) turns, e.1)
      lives_end (faults.Unsent s turn) e = e
      lives_end (faults.Differs s turn) e = absurd e
      lives_end faults.NoMemory e = tt

      -- the event was not done
      pub event_ends : (mid : Played) (after : FrameNumbers) → Lives t.site (n.due.life - t.life) m.played mid → (fault : MergeFault)
          → TakesEvent t.site (own_event m.numbers t.site n.place n.asked) n.due.short (bytes_of n.due.turn.now.outs) mid (Err fault) m.numbers after → TakesTurn catalogue recordings m (Err fault)
      unfolding own
      event_ends mid after lives (faults.Limit what limit) e =
          (λ turns. too_long what (lives.on own [] ∙ subst (λ (k : Catalogue). done_from world_limits k t.site own (done_at mid []) ≡ Err what) lives.catalogue e.0) turns, e.1)
      event_ends mid after lives (faults.Unsent s turn) e = e
      event_ends mid after lives (faults.Differs s turn) e = absurd e
      event_ends mid after lives faults.NoMemory e = tt

      -- the lives were begun, and the event was done
      module _ (mid new : Played) (told : Bool) (after : FrameNumbers) (lives : Lives t.site (n.due.life - t.life) m.played mid)
          (takes : Takes t.site (own_event m.numbers t.site n.place n.asked) n.due.short (bytes_of n.due.turn.now.outs) mid new told m.numbers after) where
        done_is : turn_done world_limits catalogue state c ≡ Ok (done_at new takes.made)
        unfolding own
        done_is = turn_is ∙ lives.on own [] ∙ subst (λ (k : Catalogue). done_from world_limits k t.site own (done_at mid []) ≡ Ok (done_at new takes.made)) lives.catalogue takes.on

        told_is : is_told t.site (due_of n.due) takes.made ≡ is_own n.asked && told
        told_is = ap (λ (a : Arrival). is_own a && tells n.due.short (bytes_of n.due.turn.now.outs) takes.made) (sym is_next.asked) ∙ ap (λ b. is_own n.asked && b) (sym takes.told_is)

        pub unlike : (is_own n.asked && told) ≡ false → (turns : ℕ) → merged_from (turns + 1) world_limits catalogue state ≡ Merge.unlike t.site n.due.number
        unlike e turns =
            goes_on turns ∙ ap (gone_on (merged_from turns world_limits catalogue) state c) done_is
            ∙ ap (λ b. cond b (merged_from turns world_limits catalogue (taken_by state c (done_at new takes.made))) (Merge.unlike t.site n.due.number)) (told_is ∙ e)

        -- the merge goes on
        module _ (next : Track) (yes : (is_own n.asked && told) ≡ true) (site : next.site ≡ t.site) (left : track_of next ≡ record { life = n.due.life; dues = dues_left t.rest }) (is : IsTrack after next) (now : Merging)
            (played_is : now.played ≡ new) (tracks_are : now.tracks.items ≡ set tracks place next) (numbers_are : now.numbers ≡ after) where
          abbrev after_turn : MergingState
          after_turn = record { world = new.world.world; events = new.events; left = with_track t.site (record { life = n.due.life; dues = dues_left t.rest }) (left_of recordings tracks) }

          left_now : with_track t.site (record { life = n.due.life; dues = dues_left t.rest }) (left_of recordings tracks) ≡ left_of recordings (set tracks place next)
          left_now =
              subst (λ (s : ℕ). with_track s (record { life = n.due.life; dues = dues_left t.rest }) (left_of recordings tracks) ≡ left_of recordings (set tracks place next)) site
              (sym (left_set recordings next (record { life = n.due.life; dues = dues_left t.rest }) left tracks place t there (sym site) apart))

          state_is : taken_by state c (done_at new takes.made) ≡ state_of recordings now
          state_is =
              same_state new.world.world now.played.world.world new.events now.played.events _ _
              (ap (λ (x : Played). x.world.world) (sym played_is)) (ap (λ (x : Played). x.events) (sym played_is)) (left_now ∙ ap (left_of recordings) (sym tracks_are))

          frames_kept : (x : Track) → AreThere m.numbers x → AreThere after x
          frames_kept x = all_each (λ (d : Due). HasTurn m.numbers d.turn.frame) (λ (d : Due). HasTurn after d.turn.frame) (λ d there long. same_there m.numbers after takes.same (as_sent d.turn.frame) (there long)) (track_of x).dues

          next_there : AreThere after next
          next_there =
              subst (λ (left : Left). AllByRecursion (λ (d : Due). HasTurn after d.turn.frame) left.dues) (sym left)
              (all_each (λ (d : Due). HasTurn m.numbers d.turn.frame) (λ (d : Due). HasTurn after d.turn.frame) (λ d there long. same_there m.numbers after takes.same (as_sent d.turn.frame) (there long)) (dues_left t.rest)
              (rest_there t n n_is (all_there (AreThere m.numbers) tracks place t h.there there)))

          next_kept : (site : ℕ) (o : Option NextTurn) → IfSome o (IsNext m.numbers site) → IfSome o (IsNext after site)
          next_kept site None it = tt
          next_kept site (Some n) it = record { place = it.place ∙ sym (takes.same (as_sent n.due.turn.now.frame)); asked = it.asked; form = it.form }

          merging_now : IsMerging catalogue now
          merging_now =
              record {
                played = subst IsPlayed (sym played_is) takes.played;
                catalogue_is = ap (λ (x : Played). x.world.catalogue) played_is ∙ takes.catalogue ∙ lives.catalogue;
                sites = ap sites_in tracks_are ∙ set_sites tracks place t next there (sym site) ∙ h.sites;
                tracks_are =
                    subst (λ (ts : List Track). AllByRecursion (IsTrack now.numbers) ts) (sym tracks_are)
                    (subst (λ (numbers : FrameNumbers). AllByRecursion (IsTrack numbers) (set tracks place next)) (sym numbers_are)
                    (all_set (IsTrack after) tracks place next (all_each (IsTrack m.numbers) (IsTrack after) (λ x. next_kept x.site x.next) tracks h.tracks_are) is));
                index =
                    subst (λ (numbers : FrameNumbers). IsIndex numbers now.played.world.world.sent) (sym numbers_are)
                    (subst (λ (x : Played). IsIndex after x.world.world.sent) (sym played_is) (takes.index (subst (IsIndex m.numbers) (sym lives.sent) h.index)));
                there =
                    subst (λ (ts : List Track). AllByRecursion (AreThere now.numbers) ts) (sym tracks_are)
                    (subst (λ (numbers : FrameNumbers). AllByRecursion (AreThere numbers) (set tracks place next)) (sym numbers_are)
                    (all_set (AreThere after) tracks place next (all_each (AreThere m.numbers) (AreThere after) frames_kept tracks h.there) next_there));
              }

          due_there : (left_of recordings tracks t.site).dues ≡ due_of n.due ∷ dues_left t.rest
          due_there =
              ap (λ (left : Left). left.dues) (all_there (λ (t : Track). left_of recordings tracks t.site ≡ track_of t) tracks place t (left_fits recordings tracks apart) there)
              ∙ ap (λ (o : Option NextTurn). dues_with o (dues_left t.rest)) n_is

          fewer : turns_left (sites_of catalogue) (left_of recordings now.tracks.items) < turns_left (sites_of catalogue) (left_of recordings tracks)
          fewer =
              let less = fewer_left t.site (record { life = n.due.life; dues = dues_left t.rest }) (left_of recordings tracks) (due_of n.due) due_there (sites_of catalogue) (subst (λ (sites : List ℕ). Has sites t.site) h.sites (there_site tracks place t there)) in
              let same = ap (turns_left (sites_of catalogue)) (left_now ∙ ap (left_of recordings) (sym tracks_are)) in
              omega (arith, less, same)

          pub taken : TakesTurn catalogue recordings m (Ok now)
          taken = (
            merging_now,
            λ turns.
                goes_on turns ∙ ap (gone_on (merged_from turns world_limits catalogue) state c) done_is
                ∙ ap (λ b. cond b (merged_from turns world_limits catalogue (taken_by state c (done_at new takes.made))) (Merge.unlike t.site n.due.number)) (told_is ∙ yes)
                ∙ ap (merged_from turns world_limits catalogue) state_is,
            fewer,
          )
