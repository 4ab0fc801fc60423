-- A merge from its start to its end.
use Rattle.std.proofs.Common.{◌≡◌, ◌∙◌, ap, sym, subst, true, ℕ, ◌+◌, ◌<◌, ◌≤◌, List, [], ◌∷◌, Some, None, Ok, Err, refl, arith}
use Rattle.std.specs.Prelude.{Option, ◌-◌, position}
use Rattle.std.specs.List.{AllByRecursion}
use Rattle.std.specs.Option.{option_map_or}
use Rattle.vp_text.proofs.Items.{all_each}
use Rattle.vp_model.specs.Catalogue.{Catalogue, sites_of}
use Rattle.vp_model.specs.Limits.{world_limits}
use Rattle.vp_catalog.specs.Document.{IsCatalogue}
use Rattle.vp_schedule.specs.Document.{IsSchedule}
use Rattle.vp_schedule.specs.Events.{IsEvent}
use Rattle.vp_recording.specs.declared.recording.Recording.{Recording}
use Rattle.vp_recording.specs.Recordings.{AreOfNodes}
use Rattle.vp_fitting.specs.Laws.{MatchesAll, MergesMatch, UnsentIsNeverSent, over}
use Rattle.vp_fitting.specs.Merged.{Merge, Merging as MergingState, at_first, end_of, merge_end, first_of, first_track, merged, merged_from, turns_left}
use Rattle.vp_merge.specs.Merges.{Merges}
use Rattle.vp_merge.specs.Merging.{IsMerging, TakesTurn, left_of, state_of, waits_at}
use Rattle.vp_merge.specs.Played.{IsPlayed, IsPut}
use Rattle.vp_merge.specs.Tracks.{can_go, track_of}
use Rattle.vp_merge.specs.declared.fault.MergeFault.{MergeFault}
use Rattle.vp_merge.specs.declared.fault.MergeFault.TheVariants as faults
use Rattle.vp_merge.specs.declared.merging.Merging.{Merging}
use Rattle.vp_merge.specs.declared.track.NextTurn.{NextTurn}
use Rattle.vp_merge.specs.declared.track.Track.{Track}
use Rattle.vp_merge.proofs.Choosing.{sites_in, left_fits}
use Rattle.vp_merge.proofs.Going.{apart, ended_at, some_left}

abbrev IsUnsent : MergeFault → Type 0
IsUnsent (faults.Unsent site turn) = Unit {0}
IsUnsent _ = ⊥

waits_unsent : (ts : List Track) (fault : MergeFault) → waits_at ts ≡ Some fault → IsUnsent fault
waits_unsent [] fault e = absurd cc
waits_unsent (t ∷ ts) fault e = by t.next e (waits_unsent ts fault)
  where
    by : (o : Option NextTurn) → option_map_or (λ (n : NextTurn). Some (faults.Unsent t.site n.due.number)) o (waits_at ts) ≡ Some fault → (waits_at ts ≡ Some fault → IsUnsent fault) → IsUnsent fault
    by None q rest = rest q
    by (Some n) q rest = let same : faults.Unsent t.site n.due.number ≡ fault = cc in subst IsUnsent same tt

-- The merge has come so far, with at least so many turns to go as are left.
pub record IsGoing (catalogue : Catalogue) (recordings : List Recording) (m : Merging) : Type 0 where
  pub merging : IsMerging catalogue m
  pub turns : ℕ
  pub same : merged world_limits catalogue recordings ≡ merged_from turns world_limits catalogue (state_of recordings m)
  pub enough : turns_left (sites_of catalogue) (left_of recordings m.tracks.items) ≤ turns

no_more : (a b : ℕ) → a ≡ b → a ≤ b
no_more a b e = omega (arith, e)

pub going_starts : (catalogue : Catalogue) (recordings : List Recording) (m : Merging) → IsMerging catalogue m → state_of recordings m ≡ at_first catalogue recordings → IsGoing catalogue recordings m
unfolding merged
going_starts catalogue recordings m h e =
    record {
      merging = h;
      turns = turns_left (sites_of catalogue) (first_track recordings);
      same = ap (merged_from (turns_left (sites_of catalogue) (first_track recordings)) world_limits catalogue) (sym e);
      enough = no_more _ _ (ap (λ (s : MergingState). turns_left (sites_of catalogue) s.left) e);
    }

-- for the catalogue of its world
own : (catalogue : Catalogue) (m : Merging) → IsMerging catalogue m → IsMerging m.played.world.catalogue m
own catalogue m h = subst (λ (k : Catalogue). IsMerging k m) (sym h.catalogue_is) h

module _ (catalogue : Catalogue) (recordings : List Recording) (m : Merging) (h : IsGoing catalogue recordings m) where
  next_same : (k : ℕ) → h.turns ≡ k + 1 → merged world_limits catalogue recordings ≡ merged_from (k + 1) world_limits catalogue (state_of recordings m)
  next_same k e = h.same ∙ ap (λ n. merged_from n world_limits catalogue (state_of recordings m)) e

  pub going_on : (new : Merging) → TakesTurn m.played.world.catalogue recordings m (Ok new) → IsGoing catalogue recordings new
  going_on new takes =
      let t = subst (λ (k : Catalogue). TakesTurn k recordings m (Ok new)) h.merging.catalogue_is takes in
      let less = t.2 in
      let room = h.enough in
      let e : h.turns ≡ (h.turns - 1) + 1 = omega (arith, less, room) in
      record {
        merging = t.0;
        turns = h.turns - 1;
        same = next_same (h.turns - 1) e ∙ t.1 (h.turns - 1);
        enough = omega (arith, less, room);
      }

  pub fewer_now : (new : Merging) → TakesTurn m.played.world.catalogue recordings m (Ok new) → turns_left (sites_of catalogue) (left_of recordings new.tracks.items) < turns_left (sites_of catalogue) (left_of recordings m.tracks.items)
  fewer_now new takes = (subst (λ (k : Catalogue). TakesTurn k recordings m (Ok new)) h.merging.catalogue_is takes).2

  module _ (place : ℕ) (at : position (can_go m.numbers) m.tracks.items ≡ Some place) where
    some : h.turns ≡ (h.turns - 1) + 1
    some =
        let left = some_left recordings m (own catalogue m h.merging) place at in
        let here : 0 < turns_left (sites_of catalogue) (left_of recordings m.tracks.items) = subst (λ (k : Catalogue). 0 < turns_left (sites_of k) (left_of recordings m.tracks.items)) h.merging.catalogue_is left in
        let room = h.enough in
        omega (arith, here, room)

    pub going_ends : (fault : MergeFault) → TakesTurn m.played.world.catalogue recordings m (Err fault) → Merges catalogue recordings (Err fault)
    going_ends fault takes = by fault (subst (λ (k : Catalogue). TakesTurn k recordings m (Err fault)) h.merging.catalogue_is takes)
      where
        by : (fault : MergeFault) → TakesTurn catalogue recordings m (Err fault) → Merges catalogue recordings (Err fault)
        by (faults.Differs site turn) t = next_same (h.turns - 1) some ∙ t (h.turns - 1)
        by (faults.Limit what limit) t = (next_same (h.turns - 1) some ∙ t.0 (h.turns - 1), t.1)
        by (faults.Unsent site turn) t = absurd t
        by faults.NoMemory t = tt

  -- ---- the end

  abbrev end_by : Option MergeFault → Merge
  end_by (Some (faults.Unsent site turn)) = Merge.unsent site turn
  end_by _ = Merge.whole m.played.events

  waits : (ts : List Track) → AllByRecursion (λ (t : Track). left_of recordings m.tracks.items t.site ≡ track_of t) ts
      → merge_end (state_of recordings m) (first_of (λ site d. true) (sites_in ts) (left_of recordings m.tracks.items)) ≡ end_by (waits_at ts)
  waits [] fits = refl
  waits (t ∷ ts) fits = by t.next refl (waits ts fits.1)
    where
      by : (o : Option NextTurn) → t.next ≡ o → merge_end (state_of recordings m) (first_of (λ site d. true) (sites_in ts) (left_of recordings m.tracks.items)) ≡ end_by (waits_at ts)
          → merge_end (state_of recordings m) (first_of (λ site d. true) (sites_in (t ∷ ts)) (left_of recordings m.tracks.items)) ≡ end_by (waits_at (t ∷ ts))
      by None e rest = rw (fits.0, e) rest
      by (Some n) e rest = rw (fits.0, e) refl

  module _ (none : position (can_go m.numbers) m.tracks.items ≡ None) where
    at_end : merged world_limits catalogue recordings ≡ end_by (waits_at m.tracks.items)
    at_end =
        let k = own catalogue m h.merging in
        h.same
        ∙ subst (λ (c : Catalogue). merged_from h.turns world_limits c (state_of recordings m) ≡ end_of c (state_of recordings m)) h.merging.catalogue_is (ended_at recordings m k h.turns none)
        ∙ ap (λ (sites : List ℕ). merge_end (state_of recordings m) (first_of (λ site d. true) sites (left_of recordings m.tracks.items))) (sym h.merging.sites)
        ∙ waits m.tracks.items (left_fits recordings m.tracks.items (apart recordings m k))

    pub ends_waiting : (laws : UnsentIsNeverSent) → IsCatalogue catalogue → AreOfNodes catalogue recordings → (fault : MergeFault) → waits_at m.tracks.items ≡ Some fault → Merges catalogue recordings (Err fault)
    ends_waiting laws k nodes fault e = by fault (waits_unsent m.tracks.items fault e) (at_end ∙ ap end_by e)
      where
        by : (fault : MergeFault) → IsUnsent fault → merged world_limits catalogue recordings ≡ end_by (Some fault) → Merges catalogue recordings (Err fault)
        by (faults.Unsent site turn) u is = (is, laws world_limits catalogue recordings site turn k nodes is)
        by (faults.Differs site turn) u is = absurd u
        by (faults.Limit what limit) u is = absurd u
        by faults.NoMemory u is = absurd u

    pub ends_whole : (laws : MergesMatch) → AreOfNodes catalogue recordings → waits_at m.tracks.items ≡ None → (copy : Catalogue) → copy ≡ catalogue → Merges catalogue recordings (Ok (record { catalogue = copy; events = m.played.events }))
    ends_whole laws nodes e copy same =
        let p : IsPlayed m.played = h.merging.played in
        let k : IsCatalogue catalogue = subst IsCatalogue h.merging.catalogue_is p.catalogue_is in
        let is : merged world_limits catalogue recordings ≡ Merge.whole m.played.events = at_end ∙ ap end_by e in
        let count = p.counted in
        let few = p.few in (
          same,
          is,
          subst (λ (c : Catalogue). IsSchedule (over c m.played.events)) (h.merging.catalogue_is ∙ sym same) (record {
            catalogue_is = p.catalogue_is;
            events_are = all_each (IsPut (sites_of m.played.world.catalogue)) (IsEvent (sites_of m.played.world.catalogue)) (λ e put. put.1) m.played.events p.events_are;
            few = omega (arith, count, few);
          }),
          subst (λ (c : Catalogue). MatchesAll (over c m.played.events) recordings) (sym same) (laws world_limits catalogue recordings m.played.events k nodes is).matches,
        )
