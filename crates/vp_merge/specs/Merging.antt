-- A merge in progress.
use Rattle.std.specs.Prelude.{◌≡◌, ⊤, ℕ, ◌+◌, ◌<◌, ◌==◌, if◌then◌else◌, List, [], ◌∷◌, map, Option, Some, None, option_map, Result, Ok, Err}
use Rattle.std.specs.List.{AllByRecursion}
use Rattle.std.specs.Option.{option_map_or}
use Rattle.vp_model.specs.Catalogue.{Catalogue, sites_of}
use Rattle.vp_model.specs.Limits.{world_limits}
use Rattle.vp_world.specs.Limits.{limit_of}
use Rattle.vp_recording.specs.declared.recording.Recording.{Recording}
use Rattle.vp_fitting.specs.Asked.{Due}
use Rattle.vp_fitting.specs.Merged.{Track as Left, Merging as MergingState, Merge, Choice, first_track, merged_from, turns_left}
use Rattle.vp_merge.specs.Dues.{due_of, dues_left}
use Rattle.vp_merge.specs.Tracks.{track_of, IsTrack}
use Rattle.vp_merge.specs.Numbers.{HasTurn, IsIndex}
use Rattle.vp_merge.specs.Played.{IsPlayed}
use Rattle.vp_merge.specs.declared.fault.MergeFault.{MergeFault}
use Rattle.vp_merge.specs.declared.fault.MergeFault.TheVariants as faults
use Rattle.vp_merge.specs.declared.numbers.FrameNumbers.{FrameNumbers}
use Rattle.vp_merge.specs.declared.merging.Merging.{Merging}
use Rattle.vp_merge.specs.declared.track.NextTurn.{NextTurn}
use Rattle.vp_merge.specs.declared.track.Track.{Track}

-- what each site has left: those of the tracks have that, any other all turns
abbrev pub left_of : List Recording → List Track → ℕ → Left
left_of recordings [] id = first_track recordings id
left_of recordings (t ∷ ts) id = if id == t.site then track_of t else left_of recordings ts id

abbrev pub state_of : List Recording → Merging → MergingState
state_of recordings m = record { world = m.played.world.world; events = m.played.events; left = left_of recordings m.tracks.items }

-- the site of a track with its next turn
abbrev pub choice_at : Track → Option Choice
choice_at t = option_map (λ (n : NextTurn). record { site = t.site; due = due_of n.due; rest = dues_left t.rest }) t.next

-- each frame that a site has left is there
abbrev pub AreThere : FrameNumbers → Track → Type 0
AreThere numbers t = AllByRecursion (λ (d : Due). HasTurn numbers d.turn.frame) (track_of t).dues

-- The state of a merge: there is a track for each site, and the index is that of the messages that were sent.
pub record IsMerging (catalogue : Catalogue) (m : Merging) : Type 0 where
  pub played : IsPlayed m.played
  pub catalogue_is : m.played.world.catalogue ≡ catalogue
  pub sites : map (λ (t : Track). t.site) m.tracks.items ≡ sites_of catalogue
  pub tracks_are : AllByRecursion (IsTrack m.numbers) m.tracks.items
  pub index : IsIndex m.numbers m.played.world.world.sent
  pub there : AllByRecursion (AreThere m.numbers) m.tracks.items

-- A turn was taken, and the merge goes on; or it ends with it.
abbrev pub TakesTurn : Catalogue → List Recording → Merging → Result Merging MergeFault → Type 0
TakesTurn catalogue recordings old (Ok new) =
    IsMerging catalogue new
    × ((turns : ℕ) → merged_from (turns + 1) world_limits catalogue (state_of recordings old) ≡ merged_from turns world_limits catalogue (state_of recordings new))
    × (turns_left (sites_of catalogue) (left_of recordings new.tracks.items) < turns_left (sites_of catalogue) (left_of recordings old.tracks.items))
TakesTurn catalogue recordings old (Err (faults.Differs site turn)) =
    (turns : ℕ) → merged_from (turns + 1) world_limits catalogue (state_of recordings old) ≡ Merge.unlike site turn
TakesTurn catalogue recordings old (Err (faults.Limit what limit)) =
    ((turns : ℕ) → merged_from (turns + 1) world_limits catalogue (state_of recordings old) ≡ Merge.too_long what) × (limit ≡ limit_of what)
TakesTurn catalogue recordings old (Err (faults.Unsent site turn)) = ⊥
TakesTurn catalogue recordings old (Err faults.NoMemory) = ⊤

-- the first site with turns left, with its next one, as a fault
abbrev pub waits_at : List Track → Option MergeFault
waits_at [] = None
waits_at (t ∷ ts) = option_map_or (λ (n : NextTurn). Some (faults.Unsent t.site n.due.number)) t.next (waits_at ts)
