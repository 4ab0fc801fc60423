-- The start of a merge.
use Rattle.std.proofs.Common.{◌≡◌, ◌∙◌, ap, sym, subst, Bool, true, false, cond, ℕ, ◌+◌, List, [], ◌∷◌, ◌++◌, Some, None, length, refl}
use Rattle.std.specs.Prelude.{Option, ◌==◌, is_some}
use Rattle.std.specs.List.{AllByRecursion}
use Rattle.std.specs.Str.{bytes_eq}
use Rattle.vp_text.proofs.Items.{all_each, all_append}
use Rattle.vp_model.specs.Catalogue.{Catalogue}
use Rattle.vp_model.specs.World.{start_world}
use Rattle.vp_recording.specs.declared.recording.Recording.{Recording}
use Rattle.vp_recording.specs.declared.recording.Turn.{Turn}
use Rattle.vp_fitting.specs.Asked.{Due, dues_in, dues_from}
use Rattle.vp_fitting.specs.Merged.{Track as Left, first_track}
use Rattle.vp_merge.specs.Merging.{AreThere}
use Rattle.vp_merge.specs.Numbers.{entry_of, HasFrame, HasTurn}
use Rattle.vp_merge.specs.Tracks.{track_of}
use Rattle.vp_merge.specs.declared.numbers.FrameNumbers.{FrameNumbers}
use Rattle.vp_merge.specs.declared.track.Track.{Track}
use Rattle.vp_merge.proofs.Entries.{yes}

pub no_sent : (catalogue : Catalogue) → (start_world catalogue).sent ≡ []
unfolding start_world
no_sent catalogue = refl

module _ (old new : FrameNumbers) (frame : List ℕ) (is : (bytes : List ℕ) → entry_of new bytes ≡ cond (bytes_eq frame bytes) (Some None) (entry_of old bytes)) where
  pub added_kept : (bytes : List ℕ) → HasFrame old bytes → HasFrame new bytes
  added_kept bytes there = ap is_some (is bytes) ∙ go (bytes_eq frame bytes)
    where
      go : (b : Bool) → is_some (cond {A = Option (Option ℕ)} b (Some None) (entry_of old bytes)) ≡ true
      go true = refl
      go false = there

  pub added_there : HasFrame new frame
  added_there = ap is_some (is frame ∙ ap (λ b. cond {A = Option (Option ℕ)} b (Some None) (entry_of old frame)) (yes frame frame refl))

module _ (n : FrameNumbers) where
  in_there : (turns : List Turn) → AllByRecursion (λ (turn : Turn). HasTurn n turn.frame) turns → (life number : ℕ) (ended : Bool) → AllByRecursion (λ (d : Due). HasTurn n d.turn.frame) (dues_in life ended number turns)
  in_there [] h life number ended = tt
  in_there (turn ∷ turns) h life number ended = (h.0, in_there turns h.1 life (number + 1) ended)

  pub dues_there : (recordings : List Recording) → AllByRecursion (λ (r : Recording). AllByRecursion (λ (turn : Turn). HasTurn n turn.frame) r.turns) recordings → (site number : ℕ) → AllByRecursion (λ (d : Due). HasTurn n d.turn.frame) (dues_from site number recordings)
  dues_there [] h site number = tt
  dues_there (r ∷ recordings) h site number = go (r.site == site) (dues_there recordings h.1 site)
    where
      go : (b : Bool) → ((k : ℕ) → AllByRecursion (λ (d : Due). HasTurn n d.turn.frame) (dues_from site k recordings))
          → AllByRecursion (λ (d : Due). HasTurn n d.turn.frame) (cond b (dues_in r.life r.ended number r.turns ++ dues_from site (number + length r.turns) recordings) (dues_from site number recordings))
      go true rest = all_append (λ (d : Due). HasTurn n d.turn.frame) (dues_in r.life r.ended number r.turns) (dues_from site (number + length r.turns) recordings) (in_there r.turns h.0 r.life number r.ended) (rest (number + length r.turns))
      go false rest = rest number

  pub tracks_there : (recordings : List Recording) → AllByRecursion (λ (r : Recording). AllByRecursion (λ (turn : Turn). HasTurn n turn.frame) r.turns) recordings → (ts : List Track) → AllByRecursion (λ (t : Track). track_of t ≡ first_track recordings t.site) ts → AllByRecursion (AreThere n) ts
  tracks_there recordings h ts = all_each (λ (t : Track). track_of t ≡ first_track recordings t.site) (AreThere n)
      (λ t is. subst (λ (left : Left). AllByRecursion (λ (d : Due). HasTurn n d.turn.frame) left.dues) (sym is) (dues_there recordings h t.site 1)) ts
