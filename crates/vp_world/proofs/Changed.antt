-- A place that is changed at its index.
use Rattle.std.proofs.Common.{◌≡◌, ◌∙◌, ◌==◌, ℕ, List, Option, Some, refl, sym}
use Rattle.std.proofs.lemmas.List.{set-get_or}
use Rattle.std.specs.List.{position, slice_index_or, slice_set}
use Rattle.vp_lists.proofs.Found.{changed_some, find_some}
use Rattle.vp_model.specs.Types.{Input}
use Rattle.vp_model.specs.Catalogue.{Catalogue}
use Rattle.vp_model.specs.World.{Place, change_place}
use Rattle.vp_world.specs.Places.{GivesUp, GivesUpAt}

pub changed_here : (id i : ℕ) (f : Place → Place) (places : List Place) (found : Option ℕ) (d new : Place) → found ≡ position (λ (p : Place). p.id == id) places → found ≡ Some i → new ≡ f (slice_index_or places i d) → slice_set places i new ≡ change_place id f places
changed_here id i f places found d new at is e = rw e (sym (changed_some (λ (p : Place). p.id == id) f places i d (sym at ∙ is)))

-- the same where its step was given up
pub gives_up_here : (catalogue : Catalogue) (id i : ℕ) (given : Input) (places : List Place) (found : Option ℕ) (d new : Place) → found ≡ position (λ (p : Place). p.id == id) places → found ≡ Some i → GivesUp catalogue given (slice_index_or places i d) new → GivesUpAt catalogue id given places (slice_set places i new)
gives_up_here catalogue id i given places found d new at is gives = (
  slice_index_or places i d,
  new,
  find_some (λ (p : Place). p.id == id) places i d (sym at ∙ is),
  gives,
  changed_here id i (λ _. new) places found d new at is refl,
)

-- a place that doesn't change leaves all as they are
pub stays_here : (i : ℕ) (places : List Place) (d new : Place) → new ≡ slice_index_or places i d → slice_set places i new ≡ places
stays_here i places d new is = rw is (set-get_or places i d)
