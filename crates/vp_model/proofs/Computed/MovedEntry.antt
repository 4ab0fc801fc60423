-- The worked schedule of this name, computed.
use Rattle.std.proofs.Common.{◌≡◌, true, false, [], ◌∷◌, refl}
use Rattle.std.specs.Prelude.{IsSome}
use Rattle.vp_model.specs.Catalogue.{start_values}
use Rattle.vp_model.specs.World.{run_of, lines_of, journal_of}
use Rattle.vp_model.specs.OneCopy.{serial, order}
use Rattle.vp_model.specs.Headline.{views_told, is_in_its_view}
use Rattle.vp_model.specs.Worked.{txn}
use Rattle.vp_model.specs.Worked.MovedEntry.{uncommitted, schedule, entry, moved}
use Rattle.vp_model.proofs.Computed.{computes}

pub movedentry-journal : journal_of schedule ≡ entry ∷ []
unfolding computes
movedentry-journal = refl

pub movedentry-serial : IsSome (serial (start_values schedule.catalogue) (order (moved ∷ [])))
unfolding computes
movedentry-serial = refl

pub movedentry-told : views_told (lines_of schedule) (txn 1 1 1) ≡ entry.view ∷ []
unfolding computes
movedentry-told = refl

pub movedentry-held : is_in_its_view (run_of uncommitted).world entry ≡ true
unfolding computes
movedentry-held = refl

pub movedentry-another : is_in_its_view (run_of uncommitted).world moved ≡ false
unfolding computes
movedentry-another = refl
