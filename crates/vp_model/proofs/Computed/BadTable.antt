use Rattle.std.proofs.Common.{◌≡◌, refl}
use Rattle.std.specs.Prelude.{map, IsTrue}
use Rattle.std.specs.List.{list_all}
use Rattle.vp_model.specs.World.{numbered_lines, journal_of, lines_of, moments_of}
use Rattle.vp_model.specs.OneCopy.{order}
use Rattle.vp_model.specs.Told.{told, told_tables}
use Rattle.vp_model.specs.Headline.{IsSerial, CopiesAreTrue, EndsAreTrue, RefusalsAreJustified, tables_true}
use Rattle.vp_model.specs.Worked.BadTable.{schedule, lines, history}
use Rattle.vp_model.proofs.Computed.{computes}

pub badtable : numbered_lines schedule ≡ lines
unfolding computes
badtable = refl

pub badtable-history : order (journal_of schedule) ≡ history
unfolding computes
badtable-history = refl

pub badtable-serial : IsSerial schedule
unfolding computes
badtable-serial = refl

pub badtable-told : map (λ commit. told schedule.catalogue (lines_of schedule) commit.txn) (journal_of schedule) ≡ map (λ commit. commit.ops) (journal_of schedule)
unfolding computes
badtable-told = refl

pub badtable-copies : CopiesAreTrue schedule
unfolding computes
badtable-copies = refl

pub badtable-ends : EndsAreTrue schedule
unfolding computes
badtable-ends = refl

pub badtable-refusals : RefusalsAreJustified schedule
unfolding computes
badtable-refusals = refl

pub badtable-tables : map (λ commit. told_tables schedule.catalogue (lines_of schedule) commit.txn) (journal_of schedule) ≡ map (λ commit. commit.tables) (journal_of schedule)
unfolding computes
badtable-tables = refl

pub badtable-tables_true : IsTrue (list_all (λ m. tables_true schedule.catalogue m.after) (moments_of schedule))
unfolding computes
badtable-tables_true = refl
