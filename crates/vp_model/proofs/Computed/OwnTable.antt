use Rattle.std.proofs.Common.{◌≡◌, refl}
use Rattle.std.specs.Prelude.{map, IsTrue}
use Rattle.std.specs.List.{list_all}
use Rattle.vp_model.specs.World.{numbered_lines, journal_of, lines_of, moments_of}
use Rattle.vp_model.specs.OneCopy.{order}
use Rattle.vp_model.specs.Told.{told, told_tables}
use Rattle.vp_model.specs.Headline.{IsSerial, CopiesAreTrue, EndsAreTrue, RefusalsAreJustified, tables_true}
use Rattle.vp_model.specs.Worked.OwnTable.{schedule, lines, history}
use Rattle.vp_model.proofs.Computed.{computes}

pub owntable : numbered_lines schedule ≡ lines
unfolding computes
owntable = refl

pub owntable-history : order (journal_of schedule) ≡ history
unfolding computes
owntable-history = refl

pub owntable-serial : IsSerial schedule
unfolding computes
owntable-serial = refl

pub owntable-told : map (λ commit. told schedule.catalogue (lines_of schedule) commit.txn) (journal_of schedule) ≡ map (λ commit. commit.ops) (journal_of schedule)
unfolding computes
owntable-told = refl

pub owntable-copies : CopiesAreTrue schedule
unfolding computes
owntable-copies = refl

pub owntable-ends : EndsAreTrue schedule
unfolding computes
owntable-ends = refl

pub owntable-refusals : RefusalsAreJustified schedule
unfolding computes
owntable-refusals = refl

pub owntable-tables : map (λ commit. told_tables schedule.catalogue (lines_of schedule) commit.txn) (journal_of schedule) ≡ map (λ commit. commit.tables) (journal_of schedule)
unfolding computes
owntable-tables = refl

pub owntable-tables_true : IsTrue (list_all (λ m. tables_true schedule.catalogue m.after) (moments_of schedule))
unfolding computes
owntable-tables_true = refl
