use Rattle.std.proofs.Common.{◌≡◌, refl}
use Rattle.std.specs.Prelude.{map, IsTrue}
use Rattle.std.specs.List.{list_all}
use Rattle.vp_model.specs.World.{numbered_lines, journal_of, lines_of, moments_of}
use Rattle.vp_model.specs.OneCopy.{order}
use Rattle.vp_model.specs.Told.{told, told_tables}
use Rattle.vp_model.specs.Headline.{IsSerial, CopiesAreTrue, EndsAreTrue, RefusalsAreJustified, tables_true}
use Rattle.vp_model.specs.Worked.Absent.{schedule, lines, history}
use Rattle.vp_model.proofs.Computed.{computes}

pub absent : numbered_lines schedule ≡ lines
unfolding computes
absent = refl

pub absent-history : order (journal_of schedule) ≡ history
unfolding computes
absent-history = refl

pub absent-serial : IsSerial schedule
unfolding computes
absent-serial = refl

pub absent-told : map (λ commit. told schedule.catalogue (lines_of schedule) commit.txn) (journal_of schedule) ≡ map (λ commit. commit.ops) (journal_of schedule)
unfolding computes
absent-told = refl

pub absent-copies : CopiesAreTrue schedule
unfolding computes
absent-copies = refl

pub absent-ends : EndsAreTrue schedule
unfolding computes
absent-ends = refl

pub absent-refusals : RefusalsAreJustified schedule
unfolding computes
absent-refusals = refl

pub absent-tables : map (λ commit. told_tables schedule.catalogue (lines_of schedule) commit.txn) (journal_of schedule) ≡ map (λ commit. commit.tables) (journal_of schedule)
unfolding computes
absent-tables = refl

pub absent-tables_true : IsTrue (list_all (λ m. tables_true schedule.catalogue m.after) (moments_of schedule))
unfolding computes
absent-tables_true = refl
