use Rattle.std.proofs.Common.{◌≡◌, refl}
use Rattle.std.specs.Prelude.{map, IsTrue}
use Rattle.std.specs.List.{list_all}
use Rattle.vp_model.specs.World.{numbered_lines, journal_of, lines_of, moments_of}
use Rattle.vp_model.specs.OneCopy.{order}
use Rattle.vp_model.specs.Told.{told, told_tables}
use Rattle.vp_model.specs.Headline.{IsSerial, CopiesAreTrue, EndsAreTrue, RefusalsAreJustified, tables_true}
use Rattle.vp_model.specs.Worked.Weighed.{schedule, lines, history}
use Rattle.vp_model.proofs.Computed.{computes}

pub weighed : numbered_lines schedule ≡ lines
unfolding computes
weighed = refl

pub weighed-history : order (journal_of schedule) ≡ history
unfolding computes
weighed-history = refl

pub weighed-serial : IsSerial schedule
unfolding computes
weighed-serial = refl

pub weighed-told : map (λ commit. told schedule.catalogue (lines_of schedule) commit.txn) (journal_of schedule) ≡ map (λ commit. commit.ops) (journal_of schedule)
unfolding computes
weighed-told = refl

pub weighed-copies : CopiesAreTrue schedule
unfolding computes
weighed-copies = refl

pub weighed-ends : EndsAreTrue schedule
unfolding computes
weighed-ends = refl

pub weighed-refusals : RefusalsAreJustified schedule
unfolding computes
weighed-refusals = refl

pub weighed-tables : map (λ commit. told_tables schedule.catalogue (lines_of schedule) commit.txn) (journal_of schedule) ≡ map (λ commit. commit.tables) (journal_of schedule)
unfolding computes
weighed-tables = refl

pub weighed-tables_true : IsTrue (list_all (λ m. tables_true schedule.catalogue m.after) (moments_of schedule))
unfolding computes
weighed-tables_true = refl
