use Rattle.std.proofs.Common.{◌≡◌, refl}
use Rattle.std.specs.Prelude.{map, IsTrue}
use Rattle.std.specs.List.{list_all}
use Rattle.vp_model.specs.World.{numbered_lines, journal_of, lines_of, moments_of}
use Rattle.vp_model.specs.OneCopy.{order}
use Rattle.vp_model.specs.Told.{told, told_tables}
use Rattle.vp_model.specs.Headline.{IsSerial, CopiesAreTrue, EndsAreTrue, RefusalsAreJustified, tables_true}
use Rattle.vp_model.specs.Worked.Chain.{schedule, lines, history}
use Rattle.vp_model.proofs.Computed.{computes}

pub chain : numbered_lines schedule ≡ lines
unfolding computes
chain = refl

pub chain-history : order (journal_of schedule) ≡ history
unfolding computes
chain-history = refl

pub chain-serial : IsSerial schedule
unfolding computes
chain-serial = refl

pub chain-told : map (λ commit. told schedule.catalogue (lines_of schedule) commit.txn) (journal_of schedule) ≡ map (λ commit. commit.ops) (journal_of schedule)
unfolding computes
chain-told = refl

pub chain-copies : CopiesAreTrue schedule
unfolding computes
chain-copies = refl

pub chain-ends : EndsAreTrue schedule
unfolding computes
chain-ends = refl

pub chain-refusals : RefusalsAreJustified schedule
unfolding computes
chain-refusals = refl

pub chain-tables : map (λ commit. told_tables schedule.catalogue (lines_of schedule) commit.txn) (journal_of schedule) ≡ map (λ commit. commit.tables) (journal_of schedule)
unfolding computes
chain-tables = refl

pub chain-tables_true : IsTrue (list_all (λ m. tables_true schedule.catalogue m.after) (moments_of schedule))
unfolding computes
chain-tables_true = refl
