use Rattle.std.proofs.Common.{◌≡◌, refl}
use Rattle.std.specs.Prelude.{map}
use Rattle.vp_model.specs.World.{journal_of, lines_of}
use Rattle.vp_model.specs.OneCopy.{order}
use Rattle.vp_model.specs.Told.{told}
use Rattle.vp_model.specs.Headline.{IsSerial, CopiesAreTrue, EndsAreTrue, RefusalsAreJustified}
use Rattle.vp_model.specs.Worked.LongRun.{schedule, commits, history}
use Rattle.vp_model.proofs.Computed.{computes}

pub long_run : map (λ commit. (commit.txn, commit.view)) (journal_of schedule) ≡ commits
unfolding computes
long_run = refl

pub long_run-history : order (journal_of schedule) ≡ history
unfolding computes
long_run-history = refl

pub long_run-serial : IsSerial schedule
unfolding computes
long_run-serial = refl

pub long_run-told : map (λ commit. told schedule.catalogue (lines_of schedule) commit.txn) (journal_of schedule) ≡ map (λ commit. commit.ops) (journal_of schedule)
unfolding computes
long_run-told = refl

pub long_run-copies : CopiesAreTrue schedule
unfolding computes
long_run-copies = refl

pub long_run-ends : EndsAreTrue schedule
unfolding computes
long_run-ends = refl

pub long_run-refusals : RefusalsAreJustified schedule
unfolding computes
long_run-refusals = refl
