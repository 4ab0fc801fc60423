use Rattle.std.proofs.Common.{refl}
use Rattle.std.proofs.lemmas.Result.{err_from_is_err_and}
use Rattle.vp_catalog.specs.EntryReading.{record_at}
use Rattle.vp_catalog.proofs.reading.parse_record.Goals as goal

pub returns-in_err-literal : goal.returns-in_err-literal
unfolding record_at
returns-in_err-literal c =
    let p = err_from_is_err_and c.from_residual.result c.from_residual.ensures.1 in
    rw (p.1, p.2, c.in_err-literal.ensures.read) refl

pub returns-in_err-literal-2 : goal.returns-in_err-literal-2
unfolding record_at
returns-in_err-literal-2 c =
    let p = err_from_is_err_and c.from_residual-in_err-literal-2.result c.from_residual-in_err-literal-2.ensures.1 in
    rw (p.1, p.2, c.in_ok-literal.ensures.read, c.in_ok-name.ensures.taken, c.in_err-literal-2.ensures.read) refl
