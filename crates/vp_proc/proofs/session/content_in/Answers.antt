use Rattle.std.proofs.Common.{Some, refl}
use Rattle.std.proofs.lemmas.Result.{err_from_is_err_and}
use Rattle.vp_proc.proofs.session.content_in.Goals as goal

pub returns-in_err-copy_of-in-Value-clause-no_memory : goal.returns-in_err-copy_of-in-Value-clause-no_memory
returns-in_err-copy_of-in-Value-clause-no_memory c =
    let p = err_from_is_err_and c.from_residual.result c.from_residual.ensures.1 in
    rw (p.1, c.in-Value.is) (Some c.in-Value.value, refl)
