use Rattle.std.proofs.lemmas.Result.{err_from_is_err_and}
use Rattle.vp_proc.proofs.Sessions.{stop_lost}
use Rattle.vp_proc.proofs.session.Session.stop.Goals as goal

pub returns-in_err-abort-clause-finishes : goal.returns-in_err-abort-clause-finishes
returns-in_err-abort-clause-finishes g c p old due =
    let is = err_from_is_err_and c.from_residual.result c.from_residual.ensures.1 in
    rw (is.1, is.2) (stop_lost c.args.self.now p old c.args.end (g.L.Link.state c.abort.new.link) (c.in_err-abort.ensures.aborts p old c.args.end due))
