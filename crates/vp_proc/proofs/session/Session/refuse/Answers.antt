use Rattle.std.proofs.Common.{◌∙◌, sym, inr}
use Rattle.std.proofs.lemmas.Result.{err_from_is_err_and}
use Rattle.vp_proc.specs.declared.ended.End.TheVariants as ends
use Rattle.vp_proc.proofs.Sessions.{stop_lost, refused_due, refused_closed}
use Rattle.vp_proc.proofs.session.Session.refuse.Goals as goal
use Rattle.vp_proc.proofs.session.Session.refuse.Goals.{then-not-is_end+in_ok-abort, else-not-is_end}

pub returns-in_err-abort-clause-finishes : goal.returns-in_err-abort-clause-finishes
returns-in_err-abort-clause-finishes g c p old refused =
    let is = err_from_is_err_and c.from_residual.result c.from_residual.ensures.1 in
    let due = refused_due c.args.self.now p old c.args.answer (g.L.Link.state c.args.link.now) refused (sym c.is_end.ensures ∙ c.if-not-is_end.true) in
    rw (is.1, is.2) (stop_lost c.args.self.now p old (ends.Refused c.args.answer) (g.L.Link.state c.abort.new.link) (c.in_err-abort.ensures.aborts p old (ends.Refused c.args.answer) due))

pub returns-clause-finishes : goal.returns-clause-finishes
returns-clause-finishes g c p old refused = elim c.if-not-is_end.branch [
  | then-not-is_end+in_ok-abort w ↦
      let due = refused_due c.args.self.now p old c.args.answer (g.L.Link.state c.args.link.now) refused (sym c.is_end.ensures ∙ w.if-not-is_end.true) in
      rw w.link-is (inr (inr (w.in_ok-abort.ensures.aborts p old (ends.Refused c.args.answer) due)))
  | else-not-is_end w ↦ rw w.link-is (refused_closed c.args.self.now p old c.args.answer (g.L.Link.state c.args.link.now) refused (sym c.is_end.ensures ∙ w.if-not-is_end.false))
]
