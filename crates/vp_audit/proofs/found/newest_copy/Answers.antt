use Rattle.std.proofs.Common.{◌∙◌, ap, arith, fold, None}
use Rattle.std.proofs.lemmas.List.{take_all}
use Rattle.vp_audit.proofs.Walked.{any_step, any_walked}
use Rattle.vp_audit.proofs.found.newest_copy.Goals as goal

pub returns : goal.returns
returns c =
    c.loop-part.invariant
    ∙ ap (fold (any_step c.args.rec) None) (take_all c.loop-part.part-index c.args.parts.now (let n = rw c.as_slice-part-items.ensures at c.loop-part-test.false in omega (arith, n)))
    ∙ any_walked c.args.rec c.args.parts.now
