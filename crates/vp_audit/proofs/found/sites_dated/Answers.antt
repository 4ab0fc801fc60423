use Rattle.std.proofs.Common.{◌∙◌, ap, arith, fold, []}
use Rattle.std.proofs.lemmas.List.{take_all}
use Rattle.vp_audit.proofs.Walked.{sites_step, sites_walked}
use Rattle.vp_audit.proofs.found.sites_dated.Goals as goal

pub returns : goal.returns
returns c =
    c.loop-part.invariant
    ∙ ap (fold (sites_step c.args.newest.now c.args.rec) []) (take_all c.loop-part.part-index c.args.parts.now (let n = rw c.as_slice-part-items.ensures at c.loop-part-test.false in omega (arith, n)))
    ∙ sites_walked c.args.newest.now c.args.rec c.args.parts.now
