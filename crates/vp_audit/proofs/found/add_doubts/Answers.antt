use Rattle.std.proofs.Common.{◌∙◌, ap, fold}
use Rattle.std.proofs.lemmas.List.{take_all}
use Rattle.vp_audit.proofs.Walked.{rows_step, rows_walked}
use Rattle.vp_audit.proofs.found.add_doubts.Goals as goal

pub returns : goal.returns
returns c =
    c.loop-doubt.invariant
    ∙ ap (fold (rows_step c.args.site c.args.rec) c.args.rows.now) (take_all c.loop-doubt.doubt-index c.args.doubts.now c.loop-doubt-test.false)
    ∙ rows_walked c.args.site c.args.rec c.args.rows.now c.args.doubts.now
