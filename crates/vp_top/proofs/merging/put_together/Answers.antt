use Rattle.std.proofs.lemmas.Result.{IfOk-weaker}
use Rattle.vp_top.proofs.Merges.{gives}
use Rattle.vp_top.proofs.merging.put_together.Goals as goal

pub returns : goal.returns
returns c =
    IfOk-weaker c.output_of.result _ _
    (λ defined tells. gives c.args.recorded.now c.requires.catalogue c.requires.nodes c.merged_schedules_fit.ensures c.fitting_recordings_merge.ensures c.merge.result c.merge.ensures defined.status defined.text.items tells)
    c.output_of.ensures
