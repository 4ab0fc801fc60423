use Rattle.std.proofs.Common.{◌∙◌, ap, reverse}
use Rattle.std.proofs.lemmas.Iterator.Adapters.{YieldsList-from_rev_slice}
use Rattle.std.proofs.lemmas.Iterator.Consumers.{YieldsList-end}
use Rattle.std.proofs.lemmas.List.{reverse-reverse}
use Rattle.vp_disks.specs.NamedLogs.{laid_over}
use Rattle.vp_disks.proofs.sure_disk.SureDisk.lay_named.Goals as goal

pub returns : goal.returns
returns c =
    let logs = c.args.logs.now in
    let end = YieldsList-end (YieldsList-from_rev_slice logs cc) c.loop-kept.yielded _ c.loop-kept.yielded_by _ _ c.in-None.is c.next.ensures.steps in
    c.loop-kept.invariant ∙ ap (λ kept. laid_over kept c.args.self.now) (ap reverse end.0 ∙ reverse-reverse logs)
