use Rattle.std.proofs.Common.{ap, rules}
use Rattle.vp_outside.specs.Plans.{stop_of}
use Rattle.vp_outside.specs.declared.fault_plan.FaultPlan.{FaultPlan}
use Rattle.vp_disks.proofs.LogRecords.{Syncs-recorded}
use Rattle.vp_disks.proofs.mem_disk.MemDiskDisk.sync.Goals as goal

pub returns-clause-syncs : goal.returns-clause-syncs
returns-clause-syncs c =
    let plan = c.args.self.now.plan in
    Syncs-recorded c.args.self.now.disk c.mark_synced.new.self (stop_of plan) (stop_of c.pass.new.self) c.args.self.now.attached plan.faults _ c.in_ok-mark_synced.ensures.ok
    (ap (λ (plan : FaultPlan). plan.faults) c.pass.ensures) (search rules)
