use Rattle.vp_outside.specs.Plans.{stop_of}
use Rattle.vp_disks.proofs.LeftImages.{is_left}
use Rattle.vp_disks.proofs.mem_disk.MemDisk.leave.Goals as goal

pub returns-clause-crash : goal.returns-clause-crash
returns-clause-crash c =
    let disk = c.args.self.now in
    is_left c.args.late disk.disk c.leave.new.self (stop_of disk.plan) _ disk.attached disk.attached disk.plan.faults disk.plan.faults c.leave.ensures
