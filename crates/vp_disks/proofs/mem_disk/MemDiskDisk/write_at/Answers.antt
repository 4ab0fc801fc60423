use Rattle.std.proofs.Common.{ap, refl, arith, rules, length}
use Rattle.std.proofs.lemmas.Grind.{common_steps}
use Rattle.vp_outside.specs.Disk.{Torn, Written, write_bytes_at}
use Rattle.vp_outside.specs.Plans.{stop_of}
use Rattle.vp_outside.specs.declared.fault_plan.FaultPlan.{FaultPlan}
use Rattle.vp_outside.specs.declared.sink.OutFault.TheVariants.{NoMemory, Failed}
use Rattle.vp_disks.specs.DiskLaws.{InHalf-in_half}
use Rattle.vp_disks.specs.declared.changes.Change.TheVariants.{Wrote}
use Rattle.vp_disks.proofs.Recorded.{Changes-not_done, Changes-recorded}
use Rattle.vp_disks.proofs.Torn.{Torn-refl}
use Rattle.vp_disks.proofs.mem_disk.MemDiskDisk.write_at.Goals as goal

pub returns-then-fails_next-clause-written : goal.returns-then-fails_next-clause-written
returns-then-fails_next-clause-written c =
    let disk = c.args.self.now in
    let size = length c.args.piece.now in
    Changes-not_done c.args.half (Written c.args.at c.args.piece.now) (Torn c.args.at size) (Torn-refl c.args.at size)
    disk.disk _ (stop_of disk.plan) _ disk.attached disk.plan.faults _ Failed refl (grind (arith, common_steps)) (grind (arith, common_steps))

pub returns-then-not-fits-clause-written : goal.returns-then-not-fits-clause-written
returns-then-not-fits-clause-written c =
    let disk = c.args.self.now in
    let size = length c.args.piece.now in
    Changes-not_done c.args.half (Written c.args.at c.args.piece.now) (Torn c.args.at size) (Torn-refl c.args.at size)
    disk.disk _ (stop_of disk.plan) _ disk.attached disk.plan.faults _ NoMemory refl
    (record { done = tt; not_done = refl; at_stop = λ is. absurd cc })
    (record { later = omega arith; failed = λ is. absurd cc; ok = tt; no_memory = λ _. refl })

pub returns-clause-written : goal.returns-clause-written
returns-clause-written c =
    let disk = c.args.self.now in
    let piece = c.args.piece.now in
    Changes-recorded c.args.half (Written c.args.at piece) (Torn c.args.at (length piece)) (Wrote c.args.half c.args.at piece)
    disk.disk c.write_piece.new.self (stop_of disk.plan) (stop_of c.pass.new.self) disk.attached disk.plan.faults _ refl
    (λ past. InHalf-in_half c.args.half (Written c.args.at piece) (write_bytes_at c.args.at piece) _ (λ old. refl)) (λ past image left. left) (λ past. refl)
    c.in_ok-write_piece.ensures.ok (ap (λ (plan : FaultPlan). plan.faults) c.pass.ensures) (search rules)
