use Rattle.std.proofs.Common.{◌≤◌, take}
use Rattle.vp_top.specs.Audits.{AreParts, KeepsLogs}
use Rattle.vp_top.proofs.auditing.read_parts.Given as goal

abbrev pub invariant-loop-log : goal.invariant-loop-log
invariant-loop-log g l =
    AreParts l.fn.catalog (g.D.Disk.state l.fn.disk) (take l.log-index l.logs) l.parts
    × KeepsLogs (g.D.Disk.state l.fn.disk) (g.D.Disk.state l.disk)
    × ((g.D.Disk.state l.fn.disk).faults ≤ (g.D.Disk.state l.disk).faults)
