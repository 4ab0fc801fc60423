use Rattle.std.proofs.Common.{◌≡◌, map, reverse}
use Rattle.std.specs.Borrow.{Bor}
use Rattle.vp_disks.specs.NamedLogs.{laid_over}
use Rattle.vp_disks.specs.declared.log_bytes.NamedLog.{NamedLog}
use Rattle.vp_disks.proofs.sure_disk.SureDisk.lay_named.Given as goal

abbrev pub invariant-loop-kept : goal.invariant-loop-kept
invariant-loop-kept l = l.self ≡ laid_over (reverse (map (λ (kept : Bor NamedLog). kept.now) l.yielded)) l.initial.self
