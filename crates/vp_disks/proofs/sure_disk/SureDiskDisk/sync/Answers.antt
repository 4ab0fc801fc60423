use Rattle.std.proofs.Common.{None, true, refl}
use Rattle.vp_disks.proofs.LogRecords.{Syncs-recorded}
use Rattle.vp_disks.proofs.sure_disk.SureDiskDisk.sync.Goals as goal

pub returns : goal.returns
returns c = Syncs-recorded c.args.self.now c.mark_synced.new.self None None true 0 0 c.in_ok-mark_synced.ensures.ok refl refl
