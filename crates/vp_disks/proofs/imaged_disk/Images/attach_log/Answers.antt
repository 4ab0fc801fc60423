use Rattle.std.proofs.Common.{true, false}
use Rattle.vp_disks.proofs.LeftImages.{left_attached}
use Rattle.vp_disks.proofs.imaged_disk.Images.attach_log.Goals as goal

pub returns : goal.returns
returns c = λ changes are.
    let old = c.args.self.now in
    let name = c.args.name.now in
    rw (c.in_ok-attach_log-2.ensures.ok, c.in_ok-attach_log.ensures.ok)
    (left_attached true name changes old.late are.0, left_attached false name changes old.synced are.1)
