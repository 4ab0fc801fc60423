use Rattle.std.proofs.Common.{false, true}
use Rattle.vp_disks.proofs.LeftImages.{left_laid}
use Rattle.vp_disks.proofs.imaged_disk.Images.lay.Goals as goal

pub returns : goal.returns
returns c = λ changes are.
    let old = c.args.self.now in
    let log = c.args.log.now in (
      left_laid true log.0 log.1 changes old.late are.0 c.lay_alone.new.self c.in_ok-lay_alone.ensures,
      left_laid false log.0 log.1 changes old.synced are.1 c.lay_alone-2.new.self c.in_ok-lay_alone-2.ensures,
    )
