use Rattle.std.proofs.Common.{◌≡◌, length}
use Rattle.vp_merge.specs.Dues.{dues_left}
use Rattle.vp_merge.proofs.dues.Dues.open.Given as goal

abbrev pub invariant-recordings : goal.invariant-recordings
invariant-recordings l = dues_left l.self ≡ dues_left l.fn.self

abbrev pub decreases-recordings : goal.decreases-recordings
decreases-recordings l = length l.self.recordings.now
