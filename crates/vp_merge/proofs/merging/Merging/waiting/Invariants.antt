use Rattle.std.proofs.Common.{◌≡◌, drop}
use Rattle.vp_merge.specs.Merging.{waits_at}
use Rattle.vp_merge.proofs.merging.Merging.waiting.Given as goal

abbrev pub invariant-loop-track : goal.invariant-loop-track
invariant-loop-track l = waits_at l.self.tracks.items ≡ waits_at (drop l.track-index l.self.tracks.items)
