use Rattle.std.proofs.Common.{◌≡◌, ◌++◌, map, take, drop}
use Rattle.vp_model.specs.Step.{mark}
use Rattle.vp_transactions.proofs.live.mark_each.Given as goal

abbrev pub invariant-loop-place : goal.invariant-loop-place
invariant-loop-place l = l.live ≡ map mark (take l.place l.fn.live) ++ drop l.place l.fn.live
