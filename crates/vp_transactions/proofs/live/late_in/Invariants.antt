use Rattle.std.proofs.Common.{◌≡◌, take, filter}
use Rattle.vp_model.specs.Types.{Live}
use Rattle.vp_model.specs.Step.{is_marked_call}
use Rattle.vp_transactions.proofs.live.late_in.Given as goal

abbrev pub invariant-loop-place : goal.invariant-loop-place
invariant-loop-place l = l.late.items ≡ filter (λ (t : Live). is_marked_call t.pending) (take l.place l.live)
