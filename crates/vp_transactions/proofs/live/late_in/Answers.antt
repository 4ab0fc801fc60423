use Rattle.std.proofs.Common.{◌<◌, length, sym, arith}
use Rattle.vp_model.specs.Types.{Live}
use Rattle.vp_model.specs.Step.{is_marked_call}
use Rattle.vp_transactions.proofs.Waiting.{late_more, late_past}
use Rattle.vp_transactions.proofs.live.late_in.Goals.{in-Some+in_ok-add_late, in_default}
use Rattle.vp_transactions.proofs.live.late_in.Goals as goal

pub loop-place-preserved : goal.loop-place-preserved
loop-place-preserved c =
    let within : c.loop-place.place < length c.args.live.now = omega (arith, c.loop-place-test.true, c.len-place-end.ensures) in
    elim c.match-get.branch [
      | in-Some+in_ok-add_late w ↦
          rw (w.late-is, w.in_ok-add_late.ensures, c.loop-place.invariant)
          (sym (late_more (λ (u : Live). is_marked_call u.pending) c.args.live.now c.loop-place.place w.in-Some.t.now w.in-Some.ensures))
      | in_default w ↦
          rw (w.late-is, c.loop-place.invariant)
          (sym (late_past (λ (u : Live). is_marked_call u.pending) c.args.live.now c.loop-place.place within w.in_default.ensures))
    ]
