use Rattle.std.proofs.Common.{ℕ}
use Rattle.vp_model.specs.Types.{Stored}
use Rattle.vp_lists.proofs.Halving.{put_ascends}
use Rattle.vp_refresh.proofs.asked.RefreshEntry.keep.Goals as goal

pub invariant_of-self-2 : goal.invariant_of-self-2
invariant_of-self-2 c =
    rw c.in_ok-put_in.ensures (put_ascends (λ (a : ℕ × Stored). a.0) (c.args.from, c.in_ok-stored.stored) c.replace-answers.result (rw c.replace-answers.ensures.value c.self.invariant))
