use Rattle.std.proofs.Common.{◌≡◌, ◌≤◌, ◌+◌, ℕ, List, Option, take}
use Rattle.std.specs.Prelude.{◌*◌, sum_by}
use Rattle.vp_model.specs.Calls.{content_size}
use Rattle.vp_coordinator.proofs.sizes.exceeds.Given as goal

abbrev pub invariant-loop-write : goal.invariant-loop-write
invariant-loop-write l = record {
  sum : l.size ≡ sum_by (λ (w : ℕ × Option (List ℕ)). content_size w.1) (take l.write-index l.contents) + 50 * l.fn.tables;
  most : l.size ≤ 15360;
}
