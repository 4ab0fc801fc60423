use Rattle.std.proofs.Common.{◌≡◌, ℕ, List, Option, map, take}
use Rattle.vp_model.specs.Transactions.{change_of}
use Rattle.vp_coordinator.proofs.final_writes.written_changes.Given as goal

abbrev pub invariant-loop-write : goal.invariant-loop-write
invariant-loop-write l =
    l.changes.items ≡ map (λ (w : ℕ × Option (List ℕ)). (w.0, change_of w.0 l.t.ops l.t.tables)) (take l.write-index l.contents)
