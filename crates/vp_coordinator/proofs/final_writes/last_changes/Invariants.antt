use Rattle.std.proofs.Common.{◌≡◌, ℕ, List, Option, map, take}
use Rattle.vp_model.specs.Words.{for_each, put_at}
use Rattle.vp_model.specs.Transactions.{last_writes, change_of}
use Rattle.vp_model.specs.Catalogue.{Table}
use Rattle.vp_coordinator.proofs.final_writes.last_changes.Given as goal

abbrev pub invariant-loop-given : goal.invariant-loop-given
invariant-loop-given l =
    l.changes.items
    ≡ for_each (take l.given-index l.fn.t.tables) (λ (g : ℕ × Table). put_at g.0 (change_of g.0 l.fn.t.ops l.fn.t.tables)) (map (λ (w : ℕ × Option (List ℕ)). (w.0, change_of w.0 l.fn.t.ops l.fn.t.tables)) (last_writes l.fn.t.ops))
