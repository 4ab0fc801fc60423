use Rattle.std.proofs.Common.{sym, subst, true≢false}
use Rattle.vp_locks.specs.Index.{IsOwnerIndex, IsRecIndex}
use Rattle.vp_locks.proofs.Locks.new.Goals as goal

pub invariant_of-result : goal.invariant_of-result
invariant_of-result c =
    subst (λ xs. IsRecIndex c.new-2.result xs × IsOwnerIndex c.new-3.result.lists xs) (sym c.new.ensures.items) (
      (λ rec key place. c.new-2.ensures (rec, key, place), λ rec place h. absurd (true≢false (sym h))),
      c.new-3.ensures,
    )
