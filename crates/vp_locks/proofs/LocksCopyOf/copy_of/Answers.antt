use Rattle.std.proofs.Common.{◌∙◌, ◌++◌, ◌∷◌, [], take, ap, sym, append-nil}
use Rattle.std.specs.List.{cons_option}
use Rattle.vp_locks.specs.Places.{present_locks}
use Rattle.vp_locks.proofs.InSlots.{present_next}
use Rattle.vp_locks.proofs.LocksCopyOf.copy_of.Goals.{in-Some+in_ok-append, in_default}
use Rattle.vp_locks.proofs.LocksCopyOf.copy_of.Goals as goal

pub loop-slot-preserved : goal.loop-slot-preserved
loop-slot-preserved c =
    let items = c.deref-slot-items.result.now in
    let before = present_locks (take c.loop-slot.slot-index items) in
    let next = present_next items c.loop-slot.slot-index c.slot-item.result c.loop-slot-test.true c.slot-item.is in
    elim c.match-slot.branch [
      | in-Some+in_ok-append w ↦ w.copy-is ∙ w.in_ok-append.ensures ∙ ap (λ ls. ls ++ w.in-Some.lock ∷ []) c.loop-slot.invariant ∙ sym (next ∙ ap (λ s. before ++ cons_option s []) w.in-Some.is)
      | in_default w ↦ w.copy-is ∙ c.loop-slot.invariant ∙ sym (next ∙ ap (λ s. before ++ cons_option s []) w.in_default.is ∙ append-nil before)
    ]
