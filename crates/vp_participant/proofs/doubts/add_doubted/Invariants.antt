use Rattle.std.proofs.Common.{◌≡◌, take}
use Rattle.vp_model.specs.Words.{for_each, put_txn}
use Rattle.vp_model.specs.Types.{Doubt}
use Rattle.vp_participant.proofs.doubts.add_doubted.Given as goal

abbrev pub invariant-loop-doubt : goal.invariant-loop-doubt
invariant-loop-doubt l = l.txns.items ≡ for_each (take l.doubt-index l.doubts) (λ (d : Doubt). put_txn d.txn) l.initial.txns.items
