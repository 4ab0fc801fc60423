use Rattle.std.proofs.Common.{◌≡◌, take}
use Rattle.vp_model.specs.Step.{inquire}
use Rattle.vp_site.proofs.tick.inquire_all.Given as goal

abbrev pub invariant-loop-txn : goal.invariant-loop-txn
invariant-loop-txn l = l.stepped ≡ inquire (take l.txn-index l.txn-items) l.fn.stepped
