use Rattle.std.proofs.Common.{◌≡◌, ◌++◌}
use Rattle.vp_tables.proofs.table.TableCopyOf.copy_of.Given as goal

abbrev pub invariant-loop-item : goal.invariant-loop-item
invariant-loop-item g l = l.copy ++ l.item-iterator ≡ l.self
