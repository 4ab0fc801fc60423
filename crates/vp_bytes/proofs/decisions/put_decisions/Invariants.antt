use Rattle.std.proofs.Common.{◌≡◌, ◌++◌, length, take}
use Rattle.std.specs.List.{flat_map}
use Rattle.vp_bytes.specs.Fields.{number_bytes}
use Rattle.vp_bytes.specs.Decisions.{decision_bytes}
use Rattle.vp_bytes.proofs.decisions.put_decisions.Given as goal

abbrev pub invariant-loop-decision : goal.invariant-loop-decision
invariant-loop-decision g l = g.B.BufMut.written l.out ≡ g.B.BufMut.written l.fn.out ++ (number_bytes 8 (length l.decisions) ++ flat_map decision_bytes (take l.decision-index l.decisions))
