use Rattle.std.proofs.Common.{◌≡◌, ◌++◌, take}
use Rattle.std.specs.List.{flat_map}
use Rattle.vp_model.specs.Texts.Messages.{write_text}
use Rattle.vp_trace.proofs.messages.print_writes.Given as goal

abbrev pub invariant-loop-write : goal.invariant-loop-write
invariant-loop-write l = l.out.items ≡ l.fn.out.items ++ flat_map (write_text l.catalog) (take l.write-index l.writes)
