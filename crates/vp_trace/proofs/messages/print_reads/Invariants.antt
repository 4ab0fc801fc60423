use Rattle.std.proofs.Common.{◌≡◌, ◌++◌, take}
use Rattle.std.specs.List.{flat_map}
use Rattle.vp_model.specs.Texts.Messages.{read_text}
use Rattle.vp_trace.proofs.messages.print_reads.Given as goal

abbrev pub invariant-loop-rec : goal.invariant-loop-rec
invariant-loop-rec l = l.out.items ≡ l.fn.out.items ++ flat_map (read_text l.catalog) (take l.rec-index l.reads)
