use Rattle.std.proofs.Common.{◌≡◌, ◌++◌, ℕ, take}
use Rattle.std.specs.List.{flat_map}
use Rattle.vp_model.specs.Types.{Change}
use Rattle.vp_model.specs.Texts.Messages.{given_text}
use Rattle.vp_trace.proofs.messages.print_tables.Given as goal

abbrev pub invariant-loop-write : goal.invariant-loop-write
invariant-loop-write l = l.out.items ≡ l.fn.out.items ++ flat_map (λ (w : ℕ × Change). given_text l.catalog w.0 w.1.table) (take l.write-index l.writes)
