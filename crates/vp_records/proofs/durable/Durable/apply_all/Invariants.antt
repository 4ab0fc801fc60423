use Rattle.std.proofs.Common.{◌≡◌, take}
use Rattle.vp_model.specs.Durable.{apply_all}
use Rattle.vp_records.proofs.durable.Durable.apply_all.Given as goal

abbrev pub invariant-loop-entry : goal.invariant-loop-entry
invariant-loop-entry l = l.self ≡ apply_all (take l.entry-index l.records) l.initial.self
