use Rattle.std.proofs.Common.{◌≡◌}
use Rattle.std.specs.List.Sorted.{IsStrictlyIncreasing}
use Rattle.vp_model.specs.Durable.{with_writes}
use Rattle.vp_model.specs.Words.{keys}
use Rattle.vp_records.proofs.site_copies.SiteCopies.settle.Given as goal

abbrev pub invariant-loop-rec : goal.invariant-loop-rec
invariant-loop-rec l = (with_writes l.date l.rec-iterator.rest.items l.self ≡ with_writes l.date l.initial.rec-iterator.rest.items l.initial.self) × IsStrictlyIncreasing (keys l.self)
