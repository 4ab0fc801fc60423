use Rattle.vp_catalog.specs.EntryReading.{weights_at}
use Rattle.vp_catalog.proofs.Holders.{Stands, to_read}
use Rattle.vp_catalog.proofs.reading.parse_weights.Given as goal

abbrev pub invariant-loop-next : goal.invariant-loop-next
invariant-loop-next l = Stands l.sites l.weights.items l.next l.cursor (weights_at l.sites l.fn.cursor)

abbrev pub decreases-loop-next : goal.decreases-loop-next
decreases-loop-next l = to_read l.next l.cursor
